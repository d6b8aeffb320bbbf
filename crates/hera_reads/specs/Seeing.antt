-- The rows of a relation that is an operand.
use Rattle.std.specs.Prelude.{List, []}
use Rattle.hera_sets.specs.Rows.{Row}
use Rattle.hera_reads.specs.declared.seen.Seen.{Seen}
use Rattle.hera_reads.specs.declared.seen.Seen.TheVariants.{Nothing, Held, Named}

abbrev pub rows_seen : Seen → List Row
rows_seen Nothing = []
rows_seen (Held rows) = rows.now
rows_seen (Named rows) = rows
