use Rattle.std.proofs.Common.{◌≡◌, ◌++◌, drop}
use Rattle.hera_meaning.specs.Printed.{rows_text}
use Rattle.hera_print.proofs.tuples.put_rows.Given as goal

-- with the tuples to come, the text is whole
abbrev pub invariant-loop-i : goal.invariant-loop-i
invariant-loop-i l = l.out.items ++ rows_text l.schema (drop l.i l.rows) ≡ l.initial.out.items ++ rows_text l.schema l.rows
