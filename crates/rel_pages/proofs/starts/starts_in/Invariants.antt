use Rattle.std.specs.Prelude.{All}
use Rattle.rel_pages.specs.Parts.{part_bytes}
use Rattle.rel_pages.specs.Starts.{IsStart}
use Rattle.rel_pages.proofs.starts.starts_in.Given as goal

abbrev pub invariant-loop-index : goal.invariant-loop-index
invariant-loop-index l = All (IsStart l.schema l.page (part_bytes l.bytes l.part)) l.starts.items
