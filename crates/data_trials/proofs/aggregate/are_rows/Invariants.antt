use Rattle.std.proofs.Common.{All, take}
use Rattle.hera_meaning.specs.Rows.{IsRow}
use Rattle.data_trials.proofs.aggregate.are_rows.Given as goal

abbrev pub invariant-loop-i : goal.invariant-loop-i
invariant-loop-i l = All (IsRow l.schema) (take l.i l.set)
