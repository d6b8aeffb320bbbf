use Rattle.std.proofs.Common.{◌≡◌, take}
use Rattle.hera_sets.specs.Rows.{normal}
use Rattle.hera_csv.specs.Listed.{rows_at}
use Rattle.hera_csv.proofs.row_list.in_order.Given as goal

-- the rows done
abbrev pub invariant-loop-i : goal.invariant-loop-i
invariant-loop-i l = l.set ≡ normal (take l.i (rows_at l.bytes l.spans))
