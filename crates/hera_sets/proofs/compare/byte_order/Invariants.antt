use Rattle.std.proofs.Common.{◌≡◌, ◌<◌, ℕ, length, get_or}
use Rattle.std.specs.Ordering.{nat_cmp}
use Rattle.std.specs.Cmp.Lexicographic.{slice_cmp}
use Rattle.hera_sets.proofs.compare.byte_order.Given as goal

-- what is left of both stands to each other as both do
abbrev pub invariant-loop-x : goal.invariant-loop-x
invariant-loop-x l = record {
  stands : slice_cmp nat_cmp l.left l.right ≡ slice_cmp nat_cmp l.a l.b;
  bytes : (i : ℕ) → get_or l.left i 0 < 256;
  other : (i : ℕ) → get_or l.right i 0 < 256;
}

abbrev pub decreases-loop-x : goal.decreases-loop-x
decreases-loop-x l = length l.left
