use Rattle.std.proofs.Common.{◌≡◌, drop, length}
use Rattle.hera_meaning.specs.Forms.{kinds_of}
use Rattle.hera_rules.specs.Same.{same_kinds}
use Rattle.hera_types_parts.proofs.same.same_kinds.Given as goal

abbrev pub invariant-loop-i : goal.invariant-loop-i
invariant-loop-i l = record {
  equal : same_kinds (kinds_of l.left) (kinds_of l.right) ≡ same_kinds (drop l.i (kinds_of l.left)) (drop l.i (kinds_of l.right));
  long : length l.left ≡ length l.right;
}
