use Rattle.std.proofs.Common.{◌≡◌, drop}
use Rattle.hera_rules.specs.Rules.{kinds_agree}
use Rattle.hera_types_algebra.proofs.set_operators.agree.Given as goal

abbrev pub invariant-loop-i : goal.invariant-loop-i
invariant-loop-i l = kinds_agree l.left l.right ≡ kinds_agree (drop l.i l.left) l.right
