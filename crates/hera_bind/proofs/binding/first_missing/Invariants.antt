use Rattle.hera_bind.proofs.Found.{HasUpTo}
use Rattle.hera_bind.proofs.binding.first_missing.Given as goal

abbrev pub invariant-loop-i : goal.invariant-loop-i
invariant-loop-i l = HasUpTo l.catalogue l.own l.i
