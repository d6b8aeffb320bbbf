use Rattle.std.proofs.Common.{◌≡◌, take}
use Rattle.hera_bind.proofs.binding.copies.Given as goal

abbrev pub invariant-loop-i : goal.invariant-loop-i
invariant-loop-i l = l.decls.items ≡ take l.i l.catalogue
