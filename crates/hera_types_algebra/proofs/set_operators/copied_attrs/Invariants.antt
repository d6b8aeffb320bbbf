use Rattle.std.proofs.Common.{◌≡◌, take}
use Rattle.hera_types_algebra.proofs.set_operators.copied_attrs.Given as goal

abbrev pub invariant-loop-i : goal.invariant-loop-i
invariant-loop-i l = l.attrs.items ≡ take l.i l.schema
