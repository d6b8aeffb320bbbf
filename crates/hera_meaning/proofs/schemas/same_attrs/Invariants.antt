use Rattle.std.proofs.Common.{◌≡◌, take, length}
use Rattle.hera_meaning.proofs.schemas.same_attrs.Given as goal

abbrev pub invariant-loop-i : goal.invariant-loop-i
invariant-loop-i l = record { equal : take l.i l.a ≡ take l.i l.b; long : length l.a ≡ length l.b }
