use Rattle.std.proofs.Common.{take}
use Rattle.hera_meaning.specs.Schemas.{AreDistinct, names_of}
use Rattle.hera_meaning.proofs.schemas.first_repeat.Given as goal

abbrev pub invariant-loop-i : goal.invariant-loop-i
invariant-loop-i l = AreDistinct (names_of (take l.i l.attrs))
