use Rattle.std.proofs.Common.{◌≡◌, take}
use Rattle.hera_meaning.proofs.schemas.copied.Given as goal

abbrev pub invariant-loop-attr : goal.invariant-loop-attr
invariant-loop-attr l = l.copy.items ≡ take l.attr-index l.attrs
