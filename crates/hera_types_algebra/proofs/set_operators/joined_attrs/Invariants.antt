use Rattle.std.proofs.Common.{◌≡◌, ◌++◌, take}
use Rattle.hera_meaning.specs.Relations.{lacking}
use Rattle.hera_types_algebra.proofs.set_operators.joined_attrs.Given as goal

abbrev pub invariant-loop-i : goal.invariant-loop-i
invariant-loop-i l = l.attrs.items ≡ l.left ++ lacking l.left (take l.i l.right)
