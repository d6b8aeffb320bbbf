use Rattle.std.proofs.Common.{◌≡◌, drop}
use Rattle.hera_meaning.specs.Relations.{lacking}
use Rattle.hera_meaning.specs.Forms.{kinds_of}
use Rattle.hera_stacks.specs.Flat.{numbered}
use Rattle.hera_stacks.proofs.forms.and_lacking.Given as goal

abbrev pub invariant-loop-i : goal.invariant-loop-i
invariant-loop-i l = numbered l.all.digits (kinds_of (lacking l.left (drop l.i l.right))) ≡ numbered l.fn.kinds.digits (kinds_of (lacking l.left l.right))
