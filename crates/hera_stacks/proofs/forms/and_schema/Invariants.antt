use Rattle.std.proofs.Common.{◌≡◌, drop}
use Rattle.hera_meaning.specs.Forms.{kinds_of}
use Rattle.hera_stacks.specs.Flat.{numbered}
use Rattle.hera_stacks.proofs.forms.and_schema.Given as goal

abbrev pub invariant-loop-i : goal.invariant-loop-i
invariant-loop-i l = numbered l.all.digits (kinds_of (drop l.i l.schema)) ≡ numbered l.fn.kinds.digits (kinds_of l.schema)
