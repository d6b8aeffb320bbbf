use Rattle.std.proofs.Common.{◌≡◌, drop}
use Rattle.hera_meaning.specs.Forms.{project_kinds}
use Rattle.hera_stacks.specs.Flat.{numbered}
use Rattle.hera_stacks.proofs.forms.and_places.Given as goal

abbrev pub invariant-loop-place : goal.invariant-loop-place
invariant-loop-place l = numbered l.all.digits (project_kinds l.schema (drop l.place-index l.places)) ≡ numbered l.fn.kinds.digits (project_kinds l.schema l.places)
