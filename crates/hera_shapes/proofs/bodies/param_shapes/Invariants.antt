use Rattle.std.proofs.Common.{◌≡◌, drop}
use Rattle.hera_meaning.specs.Shapes.{body_types}
use Rattle.hera_sound.specs.Types_found.{param_slots}
use Rattle.hera_shapes.specs.Found.{with_slots}
use Rattle.hera_shapes.proofs.bodies.param_shapes.Given as goal

abbrev pub invariant-loop-local : goal.invariant-loop-local
invariant-loop-local l =
    with_slots (body_types l.shapes) (param_slots (drop l.local-index l.params)) ≡ with_slots (body_types l.initial.shapes) (param_slots l.params)
