use Rattle.std.proofs.Common.{sym, ◌∙◌}
use Rattle.std.specs.Prelude.{None}
use Rattle.hera_meaning.specs.Shapes.{body_types}
use Rattle.hera_shapes.proofs.Adding.{own_slot}
use Rattle.hera_shapes.proofs.Begun.{param_step, param_end, params_begun}
use Rattle.hera_shapes.proofs.bodies.param_shapes.Goals as goal

pub loop-local-preserved : goal.loop-local-preserved
loop-local-preserved c =
    param_step c.args.params.now c.loop-local.local-index c.local-item.result (body_types c.loop-local.shapes) (body_types c.add_slot.new.shapes) c.loop-local-test.true c.local-item.is (own_slot (body_types c.loop-local.shapes) (body_types c.add_slot.new.shapes) None c.in_ok-copy.ensures c.in_ok-add_slot.ensures)
    ∙ c.loop-local.invariant

pub returns : goal.returns
returns c =
    sym (param_end c.args.params.now c.loop-local.local-index (body_types c.loop-local.shapes) c.loop-local-test.false) ∙ c.loop-local.invariant
    ∙ params_begun c.args.params.now c.args.returned c.new.ensures.items c.new-2.ensures.items
