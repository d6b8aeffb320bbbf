use Rattle.std.proofs.Common.{subst}
use Rattle.hera_typed.specs.Notes.{body_note}
use Rattle.hera_typed.specs.Effects.{slot_forms}
use Rattle.hera_stacks.specs.Stacked.{AreOperands}
use Rattle.hera_effects.specs.Ways.{Both}
use Rattle.hera_effects.specs.Operations.{called_off}
use Rattle.hera_effects.proofs.Calling.{calls_so}
use Rattle.hera_effects.proofs.effects.call_with.Goals as goal

pub returns-clause-goes : goal.returns-clause-goes
returns-clause-goes c p is =
    let note = body_note c.args.note.now in
    calls_so c.args.stacks.now c.push_if.new.stacks c.in-Some.rest c.in_ok-operands.operands c.args.params c.args.next (slot_forms note.slots) note.result p c.args.spot c.with_operands.result c.on.result
    (subst (λ o. Both (AreOperands c.args.stacks.now) o (called_off c.args.params (slot_forms note.slots) p.operands)) c.in-Some.is (c.in_ok-rest.ensures p.operands is.operands))
    c.in_ok-operands.ensures.grows is (λ xs own. c.in_ok-operands.ensures.pushed xs note.result own c.in_ok-result_form.ensures)
    c.with_operands.ensures.operands c.with_operands.ensures.walks c.with_operands.ensures.layers c.on.ensures.first c.on.ensures.second c.on.ensures.point
