use Rattle.std.proofs.Common.{◌≡◌, ◌+◌, ◌∙◌, ap, sym, Some, slice_get}
use Rattle.hera_code.specs.declared.instrs.Instr.TheVariants.{Prim}
use Rattle.hera_steps.specs.Working.{Work, machine_at}
use Rattle.hera_machine.proofs.Quietly.{loaded_on}
use Rattle.hera_machine.proofs.pairs.loaded_next.Goals as goal

pub returns-in-Some-Prim-In-default-clause-goes : goal.returns-in-Some-Prim-In-default-clause-goes
returns-in-Some-Prim-In-default-clause-goes c = λ rels hosts s h.
    let code = c.args.code.now in
    let k = c.in-Some-Prim-In-default in
    let at = ap (λ (w : Work). w.at) c.work.view_is in
    let found : Some k.field-0.now ≡ slice_get code.instrs (c.args.work.now.at + 1) = sym k.ensures ∙ ap (λ a. slice_get code.instrs (a + 1)) at in
    loaded_on code rels hosts s (machine_at s c.args.work.now) (machine_at s c.loaded_asked.new.work) _ k.field-0-1 c.args.i _ c.requires
    (sym found ∙ ap Some (k.field-0-is ∙ ap (λ op. Prim op k.field-0-1) k.field-0-0-is)) (c.loaded_asked.ensures.there h) (c.loaded_asked.ensures.done s k.field-0-1 h)
