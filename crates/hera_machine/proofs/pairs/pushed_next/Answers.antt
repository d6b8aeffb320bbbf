use Rattle.std.proofs.Common.{◌≡◌, ◌+◌, ◌∙◌, ap, sym, Some, slice_get, w64, rules}
use Rattle.std.proofs.lemmas.Int.{to_z-of_z}
use Rattle.hera_meaning.specs.Values.{int_value}
use Rattle.hera_machine.specs.Pairs.{with_value}
use Rattle.hera_steps.specs.Working.{Work, machine_at}
use Rattle.hera_machine.proofs.Quietly.{pushed_on}
use Rattle.hera_machine.proofs.pairs.pushed_next.Goals as goal

pub returns-in-Some-Prim-clause-goes : goal.returns-in-Some-Prim-clause-goes
returns-in-Some-Prim-clause-goes c = λ rels hosts s h.
    let code = c.args.code.now in
    let k = c.in-Some-Prim in
    let at = ap (λ (w : Work). w.at) c.work.view_is in
    let found : Some k.field-0.now ≡ slice_get code.instrs (c.args.work.now.at + 1) = sym k.ensures ∙ ap (λ a. slice_get code.instrs (a + 1)) at in
    pushed_on code rels hosts s (machine_at s c.args.work.now) (machine_at s c.computed_with.new.work) _ k.field-0-1 c.args.n c.requires
    (sym found ∙ ap Some k.field-0-is) (c.computed_with.ensures.done s k.field-0-1 h ∙ ap (λ n. with_value k.field-0-1 k.op (int_value n) (machine_at s c.args.work.now)) (to_z-of_z w64 c.args.n (search rules)))
