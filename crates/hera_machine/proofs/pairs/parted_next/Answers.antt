use Rattle.std.proofs.Common.{◌≡◌, ◌+◌, ◌∙◌, ap, sym, Some, slice_get, w64, rules}
use Rattle.std.proofs.lemmas.Int.{to_z-of_z}
use Rattle.hera_meaning.specs.Values.{int_value}
use Rattle.hera_code.specs.Machine.{act}
use Rattle.hera_machine.specs.Pairs.{with_value, behind, parted_by}
use Rattle.hera_steps.specs.Working.{Work, machine_at}
use Rattle.hera_machine.proofs.Quietly.{then_on}
use Rattle.hera_machine.proofs.pairs.parted_next.Goals as goal

pub returns-in-Some-Unless-clause-goes : goal.returns-in-Some-Unless-clause-goes
returns-in-Some-Unless-clause-goes c = λ rels hosts s h.
    let code = c.args.code.now in
    let k = c.in-Some-Prim in
    let j = c.in-Some-Unless in
    let m = machine_at s c.args.work.now in
    let at = ap (λ (w : Work). w.at) c.work.view_is in
    let found : Some k.field-0.now ≡ slice_get code.instrs (c.args.work.now.at + 1) = sym k.ensures ∙ ap (λ a. slice_get code.instrs (a + 1)) at in
    let third : Some j.field-0.now ≡ slice_get code.instrs (c.args.work.now.at + 2) = sym j.ensures ∙ ap (λ a. slice_get code.instrs (a + 2)) at in
    then_on code rels hosts s m (machine_at s c.parted_with.new.work) k.op k.field-0-1 c.args.n j.field-0.now (parted_by code j.a) c.requires (sym found ∙ ap Some k.field-0-is) (sym third)
    (λ n. sym (ap (λ x. act code rels hosts (Some x) s n) j.field-0-is)) (c.parted_with.ensures.done s k.field-0-1 h ∙ ap (λ n. behind (parted_by code j.a) (with_value k.field-0-1 k.op (int_value n) m)) (to_z-of_z w64 c.args.n (search rules)))
