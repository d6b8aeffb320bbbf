use Rattle.std.proofs.Common.{◌≡◌, ◌+◌, ◌∙◌, ap, sym, Some, slice_get, w64, rules}
use Rattle.std.proofs.lemmas.Int.{to_z-of_z}
use Rattle.hera_meaning.specs.Values.{int_value}
use Rattle.hera_flat.specs.Flats.{flat_value}
use Rattle.hera_code.specs.Machine.{act}
use Rattle.hera_machine.specs.Pairs.{with_value, ahead, behind, parted_by, stored_in}
use Rattle.hera_steps.specs.Working.{Work, machine_at}
use Rattle.hera_machine.proofs.Quietly.{pushed_on, then_on}
use Rattle.hera_machine.proofs.loads.compute_with.Goals as goal

pub returns-in-Some-Unless-clause-goes : goal.returns-in-Some-Unless-clause-goes
returns-in-Some-Unless-clause-goes c = λ rels hosts s h.
    let code = c.args.code.now in
    let q = c.in-Some-Prim in
    let j = c.in-Some-Unless in
    let at = ap (λ (w : Work). w.at) c.work.view_is in
    let third : Some q.field-0.now ≡ slice_get code.instrs (c.args.work.now.at + c.args.k + 1) = sym q.ensures ∙ ap (λ a. slice_get code.instrs (a + c.args.k + 1)) at in
    let fourth : Some j.field-0.now ≡ slice_get code.instrs (c.args.work.now.at + c.args.k + 2) = sym j.ensures ∙ ap (λ a. slice_get code.instrs (a + c.args.k + 2)) at in
    let up = ahead c.args.k (flat_value c.args.v) (machine_at s c.args.work.now) in
    then_on code rels hosts s up (machine_at s c.part_by_computed.new.work) q.op q.field-0-1 c.args.n j.field-0.now (parted_by code j.a) c.requires (sym third ∙ ap Some q.field-0-is) (sym fourth)
    (λ n. sym (ap (λ x. act code rels hosts (Some x) s n) j.field-0-is)) (c.part_by_computed.ensures.done s q.field-0-1 h ∙ ap (λ n. behind (parted_by code j.a) (with_value q.field-0-1 q.op (int_value n) up)) (to_z-of_z w64 c.args.n (search rules)))

pub returns-in-Some-Store-clause-goes : goal.returns-in-Some-Store-clause-goes
returns-in-Some-Store-clause-goes c = λ rels hosts s h.
    let code = c.args.code.now in
    let q = c.in-Some-Prim in
    let j = c.in-Some-Store in
    let at = ap (λ (w : Work). w.at) c.work.view_is in
    let third : Some q.field-0.now ≡ slice_get code.instrs (c.args.work.now.at + c.args.k + 1) = sym q.ensures ∙ ap (λ a. slice_get code.instrs (a + c.args.k + 1)) at in
    let fourth : Some j.field-0.now ≡ slice_get code.instrs (c.args.work.now.at + c.args.k + 2) = sym j.ensures ∙ ap (λ a. slice_get code.instrs (a + c.args.k + 2)) at in
    let up = ahead c.args.k (flat_value c.args.v) (machine_at s c.args.work.now) in
    then_on code rels hosts s up (machine_at s c.store_computed.new.work) q.op q.field-0-1 c.args.n j.field-0.now (stored_in j.i) c.requires (sym third ∙ ap Some q.field-0-is) (sym fourth)
    (λ n. sym (ap (λ x. act code rels hosts (Some x) s n) j.field-0-is)) (c.store_computed.ensures.done s q.field-0-1 h ∙ ap (λ n. behind (stored_in j.i) (with_value q.field-0-1 q.op (int_value n) up)) (to_z-of_z w64 c.args.n (search rules)))

pub returns-in_default-near-clause-goes : goal.returns-in_default-near-clause-goes
returns-in_default-near-clause-goes c = λ rels hosts s h.
    let code = c.args.code.now in
    let q = c.in-Some-Prim in
    let at = ap (λ (w : Work). w.at) c.work.view_is in
    let third : Some q.field-0.now ≡ slice_get code.instrs (c.args.work.now.at + c.args.k + 1) = sym q.ensures ∙ ap (λ a. slice_get code.instrs (a + c.args.k + 1)) at in
    let up = ahead c.args.k (flat_value c.args.v) (machine_at s c.args.work.now) in
    pushed_on code rels hosts s up (machine_at s c.put_computed.new.work) q.op q.field-0-1 c.args.n c.requires (sym third ∙ ap Some q.field-0-is) (c.put_computed.ensures.done s q.field-0-1 h ∙ ap (λ n. with_value q.field-0-1 q.op (int_value n) up) (to_z-of_z w64 c.args.n (search rules)))
