use Rattle.std.proofs.Common.{◌≡◌, ◌-◌, ◌+◌, suc, subst, ap, refl, ◌∙◌, length, arith}
use Rattle.std.proofs.lemmas.Option.{slice_get_read}
use Rattle.hera_meaning.specs.Forms.{form_of}
use Rattle.hera_typed.specs.Notes.{body_note}
use Rattle.hera_typed.specs.Effects.{slot_forms}
use Rattle.std.specs.Prelude.{slice_get}
use Rattle.hera_effects.proofs.Calling.{IsCalling, begins, goes_further, ends_early, too_few_slots, slots_many}
use Rattle.hera_effects.proofs.Cutting.{slot_at}
use Rattle.hera_effects.proofs.cuts.call_off.Goals as goal

pub returns-then-len-count : goal.returns-then-len-count
returns-then-len-count c ss h =
    let many = slots_many c.args.note.now.slots.items in
    too_few_slots c.args.stacks.now c.args.count (slot_forms (body_note c.args.note.now).slots) ss (omega (arith, many, c.if-len-count.true, c.len.ensures))

pub loop-i-init : goal.loop-i-init
loop-i-init c ss h =
    let st = c.args.stacks.now in
    let fs = slot_forms (body_note c.args.note.now).slots in
    let all : c.args.count ≡ c.args.count - 0 = omega arith in
    subst (λ n. IsCalling st c.args.operands n c.args.count fs ss) all (begins st c.args.operands c.args.count fs ss h)

pub returns-in_default : goal.returns-in_default
returns-in_default c ss h =
    let items = c.args.note.now.slots.items in
    let fs = slot_forms (body_note c.args.note.now).slots in
    let left = c.args.count - (c.loop-i.i + 1) in
    let more : c.args.count - c.loop-i.i ≡ suc left = omega (arith, c.loop-i-test.true) in
    let place : left ≡ c.args.count - 1 - c.loop-i.i = omega arith in
    let at = ap (slice_get fs) place ∙ slot_at items (c.args.count - 1 - c.loop-i.i) c.index.result.now (slice_get_read items (length items) (c.args.count - 1 - c.loop-i.i) c.index.result.now refl (omega (arith, c.loop-i-test.true, c.if-len-count.false, c.len.ensures)) c.index.ensures) in
    ends_early c.args.stacks.now c.loop-i.rest left (c.args.count - c.loop-i.i) c.args.count fs ss (form_of c.index.result.now.shape) more (omega (arith, c.loop-i-test.true)) at
    (λ ts own. c.in_default.ensures ts (form_of c.index.result.now.shape) own c.in_ok-form.ensures) (c.loop-i.invariant ss h)

pub loop-i-preserved : goal.loop-i-preserved
loop-i-preserved c ss h =
    let items = c.args.note.now.slots.items in
    let fs = slot_forms (body_note c.args.note.now).slots in
    let left = c.args.count - (c.loop-i.i + 1) in
    let more : c.args.count - c.loop-i.i ≡ suc left = omega (arith, c.loop-i-test.true) in
    let place : left ≡ c.args.count - 1 - c.loop-i.i = omega arith in
    let at = ap (slice_get fs) place ∙ slot_at items (c.args.count - 1 - c.loop-i.i) c.index.result.now (slice_get_read items (length items) (c.args.count - 1 - c.loop-i.i) c.index.result.now refl (omega (arith, c.loop-i-test.true, c.if-len-count.false, c.len.ensures)) c.index.ensures) in
    goes_further c.args.stacks.now c.loop-i.rest c.in-Some.below left (c.args.count - c.loop-i.i) c.args.count fs ss (form_of c.index.result.now.shape) more (omega (arith, c.loop-i-test.true)) at
    (λ ts own. c.in-Some.ensures ts (form_of c.index.result.now.shape) own c.in_ok-form.ensures) (c.loop-i.invariant ss h)
