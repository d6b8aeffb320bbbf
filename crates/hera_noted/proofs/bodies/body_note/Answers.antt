-- One slot more has its note.
use Rattle.std.proofs.Common.{◌≡◌, ℕ, length, Some, refl, sym, ap, subst, arith}
use Rattle.std.specs.Prelude.{slice_get}
use Rattle.std.proofs.lemmas.Option.{slice_get_read}
use Rattle.hera_typed.specs.declared.notes.SlotNote.{SlotNote}
use Rattle.hera_noted.specs.Ranged.{IsSlotNoted}
use Rattle.hera_noted.proofs.Listed.{push_long}
use Rattle.hera_noted.proofs.Pushed.{pushed}
use Rattle.hera_noted.proofs.Writing.{noted_of}
use Rattle.hera_noted.proofs.bodies.body_note.Goals as goal

pub slot_note-requires-clause-start : goal.slot_note-requires-clause-start
slot_note-requires-clause-start c =
    let ranges = c.in_ok-ranges.ranges.items in
    let here = slice_get_read ranges _ c.loop-i.i c.index.result.now refl (omega (arith, c.loop-i-test.true, c.in_ok-ranges.ensures.long, c.len.ensures, c.len-i-end.ensures)) c.index.ensures in
    let within = (c.in_ok-ranges.ensures.ranges c.loop-i.i c.index.result.now here).within.0 in
    omega (arith, within, c.requires.size)

pub slot_note-requires-clause-end : goal.slot_note-requires-clause-end
slot_note-requires-clause-end c =
    let ranges = c.in_ok-ranges.ranges.items in
    let here = slice_get_read ranges _ c.loop-i.i c.index.result.now refl (omega (arith, c.loop-i-test.true, c.in_ok-ranges.ensures.long, c.len.ensures, c.len-i-end.ensures)) c.index.ensures in
    let within = (c.in_ok-ranges.ensures.ranges c.loop-i.i c.index.result.now here).within.1 in
    omega (arith, within, c.requires.size)

pub loop-i-preserved : goal.loop-i-preserved
loop-i-preserved c =
    let code = c.args.code.now in
    let inv = c.loop-i.invariant in
    let note = c.in_ok-slot_note.field-0 in
    let items = c.in_ok-push.ensures.items in
    let longer = ap length items in
    let one = push_long c.loop-i.slots.items note in
    let range = c.index.result.now in
    let here = slice_get_read c.in_ok-ranges.ranges.items _ c.loop-i.i range refl (omega (arith, c.loop-i-test.true, c.in_ok-ranges.ensures.long, c.len.ensures, c.len-i-end.ensures)) c.index.ensures in
    let P : ℕ → SlotNote → Type 0 = λ j m. IsSlotNoted code c.args.k c.args.shapes.now j m in
    let own : P c.loop-i.i note = noted_of code c.args.k c.loop-i.i c.args.shapes.now note range c.in_ok-slot_note.ensures.given c.in_ok-slot_note.ensures.range (c.in_ok-ranges.ensures.ranges c.loop-i.i range here) in
    (omega (arith, inv.0, longer, one), λ j m e. pushed P c.loop-i.slots.items note inv.1 (subst (λ n. P n note) (sym inv.0) own) j m (subst (λ xs. slice_get xs j ≡ Some m) items e))

pub returns : goal.returns
returns c =
    let inv = c.loop-i.invariant in
    let end = c.loop-i-test.false in
    let most = c.loop-i.auto.i-end in
    let many = c.len-i-end.ensures in
    record {
      given = record { result = c.in_ok-copied_shape.ensures; many = omega (arith, inv.0, end, most, many); slots = λ i m e. (inv.1 i m e).given };
      ranges = λ i m e. (inv.1 i m e).range;
    }
