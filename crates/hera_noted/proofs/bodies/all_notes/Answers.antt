-- One body more has its notes.
use Rattle.std.proofs.Common.{◌≡◌, ℕ, [], ◌∷◌, length, Some, refl, sym, ap, ◌∙◌, subst, arith, length-append}
use Rattle.std.specs.Prelude.{slice_get}
use Rattle.std.proofs.lemmas.Option.{slice_get_read}
use Rattle.hera_typed.specs.declared.notes.BodyNote.{BodyNote}
use Rattle.hera_typed.proofs.Asking.{some_is}
use Rattle.hera_meaning.specs.declared.shapes.BodyShapes.{BodyShapes}
use Rattle.hera_noted.specs.Ranged.{IsBodyNoted}
use Rattle.hera_noted.proofs.Pushed.{pushed}
use Rattle.hera_noted.proofs.bodies.all_notes.Goals as goal

pub loop-k-preserved : goal.loop-k-preserved
loop-k-preserved c =
    let inv = c.loop-k.invariant in
    let note = c.in_ok-body_note.field-0 in
    let shapes = c.args.shapes.now in
    let items = c.in_ok-push.ensures.items in
    let longer = ap length items in
    let one = length-append c.loop-k.bodies.items (note ∷ []) in
    let here : slice_get shapes c.loop-k.k ≡ Some c.index-shapes-k.result = slice_get_read shapes _ c.loop-k.k c.index-shapes-k.result refl (omega arith) c.index-shapes-k.is in
    let P : ℕ → BodyNote → Type 0 = λ j n. ((s : BodyShapes) → slice_get shapes j ≡ Some s → IsBodyNoted c.args.code.now j s n) in
    let own : P c.loop-k.k note = λ s e. subst (λ (t : BodyShapes). IsBodyNoted c.args.code.now c.loop-k.k t note) (some_is c.index-shapes-k.result s (sym here ∙ e)) c.in_ok-body_note.ensures in (
      omega (arith, inv.0, longer, one),
      λ j n s e f. pushed P c.loop-k.bodies.items note (λ j n e s f. inv.1 j n s e f) (subst (λ k. P k note) (sym inv.0) own) j n (subst (λ xs. slice_get xs j ≡ Some n) items e) s f,
    )
