-- What the notes of code tell, attribute names left out; and the law.
use Rattle.std.proofs.Common.{◌≡◌, ℕ, suc, List, [], ◌∷◌, map, length, Some, refl, sym, ap, ◌∙◌, subst, arith}
use Rattle.std.specs.Prelude.{slice_get}
use Rattle.std.proofs.lemmas.Option.{slice_get_within}
use Rattle.hera_meaning.specs.declared.scalars.Kind.{Kind}
use Rattle.hera_meaning.specs.declared.trees.Shape.{Shape}
use Rattle.hera_meaning.specs.Forms.{Form, form_of}
use Rattle.hera_meaning.specs.Hosts.{Hosts}
use Rattle.hera_meaning.specs.Trees.{Body_tree, Program_tree}
use Rattle.hera_code.specs.declared.instrs.BodyInfo.{BodyInfo}
use Rattle.hera_code.specs.declared.instrs.Code.{Code}
use Rattle.hera_code.specs.Scheme.{code_of}
use Rattle.hera_codegen.proofs.Slots.{within_there}
use Rattle.hera_typed.specs.declared.notes.SlotNote.{SlotNote}
use Rattle.hera_typed.specs.declared.notes.BodyNote.{BodyNote}
use Rattle.hera_typed.specs.declared.notes.Notes.{Notes}
use Rattle.hera_meaning.specs.declared.shapes.BodyShapes.{BodyShapes}
use Rattle.hera_typed.specs.Effects.{Slot_note, Body_note, slot_forms}
use Rattle.hera_typed.specs.Notes.{slot_note, body_note, notes_of}
use Rattle.hera_meaning.specs.Shapes.{Body_shapes, form_if, kinds_if, body_shapes, IsShaped}
use Rattle.hera_typed.specs.Typed.{Points, IsTyped}
use Rattle.hera_typed.proofs.Asking.{some_is}
use Rattle.hera_noted.specs.Spans.{end_of, IsRange}
use Rattle.hera_noted.specs.Given.{HasBodies, AreGiven}
use Rattle.hera_noted.specs.Ranged.{IsBodyNoted, AreNoted}
use Rattle.hera_noted.proofs.Bodies_found.{bodies_many}
use Rattle.hera_noted.proofs.Law.{get_mapped, mapped_from, BodyTold, AreTold, all_points, typed}

same_forms : (ns : List SlotNote) (ss : List Shape) → length ns ≡ length ss → ((i : ℕ) (m : SlotNote) → slice_get ns i ≡ Some m → slice_get ss i ≡ Some m.shape) → slot_forms (map slot_note ns) ≡ map form_of ss
same_forms [] [] e f = refl
same_forms [] (s ∷ ss) e f = absurd (omega (arith, e))
same_forms (n ∷ ns) [] e f = absurd (omega (arith, e))
same_forms (n ∷ ns) (s ∷ ss) e f =
    let first : s ≡ n.shape = some_is s n.shape (f 0 n refl) in
    ap (λ s. form_of s ∷ slot_forms (map slot_note ns)) (sym first) ∙ ap (λ fs. form_of s ∷ fs) (same_forms ns ss (omega (arith, e)) (λ i m h. f (suc i) m h))

told_body : (code : Code) (k : ℕ) (s : BodyShapes) (n : BodyNote) → length s.gathers.items ≡ length s.slots.items → IsBodyNoted code k s n → BodyTold code k (body_shapes s) (body_note n)
told_body code k s n long h = record {
  result = ap form_if h.given.result;
  forms = same_forms n.slots.items s.slots.items h.given.many (λ i m e. (h.given.slots i m e).shape);
  slots = λ i f e. slots i f e;
  gathers = λ i ks e. gathers i ks e;
  ranges = λ i m e info there. ranges i m e info there;
}
  where
    many : length n.slots.items ≡ length s.slots.items
    many = h.given.many

    slots : (i : ℕ) (f : Form) → slice_get (map form_of s.slots.items) i ≡ Some f → (m : Slot_note) × (slice_get (map slot_note n.slots.items) i ≡ Some m) × (m.form ≡ f)
    slots i f e =
        let x = mapped_from form_of s.slots.items i f e in
        let lt = slice_get_within s.slots.items i x.0 x.1 in
        let m = within_there n.slots.items i (omega (arith, lt, many)) in
        let same : x.0 ≡ m.0.shape = some_is x.0 m.0.shape (sym x.1 ∙ (h.given.slots i m.0 m.1).shape) in
        (slot_note m.0, get_mapped slot_note n.slots.items i m.0 m.1, ap form_of (sym same) ∙ x.2)

    gathers : (i : ℕ) (ks : List Kind) → slice_get (map kinds_if s.gathers.items) i ≡ Some (Some ks) → (m : Slot_note) × (slice_get (map slot_note n.slots.items) i ≡ Some m) × (m.gathers ≡ Some ks)
    gathers i ks e =
        let x = mapped_from kinds_if s.gathers.items i (Some ks) e in
        let lt = slice_get_within s.gathers.items i x.0 x.1 in
        let m = within_there n.slots.items i (omega (arith, lt, many, long)) in
        let same : x.0 ≡ m.0.gathers = some_is x.0 m.0.gathers (sym x.1 ∙ (h.given.slots i m.0 m.1).gathers) in
        (slot_note m.0, get_mapped slot_note n.slots.items i m.0 m.1, ap kinds_if (sym same) ∙ x.2)

    ranges : (i : ℕ) (m : Slot_note) → slice_get (map slot_note n.slots.items) i ≡ Some m → (info : BodyInfo) → slice_get code.bodies k ≡ Some info → IsRange code.instrs info.at (end_of code k) i m.from m.to
    ranges i m e info there =
        let x = mapped_from slot_note n.slots.items i m e in
        subst (λ (m : Slot_note). IsRange code.instrs info.at (end_of code k) i m.from m.to) x.2 (h.ranges i x.0 x.1 info there)

pub told : (code : Code) (bodies : List Body_tree) (shapes : List BodyShapes) (n : Notes) → HasBodies bodies shapes → AreNoted code shapes n → AreTold code (map body_shapes shapes) (notes_of n)
told code bodies shapes n has h = record { bodies = λ k s e. each k s e; only = λ k m e. only k m e }
  where
    many : length n.bodies.items ≡ length shapes
    many = h.many

    trees : length shapes ≡ length bodies
    trees = has.many

    each : (k : ℕ) (s : Body_shapes) → slice_get (map body_shapes shapes) k ≡ Some s → (m : Body_note) × (slice_get (map body_note n.bodies.items) k ≡ Some m) × BodyTold code k s m
    each k s e =
        let x = mapped_from body_shapes shapes k s e in
        let lt = slice_get_within shapes k x.0 x.1 in
        let m = within_there n.bodies.items k (omega (arith, lt, many)) in
        let b = within_there bodies k (omega (arith, lt, trees)) in
        let q = has.slots k b.0 x.0 b.1 x.1 in
        (body_note m.0, get_mapped body_note n.bodies.items k m.0 m.1, subst (λ s. BodyTold code k s (body_note m.0)) x.2 (told_body code k x.0 m.0 (q.gathers ∙ sym q.shapes) (h.bodies k m.0 x.0 m.1 x.1)))

    only : (k : ℕ) (m : Body_note) → slice_get (map body_note n.bodies.items) k ≡ Some m → (s : Body_shapes) × (slice_get (map body_shapes shapes) k ≡ Some s)
    only k m e =
        let x = mapped_from body_note n.bodies.items k m e in
        let lt = slice_get_within n.bodies.items k x.0 x.1 in
        let s = within_there shapes k (omega (arith, lt, many)) in
        (body_shapes s.0, get_mapped body_shapes shapes k s.0 s.1)

-- ---- for the function that makes the notes

pub given_of : (code : Code) (shapes : List BodyShapes) (n : Notes) → AreNoted code shapes n → AreGiven shapes n
given_of code shapes n h = record { many = h.many; bodies = λ k m s e f. (h.bodies k m s e f).given }

-- where the program is sound with these shapes, the code is typed code with the notes
abbrev pub TypedWith : Program_tree → Code → List BodyShapes → Notes → Type 0
TypedWith p code shapes n = (hosts : Hosts) → IsShaped p hosts (map body_shapes shapes) → (points : Points) × IsTyped code p.relations hosts (notes_of n) points

pub law_of : (p : Program_tree) (code : Code) (shapes : List BodyShapes) (n : Notes) → code ≡ code_of p → HasBodies p.bodies shapes → AreNoted code shapes n → (hosts : Hosts) → IsShaped p hosts (map body_shapes shapes) → (points : Points) × IsTyped code p.relations hosts (notes_of n) points
law_of p code shapes n e has h hosts is =
    let t = told (code_of p) p.bodies shapes n has (subst (λ c. AreNoted c shapes n) e h) in
    subst (λ c. (points : Points) × IsTyped c p.relations hosts (notes_of n) points) (sym e) (all_points p hosts (map body_shapes shapes) is (notes_of n) t, typed p hosts (map body_shapes shapes) is (notes_of n) t)

pub bodies_of : (p : Program_tree) (code : Code) (shapes : List BodyShapes) → code ≡ code_of p → HasBodies p.bodies shapes → length shapes ≡ length code.bodies
bodies_of p code shapes e has = has.many ∙ sym (bodies_many p.bodies) ∙ ap (λ (c : Code). length c.bodies) (sym e)

pub slots_of : (bodies : List Body_tree) (shapes : List BodyShapes) → HasBodies bodies shapes → (k : ℕ) (s : BodyShapes) → slice_get shapes k ≡ Some s → length s.slots.items ≡ length s.gathers.items
slots_of bodies shapes has k s e =
    let lt = slice_get_within shapes k s e in
    let same = has.many in
    let b = within_there bodies k (omega (arith, lt, same)) in
    let q = has.slots k b.0 s b.1 e in
    q.shapes ∙ sym q.gathers

-- ---- lists that grow
