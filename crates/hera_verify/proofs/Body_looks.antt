-- Looks at bodies, one after another.
use Rattle.std.proofs.Common.{◌≡◌, ◌<◌, inl, inr, ℕ, zero, suc, ◌+◌, true, get_or, List, map, Option, None, Some, length, refl, sym, ap, subst, ◌∙◌, arith}
use Rattle.std.specs.Prelude.{slice_get, nat_lt, [], ◌∷◌}
use Rattle.std.proofs.lemmas.Bool.{cases_lt, ltb-true}
use Rattle.std.proofs.lemmas.Option.{none-some, same_Some, slice_get-get_or}
use Rattle.hera_meaning.specs.declared.schemas.RelDecl.{RelDecl}
use Rattle.hera_meaning.specs.Hosts.{Hosts}
use Rattle.hera_code.specs.declared.instrs.BodyInfo.{BodyInfo}
use Rattle.hera_code.specs.declared.instrs.Code.{Code}
use Rattle.hera_meaning.specs.declared.trees.Shape.{Shape}
use Rattle.hera_meaning.specs.Forms.{form_of}
use Rattle.hera_meaning.specs.Shapes.{form_if}
use Rattle.hera_typed.specs.declared.notes.BodyNote.{BodyNote}
use Rattle.hera_typed.specs.Notes.{body_note}
use Rattle.hera_typed.specs.Effects.{Body_note}
use Rattle.hera_typed.specs.Typed.{Points, BodyIsFine}
use Rattle.hera_verify.specs.Looks.{Finds, least, IsBodyFine, BodyFineTo, FirstFineTo, BodiesFineTo}
use Rattle.hera_verify.proofs.Answered.{both_finds}

-- what is so exactly where something else is, is found where that is
pub finds_map : (X Y : ℕ → Type 0) (o : Option ℕ) → ((n : ℕ) → X n → Y n) → ((n : ℕ) → Y n → X n) → Finds X o → Finds Y o
finds_map X Y None f g h = λ n. f n (h n)
finds_map X Y (Some a) f g h = (λ y. h.0 (g a y), λ n lt. f n (h.1 n lt))

module _ (code : Code) (notes : List Body_note) where
  first_none : (n : ℕ) → FirstFineTo code notes 0 n
  first_none n k lt = absurd (omega (arith, lt))

  pub begins : Finds (FirstFineTo code notes 0) None
  begins = first_none

  -- one body more
  pub one_more : (k : ℕ) (found one : Option ℕ) → Finds (FirstFineTo code notes k) found → Finds (BodyFineTo code notes k) one → Finds (FirstFineTo code notes (k + 1)) (least found one)
  one_more k found one h g = finds_map (λ n. FirstFineTo code notes k n × BodyFineTo code notes k n) (FirstFineTo code notes (k + 1)) (least found one) joined parted (both_finds (FirstFineTo code notes k) (BodyFineTo code notes k) found one h g)
    where
      joined : (n : ℕ) → FirstFineTo code notes k n × BodyFineTo code notes k n → FirstFineTo code notes (k + 1) n
      joined n p j lt = elim (cases_lt j k) [
        | inl below ↦ p.0 j below
        | inr le ↦ let same : k ≡ j = omega (arith, le, lt) in subst (λ (m : ℕ). BodyFineTo code notes m n) same p.1
      ]

      parted : (n : ℕ) → FirstFineTo code notes (k + 1) n → FirstFineTo code notes k n × BodyFineTo code notes k n
      parted n h = (λ j lt. h j (omega (arith, lt)), h k (omega arith))

  module _ (rels : List RelDecl) (hosts : Hosts) where
    fine_is : (P : Points) (k : ℕ) (b : BodyInfo) → IsBodyFine code notes k b → BodyIsFine code rels hosts notes P k b
    fine_is P zero b h = h
    fine_is P (suc k) b h = h

    is_fine : (P : Points) (k : ℕ) (b : BodyInfo) → BodyIsFine code rels hosts notes P k b → IsBodyFine code notes k b
    is_fine P zero b h = h
    is_fine P (suc k) b h = h

    there : (k : ℕ) (bs : List BodyInfo) (b : BodyInfo) → slice_get bs k ≡ Some b → k < length bs
    there k [] b h = absurd (none-some b h)
    there zero (c ∷ bs) b h = omega arith
    there (suc k) (c ∷ bs) b h = let more = there k bs b h in omega (arith, more)

    nowhere : Points
    nowhere n = None

    -- all bodies
    pub all_bodies : (count : ℕ) (found : Option ℕ) → count ≡ length code.bodies → Finds (FirstFineTo code notes count) found → Finds (BodiesFineTo code rels hosts notes) found
    all_bodies count found all h = finds_map (FirstFineTo code notes count) (BodiesFineTo code rels hosts notes) found
        (λ n f P k b at le. fine_is P k b (f k (let lt = there k code.bodies b at in omega (arith, lt, all)) b at le))
        (λ n f k lt b at le. is_fine nowhere k b (f nowhere k b at le)) h

-- ---- main's result

form_none : (o : Option Shape) → form_if o ≡ None → o ≡ None
form_none None e = refl
form_none (Some s) e = absurd (none-some (form_of s) (sym e))

abbrev pub NoResult : List BodyNote → Type 0
NoResult notes = (n : Body_note) → slice_get (map body_note notes) 0 ≡ Some n → n.result ≡ None

pub says_none : (notes : List BodyNote) (note : BodyNote) → Some note ≡ slice_get notes 0 → note.result ≡ None → NoResult notes
says_none [] note e none n g = absurd (none-some n g)
says_none (m ∷ notes) note e none n g =
    let own : note ≡ m = same_Some note m e in
    let its : body_note m ≡ n = same_Some (body_note m) n g in
    subst (λ (x : Body_note). x.result ≡ None) its (ap form_if (subst (λ (x : BodyNote). x.result ≡ None) own none))

pub none_said : (notes : List BodyNote) (note : BodyNote) → Some note ≡ slice_get notes 0 → NoResult notes → note.result ≡ None
none_said [] note e h = absurd (none-some note (sym e))
none_said (m ∷ notes) note e h = subst (λ (x : BodyNote). x.result ≡ None) (sym (same_Some note m e)) (form_none m.result (h (body_note m) refl))

pub note_there : (ns seen : List BodyNote) (k : ℕ) (n : BodyNote) → seen ≡ ns → true ≡ nat_lt k (length seen) → n ≡ get_or seen k n → slice_get ns k ≡ Some n
note_there ns seen k n own h same = subst (λ (l : List BodyNote). slice_get l k ≡ Some n) own (slice_get-get_or seen k n (ltb-true k (length seen) (sym h)) ∙ ap (λ m. Some m) (sym same))
