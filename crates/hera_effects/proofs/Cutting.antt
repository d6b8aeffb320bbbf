-- Lists of operands and forms, item by item.
use Rattle.std.proofs.Common.{◌≡◌, ◌≢◌, ◌≤◌, ℕ, zero, suc, ◌+◌, Bool, true, false, ◌&&◌, List, [], ◌∷◌, ◌++◌, map, take, drop, length, Some, refl, sym, ap, ◌∙◌, add-one, arith}
use Rattle.std.specs.Prelude.{slice_get}
use Rattle.std.proofs.lemmas.Option.{none-some, same_Some}
use Rattle.hera_meaning.specs.declared.schemas.Attr.{Attr}
use Rattle.hera_meaning.specs.Forms.{of_scalar, kinds_of, form_of}
use Rattle.hera_typed.specs.declared.notes.SlotNote.{SlotNote}
use Rattle.hera_typed.specs.Notes.{slot_note}
use Rattle.hera_typed.specs.Effects.{slot_forms}
use Rattle.hera_stacks.specs.declared.forms.FlatForm.{FlatForm}
use Rattle.hera_stacks.specs.declared.forms.FlatSeen.{FlatSeen}
use Rattle.hera_stacks.specs.Flat.{flat_form}
use Rattle.hera_effects.specs.Operations.{flat_agrees, flat_all_agree}
use Rattle.hera_stacks.proofs.Flattened.{drop_at, drop_past}

-- ---- as many operands as forms

pub agree_apart : (ss : List FlatSeen) (fs : List FlatForm) → length ss ≢ length fs → false ≡ flat_all_agree ss fs
agree_apart [] [] h = absurd (h refl)
agree_apart [] (f ∷ fs) h = refl
agree_apart (s ∷ ss) [] h = refl
agree_apart (s ∷ ss) (f ∷ fs) h = by (agree_apart ss fs (λ e. h (ap suc e))) (flat_agrees s f)
  where
    by : false ≡ flat_all_agree ss fs → (v : Bool) → false ≡ v && flat_all_agree ss fs
    by rest true = rest
    by rest false = refl

pub agree_on : (ss : List FlatSeen) (fs : List FlatForm) (i : ℕ) (s : FlatSeen) (f : FlatForm) → slice_get ss i ≡ Some s → slice_get fs i ≡ Some f → flat_agrees s f ≡ true → flat_all_agree (drop (i + 1) ss) (drop (i + 1) fs) ≡ flat_all_agree (drop i ss) (drop i fs)
agree_on ss fs i s f at there h =
    sym ((λ t. flat_all_agree (drop_at ss i s at t) (drop_at fs i f there t)) ∙ ap (λ v. v && flat_all_agree (drop (i + 1) ss) (drop (i + 1) fs)) h)

pub agree_ends : (ss : List FlatSeen) (fs : List FlatForm) (i : ℕ) → length ss ≤ i → length fs ≤ i → true ≡ flat_all_agree (drop i ss) (drop i fs)
agree_ends ss fs i over done = sym (λ t. flat_all_agree (drop_past ss i over t) (drop_past fs i done t))

-- ---- one, and two

-- ---- forms, one after another

take_suc : {A B : Type 0} (f : A → B) (xs : List A) (i : ℕ) (x : A) → slice_get xs i ≡ Some x → take (suc i) (map f xs) ≡ take i (map f xs) ++ f x ∷ []
take_suc f [] i x h = absurd (none-some x h)
take_suc f (y ∷ xs) zero x h = ap (λ z. f z ∷ []) (same_Some y x h)
take_suc f (y ∷ xs) (suc i) x h = ap (λ ys. f y ∷ ys) (take_suc f xs i x h)

pub forms_more : {A : Type 0} (f : A → FlatForm) (xs : List A) (i : ℕ) (x : A) (forms : List FlatForm) (form : FlatForm) → slice_get xs i ≡ Some x → form ≡ f x → forms ≡ take i (map f xs) → forms ++ form ∷ [] ≡ take (i + 1) (map f xs)
forms_more f xs i x forms form at is h =
    (λ t. h t ++ is t ∷ []) ∙ sym (take_suc f xs i x at) ∙ ap (λ n. take n (map f xs)) (sym (add-one i))

pub take_over : {A : Type 0} {B : Type 0} (f : A → B) (xs : List A) (n : ℕ) → length xs ≤ n → take n (map f xs) ≡ map f xs
take_over f [] zero h = refl
take_over f [] (suc n) h = refl
take_over f (x ∷ xs) zero h = absurd (omega (arith, h))
take_over f (x ∷ xs) (suc n) h = ap (λ ys. f x ∷ ys) (take_over f xs n (omega (arith, h)))

pub slot_at : (slots : List SlotNote) (i : ℕ) (s : SlotNote) → slice_get slots i ≡ Some s → slice_get (slot_forms (map slot_note slots)) i ≡ Some (form_of s.shape)
slot_at [] i s h = absurd (none-some s h)
slot_at (x ∷ slots) zero s h = ap (λ (y : SlotNote). Some (form_of y.shape)) (same_Some x s h)
slot_at (x ∷ slots) (suc i) s h = slot_at slots i s h

pub take_whole : {A : Type 0} (n : ℕ) (xs : List A) → length xs ≤ n → take n xs ≡ xs
take_whole zero [] h = refl
take_whole (suc n) [] h = refl
take_whole zero (x ∷ xs) h = absurd (omega (arith, h))
take_whole (suc n) (x ∷ xs) h = ap (λ ys. x ∷ ys) (take_whole n xs (omega (arith, h)))

pub attr_forms_is : (schema : List Attr) → map (λ (a : Attr). flat_form (of_scalar a.kind)) schema ≡ map flat_form (map of_scalar (kinds_of schema))
attr_forms_is [] = refl
attr_forms_is (a ∷ schema) = ap (λ ys. flat_form (of_scalar a.kind) ∷ ys) (attr_forms_is schema)
