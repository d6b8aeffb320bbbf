-- Bodies beside their notes, one by one.
use Rattle.std.proofs.Common.{◌≡◌, ◌≤◌, ◌<◌, ℕ, zero, suc, true, false, get_or, List, [], ◌∷◌, length, Some, None, refl, sym, ap, subst, ◌∙◌, arith}
use Rattle.std.specs.Prelude.{nat_lt}
use Rattle.std.specs.List.{slice_get, AllByRecursion}
use Rattle.std.proofs.lemmas.Bool.{ltb-true, ltb-false}
use Rattle.std.proofs.lemmas.Option.{none-some, same_Some, slice_get-get_or}
use Rattle.hera_code.specs.declared.instrs.BodyInfo.{BodyInfo}
use Rattle.hera_typed.specs.declared.notes.BodyNote.{BodyNote}
use Rattle.hera_code_file.specs.Files.{file_body, file_bodies, AreNoted}

pub bodies_length : (bs : List BodyInfo) (ns : List BodyNote) → AreNoted bs ns → length (file_bodies bs ns) ≡ length bs
bodies_length [] [] h = refl
bodies_length [] (n ∷ ns) h = absurd h
bodies_length (b ∷ bs) [] h = absurd h
bodies_length (b ∷ bs) (n ∷ ns) h = let more = bodies_length bs ns h.1 in omega (arith, more)

pub body_there : (bs : List BodyInfo) (ns : List BodyNote) (k : ℕ) (b : BodyInfo) (n : BodyNote) → slice_get bs k ≡ Some b → slice_get ns k ≡ Some n → slice_get (file_bodies bs ns) k ≡ Some (file_body b n)
body_there [] ns k b n h g = absurd (none-some b h)
body_there (c ∷ bs) [] k b n h g = absurd (none-some n g)
body_there (c ∷ bs) (m ∷ ns) zero b n h g = ap (λ (i : BodyInfo). Some (file_body i m)) (same_Some c b h) ∙ ap (λ (j : BodyNote). Some (file_body b j)) (same_Some m n g)
body_there (c ∷ bs) (m ∷ ns) (suc k) b n h g = body_there bs ns k b n h g

pub no_body : (bs : List BodyInfo) (ns : List BodyNote) (k : ℕ) → slice_get bs k ≡ None → slice_get (file_bodies bs ns) k ≡ None
no_body [] ns k h = refl
no_body (c ∷ bs) [] k h = refl
no_body (c ∷ bs) (m ∷ ns) zero h = absurd (none-some c (sym h))
no_body (c ∷ bs) (m ∷ ns) (suc k) h = no_body bs ns k h

pub no_note : (bs : List BodyInfo) (ns : List BodyNote) (k : ℕ) → slice_get ns k ≡ None → slice_get (file_bodies bs ns) k ≡ None
no_note [] ns k h = refl
no_note (c ∷ bs) [] k h = refl
no_note (c ∷ bs) (m ∷ ns) zero h = absurd (none-some m (sym h))
no_note (c ∷ bs) (m ∷ ns) (suc k) h = no_note bs ns k h

pub note_there : {A : Type 0} (ns : List A) (k : ℕ) (n : A) → true ≡ nat_lt k (length ns) → n ≡ get_or ns k n → slice_get ns k ≡ Some n
note_there ns k n h same = slice_get-get_or ns k n (ltb-true k (length ns) (sym h)) ∙ ap (λ m. Some m) (sym same)

past_get : {A : Type 0} (xs : List A) (k : ℕ) → length xs ≤ k → slice_get xs k ≡ None
past_get [] k h = refl
past_get (x ∷ xs) zero h = absurd (omega (arith, h))
past_get (x ∷ xs) (suc k) h = past_get xs k (omega (arith, h))

pub note_past : {A : Type 0} (ns : List A) (k : ℕ) → false ≡ nat_lt k (length ns) → slice_get ns k ≡ None
note_past ns k h = past_get ns k (ltb-false k (length ns) (sym h))

pub past : {A : Type 0} (xs : List A) (k : ℕ) → slice_get xs k ≡ None → length xs ≤ k
past [] k h = omega arith
past (x ∷ xs) zero h = absurd (none-some x (sym h))
past (x ∷ xs) (suc k) h = let more = past xs k h in omega (arith, more)

-- what all of them have, one of them has
pub each_at : {A : Type 0} (P : A → Type 0) (xs : List A) (k : ℕ) (x : A) → AllByRecursion P xs → slice_get xs k ≡ Some x → P x
each_at P [] k x h g = absurd (none-some x g)
each_at P (y ∷ xs) zero x h g = subst P (same_Some y x g) h.0
each_at P (y ∷ xs) (suc k) x h g = each_at P xs k x h.1 g
