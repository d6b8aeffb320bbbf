-- An item put in place of another, an item more, and the first ones.
use Rattle.std.proofs.Common.{◌≡◌, ◌≢◌, ◌<◌, ◌≤◌, ◌⊎◌, inl, inr, ℕ, zero, suc, ◌+◌, ◌-◌, List, [], ◌∷◌, ◌++◌, length, take, None, Some, refl, ap, ◌∙◌, arith}
use Rattle.std.specs.Prelude.{slice_get, slice_set}
use Rattle.std.proofs.lemmas.Option.{none-some, same_Some}
use Rattle.std.proofs.lemmas.Bool.{cases_lt}

pub set_same : {A : Type 0} (xs : List A) (i : ℕ) (x : A) → i < length xs → slice_get (slice_set xs i x) i ≡ Some x
set_same [] i x lt = absurd (omega (arith, lt))
set_same (y ∷ xs) zero x lt = refl
set_same (y ∷ xs) (suc i) x lt = set_same xs i x (omega (arith, lt))

pub set_other : {A : Type 0} (xs : List A) (i j : ℕ) (x : A) → i ≢ j → slice_get (slice_set xs i x) j ≡ slice_get xs j
set_other [] i j x apart = refl
set_other (y ∷ xs) zero zero x apart = absurd (apart refl)
set_other (y ∷ xs) zero (suc j) x apart = refl
set_other (y ∷ xs) (suc i) zero x apart = refl
set_other (y ∷ xs) (suc i) (suc j) x apart = set_other xs i j x (λ e. apart (ap suc e))

pub set_long : {A : Type 0} (xs : List A) (i : ℕ) (x : A) → length (slice_set xs i x) ≡ length xs
set_long [] i x = refl
set_long (y ∷ xs) zero x = refl
set_long (y ∷ xs) (suc i) x = ap suc (set_long xs i x)

pub there : {A : Type 0} (xs : List A) (i : ℕ) (x : A) → slice_get xs i ≡ Some x → i < length xs
there [] i x h = absurd (none-some x h)
there (y ∷ xs) zero x h = omega arith
there (y ∷ xs) (suc i) x h = let more = there xs i x h in omega (arith, more)

pub item : {A : Type 0} (xs : List A) (i : ℕ) → i < length xs → (x : A) × (slice_get xs i ≡ Some x)
item [] i lt = absurd (omega (arith, lt))
item (x ∷ xs) zero lt = (x, refl)
item (x ∷ xs) (suc i) lt = item xs i (omega (arith, lt))

pub push_cases : {A : Type 0} (xs : List A) (y : A) (i : ℕ) (x : A) → slice_get (xs ++ y ∷ []) i ≡ Some x → (slice_get xs i ≡ Some x) ⊎ ((i ≡ length xs) × (y ≡ x))
push_cases [] y zero x h = inr (refl, same_Some y x h)
push_cases [] y (suc i) x h = absurd (none-some x h)
push_cases (z ∷ xs) y zero x h = inl h
push_cases (z ∷ xs) y (suc i) x h = elim (push_cases xs y i x h) [
  | inl below ↦ inl below
  | inr last ↦ inr (ap suc last.0, last.1)
]

pub push_long : {A : Type 0} (xs : List A) (y : A) → length (xs ++ y ∷ []) ≡ length xs + 1
push_long [] y = refl
push_long (x ∷ xs) y = let more = push_long xs y in omega (arith, more)

pub push_front : {A : Type 0} (xs ys : List A) (i : ℕ) (x : A) → slice_get xs i ≡ Some x → slice_get (xs ++ ys) i ≡ Some x
push_front [] ys i x h = absurd (none-some x h)
push_front (z ∷ xs) ys zero x h = h
push_front (z ∷ xs) ys (suc i) x h = push_front xs ys i x h

pub push_last : {A : Type 0} (xs : List A) (y : A) → slice_get (xs ++ y ∷ []) (length xs) ≡ Some y
push_last [] y = refl
push_last (x ∷ xs) y = push_last xs y

pub take_get : {A : Type 0} (n : ℕ) (xs : List A) (i : ℕ) (x : A) → slice_get (take n xs) i ≡ Some x → (i < n) × (slice_get xs i ≡ Some x)
take_get zero xs i x h = absurd (none-some x h)
take_get (suc n) [] i x h = absurd (none-some x h)
take_get (suc n) (y ∷ xs) zero x h = (omega arith, h)
take_get (suc n) (y ∷ xs) (suc i) x h = let more = take_get n xs i x h in let less = more.0 in (omega (arith, less), more.1)

pub get_take : {A : Type 0} (n : ℕ) (xs : List A) (i : ℕ) (x : A) → i < n → slice_get xs i ≡ Some x → slice_get (take n xs) i ≡ Some x
get_take zero xs i x lt h = absurd (omega (arith, lt))
get_take (suc n) [] i x lt h = absurd (none-some x h)
get_take (suc n) (y ∷ xs) zero x lt h = h
get_take (suc n) (y ∷ xs) (suc i) x lt h = get_take n xs i x (omega (arith, lt)) h

pub take_long : {A : Type 0} (n : ℕ) (xs : List A) → n ≤ length xs → length (take n xs) ≡ n
take_long zero xs le = refl
take_long (suc n) [] le = absurd (omega (arith, le))
take_long (suc n) (x ∷ xs) le = ap suc (take_long n xs (omega (arith, le)))

pub none_long : {A : Type 0} (xs : List A) → None ≡ slice_get xs (length xs - 1) → length xs ≡ 0
none_long xs h = elim (cases_lt 0 (length xs)) [
  | inl more ↦ let last = item xs (length xs - 1) (omega (arith, more)) in absurd (none-some last.0 (h ∙ last.1))
  | inr none ↦ omega (arith, none)
]

-- a number is no more than the limit that those up to this place are above
pub stop_here : (xs : List ℕ) (limit place : ℕ) → (i : ℕ) × (p : ℕ) × (slice_get xs i ≡ Some p) × (p ≤ limit) → ((i p : ℕ) → slice_get xs i ≡ Some p → i < place → limit < p) → place < length xs
stop_here xs limit place one above =
    let i = one.0 in
    let p = one.1 in
    let here = one.2 in
    let low = one.3 in
    let within = there xs i p here in
    elim (cases_lt i place) [
      | inl less ↦ let high = above i p here less in absurd (omega (arith, high, low))
      | inr off ↦ omega (arith, off, within)
    ]
