-- Slots, which are kept as values of the machine.
use Rattle.std.proofs.Common.{◌≡◌, ℕ, zero, suc, ◌<◌, ◌≤◌, true, false, List, [], ◌∷◌, ◌++◌, ◌-◌, length, map, pos, get_or, refl, ap, ◌∙◌, arith, is_some}
use Rattle.std.specs.Prelude.{slice_set, slice_get, replicate}
use Rattle.std.proofs.lemmas.Option.{slice_get-map}
use Rattle.hera_meaning.specs.Values.{Value, int_value}
use Rattle.hera_meaning.specs.Worlds.{set_local}
use Rattle.hera_values.specs.declared.values.Datum.{Datum}
use Rattle.hera_values.specs.declared.values.Datum.TheVariants.{Int}
use Rattle.hera_values.specs.Little.{plain_of}

pub set_local-map : {A : Type 0} → (f : A → Value) (xs : List A) (i : ℕ) (v : A) → map f (slice_set xs i v) ≡ set_local (map f xs) i (f v)
set_local-map f [] i v = refl
set_local-map f (x ∷ xs) zero v = refl
set_local-map f (x ∷ xs) (suc i) v = ap (λ ys. f x ∷ ys) (set_local-map f xs i v)

pub set_local-past : {A : Type 0} → (f : A → Value) (xs : List A) (i : ℕ) (v : Value) → length xs ≤ i → set_local (map f xs) i v ≡ map f xs
set_local-past f [] i v h = refl
set_local-past f (x ∷ xs) zero v h = absurd (omega (arith, h))
set_local-past f (x ∷ xs) (suc i) v h = ap (λ ys. f x ∷ ys) (set_local-past f xs i v (omega (arith, h)))

pub slot-past : {A : Type 0} → (f : A → Value) (xs : List A) (i : ℕ) → length xs ≤ i → false ≡ is_some (slice_get (map f xs) i)
slot-past f [] i h = refl
slot-past f (x ∷ xs) zero h = absurd (omega (arith, h))
slot-past f (x ∷ xs) (suc i) h = slot-past f xs i (omega (arith, h))

pub slot-within : {A : Type 0} → (f : A → Value) (xs : List A) (i : ℕ) → i < length xs → true ≡ is_some (slice_get (map f xs) i)
slot-within f [] i h = absurd (omega (arith, h))
slot-within f (x ∷ xs) zero h = refl
slot-within f (x ∷ xs) (suc i) h = slot-within f xs i (omega (arith, h))

-- a slot whose value is as it was
pub set_same-map : {A : Type 0} → (f : A → Value) (xs : List A) (i : ℕ) (d v : A) → d ≡ get_or xs i d → f v ≡ f d → map f (slice_set xs i v) ≡ map f xs
set_same-map f [] i d v g h = refl
set_same-map f (x ∷ xs) zero d v g h = ap (λ y. y ∷ map f xs) (h ∙ ap f g)
set_same-map f (x ∷ xs) (suc i) d v g h = ap (λ ys. f x ∷ ys) (set_same-map f xs i d v g h)

-- the int 0 in each slot
zeros_plain : (n : ℕ) → map plain_of (replicate n (Int (pos 0))) ≡ replicate n (int_value (pos 0))
zeros_plain zero = refl
zeros_plain (suc n) = ap (λ xs. int_value (pos 0) ∷ xs) (zeros_plain n)

pub all_zero : (n : ℕ) (none all : List Datum) → none ≡ [] → all ≡ none ++ replicate n (Int (pos 0)) → map plain_of all ≡ replicate (n - 0) (int_value (pos 0))
all_zero n none all h e =
    let whole : n ≡ n - 0 = omega arith in
    ap (map plain_of) (e ∙ ap (λ xs. xs ++ replicate n (Int (pos 0))) h) ∙ zeros_plain n ∙ ap (λ k. replicate k (int_value (pos 0))) whole

pub ruleset fits = (set_same-map, set_local-map, slot-within)

pub ruleset slots = (set_local-map, set_local-past, slot-past, slot-within)

pub ruleset copies = (slice_get-map)
