-- Lists that are kept in the other order.
use Rattle.std.proofs.Common.{◌≡◌, ℕ, zero, suc, ◌+◌, ◌-◌, ◌<◌, ◌≤◌, List, [], ◌∷◌, ◌++◌, length, get_or, None, Some, refl, sym, ap, ◌∙◌, arith, length-append}
use Rattle.std.specs.Prelude.{slice_get}
use Rattle.std.proofs.lemmas.Option.{slice_get_past}
use Rattle.hera_fits.specs.Newest.{newest}

pub newest_push : {A B : Type 0} → (f : A → B) (xs : List A) (x : A) → newest f (xs ++ x ∷ []) ≡ f x ∷ newest f xs
newest_push f [] x = refl
newest_push f (y ∷ ys) x = ap (λ zs. zs ++ f y ∷ []) (newest_push f ys x)

pub newest_length : {A B : Type 0} → (f : A → B) (xs : List A) → length (newest f xs) ≡ length xs
newest_length f [] = refl
newest_length f (x ∷ xs) =
    let front : length (newest f xs ++ f x ∷ []) ≡ length (newest f xs) + 1 = length-append (newest f xs) (f x ∷ []) in
    let ih : length (newest f xs) ≡ length xs = newest_length f xs in
    omega (arith, front, ih)

get_front : {A : Type 0} → (xs ys : List A) (i : ℕ) → i < length xs → slice_get (xs ++ ys) i ≡ slice_get xs i
get_front [] ys i h = absurd (omega (arith, h))
get_front (x ∷ xs) ys zero h = refl
get_front (x ∷ xs) ys (suc i) h = get_front xs ys i (omega (arith, h))

get_behind : {A : Type 0} → (xs ys : List A) (i : ℕ) → i ≡ length xs → slice_get (xs ++ ys) i ≡ slice_get ys 0
get_behind [] ys i h = ap (λ k. slice_get ys k) h
get_behind (x ∷ xs) ys zero h = absurd (omega (arith, h))
get_behind (x ∷ xs) ys (suc i) h = get_behind xs ys i (omega (arith, h))

-- the element at a place counted from the end
newest_get : {A B : Type 0} → (f : A → B) (xs : List A) (i k : ℕ) (d : A) → i < length xs → k + i + 1 ≡ length xs → slice_get (newest f xs) i ≡ Some (f (get_or xs k d))
newest_get f [] i k d h e = absurd (omega (arith, h))
newest_get f (x ∷ xs) i zero d h e =
    let long : length (newest f xs) ≡ length xs = newest_length f xs in
    get_behind (newest f xs) (f x ∷ []) i (omega (arith, long, e))
newest_get f (x ∷ xs) i (suc k) d h e =
    let long : length (newest f xs) ≡ length xs = newest_length f xs in
    get_front (newest f xs) (f x ∷ []) i (omega (arith, long, e)) ∙ newest_get f xs i k d (omega (arith, e)) (omega (arith, e))

pub newest_at : {A B : Type 0} → (f : A → B) (xs : List A) (n i : ℕ) (d : A) → n ≡ length xs → i < n → d ≡ get_or xs (n - 1 - i) d → Some (f d) ≡ slice_get (newest f xs) i
newest_at f xs n i d e h g =
    ap (λ x. Some (f x)) g ∙ sym (newest_get f xs i (n - 1 - i) d (omega (arith, e, h)) (omega (arith, e, h)))

pub newest_past : {A B : Type 0} → (f : A → B) (xs : List A) (n i : ℕ) → n ≡ length xs → n ≤ i → None ≡ slice_get (newest f xs) i
newest_past f xs n i e h =
    let long : length (newest f xs) ≡ length xs = newest_length f xs in
    sym (slice_get_past (newest f xs) i (omega (arith, long, e, h)))

pub ruleset places = (newest_at, newest_past)
