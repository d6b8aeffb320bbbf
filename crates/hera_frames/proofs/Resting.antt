-- Frames that wait: the first ones of a list.
use Rattle.std.proofs.Common.{◌≡◌, ℕ, suc, ◌+◌, ◌-◌, ◌<◌, ◌≤◌, List, [], ◌∷◌, ◌++◌, length, take, get_or, sym, ap, ◌∙◌, arith}
use Rattle.std.specs.Prelude.{slice_set}
use Rattle.std.proofs.lemmas.List.{take-set, take_more_set, take-append-le, take_all}
use Rattle.std.proofs.Math.Seq.{take-suc}
use Rattle.hera_fits.specs.Newest.{newest}
use Rattle.hera_fits.proofs.Stacks.{newest_push}

-- the one behind them waits too from now on
pub waits_more : {A : Type 0} → (xs : List A) (n : ℕ) (y : A) → n < length xs → newest (λ x. x) (take (n + 1) (slice_set xs n y)) ≡ y ∷ newest (λ x. x) (take n xs)
waits_more xs n y h = ap (newest (λ x. x)) (take_more_set xs n y h) ∙ newest_push (λ x. x) (take n xs) y

-- the one behind them is changed, or is put there
pub waits_same : {A : Type 0} → (xs : List A) (n : ℕ) (y : A) → newest (λ x. x) (take n (slice_set xs n y)) ≡ newest (λ x. x) (take n xs)
waits_same xs n y = ap (newest (λ x. x)) (take-set xs n y)

pub waits_behind : {A : Type 0} → (xs : List A) (n : ℕ) (y : A) → n ≤ length xs → newest (λ x. x) (take n (xs ++ y ∷ [])) ≡ newest (λ x. x) (take n xs)
waits_behind xs n y h = ap (newest (λ x. x)) (take-append-le n xs (y ∷ []) h)

-- all wait
pub waits_all : {A : Type 0} → (xs : List A) (n : ℕ) → length xs ≤ n → newest (λ x. x) (take n xs) ≡ newest (λ x. x) xs
waits_all xs n h = ap (newest (λ x. x)) (take_all n xs h)

-- the newest one goes on
pub waited_first : {A : Type 0} → (xs : List A) (n : ℕ) (x y : A) → 0 < n → n ≤ length xs → x ≡ get_or xs (n - 1) x → newest (λ x. x) (take n xs) ≡ x ∷ newest (λ x. x) (take (n - 1) (slice_set xs (n - 1) y))
waited_first xs n x y some h e =
    let m : n ≡ suc (n - 1) = omega arith in
    ap (λ k. newest (λ x. x) (take k xs)) m
    ∙ ap (newest (λ x. x)) (take-suc xs (n - 1) x (omega (arith, h, some)))
    ∙ newest_push (λ x. x) (take (n - 1) xs) (get_or xs (n - 1) x)
    ∙ ap (λ z. z ∷ newest (λ x. x) (take (n - 1) xs)) (sym e)
    ∙ ap (λ zs. x ∷ zs) (sym (waits_same xs (n - 1) y))

pub ruleset rests = (waits_more, waits_same, waits_behind, waits_all)
