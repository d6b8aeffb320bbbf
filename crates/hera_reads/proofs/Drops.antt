-- The rows of a walk that are still to come.
use Rattle.std.proofs.Common.{◌≡◌, ℕ, zero, suc, ◌+◌, ◌<◌, ◌≤◌, true, false, List, [], ◌∷◌, drop, length, get_or, is_some, refl, sym, Option, Some, arith, ap, ◌∙◌}
use Rattle.std.specs.Prelude.{slice_get}
use Rattle.std.proofs.Math.Seq.{drop-nil}
use Rattle.std.proofs.lemmas.List.{drop_all}
use Rattle.hera_sets.specs.Rows.{Row}
use Rattle.hera_reads.specs.Walking.{row_before, last_or, past_left}

-- the first one that is left
pub first_left : (rows : List Row) (i : ℕ) → slice_get rows i ≡ slice_get (drop i rows) 0
first_left (x ∷ rows) (suc i) = first_left rows i
first_left [] (suc i) = refl
first_left rows zero = refl

-- whether one is left
pub left_some : (rows : List Row) (i : ℕ) → i < length rows → true ≡ is_some (slice_get (drop i rows) 0)
left_some [] i h = absurd (omega (arith, h))
left_some (x ∷ rows) zero h = refl
left_some (x ∷ rows) (suc i) h = left_some rows i (omega (arith, h))

pub left_none : (rows : List Row) (i : ℕ) → length rows ≤ i → false ≡ is_some (slice_get (drop i rows) 0)
left_none rows i h = ap (λ xs. is_some (slice_get xs 0)) (sym (drop_all i rows h))

-- the one that is left, and those behind it
pub drop_some : (rows : List Row) (i : ℕ) → is_some (slice_get (drop i rows) 0) ≡ true → (x : Row) × (slice_get rows i ≡ Some x) × (drop i rows ≡ x ∷ drop (suc i) rows)
drop_some (x ∷ rows) zero h = (x, refl, refl)
drop_some (x ∷ rows) (suc i) h = drop_some rows i h
drop_some [] i h = cc (ap (λ xs. is_some (slice_get xs 0)) (sym (drop-nil i)) ∙ h)

-- the last one that is left
last_of_all : (b : Option Row) (rows : List Row) (n : ℕ) (x : Row) → n + 1 ≡ length rows → x ≡ get_or rows n x → Some x ≡ last_or b rows
last_of_all b (y ∷ []) zero x e g = ap (λ z. Some z) g
last_of_all b (y ∷ z ∷ rows) (suc n) x e g = last_of_all (Some y) (z ∷ rows) n x (omega (arith, e)) g
last_of_all b rows n x e g = absurd (omega (arith, e))

pub last_left : (b : Option Row) (rows : List Row) (i n : ℕ) (x : Row) → i < length rows → n + 1 ≡ length rows → x ≡ get_or rows n x → Some x ≡ last_or b (drop i rows)
last_left b rows zero n x h e g = last_of_all b rows n x e g
last_left b (y ∷ rows) (suc i) (suc n) x h e g = last_left b rows i n x (omega (arith, h)) (omega (arith, e)) g
last_left b rows i n x h e g = absurd (omega (arith, h, e))

pub last_none : (b : Option Row) (rows : List Row) (i : ℕ) → length rows ≤ i → b ≡ last_or b (drop i rows)
last_none b rows i h = ap (last_or b) (sym (drop_all i rows h))

-- past the next row read ahead, and where none is left
pub pass_left : (rows : List Row) (i : ℕ) → i < length rows → record { passed = row_before (i + 1) rows; left = drop (i + 1) rows } ≡ past_left (drop i rows) (record { passed = row_before i rows; left = drop i rows })
pass_left rows i h = by (drop_some rows i (sym (left_some rows i h)))
  where
    more : i + 1 ≡ suc i
    more = omega arith

    by : (x : Row) × (slice_get rows i ≡ Some x) × (drop i rows ≡ x ∷ drop (suc i) rows) →
        record { passed = row_before (i + 1) rows; left = drop (i + 1) rows } ≡ past_left (drop i rows) (record { passed = row_before i rows; left = drop i rows })
    by d =
        ap (λ k. record { passed = row_before k rows; left = drop k rows }) more
        ∙ ap (λ (o : Option Row). record { passed = o; left = drop (suc i) rows }) d.1
        ∙ ap (λ xs. past_left xs (record { passed = row_before i rows; left = drop i rows })) (sym d.2)

pub pass_none : (rows : List Row) (i : ℕ) → length rows ≤ i → record { passed = row_before i rows; left = drop i rows } ≡ past_left (drop i rows) (record { passed = row_before i rows; left = drop i rows })
pass_none rows i h = ap (λ xs. past_left xs (record { passed = row_before i rows; left = drop i rows })) (sym (drop_all i rows h))

pub ruleset lefts = (first_left, left_some, left_none)

pub ruleset passes = (left_some, left_none, pass_left, pass_none)

pub ruleset lasts = (last_none)
