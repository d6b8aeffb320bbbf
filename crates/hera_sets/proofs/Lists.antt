-- Ascending lists: what lies past a bound, and two lists with the same members.
use Rattle.std.proofs.Common.{◌≡◌, ℕ, Bool, true, false, cond, not, ◌||◌, List, [], ◌∷◌, ◌++◌, Option, Some, None, refl, sym, ap, ◌∙◌, subst, ◌+◌, ◌<◌, ◌≤◌, length, arith, append_assoc}
use Rattle.std.specs.List.{filter, find}
use Rattle.std.proofs.lemmas.Bool.{both_ways, false≢true}
use Rattle.std.proofs.lemmas.Option.{none-some, same_Some}
use Rattle.hera_sets.specs.Rows.{Row, is_below, is_same, is_past, IsBelowAll, IsAscending, holds, put, without}
use Rattle.hera_sets.proofs.Order.{below_trans, below_itself, before, level, behind, stands}

-- a row below all is none of them
pub none_held : (x : Row) (xs : List Row) → IsBelowAll x xs → holds xs x ≡ false
none_held x [] all = refl
none_held x (y ∷ ys) all =
    elim (stands x y) [
      | before p q s ↦ rw s (none_held x ys all.1)
      | level e p q s ↦ absurd (both_ways _ p all.0)
      | behind p q s ↦ absurd (both_ways _ q all.0)
    ]

pub all_below_trans : (x y : Row) (ys : List Row) → is_below x y ≡ true → IsBelowAll y ys → IsBelowAll x ys
all_below_trans x y [] h all = tt
all_below_trans x y (z ∷ zs) h all = (below_trans x y z h all.0, all_below_trans x y zs h all.1)

-- order is kept
all_put : (z x : Row) (xs : List Row) → is_below z x ≡ true → IsBelowAll z xs → IsBelowAll z (put x xs)
all_put z x [] h all = (h, tt)
all_put z x (y ∷ ys) h all =
    elim (is_below x y) as (λ v. IsBelowAll z (cond v (x ∷ y ∷ ys) (y ∷ cond (is_below y x) (put x ys) ys))) [
      | true ↦ (h, all)
      | false ↦ (all.0, elim (is_below y x) as (λ w. IsBelowAll z (cond w (put x ys) ys)) [ true ↦ all_put z x ys h all.1 | false ↦ all.1 ])
    ]

pub ascending_put : (x : Row) (xs : List Row) → IsAscending xs → IsAscending (put x xs)
ascending_put x [] up = (tt, tt)
ascending_put x (y ∷ ys) up =
    elim (stands x y) [
      | before p q s ↦ rw p ((p, all_below_trans x y ys p up.0), up)
      | level e p q s ↦ rw (p, q) up
      | behind p q s ↦ rw (q, p) (all_put y x ys p up.0, ascending_put x ys up.1)
    ]

pub put-held : (x : Row) (xs : List Row) → IsAscending xs → holds xs x ≡ true → put x xs ≡ xs
put-held x [] up h = absurd (false≢true h)
put-held x (y ∷ ys) up h =
    elim (stands x y) [
      | before p q s ↦ absurd (both_ways _ (none_held x (y ∷ ys) (p, all_below_trans x y ys p up.0)) h)
      | level e p q s ↦ rw (p, q) refl
      | behind p q s ↦ rw (q, p) (ap (λ t. y ∷ t) (put-held x ys up.1 (rw s at h)))
    ]

pub without-absent : (x : Row) (xs : List Row) → holds xs x ≡ false → without x xs ≡ xs
without-absent x [] h = refl
without-absent x (y ∷ ys) h =
    elim (is_same x y) as (λ v. (v || holds ys x) ≡ false → cond (not v) (y ∷ without x ys) (without x ys) ≡ y ∷ ys) [
      | true ↦ λ g. absurd (false≢true (sym g))
      | false ↦ λ g. ap (λ t. y ∷ t) (without-absent x ys g)
    ] h

all_filter : (z : Row) (t : Row → Bool) (xs : List Row) → IsBelowAll z xs → IsBelowAll z (filter t xs)
all_filter z t [] all = tt
all_filter z t (y ∷ ys) all = elim (t y) as (λ v. IsBelowAll z (cond v (y ∷ filter t ys) (filter t ys))) [ true ↦ (all.0, all_filter z t ys all.1) | false ↦ all_filter z t ys all.1 ]

pub ascending_filter : (t : Row → Bool) (xs : List Row) → IsAscending xs → IsAscending (filter t xs)
ascending_filter t [] up = tt
ascending_filter t (y ∷ ys) up = elim (t y) as (λ v. IsAscending (cond v (y ∷ filter t ys) (filter t ys))) [ true ↦ (all_filter y t ys up.0, ascending_filter t ys up.1) | false ↦ ascending_filter t ys up.1 ]

pub filter_past_none : (xs : List Row) → filter (is_past None) xs ≡ xs
filter_past_none [] = refl
filter_past_none (x ∷ xs) = ap (λ t. x ∷ t) (filter_past_none xs)

-- nothing found, nothing kept
pub filter_none_found : (p : Row → Bool) (xs : List Row) → find p xs ≡ None → filter p xs ≡ []
filter_none_found p [] h = refl
filter_none_found p (x ∷ xs) h =
    elim (p x) as (λ b. cond b (Some x) (find p xs) ≡ None → cond b (x ∷ filter p xs) (filter p xs) ≡ []) [
      | true ↦ λ g. absurd (none-some x (sym g))
      | false ↦ λ g. filter_none_found p xs g
    ] h

-- what is past a row above b is past b
pub past_trans : (b : Option Row) (x y : Row) → is_past b x ≡ true → is_below x y ≡ true → is_past b y ≡ true
past_trans None x y h g = refl
past_trans (Some c) x y h g = below_trans c x y h g

filter_all_past : (b : Option Row) (x : Row) (xs : List Row) → is_past b x ≡ true → IsBelowAll x xs → filter (is_past b) xs ≡ xs
filter_all_past b x [] h all = refl
filter_all_past b x (y ∷ ys) h all = rw (past_trans b x y h all.0) (ap (λ t. y ∷ t) (filter_all_past b x ys h all.1))

pub find_passes : (p : Row → Bool) (xs : List Row) (r : Row) → find p xs ≡ Some r → p r ≡ true
find_passes p [] r h = absurd (none-some r h)
find_passes p (x ∷ xs) r h =
    elim (p x) as (λ b. p x ≡ b → cond b (Some x) (find p xs) ≡ Some r → p r ≡ true) [
      | true ↦ λ e g. subst (λ y. p y ≡ true) (same_Some x r g) e
      | false ↦ λ e g. find_passes p xs r g
    ] refl h

not_below_after : (b : Option Row) (r x : Row) → is_past b r ≡ true → is_past b x ≡ false → is_below r x ≡ false
not_below_after b r x h g =
    elim (is_below r x) as (λ v. is_below r x ≡ v → v ≡ false) [
      | true ↦ λ e. absurd (both_ways _ g (past_trans b r x h e))
      | false ↦ λ e. refl
    ] refl

-- the first row past b, and then the rows past that one, are the rows past b
pub filter_past_step : (b : Option Row) (xs : List Row) (r : Row) → IsAscending xs → find (is_past b) xs ≡ Some r → filter (is_past b) xs ≡ r ∷ filter (is_past (Some r)) xs
filter_past_step b [] r up h = absurd (none-some r h)
filter_past_step b (x ∷ xs) r up h =
    elim (is_past b x) as (λ v. is_past b x ≡ v → cond v (Some x) (find (is_past b) xs) ≡ Some r → cond v (x ∷ filter (is_past b) xs) (filter (is_past b) xs) ≡ r ∷ filter (is_past (Some r)) (x ∷ xs)) [
      | true ↦ λ e g.
          let same : x ≡ r = same_Some x r g in
          let P : Row → Type 0 = λ y. x ∷ filter (is_past b) xs ≡ y ∷ filter (is_past (Some y)) (x ∷ xs) in
          subst P same (rw (below_itself x, filter_all_past b x xs e up.0, filter_only_past x xs up.0) refl)
      | false ↦ λ e g. rw (not_below_after b r x (find_passes (is_past b) xs r g) e) (filter_past_step b xs r up.1 g)
    ] refl h
  where
    filter_only_past : (x : Row) (xs : List Row) → IsBelowAll x xs → filter (is_below x) xs ≡ xs
    filter_only_past x [] all = refl
    filter_only_past x (y ∷ ys) all = rw all.0 (ap (λ t. y ∷ t) (filter_only_past x ys all.1))

-- a front of an ascending list ascends
pub ascending_front : (xs ys : List Row) → IsAscending (xs ++ ys) → IsAscending xs
ascending_front [] ys up = tt
ascending_front (x ∷ xs) ys up = (front x xs ys up.0, ascending_front xs ys up.1)
  where
    front : (x : Row) (xs ys : List Row) → IsBelowAll x (xs ++ ys) → IsBelowAll x xs
    front x [] ys all = tt
    front x (z ∷ zs) ys all = (all.0, front x zs ys all.1)

-- a walk's step: the rows done, and those past the last one, are all rows
pub walk_step : (done xs : List Row) (b : Option Row) (r : Row) → IsAscending xs → find (is_past b) xs ≡ Some r → done ++ filter (is_past b) xs ≡ xs → (done ++ r ∷ []) ++ filter (is_past (Some r)) xs ≡ xs
walk_step done xs b r up h e = append_assoc done (r ∷ []) (filter (is_past (Some r)) xs) ∙ ap (λ t. done ++ t) (sym (filter_past_step b xs r up h)) ∙ e

-- and the row may be pushed
pub walk_push : (done xs : List Row) (b : Option Row) (r : Row) → IsAscending xs → find (is_past b) xs ≡ Some r → done ++ filter (is_past b) xs ≡ xs → IsAscending (done ++ r ∷ [])
walk_push done xs b r up h e = ascending_front (done ++ r ∷ []) (filter (is_past (Some r)) xs) (subst IsAscending (sym (walk_step done xs b r up h e)) up)

pub walk_end : (done xs : List Row) (b : Option Row) → find (is_past b) xs ≡ None → done ++ filter (is_past b) xs ≡ xs → done ≡ xs
walk_end done xs b h e = sym (Rattle.std.proofs.lemmas.List.append-nil done) ∙ ap (λ t. done ++ t) (sym (filter_none_found (is_past b) xs h)) ∙ e

-- a walk ends
pub walk_falls : (xs : List Row) (b : Option Row) (r : Row) → IsAscending xs → find (is_past b) xs ≡ Some r → length (filter (is_past (Some r)) xs) < length (filter (is_past b) xs)
walk_falls xs b r up h = rw (filter_past_step b xs r up h) (omega arith)

-- a count's step: a row more is counted, and there are no fewer rows
pub count_step : (n : ℕ) (xs : List Row) (b : Option Row) (r : Row) → IsAscending xs → find (is_past b) xs ≡ Some r → n + length (filter (is_past b) xs) ≡ length xs → (n + 1) + length (filter (is_past (Some r)) xs) ≡ length xs
count_step n xs b r up h e = omega (arith, ap length (filter_past_step b xs r up h), e)

pub count_within : (n : ℕ) (xs : List Row) (b : Option Row) (r : Row) → IsAscending xs → find (is_past b) xs ≡ Some r → n + length (filter (is_past b) xs) ≡ length xs → n + 1 ≤ length xs
count_within n xs b r up h e = omega (arith, ap length (filter_past_step b xs r up h), e)

pub count_end : (n : ℕ) (xs : List Row) (b : Option Row) → find (is_past b) xs ≡ None → n + length (filter (is_past b) xs) ≡ length xs → n ≡ length xs
count_end n xs b h e = omega (arith, ap length (filter_none_found (is_past b) xs h), e)
