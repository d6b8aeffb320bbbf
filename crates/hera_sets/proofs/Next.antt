-- The first row past a bound, by the members alone.
use Rattle.std.proofs.Common.{◌≡◌, Bool, true, false, cond, ◌||◌, List, [], ◌∷◌, ◌++◌, Option, Some, None, refl, sym, ap, ◌∙◌, subst, inl, inr}
use Rattle.std.specs.List.{filter, find}
use Rattle.std.proofs.lemmas.Bool.{both_ways, false≢true, or_left, or_right, or_cases, false_from_ne_true}
use Rattle.hera_sets.specs.Rows.{Row, is_below, is_same, is_past, IsBelowAll, IsAscending, holds, normal}
use Rattle.hera_sets.specs.Sets.{union_of, least_of}
use Rattle.hera_sets.specs.NextRow.{IsNext, nothing, next}
use Rattle.hera_sets.proofs.Order.{below_trans, same_true, same_itself, before, level, behind, stands}
use Rattle.hera_sets.proofs.Lists.{none_held, all_below_trans, ascending_filter}
use Rattle.hera_sets.proofs.Lists.{filter_past_step, filter_none_found}
use Rattle.hera_sets.proofs.Members.{normal_ascending, ascending_normal, holds-normal, holds-append}

-- a held row is not below a row that is below all
not_below_first : (x : Row) (xs : List Row) (q : Row) → IsBelowAll x xs → holds (x ∷ xs) q ≡ true → is_below q x ≡ false
not_below_first x xs q all h =
    elim (is_below q x) as (λ v. is_below q x ≡ v → v ≡ false) [
      | true ↦ λ e. absurd (both_ways _ (none_held q (x ∷ xs) (e, all_below_trans q x xs e all)) h)
      | false ↦ λ e. refl
    ] refl

pub find_is_next : (b : Option Row) (xs : List Row) → IsAscending xs → IsNext (holds xs) b (find (is_past b) xs)
find_is_next b [] up = nothing (λ q h. absurd (false≢true h))
find_is_next b (x ∷ xs) up =
    elim (is_past b x) as (λ v. is_past b x ≡ v → IsNext (holds (x ∷ xs)) b (cond v (Some x) (find (is_past b) xs))) [
      | true ↦ λ e. next x (or_left _ _ (same_itself x)) e (λ q h _. not_below_first x xs q up.0 h)
      | false ↦ λ e. more (find (is_past b) xs) e (find_is_next b xs up.1)
    ] refl
  where
    here : is_past b x ≡ false → (q : Row) → holds (x ∷ xs) q ≡ true → is_past b q ≡ true → holds xs q ≡ true
    here e q h p = elim (or_cases (is_same q x) (holds xs q) h) [ inl s ↦ absurd (both_ways _ (ap (is_past b) (same_true q x s) ∙ e) p) | inr g ↦ g ]

    more : (o : Option Row) → is_past b x ≡ false → IsNext (holds xs) b o → IsNext (holds (x ∷ xs)) b o
    more None e (nothing f) = nothing (λ q h. false_from_ne_true (is_past b q) (λ p. both_ways _ (f q (here e q h p)) p))
    more (Some r) e (next _ m p least) = next r (or_right _ _ m) p (λ q h g. least q (here e q h g) g)

-- there is one such row
pub one_next : (m : Row → Bool) (b o p : Option Row) → IsNext m b o → IsNext m b p → o ≡ p
one_next m b None None h g = refl
one_next m b None (Some r) (nothing f) (next _ mr pr least) = absurd (both_ways _ (f r mr) pr)
one_next m b (Some r) None (next _ mr pr least) (nothing f) = absurd (both_ways _ (f r mr) pr)
one_next m b (Some r) (Some s) (next _ mr pr least) (next _ ms ps least') =
    elim (stands r s) [
      | before p q e ↦ absurd (both_ways _ (least' r mr pr) p)
      | level e p q f ↦ ap Some e
      | behind p q e ↦ absurd (both_ways _ (least s ms ps) p)
    ]

-- the same by another test that answers alike
pub next_alike : (m t : Row → Bool) (b o : Option Row) → ((q : Row) → m q ≡ t q) → IsNext m b o → IsNext t b o
next_alike m t b None e (nothing f) = nothing (λ q h. f q (e q ∙ h))
next_alike m t b (Some r) e (next _ mr pr least) = next r (sym (e r) ∙ mr) pr (λ q h g. least q (e q ∙ h) g)

-- so what is next by the members is what `find` gives
pub next_is_find : (m : Row → Bool) (b o : Option Row) (xs : List Row) → IsAscending xs → ((q : Row) → m q ≡ holds xs q) → IsNext m b o → o ≡ find (is_past b) xs
next_is_find m b o xs up e h = one_next (holds xs) b o (find (is_past b) xs) (next_alike m (holds xs) b o e h) (find_is_next b xs up)

-- the lesser of two is next by either test
pub next_least : (m t : Row → Bool) (b o p : Option Row) → IsNext m b o → IsNext t b p → IsNext (λ q. m q || t q) b (least_of o p)
next_least m t b None None (nothing f) (nothing g) = nothing (λ q h. elim (or_cases (m q) (t q) h) [ inl i ↦ f q i | inr i ↦ g q i ])
next_least m t b None (Some s) (nothing f) (next _ ts ps least) =
    next s (or_right _ _ ts) ps (λ q h i. elim (or_cases (m q) (t q) h) [ inl k ↦ absurd (both_ways _ (f q k) i) | inr k ↦ least q k i ])
next_least m t b (Some r) None (next _ mr pr least) (nothing g) =
    next r (or_left _ _ mr) pr (λ q h i. elim (or_cases (m q) (t q) h) [ inl k ↦ least q k i | inr k ↦ absurd (both_ways _ (g q k) i) ])
next_least m t b (Some r) (Some s) (next _ mr pr least) (next _ ts ps least') =
    elim (is_below s r) as (λ v. is_below s r ≡ v → IsNext (λ q. m q || t q) b (cond v (Some s) (Some r))) [
      | true ↦ λ e. next s (or_right _ _ ts) ps (λ q h i. elim (or_cases (m q) (t q) h) [ inl k ↦ chain q e (least q k i) | inr k ↦ least' q k i ])
      | false ↦ λ e. next r (or_left _ _ mr) pr (λ q h i. elim (or_cases (m q) (t q) h) [ inl k ↦ least q k i | inr k ↦ back q e (least' q k i) ])
    ] refl
  where
    -- s below r, q not below r: q is not below s
    chain : (q : Row) → is_below s r ≡ true → is_below q r ≡ false → is_below q s ≡ false
    chain q e f = false_from_ne_true (is_below q s) (λ g. both_ways _ f (below_trans q s r g e))

    -- s not below r, q not below s: q is not below r
    back : (q : Row) → is_below s r ≡ false → is_below q s ≡ false → is_below q r ≡ false
    back q e f = false_from_ne_true (is_below q r) (λ g. elim (stands q s) [
      | before p i j ↦ both_ways _ f p
      | level k p i j ↦ both_ways _ e (subst (λ z. is_below z r ≡ true) k g)
      | behind p i j ↦ both_ways _ e (below_trans s q r p g)
    ])

pub find-union : (b : Option Row) (xs ys : List Row) → IsAscending xs → IsAscending ys → least_of (find (is_past b) xs) (find (is_past b) ys) ≡ find (is_past b) (union_of xs ys)
find-union b xs ys up vp =
    next_is_find (λ q. holds xs q || holds ys q) b _ (union_of xs ys) (ascending_normal (xs ++ ys)) (λ q. sym (holds-normal (xs ++ ys) q ∙ holds-append xs ys q))
    (next_least (holds xs) (holds ys) b _ _ (find_is_next b xs up) (find_is_next b ys vp))

-- the first row that passes both tests, whichever is asked first
pub find-filter : (p t : Row → Bool) (xs : List Row) → find p (filter t xs) ≡ find t (filter p xs)
find-filter p t [] = refl
find-filter p t (x ∷ xs) =
    elim (p x) as (λ v. p x ≡ v → find p (cond (t x) (x ∷ filter t xs) (filter t xs)) ≡ find t (cond v (x ∷ filter p xs) (filter p xs))) [
      | true ↦ λ e. elim (t x) as (λ w. find p (cond w (x ∷ filter t xs) (filter t xs)) ≡ cond w (Some x) (find t (filter p xs))) [ true ↦ rw e refl | false ↦ find-filter p t xs ]
      | false ↦ λ e. elim (t x) as (λ w. find p (cond w (x ∷ filter t xs) (filter t xs)) ≡ find t (filter p xs)) [ true ↦ rw e (find-filter p t xs) | false ↦ find-filter p t xs ]
    ] refl

-- a row that does not pass is left behind
pub find-filter_past_step : (t : Row → Bool) (b : Option Row) (xs : List Row) (r : Row) → IsAscending xs → find (is_past b) xs ≡ Some r → t r ≡ false → find t (filter (is_past (Some r)) xs) ≡ find t (filter (is_past b) xs)
find-filter_past_step t b xs r up h e = sym (ap (find t) (filter_past_step b xs r up h) ∙ rw e refl)

-- one that passes is the first
pub find-filter_past_found : (t : Row → Bool) (b : Option Row) (xs : List Row) (r : Row) → IsAscending xs → find (is_past b) xs ≡ Some r → t r ≡ true → Some r ≡ find t (filter (is_past b) xs)
find-filter_past_found t b xs r up h e = sym (ap (find t) (filter_past_step b xs r up h) ∙ rw e refl)

pub find-filter_past_none : (t : Row → Bool) (b : Option Row) (xs : List Row) → find (is_past b) xs ≡ None → None ≡ find t (filter (is_past b) xs)
find-filter_past_none t b xs h = sym (ap (find t) (filter_none_found (is_past b) xs h))

pub find-minus : (t : Row → Bool) (b : Option Row) (xs : List Row) → IsAscending xs → find t (filter (is_past b) xs) ≡ find (is_past b) (normal (filter t xs))
find-minus t b xs up = sym (ap (find (is_past b)) (normal_ascending (filter t xs) (ascending_filter t xs up)) ∙ find-filter (is_past b) t xs)
