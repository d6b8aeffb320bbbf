-- Rows that begin with given bytes: how they stand, and where they are found.
use Rattle.std.proofs.Common.{◌≡◌, ℕ, Bool, true, false, ◌&&◌, ◌||◌, List, [], ◌∷◌, ◌++◌, Option, Some, None, length, take, drop, refl, sym, ap, ◌∙◌, subst, inl, inr, arith}
use Rattle.std.specs.List.{filter, find}
use Rattle.std.proofs.lemmas.Bool.{both_ways, cases_order, eq-eqb, and_from, and_parts, and_right, false_from_ne_true, true≢false}
use Rattle.std.proofs.lemmas.List.{take-append-drop, take_at, take_all}
use Rattle.hera_sets.specs.Rows.{Row, is_below, is_same, is_past, IsBelowAll, IsAscending, holds}
use Rattle.hera_sets.specs.NextRow.{IsNext, nothing, next}
use Rattle.hera_sets.proofs.Order.{below_trans, below_not, same_true, same_itself, same_cons, below_cons_less, below_cons_same, before, level, behind, stands}
use Rattle.hera_sets.proofs.Lists.{past_trans, ascending_filter}
use Rattle.hera_sets.proofs.Members.{holds-filter}
use Rattle.hera_sets.proofs.Next.{find_is_next, next_is_find}
use Rattle.hera_rows.specs.Froms.{is_from}
use Rattle.hera_rows.proofs.FromLemmas.{from_held, from_absent}
use Rattle.rel_algebra.specs.Fronts.{begins, begun_of, begun_in, rows_behind}

-- ---- rows behind one front

pub below-behind : (k a b : Row) → is_below (k ++ a) (k ++ b) ≡ is_below a b
below-behind [] a b = refl
below-behind (n ∷ k) a b = below_cons_same n (k ++ a) (k ++ b) ∙ below-behind k a b

pub same-behind : (k a b : Row) → is_same (k ++ a) (k ++ b) ≡ is_same a b
same-behind [] a b = refl
same-behind (n ∷ k) a b = same_cons n n (k ++ a) (k ++ b) ∙ rw (eq-eqb n n refl) (same-behind k a b)

below_none : (x : Row) → is_below x [] ≡ false
unfolding is_below
below_none [] = refl
below_none (n ∷ x) = refl

-- a row that begins with k does not stand before k
pub not_below_front : (k x : Row) → is_below (k ++ x) k ≡ false
not_below_front [] x = below_none x
not_below_front (n ∷ k) x = below_cons_same n (k ++ x) k ∙ not_below_front k x

-- the front and what is behind it are the row
pub begins_whole : (k r : Row) → begins k r ≡ true → k ++ drop (length k) r ≡ r
begins_whole k r h = ap (λ t. t ++ drop (length k) r) (sym (same_true (take (length k) r) k h)) ∙ take-append-drop (length k) r

pub begins_from : (k r : Row) → take (length k) r ≡ k → begins k r ≡ true
begins_from k r h = ap (λ t. is_same t k) h ∙ same_itself k

pub begins-behind : (k x : Row) → begins k (k ++ x) ≡ true
begins-behind k x = begins_from k (k ++ x) (take_at k x (length k) refl)

begins_itself : (k : Row) → begins k k ≡ true
begins_itself k = begins_from k k (take_all (length k) k (omega arith))

not_before_front : (k q : Row) → begins k q ≡ true → is_below q k ≡ false
not_before_front k q h = subst (λ z. is_below z k ≡ false) (begins_whole k q h) (not_below_front k (drop (length k) q))

-- what is past k and not past a row that begins with k begins with k too
between : (k r x : Row) → is_below k r ≡ true → is_below (k ++ x) r ≡ false → take (length k) r ≡ k
between [] r x h g = refl
between (n ∷ k) [] x h g = absurd (both_ways _ (below_none (n ∷ k)) h)
between (n ∷ k) (m ∷ r) x h g =
    elim (cases_order n m) [
      | inl e ↦
          let P : ℕ → Type 0 = λ z. is_below (n ∷ k) (z ∷ r) ≡ true → is_below (n ∷ (k ++ x)) (z ∷ r) ≡ false → z ∷ take (length k) r ≡ n ∷ k in
          subst P e (λ h g. ap (λ t. n ∷ t) (between k r x (sym (below_cons_same n k r) ∙ h) (sym (below_cons_same n (k ++ x) r) ∙ g))) h g
      | inr (inl lt) ↦ absurd (both_ways _ g (below_cons_less n m (k ++ x) r lt))
      | inr (inr gt) ↦ absurd (both_ways _ (below_not (m ∷ r) (n ∷ k) (below_cons_less m n r k gt)) h)
    ]

and_true : (a : Bool) → a ≡ (a && true)
and_true true = refl
and_true false = refl

pub holds_begun : (front : Row) (xs : List Row) (q : Row) → holds xs q ≡ true → begins front q ≡ holds (begun_of front xs) q
holds_begun front xs q h = and_true (begins front q) ∙ ap (λ v. begins front q && v) (sym h) ∙ sym (holds-filter (begins front) xs q)

pub holds_not_begun : (front : Row) (xs : List Row) (q : Row) → holds xs q ≡ false → false ≡ holds (begun_of front xs) q
holds_not_begun front xs q h = sym (holds-filter (begins front) xs q ∙ and_right (begins front q) (holds xs q) h)

-- ---- where they are found

-- a search from s finds the rows past b that begin with the front
pub record Starts (front : Row) (xs : List Row) (b s : Option Row) : Type 0 where
  pub alike : (q : Row) → begins front q ≡ true → holds xs q ≡ true → is_past b q ≡ is_past s q
  pub after : (r : Row) → is_past s r ≡ true → is_below front r ≡ true

pub starts_at_front : (front : Row) (xs : List Row) (b : Option Row) → is_past b front ≡ true → holds xs front ≡ false → Starts front xs b (Some front)
starts_at_front front xs b past absent =
    record {
      alike = λ q m h. past_trans b front q past (above q m h) ∙ sym (above q m h);
      after = λ r h. h;
    }
  where
    above : (q : Row) → begins front q ≡ true → holds xs q ≡ true → is_below front q ≡ true
    above q m h = elim (stands front q) [
      | before p _ _ ↦ p
      | level e _ _ _ ↦ absurd (both_ways _ absent (subst (λ z. holds xs z ≡ true) (sym e) h))
      | behind p _ _ ↦ absurd (both_ways _ (not_before_front front q m) p)
    ]

pub starts_at_bound : (front : Row) (xs : List Row) (b : Option Row) → is_past b front ≡ false → Starts front xs b b
starts_at_bound front xs b h = record { alike = λ q _ _. refl; after = after b h }
  where
    after : (b : Option Row) → is_past b front ≡ false → (r : Row) → is_past b r ≡ true → is_below front r ≡ true
    after None g r p = absurd (true≢false g)
    after (Some c) g r p = elim (stands c front) [
      | before i _ _ ↦ absurd (both_ways _ g i)
      | level e _ _ _ ↦ subst (λ z. is_below z r ≡ true) e p
      | behind i _ _ ↦ below_trans front c r i p
    ]

-- what is next by the members is what is found
is_found : (front : Row) (xs : List Row) (b o : Option Row) → IsAscending xs → IsNext (λ q. begins front q && holds xs q) b o → o ≡ find (is_past b) (begun_of front xs)
is_found front xs b o up n =
    next_is_find (λ q. begins front q && holds xs q) b o (filter (begins front) xs) (ascending_filter (begins front) xs up) (λ q. sym (holds-filter (begins front) xs q)) n

-- the front itself, where it is held
pub found_front : (front : Row) (xs : List Row) (b : Option Row) → IsAscending xs → is_past b front ≡ true → holds xs front ≡ true → Some front ≡ find (is_past b) (begun_of front xs)
found_front front xs b up past held =
    is_found front xs b (Some front) up (next front (and_from _ _ (begins_itself front) held) past (λ q h _. not_before_front front q (and_parts (begins front q) (holds xs q) h).0))

-- the row found from s, where it begins with the front
pub found_begun : (front : Row) (xs : List Row) (b s : Option Row) (r : Row) → IsAscending xs → Starts front xs b s → find (is_past s) xs ≡ Some r → begins front r ≡ true → Some r ≡ find (is_past b) (begun_of front xs)
found_begun front xs b s r up st e m = is_found front xs b (Some r) up (by (subst (IsNext (holds xs) s) e (find_is_next s xs up)))
  where
    by : IsNext (holds xs) s (Some r) → IsNext (λ q. begins front q && holds xs q) b (Some r)
    by (next _ mr pr least) =
        next r (and_from _ _ m mr) (st.alike r m mr ∙ pr) (λ q h g. least q (and_parts (begins front q) (holds xs q) h).1 (sym (st.alike q (and_parts (begins front q) (holds xs q) h).0 (and_parts (begins front q) (holds xs q) h).1) ∙ g))

-- none, where there is none from s
pub found_none : (front : Row) (xs : List Row) (b s : Option Row) → IsAscending xs → Starts front xs b s → find (is_past s) xs ≡ None → None ≡ find (is_past b) (begun_of front xs)
found_none front xs b s up st e = is_found front xs b None up (by (subst (IsNext (holds xs) s) e (find_is_next s xs up)))
  where
    by : IsNext (holds xs) s None → IsNext (λ q. begins front q && holds xs q) b None
    by (nothing f) = nothing (λ q h. st.alike q (and_parts (begins front q) (holds xs q) h).0 (and_parts (begins front q) (holds xs q) h).1 ∙ f q (and_parts (begins front q) (holds xs q) h).1)

-- none, where the row found from s begins otherwise
pub found_passed : (front : Row) (xs : List Row) (b s : Option Row) (r : Row) → IsAscending xs → Starts front xs b s → find (is_past s) xs ≡ Some r → begins front r ≡ false → None ≡ find (is_past b) (begun_of front xs)
found_passed front xs b s r up st e otherwise = is_found front xs b None up (by (subst (IsNext (holds xs) s) e (find_is_next s xs up)))
  where
    by : IsNext (holds xs) s (Some r) → IsNext (λ q. begins front q && holds xs q) b None
    by (next _ mr pr least) = nothing (λ q h. false_from_ne_true (is_past b q) (λ g.
        let m = (and_parts (begins front q) (holds xs q) h).0 in
        let held = (and_parts (begins front q) (holds xs q) h).1 in
        let not_before : is_below q r ≡ false = least q held (sym (st.alike q m held) ∙ g) in
        let passed : is_below (front ++ drop (length front) q) r ≡ false = subst (λ z. is_below z r ≡ false) (sym (begins_whole front q m)) not_before in
        both_ways _ otherwise (begins_from front r (between front r (drop (length front) q) (st.after r pr) passed))))

-- what is found from s, where it begins with the front
pub begun_past : (front : Row) (xs : List Row) (b s : Option Row) → IsAscending xs → Starts front xs b s → begun_in front (find (is_past s) xs) ≡ find (is_past b) (begun_of front xs)
begun_past front xs b s up st = by (find (is_past s) xs) refl
  where
    found : (r : Row) (v : Bool) → begins front r ≡ v → find (is_past s) xs ≡ Some r → begun_in front (Some r) ≡ find (is_past b) (begun_of front xs)
    found r true m e = rw m (found_begun front xs b s r up st e m)
    found r false m e = rw m (found_passed front xs b s r up st e m)

    by : (o : Option Row) → find (is_past s) xs ≡ o → begun_in front o ≡ find (is_past b) (begun_of front xs)
    by None e = found_none front xs b s up st e
    by (Some r) e = found r (begins front r) refl e

-- what is found from the front on
pub begun_from : (front : Row) (xs : List Row) (b : Option Row) → IsAscending xs → is_past b front ≡ true → begun_in front (find (is_from front) xs) ≡ find (is_past b) (begun_of front xs)
begun_from front xs b up past = by (holds xs front) refl
  where
    by : (v : Bool) → holds xs front ≡ v → begun_in front (find (is_from front) xs) ≡ find (is_past b) (begun_of front xs)
    by true held = ap (begun_in front) (sym (from_held front xs up held)) ∙ rw (begins_itself front) (found_front front xs b up past held)
    by false absent = ap (begun_in front) (sym (from_absent front xs absent)) ∙ begun_past front xs b (Some front) up (starts_at_front front xs b past absent)

-- ---- what lies behind a front

all_behind : (k t : Row) (ts : List Row) → begins k t ≡ true → IsBelowAll t ts → IsBelowAll (drop (length k) t) (rows_behind (length k) (begun_of k ts))
all_behind k t [] m all = tt
all_behind k t (s ∷ ts) m all = by (all_behind k t ts m all.1) (begins k s) refl
  where
    by : IsBelowAll (drop (length k) t) (rows_behind (length k) (begun_of k ts)) → (v : Bool) → begins k s ≡ v → IsBelowAll (drop (length k) t) (rows_behind (length k) (begun_of k (s ∷ ts)))
    by more true e =
        let below : is_below (drop (length k) t) (drop (length k) s) ≡ true = sym (below-behind k (drop (length k) t) (drop (length k) s)) ∙ (λ i. is_below (begins_whole k t m i) (begins_whole k s e i)) ∙ all.0 in
        rw e (below, more)
    by more false e = rw e more

pub ascending_behind : (k : Row) (ts : List Row) → IsAscending ts → IsAscending (rows_behind (length k) (begun_of k ts))
ascending_behind k [] up = tt
ascending_behind k (t ∷ ts) up = by (ascending_behind k ts up.1) (begins k t) refl
  where
    by : IsAscending (rows_behind (length k) (begun_of k ts)) → (v : Bool) → begins k t ≡ v → IsAscending (rows_behind (length k) (begun_of k (t ∷ ts)))
    by more true e = rw e (all_behind k t ts e up.0, more)
    by more false e = rw e more

pub holds-behind : (k x : Row) (ts : List Row) → holds (rows_behind (length k) (begun_of k ts)) x ≡ holds ts (k ++ x)
holds-behind k x [] = refl
holds-behind k x (t ∷ ts) = by (holds-behind k x ts) (begins k t) refl
  where
    by : holds (rows_behind (length k) (begun_of k ts)) x ≡ holds ts (k ++ x) → (v : Bool) → begins k t ≡ v → holds (rows_behind (length k) (begun_of k (t ∷ ts))) x ≡ holds (t ∷ ts) (k ++ x)
    by more true e =
        let here : is_same x (drop (length k) t) ≡ is_same (k ++ x) t = sym (same-behind k x (drop (length k) t)) ∙ ap (is_same (k ++ x)) (begins_whole k t e) in
        rw e (λ i. here i || more i)
    by more false e =
        let other : is_same (k ++ x) t ≡ false = false_from_ne_true _ (λ s. both_ways _ e (ap (begins k) (sym (same_true (k ++ x) t s)) ∙ begins-behind k x)) in
        rw (e, other) more
