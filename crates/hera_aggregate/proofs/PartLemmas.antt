-- Rows parted by their keys.
use Rattle.std.proofs.Common.{◌≡◌, ℕ, zero, suc, ◌+◌, ◌<◌, ◌≤◌, Bool, true, false, ◌||◌, List, [], ◌∷◌, ◌++◌, Some, length, take, drop, map, get_or, refl, sym, ap, ◌∙◌, subst, add-one, arith}
use Rattle.std.specs.List.{list_all, slice_get, slice_set}
use Rattle.std.proofs.lemmas.Bool.{both_ways, and_right}
use Rattle.std.proofs.lemmas.Option.{none-some, same_Some}
use Rattle.std.proofs.lemmas.List.{append-nil, map_push, take_all}
use Rattle.std.proofs.lemmas.List.Elements.{filter-append}
use Rattle.hera_sets.specs.Rows.{Row, is_below, is_same, IsBelowAll, IsAscending, holds, put, normal}
use Rattle.hera_sets.proofs.Order.{same_true, same_itself, before, level, behind, stands}
use Rattle.hera_sets.proofs.Lists.{ascending_filter, ascending_front}
use Rattle.hera_sets.proofs.Members.{normal_ascending, normal-push, holds-normal}
use Rattle.hera_meaning.specs.declared.schemas.Attr.{Attr}
use Rattle.hera_meaning.specs.Relations.{at_places, project_of}
use Rattle.hera_meaning.specs.Aggregates.{rows_of_key}

differs : (a b : Row) → is_below a b ≡ true → is_same a b ≡ false
differs a b h = elim (stands a b) [
  | before p q s ↦ s
  | level e p q s ↦ absurd (both_ways _ p h)
  | behind p q s ↦ s
]

differs_turned : (a b : Row) → is_below a b ≡ true → is_same b a ≡ false
differs_turned a b h = elim (stands b a) [
  | before p q s ↦ s
  | level e p q s ↦ absurd (both_ways _ q h)
  | behind p q s ↦ s
]

below_at : (k : Row) (ks : List Row) (i : ℕ) (x : Row) → IsBelowAll k ks → slice_get ks i ≡ Some x → is_below k x ≡ true
below_at k [] i x all h = absurd (none-some x h)
below_at k (y ∷ ks) zero x all h = subst (λ z. is_below k z ≡ true) (same_Some y x h) all.0
below_at k (y ∷ ks) (suc i) x all h = below_at k ks i x all.1 h

-- the rows of another key stay
other_part : (schema : List Attr) (by : List ℕ) (k row : Row) (done : List Row) → is_same (at_places schema by row) k ≡ false → rows_of_key schema by k done ≡ rows_of_key schema by k (done ++ row ∷ [])
other_part schema by k row done h =
    let none : rows_of_key schema by k (row ∷ []) ≡ [] = rw h refl in
    sym (filter-append (λ x. is_same (at_places schema by x) k) done (row ∷ []) ∙ ap (λ t. rows_of_key schema by k done ++ t) none ∙ append-nil (rows_of_key schema by k done))

other_parts : (schema : List Attr) (by : List ℕ) (key row : Row) (done ks : List Row) → at_places schema by row ≡ key → IsBelowAll key ks → map (λ k. rows_of_key schema by k done) ks ≡ map (λ k. rows_of_key schema by k (done ++ row ∷ [])) ks
other_parts schema by key row done [] e all = refl
other_parts schema by key row done (k ∷ ks) e all =
    λ i. other_part schema by k row done (ap (λ z. is_same z k) e ∙ differs key k all.0) i ∷ other_parts schema by key row done ks e all.1 i

-- a row more of its own key
own_part : (schema : List Attr) (by : List ℕ) (k row : Row) (done : List Row) → IsAscending (done ++ row ∷ []) → at_places schema by row ≡ k → put row (rows_of_key schema by k done) ≡ rows_of_key schema by k (done ++ row ∷ [])
own_part schema by k row done up e =
    let p : Row → Bool = λ x. is_same (at_places schema by x) k in
    let one : rows_of_key schema by k (row ∷ []) ≡ row ∷ [] = rw (ap (λ z. is_same z k) e ∙ same_itself k) refl in
    let whole : rows_of_key schema by k (done ++ row ∷ []) ≡ rows_of_key schema by k done ++ row ∷ [] = filter-append p done (row ∷ []) ∙ ap (λ t. rows_of_key schema by k done ++ t) one in
    ap (put row) (sym (normal_ascending (rows_of_key schema by k done) (ascending_filter p done (ascending_front done (row ∷ []) up))))
    ∙ sym (normal-push (rows_of_key schema by k done) row)
    ∙ ap normal (sym whole)
    ∙ normal_ascending (rows_of_key schema by k (done ++ row ∷ [])) (ascending_filter p (done ++ row ∷ []) up)

pub part_more : (schema : List Attr) (by : List ℕ) (keys done : List Row) (row : Row) (i : ℕ) → IsAscending keys → IsAscending (done ++ row ∷ []) → slice_get keys i ≡ Some (at_places schema by row)
    → slice_set (map (λ k. rows_of_key schema by k done) keys) i (put row (get_or (map (λ k. rows_of_key schema by k done) keys) i [])) ≡ map (λ k. rows_of_key schema by k (done ++ row ∷ [])) keys
part_more schema by [] done row i up more at = absurd (none-some (at_places schema by row) at)
part_more schema by (k ∷ ks) done row zero up more at =
    let key : at_places schema by row ≡ k = sym (same_Some k (at_places schema by row) at) in
    λ i. own_part schema by k row done more key i ∷ other_parts schema by k row done ks key up.0 i
part_more schema by (k ∷ ks) done row (suc n) up more at =
    λ i. other_part schema by k row done (differs_turned k (at_places schema by row) (below_at k ks n (at_places schema by row) up.0 at)) i ∷ part_more schema by ks done row n up.1 more at i

-- the part at a place is of the key there
pub part_of : (f : Row → List Row) (keys : List Row) (parts : List (List Row)) (i : ℕ) (k : Row) (b : List Row) → parts ≡ map f keys → slice_get keys i ≡ Some k → slice_get parts i ≡ Some b → b ≡ f k
part_of f keys parts i k b e at h = by keys i at (ap (λ t. slice_get t i) (sym e) ∙ h)
  where
    by : (keys : List Row) (i : ℕ) → slice_get keys i ≡ Some k → slice_get (map f keys) i ≡ Some b → b ≡ f k
    by [] i at h = absurd (none-some k at)
    by (x ∷ xs) zero at h = sym (same_Some (f x) b h) ∙ ap f (same_Some x k at)
    by (x ∷ xs) (suc i) at h = by xs i at h

pub parts_length : (f : Row → List Row) (keys : List Row) (parts : List (List Row)) → parts ≡ map f keys → length parts ≡ length keys
parts_length f keys parts e = ap length e ∙ by keys
  where
    by : (keys : List Row) → length (map f keys) ≡ length keys
    by [] = refl
    by (x ∷ xs) = omega (arith, by xs)

pub within_at : (keys : List Row) (i : ℕ) (k : Row) → slice_get keys i ≡ Some k → i < length keys
within_at [] i k h = absurd (none-some k h)
within_at (x ∷ xs) zero k h = omega arith
within_at (x ∷ xs) (suc i) k h = omega (arith, within_at xs i k h)

pub take_next : (xs : List Row) (i : ℕ) (x : Row) → slice_get xs i ≡ Some x → take (i + 1) xs ≡ take i xs ++ x ∷ []
take_next xs i x h = ap (λ n. take n xs) (add-one i) ∙ by xs i h
  where
    by : (xs : List Row) (i : ℕ) → slice_get xs i ≡ Some x → take (suc i) xs ≡ take i xs ++ x ∷ []
    by [] i g = absurd (none-some x g)
    by (y ∷ ys) zero g = ap (λ z. z ∷ []) (same_Some y x g)
    by (y ∷ ys) (suc i) g = ap (λ t. y ∷ t) (by ys i g)

pub fails_at : (p : Row → Bool) (xs : List Row) (i : ℕ) (x : Row) → p x ≡ false → slice_get xs i ≡ Some x → list_all p xs ≡ false
fails_at p [] i x otherwise h = absurd (none-some x h)
fails_at p (y ∷ ys) zero x otherwise h = rw (ap p (same_Some y x h) ∙ otherwise) refl
fails_at p (y ∷ ys) (suc i) x otherwise h = and_right (p y) (list_all p ys) (fails_at p ys i x otherwise h)

-- the key of a row is one of the keys
held_image : (f : Row → Row) (ys : List Row) (q : Row) → holds ys q ≡ true → holds (map f ys) (f q) ≡ true
held_image f [] q h = h
held_image f (y ∷ ys) q h = by (held_image f ys q) (is_same q y) refl
  where
    by : (holds ys q ≡ true → holds (map f ys) (f q) ≡ true) → (v : Bool) → is_same q y ≡ v → holds (map f (y ∷ ys)) (f q) ≡ true
    by more true e = rw (ap (λ z. is_same (f q) (f z)) (sym (same_true q y e)) ∙ same_itself (f q)) refl
    by more false e = elim (is_same (f q) (f y)) as (λ w. (w || holds (map f ys) (f q)) ≡ true) [ true ↦ refl | false ↦ more (rw e at h) ]

pub key_held : (schema : List Attr) (by : List ℕ) (rows : List Row) (row : Row) → holds rows row ≡ true → holds (project_of schema by rows) (at_places schema by row) ≡ true
key_held schema by rows row h = holds-normal (map (at_places schema by) rows) (at_places schema by row) ∙ held_image (at_places schema by) rows row h

-- the search goes on behind another key
pub held_behind : (keys : List Row) (i : ℕ) (key x : Row) → slice_get keys i ≡ Some x → is_same key x ≡ false → holds (drop i keys) key ≡ true → holds (drop (i + 1) keys) key ≡ true
held_behind keys i key x at s h = ap (λ n. holds (drop n keys) key) (add-one i) ∙ by keys i at h
  where
    by : (keys : List Row) (i : ℕ) → slice_get keys i ≡ Some x → holds (drop i keys) key ≡ true → holds (drop (suc i) keys) key ≡ true
    by [] i g h = absurd (none-some x g)
    by (y ∷ ys) zero g h = rw (ap (is_same key) (same_Some y x g) ∙ s) at h
    by (y ∷ ys) (suc i) g h = by ys i g h

-- no rows for one key more
pub parts_push : (keys : List Row) (i : ℕ) (k : Row) (parts after : List (List Row)) (one : List Row) → slice_get keys i ≡ Some k → one ≡ [] → parts ≡ map (λ key. []) (take i keys) → after ≡ parts ++ one ∷ [] → after ≡ map (λ key. []) (take (i + 1) keys)
parts_push keys i k parts after one at e p g =
    let none : Row → List Row = λ key. [] in
    g ∙ (λ j. p j ++ e j ∷ []) ∙ sym (ap (map none) (take_next keys i k at) ∙ map_push none (take i keys) k)

pub parts_end : (keys : List Row) (i : ℕ) (parts : List (List Row)) → length keys ≤ i → parts ≡ map (λ key. []) (take i keys) → parts ≡ map (λ key. []) keys
parts_end keys i parts h p =
    let none : Row → List Row = λ key. [] in
    p ∙ ap (map none) (take_all i keys h)

pub get_or_any : (parts : List (List Row)) (i : ℕ) (d e : List Row) → i < length parts → get_or parts i d ≡ get_or parts i e
get_or_any [] i d e h = absurd (omega (arith, h))
get_or_any (x ∷ xs) zero d e h = refl
get_or_any (x ∷ xs) (suc i) d e h = get_or_any xs i d e (omega (arith, h))
