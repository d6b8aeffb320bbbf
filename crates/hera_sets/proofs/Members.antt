-- An ascending list is what its members make it.
use Rattle.std.proofs.Common.{◌≡◌, Bool, true, false, cond, not, ◌||◌, ◌&&◌, List, [], ◌∷◌, ◌++◌, refl, sym, ap, ◌∙◌, subst}
use Rattle.std.specs.List.{filter}
use Rattle.std.proofs.lemmas.Bool.{both_ways, false≢true}
use Rattle.hera_sets.specs.Rows.{Row, is_same, IsAscending, holds, put, normal}
use Rattle.hera_sets.specs.Sets.{union_of, minus_of, inter_of}
use Rattle.hera_sets.proofs.Order.{same_true, same_itself, before, level, behind, stands}
use Rattle.hera_sets.proofs.Lists.{none_held, all_below_trans, ascending_put}

pub ascending_normal : (xs : List Row) → IsAscending (normal xs)
ascending_normal [] = tt
ascending_normal (x ∷ xs) = ascending_put x (normal xs) (ascending_normal xs)

or_swap : (a b c : Bool) → (a || (b || c)) ≡ (b || (a || c))
or_swap true true c = refl
or_swap true false c = refl
or_swap false b c = refl

same_or : (a b : Bool) → (a || (a || b)) ≡ (a || b)
same_or true b = refl
same_or false b = refl

pub holds-put : (x : Row) (ys : List Row) (q : Row) → holds (put x ys) q ≡ (is_same q x || holds ys q)
holds-put x [] q = refl
holds-put x (y ∷ ys) q =
    elim (stands x y) [
      | before p r s ↦ rw p refl
      | level e p r s ↦ rw (p, r) (sym (same_or (is_same q y) (holds ys q)) ∙ ap (λ z. is_same q z || (is_same q y || holds ys q)) (sym e))
      | behind p r s ↦ rw (r, p) (ap (λ b. is_same q y || b) (holds-put x ys q) ∙ or_swap (is_same q y) (is_same q x) (holds ys q))
    ]

pub holds-normal : (xs : List Row) (q : Row) → holds (normal xs) q ≡ holds xs q
holds-normal [] q = refl
holds-normal (x ∷ xs) q = holds-put x (normal xs) q ∙ ap (λ b. is_same q x || b) (holds-normal xs q)

or_assoc : (a b c : Bool) → ((a || b) || c) ≡ (a || (b || c))
or_assoc true b c = refl
or_assoc false b c = refl

pub holds-append : (xs ys : List Row) (q : Row) → holds (xs ++ ys) q ≡ (holds xs q || holds ys q)
holds-append [] ys q = refl
holds-append (x ∷ xs) ys q = ap (λ b. is_same q x || b) (holds-append xs ys q) ∙ sym (or_assoc (is_same q x) (holds xs q) (holds ys q))

-- what a filter does to one row more, from what it does to the rest
filter_more : (t : Row → Bool) (x q : Row) (kept rest : List Row) → holds kept q ≡ (t q && holds rest q) → (s v : Bool) → is_same q x ≡ s → t x ≡ v → holds (cond v (x ∷ kept) kept) q ≡ (t q && (s || holds rest q))
filter_more t x q kept rest h true true e g = rw (e, ap t (same_true q x e), g) refl
filter_more t x q kept rest h true false e g = h ∙ rw (ap t (same_true q x e), g) refl
filter_more t x q kept rest h false true e g = rw e h
filter_more t x q kept rest h false false e g = h

pub holds-filter : (t : Row → Bool) (xs : List Row) (q : Row) → holds (filter t xs) q ≡ (t q && holds xs q)
holds-filter t [] q = elim (t q) as (λ b. false ≡ (b && false)) [ true ↦ refl | false ↦ refl ]
holds-filter t (x ∷ xs) q = filter_more t x q (filter t xs) xs (holds-filter t xs q) (is_same q x) (t x) refl refl

-- two ascending lists with the same members are one
pub same_rows : (xs ys : List Row) → IsAscending xs → IsAscending ys → ((q : Row) → holds xs q ≡ holds ys q) → xs ≡ ys
same_rows [] [] up vp h = refl
same_rows [] (y ∷ ys) up vp h = absurd (false≢true (h y ∙ ap (λ b. b || holds ys y) (same_itself y)))
same_rows (x ∷ xs) [] up vp h = absurd (false≢true (sym (h x) ∙ ap (λ b. b || holds xs x) (same_itself x)))
same_rows (x ∷ xs) (y ∷ ys) up vp h =
    elim (stands x y) [
      | before p r s ↦ absurd (both_ways _ (none_held x (y ∷ ys) (p, all_below_trans x y ys p vp.0)) (sym (h x) ∙ ap (λ b. b || holds xs x) (same_itself x)))
      | level e p r s ↦ λ i. e i ∷ same_rows xs ys up.1 vp.1 (tails e) i
      | behind p r s ↦ absurd (both_ways _ (none_held y (x ∷ xs) (p, all_below_trans y x xs p up.0)) (h y ∙ ap (λ b. b || holds ys y) (same_itself y)))
    ]
  where
    tail : (s : Bool) (q : Row) → is_same q x ≡ s → is_same q y ≡ s → x ≡ y → (s || holds xs q) ≡ (s || holds ys q) → holds xs q ≡ holds ys q
    tail true q a b e g =
        rw (same_true q x a) (none_held x xs up.0 ∙ sym (subst (λ z. holds ys z ≡ false) (sym e) (none_held y ys vp.0)))
    tail false q a b e g = g

    tails : x ≡ y → (q : Row) → holds xs q ≡ holds ys q
    tails e q = tail (is_same q x) q refl (ap (is_same q) (sym e)) e (h q ∙ ap (λ z. is_same q z || holds ys q) (sym e))

pub normal_ascending : (xs : List Row) → IsAscending xs → normal xs ≡ xs
normal_ascending xs up = same_rows (normal xs) xs (ascending_normal xs) up (holds-normal xs)

pub holds-union : (xs ys : List Row) (q : Row) → holds (union_of xs ys) q ≡ (holds xs q || holds ys q)
holds-union xs ys q = holds-normal (xs ++ ys) q ∙ holds-append xs ys q

pub holds-minus : (xs ys : List Row) (q : Row) → holds (minus_of xs ys) q ≡ (not (holds ys q) && holds xs q)
holds-minus xs ys q = holds-normal _ q ∙ holds-filter (λ r. not (holds ys r)) xs q

pub holds-inter : (xs ys : List Row) (q : Row) → holds (inter_of xs ys) q ≡ (holds ys q && holds xs q)
holds-inter xs ys q = holds-normal _ q ∙ holds-filter (holds ys) xs q

or_last : (a b : Bool) → (a || (b || false)) ≡ (b || a)
or_last true true = refl
or_last true false = refl
or_last false true = refl
or_last false false = refl

-- one member more
pub normal-push : (xs : List Row) (x : Row) → normal (xs ++ x ∷ []) ≡ put x (normal xs)
normal-push xs x =
    same_rows (normal (xs ++ x ∷ [])) (put x (normal xs)) (ascending_normal (xs ++ x ∷ [])) (ascending_put x (normal xs) (ascending_normal xs)) (λ q.
    holds-normal (xs ++ x ∷ []) q ∙ holds-append xs (x ∷ []) q ∙ or_last (holds xs q) (is_same q x)
    ∙ sym (holds-put x (normal xs) q ∙ ap (λ b. is_same q x || b) (holds-normal xs q)))
