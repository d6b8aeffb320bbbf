-- Blocks of rows in order: where a row is at home among them, and what a change of that block does to all rows.
use Rattle.std.proofs.Common.{◌≡◌, ℕ, zero, suc, ◌+◌, ◌<◌, ◌≤◌, Bool, true, false, cond, not, ◌||◌, List, [], ◌∷◌, ◌++◌, Some, None, length, take, drop, get_or, refl, sym, ap, ◌∙◌, subst, arith, add-one, take-append-drop}
use Rattle.std.specs.List.{find, slice_get, remove, slice_set}
use Rattle.std.proofs.lemmas.Bool.{both_ways}
use Rattle.std.proofs.lemmas.Option.{none-some, same_Some}
use Rattle.std.proofs.lemmas.List.{set_split, drop_more, drop_all}
use Rattle.std.proofs.lemmas.List.Concat.{flat_map-append}
use Rattle.hera_sets.specs.Rows.{Row, is_below, is_same, IsBelowAll, IsAscending, holds, put, without}
use Rattle.hera_sets.proofs.Order.{below_trans, before, level, behind, stands, below_not}
use Rattle.hera_sets.proofs.Lists.{none_held, all_below_trans, without-absent}
use Rattle.hera_rows.specs.Blocks.{joined, AreFilled, AreBelow, AreInOrder, IsHome}

-- the block that stands at a place
pub block_split : (bs : List (List Row)) (i : ℕ) (b : List Row) → i < length bs → b ≡ get_or bs i b → bs ≡ take i bs ++ b ∷ drop (suc i) bs
block_split bs i b h e =
    sym (take-append-drop i bs) ∙ ap (λ t. take i bs ++ t) (drop_more bs i b h ∙ (λ k. sym e k ∷ drop (add-one i k) bs))

pub joined_split : (bs : List (List Row)) (i : ℕ) (b : List Row) → i < length bs → b ≡ get_or bs i b → joined bs ≡ joined (take i bs) ++ (b ++ joined (drop (suc i) bs))
joined_split bs i b h e = ap joined (block_split bs i b h e) ∙ flat_map-append (λ (x : List Row). x) (take i bs) (b ∷ drop (suc i) bs)

pub joined_set : (bs : List (List Row)) (i : ℕ) (c : List Row) → i < length bs → joined (slice_set bs i c) ≡ joined (take i bs) ++ (c ++ joined (drop (suc i) bs))
joined_set bs i c h = ap joined (set_split bs i c h) ∙ flat_map-append (λ (x : List Row). x) (take i bs) (c ∷ drop (suc i) bs)

pub joined_remove : (bs : List (List Row)) (i : ℕ) → joined (remove bs i) ≡ joined (take i bs) ++ joined (drop (suc i) bs)
joined_remove bs i = flat_map-append (λ (x : List Row). x) (take i bs) (drop (suc i) bs)

-- order of parts
all_below_front : (x : Row) (ys zs : List Row) → IsBelowAll x (ys ++ zs) → IsBelowAll x ys
all_below_front x [] zs h = tt
all_below_front x (y ∷ ys) zs h = (h.0, all_below_front x ys zs h.1)

pub all_below_rest : (x : Row) (ys zs : List Row) → IsBelowAll x (ys ++ zs) → IsBelowAll x zs
all_below_rest x [] zs h = h
all_below_rest x (y ∷ ys) zs h = all_below_rest x ys zs h.1

pub ascending_rest : (xs ys : List Row) → IsAscending (xs ++ ys) → IsAscending ys
ascending_rest [] ys up = up
ascending_rest (x ∷ xs) ys up = ascending_rest xs ys up.1

-- the rows before one in an ascending list
pub front_below : (xs : List Row) (y : Row) (ys : List Row) → IsAscending (xs ++ y ∷ ys) → AreBelow xs y
front_below [] y ys up = tt
front_below (x ∷ xs) y ys up = ((all_below_rest x xs (y ∷ ys) up.0).0, front_below xs y ys up.1)

pub below_less : (xs : List Row) (y x : Row) → AreBelow xs y → is_below y x ≡ true → AreBelow xs x
below_less [] y x h g = tt
below_less (z ∷ zs) y x h g = (below_trans z y x h.0 g, below_less zs y x h.1 g)

-- a row that is not above x: x is that row, or above it
below_or_same : (xs : List Row) (y x : Row) → AreBelow xs y → is_below x y ≡ false → AreBelow xs x
below_or_same xs y x h g =
    elim (stands x y) [
      | before p q s ↦ absurd (both_ways _ g p)
      | level e p q s ↦ subst (AreBelow xs) (sym e) h
      | behind p q s ↦ below_less xs y x h p
    ]

-- a change of the rows in the middle, where x is above those before and below those behind
pub put_middle : (x : Row) (front mid rest : List Row) → AreBelow front x → IsBelowAll x rest → put x (front ++ (mid ++ rest)) ≡ front ++ (put x mid ++ rest)
put_middle x [] mid rest f r = middle mid rest r
  where
    middle : (mid rest : List Row) → IsBelowAll x rest → put x (mid ++ rest) ≡ put x mid ++ rest
    middle [] [] r = refl
    middle [] (z ∷ zs) r = rw r.0 refl
    middle (y ∷ ys) rest r =
        elim (stands x y) [
          | before p q s ↦ rw p refl
          | level e p q s ↦ rw (p, q) refl
          | behind p q s ↦ rw (q, p) (ap (λ t. y ∷ t) (middle ys rest r))
        ]
put_middle x (y ∷ ys) mid rest f r = rw (below_not y x f.0, f.0) (ap (λ t. y ∷ t) (put_middle x ys mid rest f.1 r))

pub none_before : (x : Row) (front : List Row) → AreBelow front x → holds front x ≡ false
none_before x [] f = refl
none_before x (y ∷ ys) f =
    elim (stands x y) [
      | before p q s ↦ absurd (both_ways _ q f.0)
      | level e p q s ↦ absurd (both_ways _ q f.0)
      | behind p q s ↦ rw s (none_before x ys f.1)
    ]

holds-append : (x : Row) (xs ys : List Row) → holds (xs ++ ys) x ≡ (holds xs x || holds ys x)
holds-append x [] ys = refl
holds-append x (y ∷ xs) ys = elim (is_same x y) as (λ v. (v || holds (xs ++ ys) x) ≡ ((v || holds xs x) || holds ys x)) [ true ↦ refl | false ↦ holds-append x xs ys ]

or_false : (b : Bool) → (b || false) ≡ b
or_false true = refl
or_false false = refl

pub holds_middle : (x : Row) (front mid rest : List Row) → AreBelow front x → IsBelowAll x rest → holds (front ++ (mid ++ rest)) x ≡ holds mid x
holds_middle x front mid rest f r =
    holds-append x front (mid ++ rest)
    ∙ rw (none_before x front f) (holds-append x mid rest ∙ rw (none_held x rest r) (or_false (holds mid x)))

without-append : (x : Row) (xs ys : List Row) → without x (xs ++ ys) ≡ without x xs ++ without x ys
without-append x [] ys = refl
without-append x (y ∷ xs) ys =
    elim (is_same x y) as (λ v. cond (not v) (y ∷ without x (xs ++ ys)) (without x (xs ++ ys)) ≡ cond (not v) (y ∷ without x xs) (without x xs) ++ without x ys) [
      | true ↦ without-append x xs ys
      | false ↦ ap (λ t. y ∷ t) (without-append x xs ys)
    ]

pub without_middle : (x : Row) (front mid rest : List Row) → AreBelow front x → IsBelowAll x rest → without x (front ++ (mid ++ rest)) ≡ front ++ (without x mid ++ rest)
without_middle x front mid rest f r =
    without-append x front (mid ++ rest)
    ∙ (λ i. without-absent x front (none_before x front f) i ++ without-append x mid rest i)
    ∙ ap (λ t. front ++ (without x mid ++ t)) (without-absent x rest (none_held x rest r))

-- the first row past x
first_above : (x : Row) (rest : List Row) → IsBelowAll x rest → find (is_below x) rest ≡ slice_get rest 0
first_above x [] r = refl
first_above x (y ∷ ys) r = rw r.0 refl

pub find_middle_some : (x : Row) (front mid rest : List Row) (r : Row) → AreBelow front x → find (is_below x) mid ≡ Some r → find (is_below x) (front ++ (mid ++ rest)) ≡ Some r
find_middle_some x [] mid rest r f h = found mid rest h
  where
    found : (mid rest : List Row) → find (is_below x) mid ≡ Some r → find (is_below x) (mid ++ rest) ≡ Some r
    found [] rest h = absurd (none-some r h)
    found (y ∷ ys) rest h =
        elim (is_below x y) as (λ v. cond v (Some y) (find (is_below x) ys) ≡ Some r → cond v (Some y) (find (is_below x) (ys ++ rest)) ≡ Some r) [
          | true ↦ λ g. g
          | false ↦ λ g. found ys rest g
        ] h
find_middle_some x (y ∷ ys) mid rest r f h = rw (below_not y x f.0) (find_middle_some x ys mid rest r f.1 h)

pub find_middle_none : (x : Row) (front mid rest : List Row) → AreBelow front x → IsBelowAll x rest → find (is_below x) mid ≡ None → find (is_below x) (front ++ (mid ++ rest)) ≡ slice_get rest 0
find_middle_none x [] mid rest f r h = past mid h
  where
    past : (mid : List Row) → find (is_below x) mid ≡ None → find (is_below x) (mid ++ rest) ≡ slice_get rest 0
    past [] h = first_above x rest r
    past (y ∷ ys) h =
        elim (is_below x y) as (λ v. cond v (Some y) (find (is_below x) ys) ≡ None → cond v (Some y) (find (is_below x) (ys ++ rest)) ≡ slice_get rest 0) [
          | true ↦ λ g. absurd (none-some y (sym g))
          | false ↦ λ g. past ys g
        ] h
find_middle_none x (y ∷ ys) mid rest f r h = rw (below_not y x f.0) (find_middle_none x ys mid rest f.1 r h)

-- the search for a row's home: the block looked at starts with the row r
pub filled_at : (bs : List (List Row)) (i : ℕ) (b : List Row) → AreFilled bs → i < length bs → b ≡ get_or bs i b → 0 < length b
filled_at [] i b f h e = absurd (omega arith)
filled_at (c ∷ bs) zero b f h e = subst (λ (y : List Row). 0 < length y) (sym e) f.0
filled_at (c ∷ bs) (suc i) b f h e = filled_at bs i b f.1 (omega arith) e

pub block_filled : (bs : List (List Row)) (i : ℕ) (b : List Row) → AreInOrder bs → i < length bs → b ≡ get_or bs i b → 0 < length b
block_filled bs i b o h e = filled_at bs i b o.filled h e

starts : (b : List Row) (r : Row) → slice_get b 0 ≡ Some r → b ≡ r ∷ drop 1 b
starts [] r h = absurd (none-some r h)
starts (x ∷ xs) r h = ap (λ (y : Row). y ∷ xs) (same_Some x r h)

pub home_front : (bs : List (List Row)) (x : Row) (i : ℕ) (b : List Row) (r : Row) → AreInOrder bs → i < length bs → b ≡ get_or bs i b → slice_get b 0 ≡ Some r → is_below x r ≡ false → AreBelow (joined (take i bs)) x
home_front bs x i b r o h e g n =
    let up : IsAscending (joined (take i bs) ++ (b ++ joined (drop (suc i) bs))) = subst IsAscending (joined_split bs i b h e) o.ascending in
    below_or_same (joined (take i bs)) r x (front_below (joined (take i bs)) r (drop 1 b ++ joined (drop (suc i) bs)) (subst (λ (y : List Row). IsAscending (joined (take i bs) ++ (y ++ joined (drop (suc i) bs)))) (starts b r g) up)) n

pub home_rest : (bs : List (List Row)) (x : Row) (i : ℕ) (b : List Row) (r : Row) → AreInOrder bs → i < length bs → b ≡ get_or bs i b → slice_get b 0 ≡ Some r → is_below x r ≡ true → IsBelowAll x (joined (drop i bs))
home_rest bs x i b r o h e g n =
    let up : IsAscending (b ++ joined (drop (suc i) bs)) = ascending_rest (joined (take i bs)) _ (subst IsAscending (joined_split bs i b h e) o.ascending) in
    let from : joined (drop i bs) ≡ r ∷ (drop 1 b ++ joined (drop (suc i) bs)) = ap joined (drop_more bs i b h ∙ (λ k. sym e k ∷ drop (add-one i k) bs)) ∙ ap (λ (y : List Row). y ++ joined (drop (suc i) bs)) (starts b r g) in
    let more : IsAscending (r ∷ (drop 1 b ++ joined (drop (suc i) bs))) = subst (λ (y : List Row). IsAscending (y ++ joined (drop (suc i) bs))) (starts b r g) up in
    subst (IsBelowAll x) (sym from) (n, all_below_trans x r (drop 1 b ++ joined (drop (suc i) bs)) n more.0)

pub nothing_behind : (bs : List (List Row)) (x : Row) (k : ℕ) → length bs ≤ k → IsBelowAll x (joined (drop k bs))
nothing_behind bs x k h = subst (λ (t : List (List Row)). IsBelowAll x (joined t)) (sym (drop_all k bs h)) tt

pub first_block : (bs : List (List Row)) (k : ℕ) (b : List Row) (r : Row) → k < length bs → b ≡ get_or bs k b → slice_get b 0 ≡ Some r → slice_get (joined (drop k bs)) 0 ≡ Some r
first_block bs k b r h e g =
    ap (λ (t : List Row). slice_get t 0) (ap joined (drop_more bs k b h ∙ (λ i. sym e i ∷ drop (add-one k i) bs)) ∙ ap (λ (y : List Row). y ++ joined (drop (suc k) bs)) (starts b r g))

-- what the home of a row says of it
pub home_holds : (bs : List (List Row)) (x : Row) (k : ℕ) (b : List Row) → IsHome bs x k → b ≡ get_or bs k b → holds b x ≡ holds (joined bs) x
home_holds bs x k b h e = sym (ap (λ (t : List Row). holds t x) (joined_split bs k b h.within e) ∙ holds_middle x _ b _ h.front h.rest)

pub home_put : (bs : List (List Row)) (x : Row) (k : ℕ) (b c : List Row) → IsHome bs x k → b ≡ get_or bs k b → c ≡ put x b → joined (slice_set bs k c) ≡ put x (joined bs)
home_put bs x k b c h e f =
    joined_set bs k c h.within
    ∙ ap (λ (t : List Row). joined (take k bs) ++ (t ++ joined (drop (suc k) bs))) f
    ∙ sym (ap (put x) (joined_split bs k b h.within e) ∙ put_middle x _ b _ h.front h.rest)

pub home_without : (bs : List (List Row)) (x : Row) (k : ℕ) (b c : List Row) → IsHome bs x k → b ≡ get_or bs k b → c ≡ without x b → joined (slice_set bs k c) ≡ without x (joined bs)
home_without bs x k b c h e f =
    joined_set bs k c h.within
    ∙ ap (λ (t : List Row). joined (take k bs) ++ (t ++ joined (drop (suc k) bs))) f
    ∙ sym (ap (without x) (joined_split bs k b h.within e) ∙ without_middle x _ b _ h.front h.rest)

pub home_past_some : (bs : List (List Row)) (x : Row) (k : ℕ) (b : List Row) (r : Row) → IsHome bs x k → b ≡ get_or bs k b → find (is_below x) b ≡ Some r → find (is_below x) (joined bs) ≡ Some r
home_past_some bs x k b r h e g = ap (find (is_below x)) (joined_split bs k b h.within e) ∙ find_middle_some x _ b _ r h.front g

pub home_past_none : (bs : List (List Row)) (x : Row) (k : ℕ) (b : List Row) → IsHome bs x k → b ≡ get_or bs k b → find (is_below x) b ≡ None → find (is_below x) (joined bs) ≡ slice_get (joined (drop (k + 1) bs)) 0
home_past_none bs x k b h e g =
    ap (find (is_below x)) (joined_split bs k b h.within e) ∙ find_middle_none x _ b _ h.front h.rest g
    ∙ ap (λ n. slice_get (joined (drop n bs)) 0) (sym (add-one k))
