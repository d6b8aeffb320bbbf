-- Lists of atoms, by the relations and rows that they hold with each sign.
use Rattle.std.proofs.Common.{◌≡◌, ℕ, Bool, true, false, cond, not, ◌&&◌, ◌||◌, List, [], ◌∷◌, ◌++◌, map, filter, refl, sym, ap, ◌∙◌, subst, eqb, eqb-true, nat_eq}
use Rattle.std.specs.List.{list_any}
use Rattle.std.proofs.lemmas.Bool.{both_ways, or_parts, or_from, or_left, or_right, eq-eqb, ne_eqb, eqb-false}
use Rattle.hera_sets.specs.Rows.{Row, is_same, is_below, holds, put, normal, IsAscending}
use Rattle.hera_sets.proofs.Order.{before, level, behind, stands, same_true, same_itself, same_cons}
use Rattle.hera_sets.proofs.Lists.{none_held}
use Rattle.hera_sets.proofs.Members.{holds-append, holds-normal, ascending_normal, same_rows}
use Rattle.hera_meaning.specs.declared.scalars.Sign.{Sign}
use Rattle.hera_meaning.specs.declared.scalars.Sign.TheVariants.{Plus, Minus}
use Rattle.hera_meaning.specs.Schemas.{AreDistinct}
use Rattle.hera_meaning.specs.Deltas.{Atom, key_of, keys_of, is_plus, put_atom, in_order, unnamed, joint_atoms, rows_named}
use Rattle.hera_meaning.proofs.Bools.{or_assoc, or_swap, and_true, and_false}

-- some atom that passes the test has this relation and row
abbrev pub marks : (Atom → Bool) → List Atom → Row → Bool
marks t xs k = list_any (λ a. t a && is_same k (key_of a)) xs

abbrev pub has_plus : Atom → Bool
has_plus a = is_plus a.sign

abbrev pub has_minus : Atom → Bool
has_minus a = not (is_plus a.sign)

pub keys-filter : (t : Atom → Bool) (xs : List Atom) (k : Row) → holds (keys_of (filter t xs)) k ≡ marks t xs k
keys-filter t [] k = refl
keys-filter t (a ∷ xs) k = by (t a) (keys-filter t xs k)
  where
    by : (b : Bool) → holds (keys_of (filter t xs)) k ≡ marks t xs k → holds (keys_of (cond b (a ∷ filter t xs) (filter t xs))) k ≡ ((b && is_same k (key_of a)) || marks t xs k)
    by true ih = ap (λ c. is_same k (key_of a) || c) ih
    by false ih = ih

-- a relation and row that is held has one sign or the other
pub holds-keys : (xs : List Atom) (k : Row) → holds (keys_of xs) k ≡ (marks has_plus xs k || marks has_minus xs k)
holds-keys [] k = refl
holds-keys (a ∷ xs) k = ap (λ c. is_same k (key_of a) || c) (holds-keys xs k) ∙ by (is_plus a.sign) (is_same k (key_of a)) (marks has_plus xs k) (marks has_minus xs k)
  where
    by : (p s u v : Bool) → (s || (u || v)) ≡ (((p && s) || u) || ((not p && s) || v))
    by true true u v = refl
    by true false u v = refl
    by false true true v = refl
    by false true false v = refl
    by false false u v = refl

marks-put_atom : (t : Atom → Bool) (a : Atom) (xs : List Atom) (k : Row) → marks t (put_atom a xs) k ≡ ((t a && is_same k (key_of a)) || marks t xs k)
marks-put_atom t a [] k = refl
marks-put_atom t a (b ∷ xs) k = by (is_below (key_of b) (key_of a)) (marks-put_atom t a xs k)
  where
    by : (c : Bool) → marks t (put_atom a xs) k ≡ ((t a && is_same k (key_of a)) || marks t xs k)
        → marks t (cond c (b ∷ put_atom a xs) (a ∷ b ∷ xs)) k ≡ ((t a && is_same k (key_of a)) || ((t b && is_same k (key_of b)) || marks t xs k))
    by true ih = ap (λ c. (t b && is_same k (key_of b)) || c) ih ∙ or_swap (t b && is_same k (key_of b)) (t a && is_same k (key_of a)) (marks t xs k)
    by false ih = refl

pub marks-in_order : (t : Atom → Bool) (xs : List Atom) (k : Row) → marks t (in_order xs) k ≡ marks t xs k
marks-in_order t [] k = refl
marks-in_order t (a ∷ xs) k = marks-put_atom t a (in_order xs) k ∙ ap (λ c. (t a && is_same k (key_of a)) || c) (marks-in_order t xs k)

pub marks-append : (t : Atom → Bool) (xs ys : List Atom) (k : Row) → marks t (xs ++ ys) k ≡ (marks t xs k || marks t ys k)
marks-append t [] ys k = refl
marks-append t (a ∷ xs) ys k =
    ap (λ c. (t a && is_same k (key_of a)) || c) (marks-append t xs ys k) ∙ sym (or_assoc (t a && is_same k (key_of a)) (marks t xs k) (marks t ys k))

pub marks-unnamed : (t : Atom → Bool) (xs ys : List Atom) (k : Row) → marks t (unnamed xs ys) k ≡ (marks t xs k && not (holds (keys_of ys) k))
marks-unnamed t [] ys k = refl
marks-unnamed t (a ∷ xs) ys k = by (holds (keys_of ys) (key_of a)) refl (is_same k (key_of a)) refl (marks-unnamed t xs ys k)
  where
    by : (h : Bool) → holds (keys_of ys) (key_of a) ≡ h → (s : Bool) → is_same k (key_of a) ≡ s → marks t (unnamed xs ys) k ≡ (marks t xs k && not (holds (keys_of ys) k))
        → marks t (cond (not h) (a ∷ unnamed xs ys) (unnamed xs ys)) k ≡ (((t a && s) || marks t xs k) && not (holds (keys_of ys) k))
    by true e true f ih =
        let held : holds (keys_of ys) k ≡ true = ap (holds (keys_of ys)) (same_true k (key_of a) f) ∙ e in
        ih ∙ ap (λ c. marks t xs k && not c) held ∙ and_false (marks t xs k) ∙ sym (ap (λ c. ((t a && true) || marks t xs k) && not c) held ∙ and_false ((t a && true) || marks t xs k))
    by true e false f ih = ih ∙ ap (λ c. (c || marks t xs k) && not (holds (keys_of ys) k)) (sym (and_false (t a)))
    by false e true f ih =
        let free : holds (keys_of ys) k ≡ false = ap (holds (keys_of ys)) (same_true k (key_of a) f) ∙ e in
        ap (λ c. (t a && c) || marks t (unnamed xs ys) k) f ∙ ap (λ c. (t a && true) || c) (ih ∙ ap (λ c. marks t xs k && not c) free ∙ and_true (marks t xs k))
        ∙ sym (ap (λ c. ((t a && true) || marks t xs k) && not c) free ∙ and_true ((t a && true) || marks t xs k))
    by false e false f ih =
        ap (λ c. (t a && c) || marks t (unnamed xs ys) k) f ∙ ap (λ c. c || marks t (unnamed xs ys) k) (and_false (t a)) ∙ ih
        ∙ ap (λ c. (c || marks t xs k) && not (holds (keys_of ys) k)) (sym (and_false (t a)))

-- what a smash holds with a sign
pub marks-joint_atoms : (t : Atom → Bool) (xs ys : List Atom) (k : Row) → marks t (joint_atoms xs ys) k ≡ (marks t ys k || (marks t xs k && not (marks has_plus ys k || marks has_minus ys k)))
marks-joint_atoms t xs ys k =
    marks-in_order t (ys ++ unnamed xs ys) k ∙ marks-append t ys (unnamed xs ys) k
    ∙ ap (λ c. marks t ys k || c) (marks-unnamed t xs ys k ∙ ap (λ c. marks t xs k && not c) (holds-keys ys k))

-- the rows of one relation
pub rows_named-key : (r : ℕ) (xs : List Atom) (q : Row) → holds (rows_named r xs) q ≡ holds (keys_of xs) (r ∷ q)
rows_named-key r [] q = refl
rows_named-key r (a ∷ xs) q = by (nat_eq a.rel r) refl (rows_named-key r xs q) ∙ ap (λ c. c || holds (keys_of xs) (r ∷ q)) (sym (same_cons r a.rel q a.row))
  where
    by : (b : Bool) → nat_eq a.rel r ≡ b → holds (rows_named r xs) q ≡ holds (keys_of xs) (r ∷ q)
        → holds (map (λ (c : Atom). c.row) (cond b (a ∷ filter (λ (c : Atom). nat_eq c.rel r) xs) (filter (λ (c : Atom). nat_eq c.rel r) xs))) q ≡ ((eqb r a.rel && is_same q a.row) || holds (keys_of xs) (r ∷ q))
    by true e ih = rw (eq-eqb r a.rel (sym (eqb-true a.rel r e))) (ap (λ c. is_same q a.row || c) ih)
    by false e ih = rw (ne_eqb r a.rel (λ g. eqb-false a.rel r e (sym g))) ih

-- ---- two ascending lists of atoms with the same signs everywhere are one

sign_same : (s t : Sign) → is_plus s ≡ is_plus t → s ≡ t
sign_same Plus Plus e = refl
sign_same Plus Minus e = cc
sign_same Minus Plus e = cc
sign_same Minus Minus e = refl

-- no sign stands where the relation and row are not held
no_mark : (xs : List Atom) (k : Row) → holds (keys_of xs) k ≡ false → (marks has_plus xs k ≡ false) × (marks has_minus xs k ≡ false)
no_mark xs k h = or_parts (marks has_plus xs k) (marks has_minus xs k) (sym (holds-keys xs k) ∙ h)

tail_key : {x y : Row} {xs ys : List Row} → (x ∷ xs) ≡ (y ∷ ys) → xs ≡ ys
tail_key e = cc

head_key : {x y : Row} {xs ys : List Row} → (x ∷ xs) ≡ (y ∷ ys) → x ≡ y
head_key e = cc

with_keys : (xs ys : List Atom) → IsAscending (keys_of xs) → IsAscending (keys_of ys) → keys_of xs ≡ keys_of ys → ((k : Row) → marks has_plus xs k ≡ marks has_plus ys k) → xs ≡ ys
with_keys [] [] up vp e h = refl
with_keys [] (b ∷ ys) up vp e h = cc
with_keys (a ∷ xs) [] up vp e h = cc
with_keys (a ∷ xs) (b ∷ ys) up vp e h = whole (sign_same a.sign b.sign signs) (head_key e) (with_keys xs ys up.1 vp.1 (tail_key e) tails)
  where
    free_x : marks has_plus xs (key_of a) ≡ false
    free_x = (no_mark xs (key_of a) (none_held (key_of a) (keys_of xs) up.0)).0

    free_y : marks has_plus ys (key_of b) ≡ false
    free_y = (no_mark ys (key_of b) (none_held (key_of b) (keys_of ys) vp.0)).0

    at_head : (p s m : Bool) → s ≡ true → m ≡ false → ((p && s) || m) ≡ p
    at_head true s m e f = rw e refl
    at_head false s m e f = f

    signs : is_plus a.sign ≡ is_plus b.sign
    signs =
        sym (at_head (is_plus a.sign) (is_same (key_of a) (key_of a)) (marks has_plus xs (key_of a)) (same_itself (key_of a)) free_x)
        ∙ h (key_of a)
        ∙ ap (λ k. marks has_plus (b ∷ ys) k) (head_key e)
        ∙ at_head (is_plus b.sign) (is_same (key_of b) (key_of b)) (marks has_plus ys (key_of b)) (same_itself (key_of b)) free_y

    tail : (k : Row) (s : Bool) → is_same k (key_of a) ≡ s → is_same k (key_of b) ≡ s → marks has_plus xs k ≡ marks has_plus ys k
    tail k true f g = ap (marks has_plus xs) (same_true k (key_of a) f) ∙ free_x ∙ sym (ap (marks has_plus ys) (same_true k (key_of b) g) ∙ free_y)
    tail k false f g =
        sym (ap (λ c. (is_plus a.sign && c) || marks has_plus xs k) f ∙ ap (λ c. c || marks has_plus xs k) (and_false (is_plus a.sign)))
        ∙ h k
        ∙ (ap (λ c. (is_plus b.sign && c) || marks has_plus ys k) g ∙ ap (λ c. c || marks has_plus ys k) (and_false (is_plus b.sign)))

    tails : (k : Row) → marks has_plus xs k ≡ marks has_plus ys k
    tails k = tail k (is_same k (key_of a)) refl (ap (is_same k) (sym (head_key e)))

    whole : a.sign ≡ b.sign → key_of a ≡ key_of b → xs ≡ ys → (a ∷ xs) ≡ (b ∷ ys)
    whole s k t = λ i. record { sign = s i; rel = head_rel k i; row = head_row k i } ∷ t i
      where
        head_rel : key_of a ≡ key_of b → a.rel ≡ b.rel
        head_rel k = cc

        head_row : key_of a ≡ key_of b → a.row ≡ b.row
        head_row k = cc

pub same_atoms : (xs ys : List Atom) → IsAscending (keys_of xs) → IsAscending (keys_of ys) → ((k : Row) → marks has_plus xs k ≡ marks has_plus ys k) → ((k : Row) → marks has_minus xs k ≡ marks has_minus ys k) → xs ≡ ys
same_atoms xs ys up vp h g =
    with_keys xs ys up vp
    (same_rows (keys_of xs) (keys_of ys) up vp (λ k. holds-keys xs k ∙ (λ i. h k i || g k i) ∙ sym (holds-keys ys k)))
    h

-- ---- the atoms of two deltas in order

keys-put_atom : (a : Atom) (xs : List Atom) → holds (keys_of xs) (key_of a) ≡ false → keys_of (put_atom a xs) ≡ put (key_of a) (keys_of xs)
keys-put_atom a [] h = refl
keys-put_atom a (b ∷ xs) h =
    elim (stands (key_of a) (key_of b)) [
      | before p q s ↦ rw (p, q) refl
      | level e p q s ↦ absurd (both_ways (is_same (key_of a) (key_of b) || holds (keys_of xs) (key_of a)) h (ap (λ c. c || holds (keys_of xs) (key_of a)) s))
      | behind p q s ↦ rw (p, q) (ap (λ ks. key_of b ∷ ks) (keys-put_atom a xs (right_false (is_same (key_of a) (key_of b)) (holds (keys_of xs) (key_of a)) h)))
    ]
  where
    right_false : (b c : Bool) → (b || c) ≡ false → c ≡ false
    right_false b c e = (or_parts b c e).1

keys-in_order : (xs : List Atom) → AreDistinct (keys_of xs) → keys_of (in_order xs) ≡ normal (keys_of xs)
keys-in_order [] d = refl
keys-in_order (a ∷ xs) d =
    let ih : keys_of (in_order xs) ≡ normal (keys_of xs) = keys-in_order xs d.1 in
    keys-put_atom a (in_order xs) (ap (λ ks. holds ks (key_of a)) ih ∙ holds-normal (keys_of xs) (key_of a) ∙ d.0) ∙ ap (put (key_of a)) ih

ascending_distinct : (xs : List Row) → IsAscending xs → AreDistinct xs
ascending_distinct [] up = tt
ascending_distinct (x ∷ xs) up = (none_held x xs up.0, ascending_distinct xs up.1)

distinct_append : (xs ys : List Row) → AreDistinct xs → AreDistinct ys → ((q : Row) → holds xs q ≡ true → holds ys q ≡ false) → AreDistinct (xs ++ ys)
distinct_append [] ys d e h = e
distinct_append (x ∷ xs) ys d e h = (
  holds-append xs ys x ∙ or_from (holds xs x) (holds ys x) d.0 (h x (or_left (is_same x x) (holds xs x) (same_itself x))),
  distinct_append xs ys d.1 e (λ q k. h q (or_right (is_same q x) (holds xs q) k)),
)

kept_out : (t : Atom → Bool) (xs : List Atom) (k : Row) → holds (keys_of xs) k ≡ false → holds (keys_of (filter t xs)) k ≡ false
kept_out t [] k h = refl
kept_out t (a ∷ xs) k h = by (t a) (kept_out t xs k (or_parts (is_same k (key_of a)) (holds (keys_of xs) k) h).1)
  where
    by : (b : Bool) → holds (keys_of (filter t xs)) k ≡ false → holds (keys_of (cond b (a ∷ filter t xs) (filter t xs))) k ≡ false
    by true ih = or_from (is_same k (key_of a)) (holds (keys_of (filter t xs)) k) (or_parts (is_same k (key_of a)) (holds (keys_of xs) k) h).0 ih
    by false ih = ih

distinct_filter : (t : Atom → Bool) (xs : List Atom) → AreDistinct (keys_of xs) → AreDistinct (keys_of (filter t xs))
distinct_filter t [] d = tt
distinct_filter t (a ∷ xs) d = by (t a) (kept_out t xs (key_of a) d.0, distinct_filter t xs d.1)
  where
    by : (b : Bool) → (holds (keys_of (filter t xs)) (key_of a) ≡ false) × AreDistinct (keys_of (filter t xs)) → AreDistinct (keys_of (cond b (a ∷ filter t xs) (filter t xs)))
    by true g = g
    by false g = g.1

-- an atom that is not named has a relation and row that the second list does not hold
unnamed_apart : (xs ys : List Atom) (k : Row) → holds (keys_of ys) k ≡ true → holds (keys_of (unnamed xs ys)) k ≡ false
unnamed_apart xs ys k h =
    holds-keys (unnamed xs ys) k
    ∙ or_from (marks has_plus (unnamed xs ys) k) (marks has_minus (unnamed xs ys) k) (out has_plus) (out has_minus)
  where
    out : (t : Atom → Bool) → marks t (unnamed xs ys) k ≡ false
    out t = marks-unnamed t xs ys k ∙ ap (λ c. marks t xs k && not c) h ∙ and_false (marks t xs k)

keys_append : (xs ys : List Atom) → keys_of (xs ++ ys) ≡ keys_of xs ++ keys_of ys
keys_append [] ys = refl
keys_append (a ∷ xs) ys = ap (λ ks. key_of a ∷ ks) (keys_append xs ys)

-- the smash of two deltas is a delta
pub ascending_joint : (xs ys : List Atom) → IsAscending (keys_of xs) → IsAscending (keys_of ys) → IsAscending (keys_of (joint_atoms xs ys))
ascending_joint xs ys up vp =
    subst (λ (ks : List Row). IsAscending ks)
    (sym (keys-in_order (ys ++ unnamed xs ys)
    (subst (λ (ks : List Row). AreDistinct ks) (sym (keys_append ys (unnamed xs ys)))
    (distinct_append (keys_of ys) (keys_of (unnamed xs ys)) (ascending_distinct (keys_of ys) vp)
    (distinct_filter (λ a. not (holds (keys_of ys) (key_of a))) xs (ascending_distinct (keys_of xs) up))
    (unnamed_apart xs ys)))))
    (ascending_normal (keys_of (ys ++ unnamed xs ys)))
