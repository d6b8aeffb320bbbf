-- The first atom past a bound, by the first rows of both sets.
use Rattle.std.proofs.Common.{◌≡◌, ℕ, suc, ◌+◌, ◌<◌, ◌≤◌, Bool, true, false, cond, ◌||◌, ◌&&◌, List, [], ◌∷◌, ◌++◌, Option, Some, None, refl, sym, ap, ◌∙◌, subst, length, take, drop, get_or, arith}
use Rattle.std.specs.List.{find}
use Rattle.std.specs.Option.{option_map}
use Rattle.std.proofs.lemmas.Bool.{both_ways, eq-eqb}
use Rattle.std.proofs.lemmas.Option.{none-some, same_Some}
use Rattle.std.proofs.lemmas.List.{drop_more, length-take-le}
use Rattle.hera_sets.specs.Rows.{Row, is_below, is_same, is_past, holds}
use Rattle.hera_sets.specs.Sets.{union_of, least_of}
use Rattle.hera_sets.proofs.Order.{same_true, same_itself, below_cons_less, below_cons_same, below_not}
use Rattle.hera_sets.proofs.Next.{find-union}
use Rattle.hera_meaning.specs.declared.scalars.Sign.{Sign}
use Rattle.hera_meaning.specs.declared.scalars.Sign.TheVariants.{Plus, Minus}
use Rattle.hera_meaning.specs.Deltas.{Atom, key_of, keys_of}
use Rattle.delta_atoms.specs.Atoms.{atom_of, bulk_of, sign_at, is_after}
use Rattle.delta_atoms.specs.declared.parts.DeltaPart.{DeltaPart}
use Rattle.delta_atoms.specs.Parts.{side, lesser, atoms_at, atoms_of, rows_at, IsPackedPart, AreOrdered, ArePacked}
use Rattle.delta_atoms.proofs.Signs.{same_atom_by, keys_of-in_order, keys_of-append}
use Rattle.delta_atoms.proofs.PartSigns.{sign_at-atoms_at, distinct_part, ascending_bulk}
use Rattle.delta_atoms.proofs.Places.{place_split, ordered_front, ordered_part, rows_at-middle}
use Rattle.delta_atoms.proofs.Walks.{find_passes}

-- a first atom's key is the first key
find-keys : (b : Option Row) (xs : List Atom) → option_map key_of (find (is_after b) xs) ≡ find (is_past b) (keys_of xs)
find-keys b [] = refl
find-keys b (a ∷ xs) = by (is_past b (key_of a)) (find-keys b xs)
  where
    by : (v : Bool) → option_map key_of (find (is_after b) xs) ≡ find (is_past b) (keys_of xs) → option_map key_of (cond v (Some a) (find (is_after b) xs)) ≡ cond v (Some (key_of a)) (find (is_past b) (keys_of xs))
    by true h = refl
    by false h = h

-- and its sign the sign at that key
pub found_sign : (b : Option Row) (xs : List Atom) (a : Atom) → find (is_after b) xs ≡ Some a → sign_at xs (key_of a) ≡ Some a.sign
found_sign b [] a h = absurd (none-some a h)
found_sign b (x ∷ xs) a h = by (is_past b (key_of x)) refl h (λ g. found_sign b xs a g)
  where
    past : (v : Bool) → is_same (key_of a) (key_of x) ≡ v → is_past b (key_of x) ≡ false → is_past b (key_of a) ≡ true → sign_at xs (key_of a) ≡ Some a.sign → cond v (Some x.sign) (sign_at xs (key_of a)) ≡ Some a.sign
    past true s e p g = absurd (both_ways _ e (ap (is_past b) (sym (same_true (key_of a) (key_of x) s)) ∙ p))
    past false s e p g = g

    by : (v : Bool) → is_past b (key_of x) ≡ v → cond v (Some x) (find (is_after b) xs) ≡ Some a → (find (is_after b) xs ≡ Some a → sign_at xs (key_of a) ≡ Some a.sign) → sign_at (x ∷ xs) (key_of a) ≡ Some a.sign
    by true e g f = subst (λ (y : Atom). sign_at (x ∷ xs) (key_of y) ≡ Some y.sign) (same_Some x a g) (rw (same_itself (key_of x)) refl)
    by false e g f = past (is_same (key_of a) (key_of x)) refl e (find_passes (is_after b) xs a g) (f g)

-- an atom with the first key and the sign there is the first atom
pub found_is : (b : Option Row) (xs : List Atom) (o : Option Atom) → option_map key_of o ≡ find (is_past b) (keys_of xs) → ((a : Atom) → o ≡ Some a → sign_at xs (key_of a) ≡ Some a.sign) → o ≡ find (is_after b) xs
found_is b xs o k s = by o (find (is_after b) xs) refl refl (k ∙ sym (find-keys b xs))
  where
    by : (p q : Option Atom) → p ≡ o → q ≡ find (is_after b) xs → option_map key_of p ≡ option_map key_of q → p ≡ q
    by None None e f g = refl
    by None (Some c) e f g = absurd (none-some (key_of c) g)
    by (Some a) None e f g = absurd (none-some (key_of a) (sym g))
    by (Some a) (Some c) e f g =
        let keys : key_of a ≡ key_of c = same_Some (key_of a) (key_of c) g in
        ap Some (same_atom_by a c keys (same_Some a.sign c.sign (sym (s a (sym e)) ∙ ap (sign_at xs) keys ∙ found_sign b xs c (sym f))))

-- the first row of a relation with a key past the bound
find-bulk : (s : Sign) (n : ℕ) (kb b : Option Row) (rows : List Row) → ((x : Row) → is_past kb (n ∷ x) ≡ is_past b x) → find (is_past kb) (keys_of (bulk_of s n rows)) ≡ option_map (λ r. n ∷ r) (find (is_past b) rows)
find-bulk s n kb b [] f = refl
find-bulk s n kb b (x ∷ rows) f = rw (f x) (by (is_past b x) (find-bulk s n kb b rows f))
  where
    by : (v : Bool) → find (is_past kb) (keys_of (bulk_of s n rows)) ≡ option_map (λ r. n ∷ r) (find (is_past b) rows) → cond v (Some (n ∷ x)) (find (is_past kb) (keys_of (bulk_of s n rows))) ≡ option_map (λ r. n ∷ r) (cond v (Some x) (find (is_past b) rows))
    by true h = refl
    by false h = h

find-bulk_none : (s : Sign) (n : ℕ) (kb : Option Row) (rows : List Row) → ((x : Row) → is_past kb (n ∷ x) ≡ false) → find (is_past kb) (keys_of (bulk_of s n rows)) ≡ None
find-bulk_none s n kb [] f = refl
find-bulk_none s n kb (x ∷ rows) f = rw (f x) (find-bulk_none s n kb rows f)

lesser-key : (n : ℕ) (u v : Option Row) → option_map key_of (lesser n u v) ≡ least_of (option_map (λ r. n ∷ r) u) (option_map (λ r. n ∷ r) v)
lesser-key n None None = refl
lesser-key n (Some p) None = refl
lesser-key n None (Some m) = refl
lesser-key n (Some p) (Some m) = rw (below_cons_same n m p) (by (is_below m p))
  where
    by : (v : Bool) → option_map key_of (cond v (Some (atom_of Minus n m)) (Some (atom_of Plus n p))) ≡ cond v (Some (n ∷ m)) (Some (n ∷ p))
    by true = refl
    by false = refl

find_held : (b : Option Row) (rows : List Row) (r : Row) → find (is_past b) rows ≡ Some r → holds rows r ≡ true
find_held b [] r h = absurd (none-some r h)
find_held b (x ∷ rows) r h = by (is_past b x) h (λ g. find_held b rows r g)
  where
    or_true : (c : Bool) → (c || true) ≡ true
    or_true true = refl
    or_true false = refl

    by : (v : Bool) → cond v (Some x) (find (is_past b) rows) ≡ Some r → (find (is_past b) rows ≡ Some r → holds rows r ≡ true) → (is_same r x || holds rows r) ≡ true
    by true g f = rw (ap (is_same r) (same_Some x r g) ∙ same_itself r) refl
    by false g f = rw (f g) (or_true (is_same r x))

-- the keys of one relation's atoms
keys_of-atoms_at : (p : DeltaPart) → IsPackedPart p → keys_of (atoms_at p) ≡ union_of (keys_of (bulk_of Plus p.rel.0 p.plus)) (keys_of (bulk_of Minus p.rel.0 p.minus))
keys_of-atoms_at p h = keys_of-in_order _ (distinct_part p h.part h.apart) ∙ ap Rattle.hera_sets.specs.Rows.normal (keys_of-append (bulk_of Plus p.rel.0 p.plus) (bulk_of Minus p.rel.0 p.minus))

first_key : (p : DeltaPart) (kb : Option Row) → IsPackedPart p → least_of (find (is_past kb) (keys_of (bulk_of Plus p.rel.0 p.plus))) (find (is_past kb) (keys_of (bulk_of Minus p.rel.0 p.minus))) ≡ find (is_past kb) (keys_of (atoms_at p))
first_key p kb h =
    find-union kb (keys_of (bulk_of Plus p.rel.0 p.plus)) (keys_of (bulk_of Minus p.rel.0 p.minus)) (ascending_bulk Plus p.rel.0 p.plus h.part.plus) (ascending_bulk Minus p.rel.0 p.minus h.part.minus)
    ∙ ap (find (is_past kb)) (sym (keys_of-atoms_at p h))

-- a held row's sign
sign_plus : (p : DeltaPart) (r : Row) → holds p.plus r ≡ true → sign_at (atoms_at p) (p.rel.0 ∷ r) ≡ Some Plus
sign_plus p r h = sign_at-atoms_at p p.rel.0 r ∙ rw (eq-eqb p.rel.0 p.rel.0 refl, h) refl

sign_minus : (p : DeltaPart) (r : Row) → IsPackedPart p → holds p.minus r ≡ true → sign_at (atoms_at p) (p.rel.0 ∷ r) ≡ Some Minus
sign_minus p r k h = sign_at-atoms_at p p.rel.0 r ∙ rw (eq-eqb p.rel.0 p.rel.0 refl, free (holds p.plus r) (holds p.minus r) (k.apart r) h, h) refl
  where
    free : (c d : Bool) → (c && d) ≡ false → d ≡ true → c ≡ false
    free true d f g = absurd (both_ways _ f g)
    free false d f g = refl

lesser-sign : (p : DeltaPart) (b : Option Row) (u v : Option Row) → u ≡ find (is_past b) p.plus → v ≡ find (is_past b) p.minus → IsPackedPart p → (a : Atom) → lesser p.rel.0 u v ≡ Some a → sign_at (atoms_at p) (key_of a) ≡ Some a.sign
lesser-sign p b None None e f k a g = absurd (none-some a g)
lesser-sign p b (Some x) None e f k a g = subst (λ (c : Atom). sign_at (atoms_at p) (key_of c) ≡ Some c.sign) (same_Some _ a g) (sign_plus p x (find_held b p.plus x (sym e)))
lesser-sign p b None (Some y) e f k a g = subst (λ (c : Atom). sign_at (atoms_at p) (key_of c) ≡ Some c.sign) (same_Some _ a g) (sign_minus p y k (find_held b p.minus y (sym f)))
lesser-sign p b (Some x) (Some y) e f k a g = by (is_below y x) g
  where
    by : (v : Bool) → cond v (Some (atom_of Minus p.rel.0 y)) (Some (atom_of Plus p.rel.0 x)) ≡ Some a → sign_at (atoms_at p) (key_of a) ≡ Some a.sign
    by true h = subst (λ (c : Atom). sign_at (atoms_at p) (key_of c) ≡ Some c.sign) (same_Some _ a h) (sign_minus p y k (find_held b p.minus y (sym f)))
    by false h = subst (λ (c : Atom). sign_at (atoms_at p) (key_of c) ≡ Some c.sign) (same_Some _ a h) (sign_plus p x (find_held b p.plus x (sym e)))

-- the lesser of the first rows is the first atom
pub lesser_found : (p : DeltaPart) (kb b : Option Row) → IsPackedPart p → ((x : Row) → is_past kb (p.rel.0 ∷ x) ≡ is_past b x) → lesser p.rel.0 (find (is_past b) p.plus) (find (is_past b) p.minus) ≡ find (is_after kb) (atoms_at p)
lesser_found p kb b h f =
    found_is kb (atoms_at p) (lesser p.rel.0 (find (is_past b) p.plus) (find (is_past b) p.minus))
    (lesser-key p.rel.0 (find (is_past b) p.plus) (find (is_past b) p.minus)
    ∙ sym (λ i. least_of (find-bulk Plus p.rel.0 kb b p.plus f i) (find-bulk Minus p.rel.0 kb b p.minus f i))
    ∙ first_key p kb h)
    (lesser-sign p b _ _ refl refl h)

pub none_found : (p : DeltaPart) (kb : Option Row) → IsPackedPart p → ((x : Row) → is_past kb (p.rel.0 ∷ x) ≡ false) → None ≡ find (is_after kb) (atoms_at p)
none_found p kb h f =
    found_is kb (atoms_at p) None
    (sym (λ i. least_of (find-bulk_none Plus p.rel.0 kb p.plus f i) (find-bulk_none Minus p.rel.0 kb p.minus f i)) ∙ first_key p kb h)
    (λ a g. absurd (none-some a g))

-- the three places of a bound
pub past_lower : (m n : ℕ) (r x : Row) → m < n → is_past (Some (m ∷ r)) (n ∷ x) ≡ is_past None x
past_lower m n r x h = below_cons_less m n r x h

pub past_same : (m n : ℕ) (r x : Row) → m ≡ n → is_past (Some (m ∷ r)) (n ∷ x) ≡ is_past (Some r) x
past_same m n r x e = ap (λ k. is_below (m ∷ r) (k ∷ x)) (sym e) ∙ below_cons_same m r x

pub past_higher : (m n : ℕ) (r x : Row) → n < m → is_past (Some (m ∷ r)) (n ∷ x) ≡ false
past_higher m n r x h = below_not (n ∷ x) (m ∷ r) (below_cons_less n m x r h)

-- the first of two lists
find-append_none : (q : Atom → Bool) (xs ys : List Atom) → find q xs ≡ None → find q (xs ++ ys) ≡ find q ys
find-append_none q [] ys h = refl
find-append_none q (x ∷ xs) ys h = by (q x) h (λ g. find-append_none q xs ys g)
  where
    by : (v : Bool) → cond v (Some x) (find q xs) ≡ None → (find q xs ≡ None → find q (xs ++ ys) ≡ find q ys) → cond v (Some x) (find q (xs ++ ys)) ≡ find q ys
    by true g f = absurd (none-some x (sym g))
    by false g f = f g

find-append_some : (q : Atom → Bool) (xs ys : List Atom) (a : Atom) → find q xs ≡ Some a → find q (xs ++ ys) ≡ Some a
find-append_some q [] ys a h = absurd (none-some a h)
find-append_some q (x ∷ xs) ys a h = by (q x) h (λ g. find-append_some q xs ys a g)
  where
    by : (v : Bool) → cond v (Some x) (find q xs) ≡ Some a → (find q xs ≡ Some a → find q (xs ++ ys) ≡ Some a) → cond v (Some x) (find q (xs ++ ys)) ≡ Some a
    by true g f = g
    by false g f = f g

rest_of : (ps : List DeltaPart) (i : ℕ) (p : DeltaPart) → i < length ps → p ≡ get_or ps i p → drop i ps ≡ p ∷ drop (i + 1) ps
rest_of ps i p h e = drop_more ps i p h ∙ (λ k. sym e k ∷ drop (i + 1) ps)

pub next_part : (q : Atom → Bool) (ps : List DeltaPart) (i : ℕ) (p : DeltaPart) → i < length ps → p ≡ get_or ps i p → None ≡ find q (atoms_at p) → find q (atoms_of (drop (i + 1) ps)) ≡ find q (atoms_of (drop i ps))
next_part q ps i p h e g = sym (ap (λ t. find q (atoms_of t)) (rest_of ps i p h e) ∙ find-append_none q (atoms_at p) (atoms_of (drop (i + 1) ps)) (sym g))

pub this_part : (q : Atom → Bool) (ps : List DeltaPart) (i : ℕ) (p : DeltaPart) (a : Atom) → i < length ps → p ≡ get_or ps i p → Some a ≡ find q (atoms_at p) → Some a ≡ find q (atoms_of (drop i ps))
this_part q ps i p a h e g = sym (ap (λ t. find q (atoms_of t)) (rest_of ps i p h e) ∙ find-append_some q (atoms_at p) (atoms_of (drop (i + 1) ps)) a (sym g))

-- the part at a place is packed, and stands behind as many others
pub packed_at : (ps : List DeltaPart) (i : ℕ) (p : DeltaPart) → ArePacked ps → i < length ps → p ≡ get_or ps i p → IsPackedPart p
packed_at ps i p h k e =
    let up = subst AreOrdered (place_split ps i p k e) h.ordered in
    record { part = ordered_part (take i ps) p (drop (suc i) ps) up; apart = λ r. (λ j. (holds (here up Plus j) r && holds (here up Minus j) r)) ∙ h.apart p.rel.0 r }
  where
    here : AreOrdered (take i ps ++ p ∷ drop (suc i) ps) → (s : Sign) → side s p ≡ rows_at s p.rel.0 ps
    here up s =
        sym (ap (rows_at s p.rel.0) (place_split ps i p k e)
        ∙ rows_at-middle s p.rel.0 (take i ps) p (drop (suc i) ps) (ordered_front (take i ps) p (drop (suc i) ps) up)
        ∙ rw (eq-eqb p.rel.0 p.rel.0 refl) refl)

-- there are no more parts than numbers of relations
counted_from : (m : ℕ) (x : DeltaPart) (front : List DeltaPart) (p : DeltaPart) (rest : List DeltaPart) → m ≤ x.rel.0 → AreOrdered (x ∷ front ++ p ∷ rest) → m + suc (length front) ≤ p.rel.0
counted_from m x [] p rest h up = omega (arith, h, up.0.1.0)
counted_from m x (y ∷ front) p rest h up = omega (arith, counted_from (suc m) y front p rest (omega (arith, h, up.0.1.0)) up.1)

front_count : (front : List DeltaPart) (p : DeltaPart) (rest : List DeltaPart) → AreOrdered (front ++ p ∷ rest) → length front ≤ p.rel.0
front_count [] p rest up = omega arith
front_count (x ∷ front) p rest up = omega (arith, counted_from 0 x front p rest (omega arith) up)

pub place_count : (ps : List DeltaPart) (i : ℕ) (p : DeltaPart) → AreOrdered ps → i < length ps → p ≡ get_or ps i p → i ≤ p.rel.0
place_count ps i p up h e =
    omega (arith, front_count (take i ps) p (drop (suc i) ps) (subst AreOrdered (place_split ps i p h e) up), length-take-le i ps (omega (arith, h)))
