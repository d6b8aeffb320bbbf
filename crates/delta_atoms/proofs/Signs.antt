-- Lists of atoms in order, by the sign that they have at each key.
use Rattle.std.proofs.Common.{◌≡◌, Bool, true, false, cond, List, [], ◌∷◌, ◌++◌, Option, Some, None, refl, sym, ap, ◌∙◌, subst}
use Rattle.std.proofs.lemmas.Bool.{both_ways, or_parts}
use Rattle.std.proofs.lemmas.Option.{none-some, same_Some}
use Rattle.hera_sets.specs.Rows.{Row, is_same, IsBelowAll, IsAscending, holds, put, normal}
use Rattle.hera_sets.proofs.Order.{same_true, same_itself, same_nil, before, level, behind, stands}
use Rattle.hera_sets.proofs.Lists.{all_below_trans}
use Rattle.hera_sets.proofs.Members.{ascending_normal, holds-normal}
use Rattle.hera_meaning.specs.declared.scalars.Sign.{Sign}
use Rattle.hera_meaning.specs.Schemas.{AreDistinct}
use Rattle.hera_meaning.specs.Deltas.{Atom, key_of, keys_of, put_atom, in_order}
use Rattle.delta_atoms.specs.Atoms.{sign_at}

-- the first sign, or else the second
abbrev pub first_of : Option Sign → Option Sign → Option Sign
first_of None y = y
first_of (Some s) y = Some s

pub first_of-none : (x : Option Sign) → first_of x None ≡ x
first_of-none None = refl
first_of-none (Some s) = refl

pub first_of-first_of : (x y z : Option Sign) → first_of (first_of x y) z ≡ first_of x (first_of y z)
first_of-first_of None y z = refl
first_of-first_of (Some s) y z = refl

-- the sign that one atom has at a key
abbrev pub here : Atom → Row → Option Sign
here a k = cond (is_same k (key_of a)) (Some a.sign) None

pub sign_at_nil : (xs : List Atom) → sign_at xs [] ≡ None
sign_at_nil [] = refl
sign_at_nil (a ∷ xs) = rw (same_nil a.rel a.row) (sign_at_nil xs)

-- a key below all has no sign
pub none_signed : (k : Row) (xs : List Atom) → IsBelowAll k (keys_of xs) → sign_at xs k ≡ None
none_signed k [] all = refl
none_signed k (a ∷ xs) all =
    elim (stands k (key_of a)) [
      | before p q s ↦ rw s (none_signed k xs all.1)
      | level e p q s ↦ absurd (both_ways _ p all.0)
      | behind p q s ↦ absurd (both_ways _ q all.0)
    ]

-- the keys of ordered atoms, none of which stands twice
pub keys_of-put_atom : (a : Atom) (xs : List Atom) → holds (keys_of xs) (key_of a) ≡ false → keys_of (put_atom a xs) ≡ put (key_of a) (keys_of xs)
keys_of-put_atom a [] h = refl
keys_of-put_atom a (b ∷ xs) h =
    elim (stands (key_of a) (key_of b)) [
      | before p q s ↦ rw (p, q) refl
      | level e p q s ↦ absurd (both_ways _ (or_parts (is_same (key_of a) (key_of b)) (holds (keys_of xs) (key_of a)) h).0 s)
      | behind p q s ↦ rw (p, q) (ap (λ t. key_of b ∷ t) (keys_of-put_atom a xs (or_parts (is_same (key_of a) (key_of b)) (holds (keys_of xs) (key_of a)) h).1))
    ]

pub keys_of-in_order : (xs : List Atom) → AreDistinct (keys_of xs) → keys_of (in_order xs) ≡ normal (keys_of xs)
keys_of-in_order [] d = refl
keys_of-in_order (a ∷ xs) d =
    let rest = keys_of-in_order xs d.1 in
    keys_of-put_atom a (in_order xs) (ap (λ ks. holds ks (key_of a)) rest ∙ holds-normal (keys_of xs) (key_of a) ∙ d.0) ∙ ap (put (key_of a)) rest

pub ascending_in_order : (xs : List Atom) → AreDistinct (keys_of xs) → IsAscending (keys_of (in_order xs))
ascending_in_order xs d = subst IsAscending (sym (keys_of-in_order xs d)) (ascending_normal (keys_of xs))

pub keys_of-append : (xs ys : List Atom) → keys_of (xs ++ ys) ≡ keys_of xs ++ keys_of ys
keys_of-append [] ys = refl
keys_of-append (a ∷ xs) ys = ap (λ t. key_of a ∷ t) (keys_of-append xs ys)

-- the sign at a key of a list with one atom put in
pub sign_at-put_atom : (a : Atom) (xs : List Atom) (k : Row) → sign_at (put_atom a xs) k ≡ first_of (here a k) (sign_at xs k)
sign_at-put_atom a [] k = sym (first_of-none (here a k))
sign_at-put_atom a (b ∷ xs) k =
    elim (stands (key_of b) (key_of a)) [
      | before p q s ↦ rw p (past (is_same k (key_of b)) refl s (sign_at-put_atom a xs k))
      | level e p q s ↦ rw p (front (is_same k (key_of a)))
      | behind p q s ↦ rw q (front (is_same k (key_of a)))
    ]
  where
    front : (v : Bool) → cond v (Some a.sign) (sign_at (b ∷ xs) k) ≡ first_of (cond v (Some a.sign) None) (sign_at (b ∷ xs) k)
    front true = refl
    front false = refl

    past : (v : Bool) → is_same k (key_of b) ≡ v → is_same (key_of b) (key_of a) ≡ false → sign_at (put_atom a xs) k ≡ first_of (here a k) (sign_at xs k) → cond v (Some b.sign) (sign_at (put_atom a xs) k) ≡ first_of (here a k) (cond v (Some b.sign) (sign_at xs k))
    past true e s h = rw (ap (λ z. is_same z (key_of a)) (same_true k (key_of b) e) ∙ s) refl
    past false e s h = h

pub sign_at-in_order : (xs : List Atom) (k : Row) → sign_at (in_order xs) k ≡ sign_at xs k
sign_at-in_order [] k = refl
sign_at-in_order (a ∷ xs) k = sign_at-put_atom a (in_order xs) k ∙ ap (first_of (here a k)) (sign_at-in_order xs k) ∙ by (is_same k (key_of a))
  where
    by : (v : Bool) → first_of (cond v (Some a.sign) None) (sign_at xs k) ≡ cond v (Some a.sign) (sign_at xs k)
    by true = refl
    by false = refl

pub sign_at-append : (xs ys : List Atom) (k : Row) → sign_at (xs ++ ys) k ≡ first_of (sign_at xs k) (sign_at ys k)
sign_at-append [] ys k = refl
sign_at-append (a ∷ xs) ys k = by (is_same k (key_of a)) (sign_at-append xs ys k)
  where
    by : (v : Bool) → sign_at (xs ++ ys) k ≡ first_of (sign_at xs k) (sign_at ys k) → cond v (Some a.sign) (sign_at (xs ++ ys) k) ≡ first_of (cond v (Some a.sign) (sign_at xs k)) (sign_at ys k)
    by true h = refl
    by false h = h

pub same_atom_by : (a b : Atom) → key_of a ≡ key_of b → a.sign ≡ b.sign → a ≡ b
same_atom_by a b e s =
    let rels : a.rel ≡ b.rel = cc in
    let rows : a.row ≡ b.row = cc in
    λ i. record { sign = s i; rel = rels i; row = rows i }

own_sign : (a : Atom) (xs : List Atom) → sign_at (a ∷ xs) (key_of a) ≡ Some a.sign
own_sign a xs = rw (same_itself (key_of a)) refl

-- two lists in order with the same sign at each key are one
pub same_signs : (xs ys : List Atom) → IsAscending (keys_of xs) → IsAscending (keys_of ys) → ((k : Row) → sign_at xs k ≡ sign_at ys k) → xs ≡ ys
same_signs [] [] up vp h = refl
same_signs [] (b ∷ ys) up vp h = absurd (none-some b.sign (h (key_of b) ∙ own_sign b ys))
same_signs (a ∷ xs) [] up vp h = absurd (none-some a.sign (sym (h (key_of a)) ∙ own_sign a xs))
same_signs (a ∷ xs) (b ∷ ys) up vp h =
    elim (stands (key_of a) (key_of b)) [
      | before p r s ↦ absurd (none-some a.sign (sym (none_signed (key_of a) (b ∷ ys) (p, all_below_trans (key_of a) (key_of b) (keys_of ys) p vp.0)) ∙ sym (h (key_of a)) ∙ own_sign a xs))
      | level e p r s ↦ λ i. one e i ∷ same_signs xs ys up.1 vp.1 (tails e) i
      | behind p r s ↦ absurd (none-some b.sign (sym (none_signed (key_of b) (a ∷ xs) (p, all_below_trans (key_of b) (key_of a) (keys_of xs) p up.0)) ∙ h (key_of b) ∙ own_sign b ys))
    ]
  where
    signs : key_of a ≡ key_of b → a.sign ≡ b.sign
    signs e = same_Some a.sign b.sign (sym (own_sign a xs) ∙ h (key_of a) ∙ ap (sign_at (b ∷ ys)) e ∙ own_sign b ys)

    one : key_of a ≡ key_of b → a ≡ b
    one e = same_atom_by a b e (signs e)

    tail : (v : Bool) (k : Row) → is_same k (key_of a) ≡ v → is_same k (key_of b) ≡ v → key_of a ≡ key_of b → cond v (Some a.sign) (sign_at xs k) ≡ cond v (Some b.sign) (sign_at ys k) → sign_at xs k ≡ sign_at ys k
    tail true k p q e g =
        none_signed k xs (subst (λ z. IsBelowAll z (keys_of xs)) (sym (same_true k (key_of a) p)) up.0)
        ∙ sym (none_signed k ys (subst (λ z. IsBelowAll z (keys_of ys)) (sym (same_true k (key_of b) q)) vp.0))
    tail false k p q e g = g

    tails : key_of a ≡ key_of b → (k : Row) → sign_at xs k ≡ sign_at ys k
    tails e k = tail (is_same k (key_of a)) k refl (ap (is_same k) (sym e)) e (h k ∙ ap (λ z. cond (is_same k z) (Some b.sign) (sign_at ys k)) (sym e))
