-- The rows of one relation and sign among atoms in order.
use Rattle.std.proofs.Common.{◌≡◌, ℕ, suc, ◌+◌, Bool, true, false, cond, eqb, not, ◌||◌, ◌&&◌, List, [], ◌∷◌, ◌++◌, map, filter, length, Option, Some, None, refl, sym, ap, ◌∙◌, subst, arith, nat_lt, nat_eq, length-append}
use Rattle.std.proofs.lemmas.Bool.{false≢true, eqb-true, lt-ltb}
use Rattle.std.proofs.lemmas.List.{length-map}
use Rattle.hera_sets.specs.Rows.{Row, is_below, is_same, IsBelowAll, IsAscending, holds}
use Rattle.hera_sets.proofs.Order.{same_true, below_cons_same}
use Rattle.hera_sets.proofs.Members.{same_rows}
use Rattle.hera_meaning.specs.declared.scalars.Sign.{Sign}
use Rattle.hera_meaning.specs.declared.scalars.Sign.TheVariants.{Plus, Minus}
use Rattle.hera_meaning.specs.Deltas.{Atom, key_of, keys_of, is_plus, put_atom, in_order, rows_named}
use Rattle.hera_meaning.proofs.Atoms.{rows_named-key}
use Rattle.delta_atoms.specs.Atoms.{atom_of, bulk_of, sign_at, have_relation, signed, part_of}
use Rattle.delta_atoms.specs.declared.parts.DeltaPart.{DeltaPart}
use Rattle.delta_atoms.specs.Parts.{side, atoms_at, atoms_of, rows_at, AreOrdered, ArePacked}
use Rattle.delta_atoms.specs.Edits.{gives}
use Rattle.delta_atoms.proofs.Signs.{none_signed}
use Rattle.delta_atoms.proofs.PartSigns.{sign_in, sign_at-atoms_of, ascending_atoms_of}

abbrev passes : (Sign → Bool) → Option Sign → Bool
passes t None = false
passes t (Some s) = t s

-- the keys of the atoms that pass a test of their sign
holds-filter : (t : Sign → Bool) (xs : List Atom) (k : Row) → IsAscending (keys_of xs) → holds (keys_of (filter (λ a. t a.sign) xs)) k ≡ passes t (sign_at xs k)
holds-filter t [] k up = refl
holds-filter t (a ∷ xs) k up = by (t a.sign) refl (is_same k (key_of a)) refl (holds-filter t xs k up.1)
  where
    by : (b : Bool) → t a.sign ≡ b → (v : Bool) → is_same k (key_of a) ≡ v → holds (keys_of (filter (λ a. t a.sign) xs)) k ≡ passes t (sign_at xs k)
        → holds (keys_of (cond b (a ∷ filter (λ a. t a.sign) xs) (filter (λ a. t a.sign) xs))) k ≡ passes t (cond v (Some a.sign) (sign_at xs k))
    by true e true f h = rw (e, f) refl
    by true e false f h = rw f h
    by false e true f h = rw e (h ∙ ap (passes t) (none_signed k xs (subst (λ z. IsBelowAll z (keys_of xs)) (sym (same_true k (key_of a) f)) up.0)))
    by false e false f h = h

pub holds-signed : (s : Sign) (xs : List Atom) (k : Row) → IsAscending (keys_of xs) → holds (keys_of (signed s xs)) k ≡ gives (sign_at xs k) s
holds-signed Plus xs k up = holds-filter is_plus xs k up ∙ by (sign_at xs k)
  where
    by : (o : Option Sign) → passes is_plus o ≡ gives o Plus
    by None = refl
    by (Some Plus) = refl
    by (Some Minus) = refl
holds-signed Minus xs k up = holds-filter (λ s. not (is_plus s)) xs k up ∙ by (sign_at xs k)
  where
    by : (o : Option Sign) → passes (λ s. not (is_plus s)) o ≡ gives o Minus
    by None = refl
    by (Some Plus) = refl
    by (Some Minus) = refl

pub holds-part_of : (xs : List Atom) (n : ℕ) (s : Sign) (r : Row) → IsAscending (keys_of xs) → holds (part_of xs n s) r ≡ gives (sign_at xs (n ∷ r)) s
holds-part_of xs n s r up = rows_named-key n (signed s xs) r ∙ holds-signed s xs (n ∷ r) up

-- order is kept
all_filter : (t : Atom → Bool) (k : Row) (xs : List Atom) → IsBelowAll k (keys_of xs) → IsBelowAll k (keys_of (filter t xs))
all_filter t k [] all = tt
all_filter t k (a ∷ xs) all = by (t a) (all_filter t k xs all.1)
  where
    by : (b : Bool) → IsBelowAll k (keys_of (filter t xs)) → IsBelowAll k (keys_of (cond b (a ∷ filter t xs) (filter t xs)))
    by true h = (all.0, h)
    by false h = h

pub ascending_filter : (t : Atom → Bool) (xs : List Atom) → IsAscending (keys_of xs) → IsAscending (keys_of (filter t xs))
ascending_filter t [] up = tt
ascending_filter t (a ∷ xs) up = by (t a) (ascending_filter t xs up.1)
  where
    by : (b : Bool) → IsAscending (keys_of (filter t xs)) → IsAscending (keys_of (cond b (a ∷ filter t xs) (filter t xs)))
    by true h = (all_filter t (key_of a) xs up.0, h)
    by false h = h

all_named : (n : ℕ) (x : Row) (xs : List Atom) → IsBelowAll (n ∷ x) (keys_of xs) → IsBelowAll x (rows_named n xs)
all_named n x [] all = tt
all_named n x (a ∷ xs) all = by (nat_eq a.rel n) refl (all_named n x xs all.1)
  where
    by : (b : Bool) → nat_eq a.rel n ≡ b → IsBelowAll x (rows_named n xs) → IsBelowAll x (map (λ (c : Atom). c.row) (cond b (a ∷ filter (λ (c : Atom). nat_eq c.rel n) xs) (filter (λ (c : Atom). nat_eq c.rel n) xs)))
    by true e h = (sym (below_cons_same n x a.row) ∙ ap (λ m. is_below (n ∷ x) (m ∷ a.row)) (sym (eqb-true a.rel n e)) ∙ all.0, h)
    by false e h = h

ascending_named : (n : ℕ) (xs : List Atom) → IsAscending (keys_of xs) → IsAscending (rows_named n xs)
ascending_named n [] up = tt
ascending_named n (a ∷ xs) up = by (nat_eq a.rel n) refl (ascending_named n xs up.1)
  where
    by : (b : Bool) → nat_eq a.rel n ≡ b → IsAscending (rows_named n xs) → IsAscending (map (λ (c : Atom). c.row) (cond b (a ∷ filter (λ (c : Atom). nat_eq c.rel n) xs) (filter (λ (c : Atom). nat_eq c.rel n) xs)))
    by true e h = (all_named n a.row xs (subst (λ m. IsBelowAll (m ∷ a.row) (keys_of xs)) (eqb-true a.rel n e) up.0), h)
    by false e h = h

pub ascending_part_of : (xs : List Atom) (n : ℕ) (s : Sign) → IsAscending (keys_of xs) → IsAscending (part_of xs n s)
ascending_part_of xs n Plus up = ascending_named n (signed Plus xs) (ascending_filter _ xs up)
ascending_part_of xs n Minus up = ascending_named n (signed Minus xs) (ascending_filter _ xs up)

pub ascending_rows_at : (s : Sign) (n : ℕ) (ps : List DeltaPart) → AreOrdered ps → IsAscending (rows_at s n ps)
ascending_rows_at s n [] up = tt
ascending_rows_at s n (p ∷ ps) up = by (eqb p.rel.0 n) s (ascending_rows_at s n ps up.1)
  where
    by : (b : Bool) (s : Sign) → IsAscending (rows_at s n ps) → IsAscending (cond b (side s p) (rows_at s n ps))
    by true Plus h = up.0.0.plus
    by true Minus h = up.0.0.minus
    by false s h = h

-- the sets of a relation, by the atoms
pub rows_give : (s : Sign) (n : ℕ) (ps : List DeltaPart) (r : Row) → ArePacked ps → holds (rows_at s n ps) r ≡ gives (sign_at (atoms_of ps) (n ∷ r)) s
rows_give s n ps r h = sym (ap (λ o. gives o s) (sign_at-atoms_of ps n r h.ordered) ∙ by s (holds (rows_at Plus n ps) r) refl (holds (rows_at Minus n ps) r) refl (h.apart n r))
  where
    by : (s : Sign) (c : Bool) → holds (rows_at Plus n ps) r ≡ c → (d : Bool) → holds (rows_at Minus n ps) r ≡ d → (c && d) ≡ false → gives (sign_in c d) s ≡ holds (rows_at s n ps) r
    by Plus true e d f g = sym e
    by Plus false e true f g = sym e
    by Plus false e false f g = sym e
    by Minus true e true f g = absurd (false≢true (sym g))
    by Minus true e false f g = sym f
    by Minus false e true f g = sym f
    by Minus false e false f g = sym f

pub part_is : (ps : List DeltaPart) (n : ℕ) (s : Sign) → ArePacked ps → part_of (atoms_of ps) n s ≡ rows_at s n ps
part_is ps n s h =
    let up = ascending_atoms_of ps h.ordered h.apart in
    same_rows (part_of (atoms_of ps) n s) (rows_at s n ps) (ascending_part_of (atoms_of ps) n s up) (ascending_rows_at s n ps h.ordered) (λ r. holds-part_of (atoms_of ps) n s r up ∙ sym (rows_give s n ps r h))

-- the sign, by the two sets
pub sign_by_parts : (xs : List Atom) (n : ℕ) (r : Row) → IsAscending (keys_of xs) → sign_at xs (n ∷ r) ≡ cond (holds (part_of xs n Plus) r) (Some Plus) (cond (holds (part_of xs n Minus) r) (Some Minus) None)
sign_by_parts xs n r up =
    by (sign_at xs (n ∷ r))
    ∙ sym (λ i. cond (holds-part_of xs n Plus r up i) (Some Plus) (cond (holds-part_of xs n Minus r up i) (Some Minus) None))
  where
    by : (o : Option Sign) → o ≡ cond (gives o Plus) (Some Plus) (cond (gives o Minus) (Some Minus) None)
    by None = refl
    by (Some Plus) = refl
    by (Some Minus) = refl

-- whether a relation is touched, by the two sets
pub touched : (xs : List Atom) (n : ℕ) → have_relation xs n ≡ (nat_lt 0 (length (part_of xs n Plus)) || nat_lt 0 (length (part_of xs n Minus)))
touched [] n = refl
touched (a ∷ xs) n = by (nat_eq a.rel n) refl a.sign refl (touched xs n)
  where
    some : (x : ℕ) → nat_lt 0 (suc x) ≡ true
    some x = lt-ltb 0 (suc x) (omega arith)

    or_true : (b : Bool) → true ≡ (b || true)
    or_true true = refl
    or_true false = refl

    by : (b : Bool) → nat_eq a.rel n ≡ b → (s : Sign) → a.sign ≡ s → have_relation xs n ≡ (nat_lt 0 (length (part_of xs n Plus)) || nat_lt 0 (length (part_of xs n Minus)))
        → (b || have_relation xs n) ≡ (nat_lt 0 (length (part_of (a ∷ xs) n Plus)) || nat_lt 0 (length (part_of (a ∷ xs) n Minus)))
    by true e Plus f h = rw (ap is_plus f, e) (ap (λ b. b || nat_lt 0 (length (part_of xs n Minus))) (sym (some (length (part_of xs n Plus)))))
    by true e Minus f h = rw (ap is_plus f, e) (or_true (nat_lt 0 (length (part_of xs n Plus))) ∙ ap (λ b. nat_lt 0 (length (part_of xs n Plus)) || b) (sym (some (length (part_of xs n Minus)))))
    by false e Plus f h = rw (ap is_plus f, e) h
    by false e Minus f h = rw (ap is_plus f, e) h

-- how many atoms there are
length-put_atom : (a : Atom) (xs : List Atom) → length (put_atom a xs) ≡ suc (length xs)
length-put_atom a [] = refl
length-put_atom a (b ∷ xs) = by (is_below (key_of b) (key_of a)) (length-put_atom a xs)
  where
    by : (v : Bool) → length (put_atom a xs) ≡ suc (length xs) → length (cond v (b ∷ put_atom a xs) (a ∷ b ∷ xs)) ≡ suc (suc (length xs))
    by true h = ap suc h
    by false h = refl

length-in_order : (xs : List Atom) → length (in_order xs) ≡ length xs
length-in_order [] = refl
length-in_order (a ∷ xs) = length-put_atom a (in_order xs) ∙ ap suc (length-in_order xs)

abbrev pub size : DeltaPart → ℕ
size p = length p.plus + length p.minus

abbrev pub total : List DeltaPart → ℕ
total [] = 0
total (p ∷ ps) = size p + total ps

pub length-atoms_of : (ps : List DeltaPart) → length (atoms_of ps) ≡ total ps
length-atoms_of [] = refl
length-atoms_of (p ∷ ps) =
    length-append (atoms_at p) (atoms_of ps)
    ∙ (λ i. (length-in_order (bulk_of Plus p.rel.0 p.plus ++ bulk_of Minus p.rel.0 p.minus) ∙ length-append (bulk_of Plus p.rel.0 p.plus) (bulk_of Minus p.rel.0 p.minus)) i + length-atoms_of ps i)
    ∙ (λ i. (length-map p.plus (atom_of Plus p.rel.0) i + length-map p.minus (atom_of Minus p.rel.0) i) + total ps)
