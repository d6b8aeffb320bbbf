-- The atoms of parts: their order, and the sign at each key.
use Rattle.std.proofs.Common.{◌≡◌, ℕ, ◌<◌, Bool, true, false, cond, eqb, ◌||◌, ◌&&◌, List, [], ◌∷◌, ◌++◌, Option, Some, None, refl, sym, ap, ◌∙◌, subst, arith, inl, inr}
use Rattle.std.specs.Option.{is_some}
use Rattle.std.proofs.lemmas.Bool.{false≢true, eq-eqb, ne_eqb, eqb-true, cases_eq, or_from, or_left, or_right}
use Rattle.hera_sets.specs.Rows.{Row, is_below, is_same, IsBelowAll, IsAscending, holds}
use Rattle.hera_sets.proofs.Order.{same_itself, same_cons, below_cons_less, below_cons_same}
use Rattle.hera_meaning.specs.declared.scalars.Sign.{Sign}
use Rattle.hera_meaning.specs.declared.scalars.Sign.TheVariants.{Plus, Minus}
use Rattle.hera_sets.proofs.Lists.{none_held}
use Rattle.hera_sets.proofs.Members.{holds-append}
use Rattle.hera_meaning.specs.Schemas.{AreDistinct}
use Rattle.hera_meaning.specs.Deltas.{Atom, key_of, keys_of}
use Rattle.delta_atoms.specs.Atoms.{bulk_of, sign_at}
use Rattle.delta_atoms.specs.declared.parts.DeltaPart.{DeltaPart}
use Rattle.delta_atoms.specs.Parts.{atoms_at, atoms_of, rows_at, IsBeforeAll, IsPart, AreOrdered, AreApart}
use Rattle.delta_atoms.proofs.Signs.{first_of, first_of-none, sign_at_nil, keys_of-append, ascending_in_order, sign_at-in_order, sign_at-append}

-- the sign of a row that is put in or taken out
abbrev pub sign_in : Bool → Bool → Option Sign
sign_in put_in taken_out = cond put_in (Some Plus) (cond taken_out (Some Minus) None)

abbrev pub when : Bool → Sign → Option Sign
when b s = cond b (Some s) None

pub sign_at-bulk : (s : Sign) (n : ℕ) (rows : List Row) (m : ℕ) (r : Row) → sign_at (bulk_of s n rows) (m ∷ r) ≡ when (eqb m n && holds rows r) s
sign_at-bulk s n [] m r = elim (eqb m n) as (λ b. None ≡ when (b && false) s) [ true ↦ refl | false ↦ refl ]
sign_at-bulk s n (x ∷ rows) m r =
    (λ i. cond (same_cons m n r x i) (Some s) (sign_at-bulk s n rows m r i))
    ∙ by (eqb m n) (is_same r x)
  where
    by : (e v : Bool) → cond (e && v) (Some s) (when (e && holds rows r) s) ≡ when (e && (v || holds rows r)) s
    by false v = refl
    by true true = refl
    by true false = refl

-- the sign at a key of one relation's atoms
pub sign_at-atoms_at : (p : DeltaPart) (m : ℕ) (r : Row) → sign_at (atoms_at p) (m ∷ r) ≡ cond (eqb m p.rel.0) (sign_in (holds p.plus r) (holds p.minus r)) None
sign_at-atoms_at p m r =
    sign_at-in_order (bulk_of Plus p.rel.0 p.plus ++ bulk_of Minus p.rel.0 p.minus) (m ∷ r)
    ∙ sign_at-append (bulk_of Plus p.rel.0 p.plus) (bulk_of Minus p.rel.0 p.minus) (m ∷ r)
    ∙ (λ i. first_of (sign_at-bulk Plus p.rel.0 p.plus m r i) (sign_at-bulk Minus p.rel.0 p.minus m r i))
    ∙ by (eqb m p.rel.0) (holds p.plus r) (holds p.minus r)
  where
    by : (e c d : Bool) → first_of (when (e && c) Plus) (when (e && d) Minus) ≡ cond e (sign_in c d) None
    by false c d = refl
    by true true d = refl
    by true false d = refl

-- a relation before all of these has no rows among them
pub rows_at-before : (s : Sign) (n : ℕ) (ps : List DeltaPart) → IsBeforeAll n ps → rows_at s n ps ≡ []
rows_at-before s n [] h = refl
rows_at-before s n (p ∷ ps) h = rw (ne_eqb p.rel.0 n (λ e. omega (arith, e, h.0))) (rows_at-before s n ps h.1)

-- the sign at a key, by the two sets of its relation
pub sign_at-atoms_of : (ps : List DeltaPart) (m : ℕ) (r : Row) → AreOrdered ps → sign_at (atoms_of ps) (m ∷ r) ≡ sign_in (holds (rows_at Plus m ps) r) (holds (rows_at Minus m ps) r)
sign_at-atoms_of [] m r up = refl
sign_at-atoms_of (p ∷ ps) m r up =
    sign_at-append (atoms_at p) (atoms_of ps) (m ∷ r)
    ∙ (λ i. first_of (sign_at-atoms_at p m r i) (sign_at-atoms_of ps m r up.1 i))
    ∙ elim (cases_eq m p.rel.0) [
      | inl e ↦ rw (eq-eqb m p.rel.0 e, eq-eqb p.rel.0 m (sym e), none Plus e, none Minus e) (first_of-none (sign_in (holds p.plus r) (holds p.minus r)))
      | inr d ↦ rw (ne_eqb m p.rel.0 d, ne_eqb p.rel.0 m (λ e. d (sym e))) refl
    ]
  where
    none : (s : Sign) → m ≡ p.rel.0 → rows_at s m ps ≡ []
    none s e = ap (λ n. rows_at s n ps) e ∙ rows_at-before s p.rel.0 ps up.0.1

-- a key is held where it has a sign
pub holds-keys_of : (xs : List Atom) (k : Row) → holds (keys_of xs) k ≡ is_some (sign_at xs k)
holds-keys_of [] k = refl
holds-keys_of (a ∷ xs) k = by (is_same k (key_of a)) (holds-keys_of xs k)
  where
    by : (v : Bool) → holds (keys_of xs) k ≡ is_some (sign_at xs k) → (v || holds (keys_of xs) k) ≡ is_some (cond v (Some a.sign) (sign_at xs k))
    by true h = refl
    by false h = h

-- by members: a row is below all of a list
below_all_from : (x : Row) (ys : List Row) → ((y : Row) → holds ys y ≡ true → is_below x y ≡ true) → IsBelowAll x ys
below_all_from x [] f = tt
below_all_from x (y ∷ ys) f = (f y (ap (λ b. b || holds ys y) (same_itself y)), below_all_from x ys (λ z h. f z (later (is_same z y) (holds ys z) h)))
  where
    later : (a b : Bool) → b ≡ true → (a || b) ≡ true
    later true b h = refl
    later false b h = h

all_append : (z : Row) (xs ys : List Row) → IsBelowAll z xs → IsBelowAll z ys → IsBelowAll z (xs ++ ys)
all_append z [] ys h g = g
all_append z (x ∷ xs) ys h g = (h.0, all_append z xs ys h.1 g)

-- two ascending lists, one behind the other
ascending_append : (xs ys : List Row) → IsAscending xs → IsAscending ys → ((x : Row) → holds xs x ≡ true → IsBelowAll x ys) → IsAscending (xs ++ ys)
ascending_append [] ys up vp f = vp
ascending_append (x ∷ xs) ys up vp f =
    (all_append x xs ys up.0 (f x (ap (λ b. b || holds xs x) (same_itself x))), ascending_append xs ys up.1 vp (λ z h. f z (later (is_same z x) (holds xs z) h)))
  where
    later : (a b : Bool) → b ≡ true → (a || b) ≡ true
    later true b h = refl
    later false b h = h

-- keys of later relations
abbrev IsOf : ℕ → Row → Type 0
IsOf n [] = ⊥
IsOf n (m ∷ r) = m ≡ n

of_relation : (p : DeltaPart) (k : Row) → holds (keys_of (atoms_at p)) k ≡ true → IsOf p.rel.0 k
of_relation p [] h = absurd (false≢true (sym (holds-keys_of (atoms_at p) [] ∙ ap is_some (sign_at_nil (atoms_at p))) ∙ h))
of_relation p (m ∷ r) h = eqb-true m p.rel.0 (by (eqb m p.rel.0) (sym (holds-keys_of (atoms_at p) (m ∷ r) ∙ ap is_some (sign_at-atoms_at p m r)) ∙ h))
  where
    by : (e : Bool) → is_some (cond e (sign_in (holds p.plus r) (holds p.minus r)) None) ≡ true → e ≡ true
    by true g = refl
    by false g = absurd (false≢true g)

below_part : (n : ℕ) (r : Row) (p : DeltaPart) → n < p.rel.0 → IsBelowAll (n ∷ r) (keys_of (atoms_at p))
below_part n r p lt = below_all_from (n ∷ r) (keys_of (atoms_at p)) (λ k h. by k (of_relation p k h))
  where
    by : (k : Row) → IsOf p.rel.0 k → is_below (n ∷ r) k ≡ true
    by [] f = absurd f
    by (m ∷ q) e = below_cons_less n m r q (omega (arith, e, lt))

below_parts : (n : ℕ) (r : Row) (ps : List DeltaPart) → IsBeforeAll n ps → IsBelowAll (n ∷ r) (keys_of (atoms_of ps))
below_parts n r [] h = tt
below_parts n r (p ∷ ps) h =
    subst (IsBelowAll (n ∷ r)) (sym (keys_of-append (atoms_at p) (atoms_of ps)))
    (all_append (n ∷ r) (keys_of (atoms_at p)) (keys_of (atoms_of ps)) (below_part n r p h.0) (below_parts n r ps h.1))

-- one relation's rows as keys
keys_of-bulk_all : (s : Sign) (n : ℕ) (x : Row) (rows : List Row) → IsBelowAll x rows → IsBelowAll (n ∷ x) (keys_of (bulk_of s n rows))
keys_of-bulk_all s n x [] h = tt
keys_of-bulk_all s n x (y ∷ rows) h = (below_cons_same n x y ∙ h.0, keys_of-bulk_all s n x rows h.1)

pub ascending_bulk : (s : Sign) (n : ℕ) (rows : List Row) → IsAscending rows → IsAscending (keys_of (bulk_of s n rows))
ascending_bulk s n [] h = tt
ascending_bulk s n (x ∷ rows) h = (keys_of-bulk_all s n x rows h.0, ascending_bulk s n rows h.1)

distinct_ascending : (xs : List Row) → IsAscending xs → AreDistinct xs
distinct_ascending [] up = tt
distinct_ascending (x ∷ xs) up = (none_held x xs up.0, distinct_ascending xs up.1)

distinct_append : (xs ys : List Row) → AreDistinct xs → AreDistinct ys → ((q : Row) → holds xs q ≡ true → holds ys q ≡ false) → AreDistinct (xs ++ ys)
distinct_append [] ys d e f = e
distinct_append (x ∷ xs) ys d e f = (
  holds-append xs ys x ∙ or_from (holds xs x) (holds ys x) d.0 (f x (or_left _ _ (same_itself x))),
  distinct_append xs ys d.1 e (λ q h. f q (or_right _ _ h)),
)

-- no key of one relation stands twice
pub distinct_part : (p : DeltaPart) → IsPart p → ((r : Row) → (holds p.plus r && holds p.minus r) ≡ false) → AreDistinct (keys_of (bulk_of Plus p.rel.0 p.plus ++ bulk_of Minus p.rel.0 p.minus))
distinct_part p h apart =
    subst AreDistinct (sym (keys_of-append (bulk_of Plus p.rel.0 p.plus) (bulk_of Minus p.rel.0 p.minus)))
    (distinct_append (keys_of (bulk_of Plus p.rel.0 p.plus)) (keys_of (bulk_of Minus p.rel.0 p.minus)) (distinct_ascending _ (ascending_bulk Plus p.rel.0 p.plus h.plus)) (distinct_ascending _ (ascending_bulk Minus p.rel.0 p.minus h.minus)) by)
  where
    held : (s : Sign) (rows : List Row) (m : ℕ) (r : Row) → holds (keys_of (bulk_of s p.rel.0 rows)) (m ∷ r) ≡ (eqb m p.rel.0 && holds rows r)
    held s rows m r = holds-keys_of (bulk_of s p.rel.0 rows) (m ∷ r) ∙ ap is_some (sign_at-bulk s p.rel.0 rows m r) ∙ is_some-when (eqb m p.rel.0 && holds rows r)
      where
        is_some-when : (b : Bool) → is_some (when b s) ≡ b
        is_some-when true = refl
        is_some-when false = refl

    table : (e c d : Bool) → (c && d) ≡ false → (e && c) ≡ true → (e && d) ≡ false
    table true true d f g = f
    table true false d f g = absurd (false≢true g)
    table false c d f g = refl

    by : (q : Row) → holds (keys_of (bulk_of Plus p.rel.0 p.plus)) q ≡ true → holds (keys_of (bulk_of Minus p.rel.0 p.minus)) q ≡ false
    by [] g = holds-keys_of (bulk_of Minus p.rel.0 p.minus) [] ∙ ap is_some (sign_at_nil (bulk_of Minus p.rel.0 p.minus))
    by (m ∷ r) g = held Minus p.minus m r ∙ table (eqb m p.rel.0) (holds p.plus r) (holds p.minus r) (apart r) (sym (held Plus p.plus m r) ∙ g)

-- the first part, and the rest
pub apart_head : (p : DeltaPart) (ps : List DeltaPart) → AreApart (p ∷ ps) → (r : Row) → (holds p.plus r && holds p.minus r) ≡ false
apart_head p ps h r = rw (eq-eqb p.rel.0 p.rel.0 refl) at (h p.rel.0 r)

pub apart_tail : (p : DeltaPart) (ps : List DeltaPart) → IsBeforeAll p.rel.0 ps → AreApart (p ∷ ps) → AreApart ps
apart_tail p ps b h n r =
    elim (cases_eq p.rel.0 n) [
      | inl e ↦ rw (none Plus e) refl
      | inr d ↦ rw (ne_eqb p.rel.0 n d) at (h n r)
    ]
  where
    none : (s : Sign) → p.rel.0 ≡ n → rows_at s n ps ≡ []
    none s e = ap (λ m. rows_at s m ps) (sym e) ∙ rows_at-before s p.rel.0 ps b

-- the atoms of parts are in order
pub ascending_atoms_of : (ps : List DeltaPart) → AreOrdered ps → AreApart ps → IsAscending (keys_of (atoms_of ps))
ascending_atoms_of [] up apart = tt
ascending_atoms_of (p ∷ ps) up apart =
    subst IsAscending (sym (keys_of-append (atoms_at p) (atoms_of ps)))
    (ascending_append (keys_of (atoms_at p)) (keys_of (atoms_of ps)) (ascending_in_order _ (distinct_part p up.0.0 (apart_head p ps apart))) (ascending_atoms_of ps up.1 (apart_tail p ps up.0.1 apart)) (λ k h. by k (of_relation p k h)))
  where
    by : (k : Row) → IsOf p.rel.0 k → IsBelowAll k (keys_of (atoms_of ps))
    by [] f = absurd f
    by (m ∷ q) e = below_parts m q ps (subst (λ z. IsBeforeAll z ps) (sym e) up.0.1)
