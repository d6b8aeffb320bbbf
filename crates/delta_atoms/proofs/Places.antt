-- Where a relation stands among parts, and what a change at its place does.
use Rattle.std.proofs.Common.{◌≡◌, ℕ, suc, ◌+◌, ◌<◌, ◌≤◌, Bool, true, false, cond, eqb, ◌&&◌, List, [], ◌∷◌, ◌++◌, length, take, drop, get_or, refl, sym, ap, ◌∙◌, subst, arith, inl, inr, add-one, take-append-drop, append_assoc, length-append}
use Rattle.std.specs.List.{insert, slice_set}
use Rattle.std.proofs.lemmas.Bool.{eq-eqb, ne_eqb, cases_eq}
use Rattle.std.proofs.lemmas.List.{set_split, drop_more, drop_all, take_more, take_at, drop_at, length-take-le, get_or_at}
use Rattle.hera_sets.specs.Rows.{Row, put, without}
use Rattle.hera_sets.proofs.Lists.{ascending_put, ascending_filter}
use Rattle.hera_meaning.specs.declared.scalars.Sign.{Sign}
use Rattle.hera_meaning.specs.declared.scalars.Sign.TheVariants.{Plus, Minus}
use Rattle.hera_meaning.specs.Deltas.{Atom}
use Rattle.hera_meaning.specs.Values.{same_sign}
use Rattle.delta_atoms.specs.declared.parts.DeltaPart.{DeltaPart}
use Rattle.delta_atoms.specs.Atoms.{atom_of}
use Rattle.delta_atoms.specs.Parts.{side, rows_at, IsBeforeAll, IsPart, AreOrdered}
use Rattle.delta_atoms.specs.Edits.{put_in, taken_out, IsUpto, IsAt, IsGap, HaveSame, is_of, Puts, Takes}
use Rattle.delta_atoms.proofs.PartSigns.{rows_at-before}

pub upto_more : (m n : ℕ) (ps : List DeltaPart) → m ≤ n → IsUpto m ps → IsUpto n ps
upto_more m n [] g h = tt
upto_more m n (p ∷ ps) g h = (omega (arith, g, h.0), upto_more m n ps g h.1)

pub upto_push : (n : ℕ) (ps : List DeltaPart) (p : DeltaPart) → IsUpto n ps → p.rel.0 < n → IsUpto n (ps ++ p ∷ [])
upto_push n [] p h g = (g, tt)
upto_push n (q ∷ ps) p h g = (h.0, upto_push n ps p h.1 g)

pub before_less : (m n : ℕ) (ps : List DeltaPart) → n ≤ m → IsBeforeAll m ps → IsBeforeAll n ps
before_less m n [] g h = tt
before_less m n (p ∷ ps) g h = (omega (arith, g, h.0), before_less m n ps g h.1)

-- what order says of a part in the middle
before_front : (n : ℕ) (front : List DeltaPart) (p : DeltaPart) (rest : List DeltaPart) → IsBeforeAll n (front ++ p ∷ rest) → n < p.rel.0
before_front n [] p rest h = h.0
before_front n (q ∷ front) p rest h = before_front n front p rest h.1

pub ordered_front : (front : List DeltaPart) (p : DeltaPart) (rest : List DeltaPart) → AreOrdered (front ++ p ∷ rest) → IsUpto p.rel.0 front
ordered_front [] p rest h = tt
ordered_front (q ∷ front) p rest h = (before_front q.rel.0 front p rest h.0.1, ordered_front front p rest h.1)

pub ordered_rest : (front : List DeltaPart) (p : DeltaPart) (rest : List DeltaPart) → AreOrdered (front ++ p ∷ rest) → IsBeforeAll p.rel.0 rest
ordered_rest [] p rest h = h.0.1
ordered_rest (q ∷ front) p rest h = ordered_rest front p rest h.1

pub ordered_part : (front : List DeltaPart) (p : DeltaPart) (rest : List DeltaPart) → AreOrdered (front ++ p ∷ rest) → IsPart p
ordered_part [] p rest h = h.0.0
ordered_part (q ∷ front) p rest h = ordered_part front p rest h.1

before_middle : (n : ℕ) (front : List DeltaPart) (p q : DeltaPart) (rest : List DeltaPart) → q.rel.0 ≡ p.rel.0 → IsBeforeAll n (front ++ p ∷ rest) → IsBeforeAll n (front ++ q ∷ rest)
before_middle n [] p q rest e h = (omega (arith, e, h.0), h.1)
before_middle n (x ∷ front) p q rest e h = (h.0, before_middle n front p q rest e h.1)

-- another part of the same relation in its place
pub ordered_middle : (front : List DeltaPart) (p q : DeltaPart) (rest : List DeltaPart) → q.rel.0 ≡ p.rel.0 → IsPart q → AreOrdered (front ++ p ∷ rest) → AreOrdered (front ++ q ∷ rest)
ordered_middle [] p q rest e i h = ((i, before_less p.rel.0 q.rel.0 rest (omega (arith, e)) h.0.1), h.1)
ordered_middle (x ∷ front) p q rest e i h = ((h.0.0, before_middle x.rel.0 front p q rest e h.0.1), ordered_middle front p q rest e i h.1)

before_gap : (n : ℕ) (front : List DeltaPart) (p : DeltaPart) (rest : List DeltaPart) → n < p.rel.0 → IsBeforeAll n (front ++ rest) → IsBeforeAll n (front ++ p ∷ rest)
before_gap n [] p rest g h = (g, h)
before_gap n (x ∷ front) p rest g h = (h.0, before_gap n front p rest g h.1)

-- a part put into its gap
pub ordered_gap : (front : List DeltaPart) (p : DeltaPart) (rest : List DeltaPart) → IsPart p → IsUpto p.rel.0 front → IsBeforeAll p.rel.0 rest → AreOrdered (front ++ rest) → AreOrdered (front ++ p ∷ rest)
ordered_gap [] p rest i u b h = ((i, b), h)
ordered_gap (x ∷ front) p rest i u b h = ((h.0.0, before_gap x.rel.0 front p rest u.0 h.0.1), ordered_gap front p rest i u.1 b h.1)

-- the rows of a relation, by the part in the middle
pub rows_at-middle : (s : Sign) (m : ℕ) (front : List DeltaPart) (p : DeltaPart) (rest : List DeltaPart) → IsUpto p.rel.0 front → rows_at s m (front ++ p ∷ rest) ≡ cond (eqb p.rel.0 m) (side s p) (rows_at s m (front ++ rest))
rows_at-middle s m [] p rest u = refl
rows_at-middle s m (x ∷ front) p rest u =
    elim (cases_eq x.rel.0 m) [
      | inl e ↦ rw (eq-eqb x.rel.0 m e, ne_eqb p.rel.0 m (λ f. omega (arith, e, f, u.0))) refl
      | inr d ↦ rw (ne_eqb x.rel.0 m d) (rows_at-middle s m front p rest u.1)
    ]

rows_at-none : (s : Sign) (n : ℕ) (front rest : List DeltaPart) → IsUpto n front → IsBeforeAll n rest → rows_at s n (front ++ rest) ≡ []
rows_at-none s n [] rest u b = rows_at-before s n rest b
rows_at-none s n (x ∷ front) rest u b = rw (ne_eqb x.rel.0 n (λ f. omega (arith, f, u.0))) (rows_at-none s n front rest u.1 b)

-- a relation that is not there has no rows
pub gap_none : (s : Sign) (ps : List DeltaPart) (n i : ℕ) → IsGap ps n i → rows_at s n ps ≡ []
gap_none s ps n i h = ap (rows_at s n) (sym (take-append-drop i ps)) ∙ rows_at-none s n (take i ps) (drop i ps) h.front h.rest

-- one that is there has those of its part
pub at_rows : (s : Sign) (ps : List DeltaPart) (n i : ℕ) (h : IsAt ps n i) → AreOrdered ps → rows_at s n ps ≡ side s h.part
at_rows s ps n i h up =
    ap (rows_at s n) h.split
    ∙ rows_at-middle s n (take i ps) h.part (drop (suc i) ps) (ordered_front _ _ _ (subst AreOrdered h.split up))
    ∙ rw (eq-eqb h.part.rel.0 n h.rel) refl

-- a new part without rows
pub gap_ordered : (ps : List DeltaPart) (p : DeltaPart) (i : ℕ) → IsPart p → IsGap ps p.rel.0 i → AreOrdered ps → AreOrdered (insert ps i p)
gap_ordered ps p i k h up = ordered_gap (take i ps) p (drop i ps) k h.front h.rest (subst AreOrdered (sym (take-append-drop i ps)) up)

pub gap_same : (ps : List DeltaPart) (p : DeltaPart) (i : ℕ) → ((s : Sign) → side s p ≡ []) → IsGap ps p.rel.0 i → HaveSame ps (insert ps i p)
gap_same ps p i empty h s m =
    rows_at-middle s m (take i ps) p (drop i ps) h.front
    ∙ elim (cases_eq p.rel.0 m) [
      | inl e ↦ rw (eq-eqb p.rel.0 m e) (empty s ∙ sym (gap_none s ps p.rel.0 i h) ∙ ap (λ n. rows_at s n ps) e)
      | inr d ↦ rw (ne_eqb p.rel.0 m d) (ap (rows_at s m) (take-append-drop i ps))
    ]

-- the part at a place replaced
pub set_ordered : (ps : List DeltaPart) (n i : ℕ) (q : DeltaPart) (h : IsAt ps n i) → q.rel.0 ≡ h.part.rel.0 → IsPart q → AreOrdered ps → AreOrdered (slice_set ps i q)
set_ordered ps n i q h e k up =
    subst AreOrdered (sym (set_split ps i q h.within)) (ordered_middle (take i ps) h.part q (drop (suc i) ps) e k (subst AreOrdered h.split up))

pub set_rows : (s : Sign) (m : ℕ) (ps : List DeltaPart) (n i : ℕ) (q : DeltaPart) (h : IsAt ps n i) → q.rel.0 ≡ h.part.rel.0 → AreOrdered ps → rows_at s m (slice_set ps i q) ≡ cond (eqb n m) (side s q) (rows_at s m ps)
set_rows s m ps n i q h e up =
    let front : IsUpto h.part.rel.0 (take i ps) = ordered_front _ _ _ (subst AreOrdered h.split up) in
    ap (rows_at s m) (set_split ps i q h.within)
    ∙ rows_at-middle s m (take i ps) q (drop (suc i) ps) (upto_more h.part.rel.0 q.rel.0 (take i ps) (omega (arith, e)) front)
    ∙ elim (cases_eq n m) [
      | inl f ↦ rw (eq-eqb q.rel.0 m (e ∙ h.rel ∙ f), eq-eqb n m f) refl
      | inr d ↦ rw (ne_eqb q.rel.0 m (λ g. d (sym h.rel ∙ sym e ∙ g)), ne_eqb n m d)
          (sym (ap (rows_at s m) h.split ∙ rows_at-middle s m (take i ps) h.part (drop (suc i) ps) front ∙ rw (ne_eqb h.part.rel.0 m (λ g. d (sym h.rel ∙ g))) refl))
    ]

-- the part that stands at a place
pub place_split : (ps : List DeltaPart) (i : ℕ) (p : DeltaPart) → i < length ps → p ≡ get_or ps i p → ps ≡ take i ps ++ p ∷ drop (suc i) ps
place_split ps i p h e =
    sym (take-append-drop i ps) ∙ ap (λ t. take i ps ++ t) (drop_more ps i p h ∙ (λ k. sym e k ∷ drop (add-one i k) ps))

pub front_more : (n : ℕ) (ps : List DeltaPart) (i : ℕ) (p : DeltaPart) → AreOrdered ps → i < length ps → p ≡ get_or ps i p → p.rel.0 < n → IsUpto n (take (i + 1) ps)
front_more n ps i p up h e g =
    subst (IsUpto n) (sym (take_more ps i p h ∙ ap (λ (q : DeltaPart). take i ps ++ q ∷ []) (sym e)))
    (upto_push n (take i ps) p (upto_more p.rel.0 n (take i ps) (omega (arith, g)) (ordered_front _ _ _ (subst AreOrdered (place_split ps i p h e) up))) g)

pub rest_more : (n : ℕ) (ps : List DeltaPart) (i : ℕ) (p : DeltaPart) → AreOrdered ps → i < length ps → p ≡ get_or ps i p → n < p.rel.0 → IsBeforeAll n (drop i ps)
rest_more n ps i p up h e g =
    subst (IsBeforeAll n) (sym (drop_more ps i p h ∙ (λ k. sym e k ∷ drop (add-one i k) ps)))
    (g, before_less p.rel.0 n (drop (suc i) ps) (omega (arith, g)) (ordered_rest (take i ps) _ _ (subst AreOrdered (place_split ps i p h e) up)))

pub rest_none : (n : ℕ) (ps : List DeltaPart) (k : ℕ) → length ps ≤ k → IsBeforeAll n (drop k ps)
rest_none n ps k h = subst (IsBeforeAll n) (sym (drop_all k ps h)) tt

-- a part put into its gap is at its place
pub gap_at : (ps : List DeltaPart) (p : DeltaPart) (i : ℕ) → i ≤ length ps → IsAt (insert ps i p) p.rel.0 i
gap_at ps p i h =
    let long : length (take i ps) ≡ i = length-take-le i ps h in
    record {
      part = p;
      within = omega (arith, long, length-append (take i ps) (p ∷ drop i ps));
      split = sym (λ k. take_at (take i ps) (p ∷ drop i ps) i long k ++ p ∷ behind long k);
      rel = refl;
    }
  where
    behind : length (take i ps) ≡ i → drop (suc i) (take i ps ++ p ∷ drop i ps) ≡ drop i ps
    behind long = ap (drop (suc i)) (sym (append_assoc (take i ps) (p ∷ []) (drop i ps))) ∙ drop_at (take i ps ++ p ∷ []) (drop i ps) (suc i) (length-append (take i ps) (p ∷ []) ∙ omega (arith, long))

part_put : (s : Sign) (r : Row) (p : DeltaPart) → IsPart p → IsPart (put_in s r p)
part_put Plus r p h = record { plus = ascending_put r p.plus h.plus; minus = h.minus }
part_put Minus r p h = record { plus = h.plus; minus = ascending_put r p.minus h.minus }

part_taken : (s : Sign) (r : Row) (p : DeltaPart) → IsPart p → IsPart (taken_out s r p)
part_taken Plus r p h = record { plus = ascending_filter _ p.plus h.plus; minus = h.minus }
part_taken Minus r p h = record { plus = h.plus; minus = ascending_filter _ p.minus h.minus }

rel_put : (s : Sign) (r : Row) (p : DeltaPart) → (put_in s r p).rel.0 ≡ p.rel.0
rel_put Plus r p = refl
rel_put Minus r p = refl

rel_taken : (s : Sign) (r : Row) (p : DeltaPart) → (taken_out s r p).rel.0 ≡ p.rel.0
rel_taken Plus r p = refl
rel_taken Minus r p = refl

side_put : (t s : Sign) (r : Row) (p : DeltaPart) → side t (put_in s r p) ≡ cond (same_sign t s) (put r (side t p)) (side t p)
side_put Plus Plus r p = refl
side_put Plus Minus r p = refl
side_put Minus Plus r p = refl
side_put Minus Minus r p = refl

side_taken : (t s : Sign) (r : Row) (p : DeltaPart) → side t (taken_out s r p) ≡ cond (same_sign t s) (without r (side t p)) (side t p)
side_taken Plus Plus r p = refl
side_taken Plus Minus r p = refl
side_taken Minus Plus r p = refl
side_taken Minus Minus r p = refl

and_true : (b : Bool) → (b && true) ≡ b
and_true true = refl
and_true false = refl

and_false : (b : Bool) → (b && false) ≡ false
and_false true = refl
and_false false = refl

-- the part of a place, as an index reads it
pub at_part : (ps : List DeltaPart) (n i : ℕ) (h : IsAt ps n i) (p : DeltaPart) → p ≡ get_or ps i p → p ≡ h.part
at_part ps n i h p e = e ∙ ap (λ t. get_or t i p) h.split ∙ get_or_at (take i ps) h.part (drop (suc i) ps) p i (length-take-le i ps (omega (arith, h.within)))

-- a change of one side of the part at a place
changed : (f : Row → List Row → List Row) (s : Sign) (n : ℕ) (r : Row) (ps : List DeltaPart) (i : ℕ) (q : DeltaPart) (h : IsAt ps n i) → q.rel.0 ≡ h.part.rel.0 → ((t : Sign) → side t q ≡ cond (same_sign t s) (f r (side t h.part)) (side t h.part)) → AreOrdered ps
    → (t : Sign) (m : ℕ) → rows_at t m (slice_set ps i q) ≡ cond (same_sign t s && eqb m n) (f r (rows_at t m ps)) (rows_at t m ps)
changed f s n r ps i q h e sides up t m =
    set_rows t m ps n i q h e up
    ∙ elim (cases_eq n m) [
      | inl g ↦ rw (eq-eqb n m g, eq-eqb m n (sym g), and_true (same_sign t s)) (sides t ∙ ap (λ (rows : List Row). cond (same_sign t s) (f r rows) rows) (sym (at_rows t ps n i h up) ∙ ap (λ k. rows_at t k ps) g))
      | inr d ↦ rw (ne_eqb n m d, ne_eqb m n (λ g. d (sym g)), and_false (same_sign t s)) refl
    ]

pub put_ordered : (s : Sign) (n : ℕ) (r : Row) (ps : List DeltaPart) (i : ℕ) (p q : DeltaPart) → IsAt ps n i → AreOrdered ps → p ≡ get_or ps i p → q ≡ put_in s r p → AreOrdered (slice_set ps i q)
put_ordered s n r ps i p q h up e f =
    let same : q ≡ put_in s r h.part = f ∙ ap (put_in s r) (at_part ps n i h p e) in
    set_ordered ps n i q h (ap (λ (x : DeltaPart). x.rel.0) same ∙ rel_put s r h.part) (subst IsPart (sym same) (part_put s r h.part (ordered_part (take i ps) h.part (drop (suc i) ps) (subst AreOrdered h.split up)))) up

pub put_puts : (s : Sign) (n : ℕ) (r : Row) (ps : List DeltaPart) (i : ℕ) (p q : DeltaPart) → IsAt ps n i → AreOrdered ps → p ≡ get_or ps i p → q ≡ put_in s r p → Puts (atom_of s n r) ps (slice_set ps i q)
put_puts s n r ps i p q h up e f =
    let same : q ≡ put_in s r h.part = f ∙ ap (put_in s r) (at_part ps n i h p e) in
    changed put s n r ps i q h (ap (λ (x : DeltaPart). x.rel.0) same ∙ rel_put s r h.part) (λ t. ap (side t) same ∙ side_put t s r h.part) up

pub take_ordered : (s : Sign) (n : ℕ) (r : Row) (ps : List DeltaPart) (i : ℕ) (p q : DeltaPart) → IsAt ps n i → AreOrdered ps → p ≡ get_or ps i p → q ≡ taken_out s r p → AreOrdered (slice_set ps i q)
take_ordered s n r ps i p q h up e f =
    let same : q ≡ taken_out s r h.part = f ∙ ap (taken_out s r) (at_part ps n i h p e) in
    set_ordered ps n i q h (ap (λ (x : DeltaPart). x.rel.0) same ∙ rel_taken s r h.part) (subst IsPart (sym same) (part_taken s r h.part (ordered_part (take i ps) h.part (drop (suc i) ps) (subst AreOrdered h.split up)))) up

pub take_takes : (s : Sign) (n : ℕ) (r : Row) (ps : List DeltaPart) (i : ℕ) (p q : DeltaPart) → IsAt ps n i → AreOrdered ps → p ≡ get_or ps i p → q ≡ taken_out s r p → Takes (atom_of s n r) ps (slice_set ps i q)
take_takes s n r ps i p q h up e f =
    let same : q ≡ taken_out s r h.part = f ∙ ap (taken_out s r) (at_part ps n i h p e) in
    changed without s n r ps i q h (ap (λ (x : DeltaPart). x.rel.0) same ∙ rel_taken s r h.part) (λ t. ap (side t) same ∙ side_taken t s r h.part) up

-- nothing to take of a relation that is not there
pub gap_takes : (s : Sign) (n : ℕ) (r : Row) (ps : List DeltaPart) (i : ℕ) → IsGap ps n i → Takes (atom_of s n r) ps ps
gap_takes s n r ps i h t m =
    elim (cases_eq m n) [
      | inl g ↦ rw (ap (λ k. rows_at t k ps) g ∙ gap_none t ps n i h) (by (same_sign t s && eqb m n))
      | inr d ↦ rw (ne_eqb m n d, and_false (same_sign t s)) refl
    ]
  where
    by : (b : Bool) → let none : List Row = [] in none ≡ cond b [] []
    by true = refl
    by false = refl

pub puts_after : (a : Atom) (old mid new : List DeltaPart) → HaveSame old mid → Puts a mid new → Puts a old new
puts_after a old mid new h g s n = g s n ∙ (λ i. cond (is_of a s n) (put a.row (h s n i)) (h s n i))
