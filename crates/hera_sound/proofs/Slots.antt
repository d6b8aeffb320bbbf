-- The slots of a body: the form of each, and whether it is a walk's.
use Rattle.std.proofs.Common.{◌≡◌, ℕ, zero, suc, ◌<◌, ◌≤◌, ◌+◌, List, [], ◌∷◌, ◌++◌, length, refl, sym, ap, ◌∙◌, subst, arith, Bool, true, false, append_assoc, length-append}
use Rattle.std.specs.Prelude.{Option, Some, ◌||◌, cond, is_some, map, nat_eq, slice_get, All}
use Rattle.std.proofs.lemmas.Bool.{ne_eqb, eq-eqb, eqb-false}
use Rattle.std.proofs.lemmas.List.Elements.{All-cons, All-nil}
use Rattle.hera_meaning.specs.declared.scalars.Kind.{Kind}
use Rattle.hera_meaning.specs.Forms.{Form, form_of}
use Rattle.hera_meaning.specs.Sound.{has_slot, AreApart, first_slots}
use Rattle.hera_meaning.specs.Shapes.{kinds_if}
use Rattle.hera_sound.specs.Types_found.{Slot}

abbrev pub slot_forms : List Slot → List Form
slot_forms ss = map form_of (map (λ s. s.shape) ss)

-- what the walks into slots gather
abbrev pub slot_gathers : List Slot → List (Option (List Kind))
slot_gathers ss = map kinds_if (map (λ s. s.gathers) ss)

-- the places of the walks' slots, where the first slot has this number
abbrev pub walk_places : ℕ → List Slot → List ℕ
walk_places n [] = []
walk_places n (s ∷ ss) = cond (is_some s.gathers) (n ∷ walk_places (n + 1) ss) (walk_places (n + 1) ss)

-- these slots stand in all of a body's, from this number on
abbrev pub Stand : List Slot → ℕ → List Slot → Type 0
Stand all n [] = Unit {0}
Stand all n (s ∷ ss) = (slice_get all n ≡ Some s) × Stand all (n + 1) ss

next_same : (n k : ℕ) → (n + 1) + k ≡ n + suc k
next_same n k = omega arith

pub stand_split : (all : List Slot) (n : ℕ) (xs ys : List Slot) → Stand all n (xs ++ ys) → Stand all n xs × Stand all (n + length xs) ys
stand_split all n [] ys h = (tt, subst (λ k. Stand all k ys) (let e : n ≡ n + 0 = omega arith in e) h)
stand_split all n (x ∷ xs) ys h = let k = stand_split all (n + 1) xs ys h.1 in ((h.0, k.0), subst (λ m. Stand all m ys) (next_same n (length xs)) k.1)

-- the slots of a front and a back
pub stand_both : (all : List Slot) (n : ℕ) (xs ys : List Slot) (k : ℕ) → length xs ≡ k → Stand all n (xs ++ ys) → Stand all n xs × Stand all (n + k) ys
stand_both all n xs ys k e h = let j = stand_split all n xs ys h in (j.0, subst (λ m. Stand all (n + m) ys) e j.1)

pub walk_places-append : (n : ℕ) (xs ys : List Slot) (k : ℕ) → length xs ≡ k → walk_places n (xs ++ ys) ≡ walk_places n xs ++ walk_places (n + k) ys
walk_places-append n [] ys k e = ap (λ m. walk_places m ys) (let h : n ≡ n + k = omega (arith, e) in h)
walk_places-append n (x ∷ xs) ys k e = by (is_some x.gathers) (walk_places-append (n + 1) xs ys (length xs) refl)
  where
    last : walk_places ((n + 1) + length xs) ys ≡ walk_places (n + k) ys
    last = ap (λ m. walk_places m ys) (let h : (n + 1) + length xs ≡ n + k = omega (arith, e) in h)

    by : (b : Bool) → walk_places (n + 1) (xs ++ ys) ≡ walk_places (n + 1) xs ++ walk_places ((n + 1) + length xs) ys →
        cond b (n ∷ walk_places (n + 1) (xs ++ ys)) (walk_places (n + 1) (xs ++ ys)) ≡ cond b (n ∷ walk_places (n + 1) xs) (walk_places (n + 1) xs) ++ walk_places (n + k) ys
    by true ih = ap (λ zs. n ∷ zs) (ih ∙ ap (λ zs. walk_places (n + 1) xs ++ zs) last)
    by false ih = ih ∙ ap (λ zs. walk_places (n + 1) xs ++ zs) last

stand_from : (front ss : List Slot) (n : ℕ) → n ≡ length front → Stand (front ++ ss) n ss
stand_from front [] n e = tt
stand_from front (s ∷ ss) n e =
    (ap (λ k. slice_get (front ++ s ∷ ss) k) e ∙ at front, subst (λ all. Stand all (n + 1) ss) (append_assoc front (s ∷ []) ss) (stand_from (front ++ s ∷ []) ss (n + 1) (let l = length-append front (s ∷ []) in omega (arith, e, l))))
  where
    at : (front : List Slot) → slice_get (front ++ s ∷ ss) (length front) ≡ Some s
    at [] = refl
    at (x ∷ front) = at front

-- what stands behind the parameters
pub stand_behind : (front ss : List Slot) → Stand (front ++ ss) (length front) ss
stand_behind front ss = stand_from front ss (length front) refl

-- ---- which slots are walks'

pub below_places : (m n : ℕ) (ss : List Slot) → m < n → has_slot (walk_places n ss) m ≡ false
below_places m n [] h = refl
below_places m n (s ∷ ss) h = by (is_some s.gathers) (below_places m (n + 1) ss (omega arith))
  where
    by : (b : Bool) → has_slot (walk_places (n + 1) ss) m ≡ false → has_slot (cond b (n ∷ walk_places (n + 1) ss) (walk_places (n + 1) ss)) m ≡ false
    by true ih = ap (λ b. b || has_slot (walk_places (n + 1) ss) m) (ne_eqb m n (λ e. absurd (omega (arith, e)))) ∙ ih
    by false ih = ih

walk_from : (n k : ℕ) (all : List Slot) (s : Slot) → slice_get all k ≡ Some s → has_slot (walk_places n all) (n + k) ≡ is_some s.gathers
walk_from n k [] s e = absurd cc
walk_from n zero (x ∷ all) s e =
    let h : x ≡ s = cc in
    ap (λ i. has_slot (walk_places n (x ∷ all)) i) (let z : n + 0 ≡ n = omega arith in z) ∙ by (is_some x.gathers) ∙ ap (λ (t : Slot). is_some t.gathers) h
  where
    by : (b : Bool) → has_slot (cond b (n ∷ walk_places (n + 1) all) (walk_places (n + 1) all)) n ≡ b
    by true = ap (λ b. b || has_slot (walk_places (n + 1) all) n) (eqb_self n)
      where
        eqb_self : (m : ℕ) → nat_eq m m ≡ true
        eqb_self m = eq-eqb m m refl
    by false = below_places n (n + 1) all (omega arith)
walk_from n (suc k) (x ∷ all) s e = by (is_some x.gathers) (ap (λ i. has_slot (walk_places (n + 1) all) i) (sym (next_same n k)) ∙ walk_from (n + 1) k all s e)
  where
    by : (b : Bool) → has_slot (walk_places (n + 1) all) (n + suc k) ≡ is_some s.gathers → has_slot (cond b (n ∷ walk_places (n + 1) all) (walk_places (n + 1) all)) (n + suc k) ≡ is_some s.gathers
    by true ih = ap (λ b. b || has_slot (walk_places (n + 1) all) (n + suc k)) (ne_eqb (n + suc k) n (λ e. absurd (omega (arith, e)))) ∙ ih
    by false ih = ih

-- a slot is a walk's exactly where it says so
pub walk_at : (k : ℕ) (all : List Slot) (s : Slot) → slice_get all k ≡ Some s → has_slot (walk_places 0 all) k ≡ is_some s.gathers
walk_at k all s e = ap (λ i. has_slot (walk_places 0 all) i) (let z : k ≡ 0 + k = omega arith in z) ∙ walk_from 0 k all s e

pub places_apart : (n : ℕ) (ss : List Slot) → AreApart (walk_places n ss)
places_apart n [] = tt
places_apart n (s ∷ ss) = by (is_some s.gathers) (places_apart (n + 1) ss)
  where
    by : (b : Bool) → AreApart (walk_places (n + 1) ss) → AreApart (cond b (n ∷ walk_places (n + 1) ss) (walk_places (n + 1) ss))
    by true ih = (below_places n (n + 1) ss (omega arith), ih)
    by false ih = ih

pub places_above : (m n : ℕ) (ss : List Slot) → m ≤ n → All (λ i. m ≤ i) (walk_places n ss)
places_above m n [] h = All-nil (λ i. m ≤ i)
places_above m n (s ∷ ss) h = by (is_some s.gathers) (places_above m (n + 1) ss (omega arith))
  where
    by : (b : Bool) → All (λ i. m ≤ i) (walk_places (n + 1) ss) → All (λ i. m ≤ i) (cond b (n ∷ walk_places (n + 1) ss) (walk_places (n + 1) ss))
    by true ih = All-cons (λ i. m ≤ i) n (walk_places (n + 1) ss) h ih
    by false ih = ih

pub first_has : (n i : ℕ) → i < n → has_slot (first_slots n) i ≡ true
first_has zero i h = absurd (omega arith)
first_has (suc n) i h = by (nat_eq i n) refl (λ k. first_has n i k)
  where
    by : (b : Bool) → nat_eq i n ≡ b → (i < n → has_slot (first_slots n) i ≡ true) → (b || has_slot (first_slots n) i) ≡ true
    by true e ih = refl
    by false e ih = ih (let ne = eqb-false i n e in omega (arith, ne))
