-- What is found where a gap goes over a front, and behind the rows that begin with it.
use Rattle.std.proofs.Common.{◌≡◌, Bool, true, false, not, List, [], ◌∷◌, Option, Some, None, length, drop, refl, sym, ap, ◌∙◌, subst, arith}
use Rattle.std.specs.List.{find}
use Rattle.std.specs.Option.{option_copied}
use Rattle.std.proofs.lemmas.Bool.{both_ways, and_parts}
use Rattle.std.proofs.lemmas.List.{take_all}
use Rattle.std.proofs.lemmas.Option.{none-some, same_Some}
use Rattle.hera_sets.specs.Rows.{Row, is_below, is_past, IsAscending, holds}
use Rattle.hera_sets.proofs.Order.{below_trans, before, level, behind, stands}
use Rattle.hera_rows.specs.Froms.{is_from}
use Rattle.hera_rows.proofs.FromLemmas.{from_held, from_absent}
use Rattle.rel_algebra.specs.Fronts.{begins, begun_in, begun_of}
use Rattle.rel_algebra.proofs.FrontLemmas.{begins_whole, begins_from, not_below_front, starts_at_bound, begun_past, begun_from}
use Rattle.join_exec.specs.declared.beside.Gap.{Gap}
use Rattle.join_exec.specs.Gaps.{is_none_before, is_over, IsGap}

-- what is found of fewer rows, where the one found is one of them
found_none : (p q : Row → Bool) → ((x : Row) → q x ≡ true → p x ≡ true) → (xs : List Row) → find p xs ≡ None → find q xs ≡ None
found_none p q fewer [] h = refl
found_none p q fewer (x ∷ xs) h = by (p x) refl (q x) refl (found_none p q fewer xs)
  where
    by : (v : Bool) → p x ≡ v → (w : Bool) → q x ≡ w → (find p xs ≡ None → find q xs ≡ None) → find q (x ∷ xs) ≡ None
    by true e w g more = absurd (none-some x (sym (rw e at h)))
    by false e true g more = absurd (both_ways _ e (fewer x g))
    by false e false g more = rw g (more (rw e at h))

found_same : (p q : Row → Bool) → ((x : Row) → q x ≡ true → p x ≡ true) → (xs : List Row) (r : Row) → find p xs ≡ Some r → q r ≡ true → find q xs ≡ Some r
found_same p q fewer [] r h m = absurd (none-some r h)
found_same p q fewer (x ∷ xs) r h m = by (p x) refl (q x) refl (λ g. found_same p q fewer xs r g m)
  where
    by : (v : Bool) → p x ≡ v → (w : Bool) → q x ≡ w → (find p xs ≡ Some r → find q xs ≡ Some r) → find q (x ∷ xs) ≡ Some r
    by true e true g more = rw g (rw e at h)
    by true e false g more =
        let same : x ≡ r = same_Some x r (rw e at h) in
        absurd (both_ways _ g (subst (λ z. q z ≡ true) (sym same) m))
    by false e true g more = absurd (both_ways _ e (fewer x g))
    by false e false g more = rw g (more (rw e at h))

-- past a row below the front stand all rows from the front on
from_past : (past front x : Row) → is_below past front ≡ true → is_from front x ≡ true → is_below past x ≡ true
from_past past front x h g = elim (stands past x) [
  | before p _ _ ↦ p
  | level e _ _ _ ↦ absurd (from_not front x g (subst (λ z. is_below z front ≡ true) e h))
  | behind p _ _ ↦ absurd (from_not front x g (below_trans x past front p h))
]
  where
    from_not : (front x : Row) → is_from front x ≡ true → is_below x front ≡ true → ⊥
    from_not front x g b = both_ways (not true) refl (rw b at g)

pub over_first : (rows : List Row) (gap : Gap) (front : Row) → IsGap rows gap → true ≡ is_over gap front → option_copied gap.ahead ≡ find (is_from front) rows
over_first rows gap front g o =
    let parts = and_parts (is_below gap.past.now front) (is_none_before front (option_copied gap.ahead)) (sym o) in
    by (option_copied gap.ahead) g.first parts.1 (λ x. from_past gap.past.now front x parts.0)
  where
    by : (o : Option Row) → o ≡ find (is_past (Some gap.past.now)) rows → is_none_before front o ≡ true → ((x : Row) → is_from front x ≡ true → is_below gap.past.now x ≡ true) → o ≡ find (is_from front) rows
    by None e m fewer = sym (found_none (is_below gap.past.now) (is_from front) fewer rows (sym e))
    by (Some r) e m fewer = sym (found_same (is_below gap.past.now) (is_from front) fewer rows r (sym e) m)

-- the row found begins with the front
pub begun_is : (front : Row) (o : Option Row) (r : Row) → begun_in front o ≡ Some r → begins front r ≡ true
begun_is front None r h = absurd (none-some r h)
begun_is front (Some q) r h = by (begins front q) refl
  where
    by : (v : Bool) → begins front q ≡ v → begins front r ≡ true
    by true e = subst (λ z. begins front z ≡ true) (same_Some q r (rw e at h)) e
    by false e = absurd (none-some r (rw e at h))

-- the next one is sought past it
pub begun_next : (front : Row) (rows : List Row) (o ahead : Option Row) (r : Row) → IsAscending rows → begun_in front o ≡ Some r → ahead ≡ find (is_past (Some r)) rows → begun_in front ahead ≡ find (is_past (Some r)) (begun_of front rows)
begun_next front rows o ahead r up h e =
    let behind : is_past (Some r) front ≡ false = subst (λ z. is_below z front ≡ false) (begins_whole front r (begun_is front o r h)) (not_below_front front (drop (length front) r)) in
    ap (begun_in front) e ∙ begun_past front rows (Some r) (Some r) up (starts_at_bound front rows (Some r) behind)

-- where no row begins with the front, the first from it on is the first past it
pub front_absent : (front : Row) (rows : List Row) (ahead : Option Row) → IsAscending rows → ahead ≡ find (is_from front) rows → begun_in front ahead ≡ None → ahead ≡ find (is_past (Some front)) rows
front_absent front rows ahead up e h = by (holds rows front) refl
  where
    itself : begins front front ≡ true
    itself = begins_from front front (take_all (length front) front (omega arith))

    by : (v : Bool) → holds rows front ≡ v → ahead ≡ find (is_past (Some front)) rows
    by true held =
        let found : begun_in front (Some front) ≡ None = ap (begun_in front) (from_held front rows up held ∙ sym e) ∙ h in
        absurd (none-some front (sym (rw itself at found)))
    by false absent = e ∙ sym (from_absent front rows absent)

pub begun_first : (front : Row) (rows : List Row) (ahead : Option Row) → IsAscending rows → ahead ≡ find (is_from front) rows → begun_in front ahead ≡ find (is_past None) (begun_of front rows)
begun_first front rows ahead up e = ap (begun_in front) e ∙ begun_from front rows None up refl
