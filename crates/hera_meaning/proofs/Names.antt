-- Names that stand once, and places of names.
use Rattle.std.proofs.Common.{◌≡◌, ℕ, ◌+◌, ◌<◌, ◌||◌, List, [], ◌∷◌, ◌++◌, Bool, true, false, take, length, is_some, get_or, subst, refl, sym, ap, ◌∙◌}
use Rattle.std.specs.List.{position_from}
use Rattle.hera_sets.specs.Rows.{Row, is_same, holds}
use Rattle.hera_sets.proofs.Order.{before, level, behind, stands}
use Rattle.hera_sets.proofs.Members.{holds-append}
use Rattle.hera_meaning.specs.declared.schemas.Attr.{Attr}
use Rattle.std.specs.Option.{option_map}
use Rattle.std.proofs.lemmas.Option.{slice_get-map, slice_get_read}
use Rattle.std.proofs.lemmas.List.{take-map, map_more}
use Rattle.hera_meaning.specs.Schemas.{AreDistinct, attr_name, names_of, place_named}
use Rattle.hera_meaning.specs.SchemaFaults.{IsFirstRepeat}

pub same_swap : (a b : Row) → is_same a b ≡ is_same b a
same_swap a b = elim (stands a b) [
  | before p q s ↦ elim (stands b a) [ before p' q' s' ↦ s ∙ sym s' | level e p' q' s' ↦ cc | behind p' q' s' ↦ s ∙ sym s' ]
  | level e p q s ↦ elim (stands b a) [ before p' q' s' ↦ cc | level e' p' q' s' ↦ s ∙ sym s' | behind p' q' s' ↦ cc ]
  | behind p q s ↦ elim (stands b a) [ before p' q' s' ↦ s ∙ sym s' | level e p' q' s' ↦ cc | behind p' q' s' ↦ s ∙ sym s' ]
]

or_false : (b c : Bool) → b ≡ false → c ≡ false → (b || c) ≡ false
or_false b c e f = rw (e, f) refl

left_false : (b c : Bool) → (b || c) ≡ false → b ≡ false
left_false true c e = cc
left_false false c e = refl

right_false : (b c : Bool) → (b || c) ≡ false → c ≡ false
right_false true c e = cc
right_false false c e = e

-- a new name behind distinct names
pub distinct_push : (xs : List Row) (x : Row) → AreDistinct xs → holds xs x ≡ false → AreDistinct (xs ++ x ∷ [])
distinct_push [] x d h = (refl, tt)
distinct_push (y ∷ ys) x d h =
    (holds-append ys (x ∷ []) y ∙ or_false _ _ d.0 (or_false _ _ (same_swap y x ∙ left_false _ _ h) refl), distinct_push ys x d.1 (right_false _ _ h))

pub distinct_front : (xs ys : List Row) → AreDistinct (xs ++ ys) → AreDistinct xs
distinct_front [] ys d = tt
distinct_front (x ∷ xs) ys d = (left_false _ _ (sym (holds-append xs ys x) ∙ d.0), distinct_front xs ys d.1)

some_from : (name : Row) (i : ℕ) (attrs : List Attr) → is_some (position_from (λ (a : Attr). is_same name a.name) i attrs) ≡ holds (names_of attrs) name
some_from name i [] = refl
some_from name i (a ∷ attrs) = by (is_same name a.name) refl (some_from name (i + 1) attrs)
  where
    by : (b : Bool) → is_same name a.name ≡ b → is_some (position_from (λ (c : Attr). is_same name c.name) (i + 1) attrs) ≡ holds (names_of attrs) name
        → is_some (position_from (λ (c : Attr). is_same name c.name) i (a ∷ attrs)) ≡ holds (names_of (a ∷ attrs)) name
    by true e ih = rw e refl
    by false e ih = rw e ih

-- a name has a place exactly where it stands
pub some-place_named : (name : Row) (attrs : List Attr) → is_some (place_named name attrs) ≡ holds (names_of attrs) name
some-place_named name attrs = some_from name 0 attrs

-- the name at a place stands before it
pub repeat_here : (attrs : List Attr) (i : ℕ) (a : Attr) → i < length attrs → a ≡ get_or attrs i a → AreDistinct (names_of (take i attrs)) → is_some (place_named a.name (take i attrs)) ≡ true → IsFirstRepeat (names_of attrs) i
repeat_here attrs i a lt e d h = record {
  name = a.name;
  here = slice_get-map attr_name attrs i ∙ ap (λ o. option_map attr_name o) (slice_get_read attrs (length attrs) i a refl lt e);
  before = ap (λ xs. holds xs a.name) (take-map attr_name i attrs) ∙ sym (some-place_named a.name (take i attrs)) ∙ h;
  distinct = subst (λ (xs : List Row). AreDistinct xs) (sym (take-map attr_name i attrs)) d;
}

-- one more name is new
pub distinct_more : (attrs : List Attr) (i : ℕ) (a : Attr) → i < length attrs → a ≡ get_or attrs i a → AreDistinct (names_of (take i attrs)) → is_some (place_named a.name (take i attrs)) ≡ false → AreDistinct (names_of (take (i + 1) attrs))
distinct_more attrs i a lt e d h =
    subst (λ (xs : List Row). AreDistinct xs) (sym (map_more attr_name attrs i a lt ∙ ap (λ (b : Attr). names_of (take i attrs) ++ b.name ∷ []) (sym e)))
    (distinct_push (names_of (take i attrs)) a.name d (sym (some-place_named a.name (take i attrs)) ∙ h))
