-- Byte strings in byte order, and strictly ascending lists of them.
use Rattle.std.specs.Prelude.{ℕ, Bool, true, cond, not, filter, ◌≡◌, List, [], ◌∷◌, Option, None, Some}
use Rattle.std.specs.List.{list_any}
use Rattle.std.specs.Ordering.{nat_cmp, is_lt, is_eq}
use Rattle.std.specs.Cmp.Lexicographic.{slice_cmp}

-- a row is a list of bytes
abbrev pub Row : Type 0
Row = List ℕ

-- a stands before b in byte order
unfoldable pub is_below : Row → Row → Bool
is_below a b = is_lt (slice_cmp nat_cmp a b)

-- a and b are the same bytes
unfoldable pub is_same : Row → Row → Bool
is_same a b = is_eq (slice_cmp nat_cmp a b)

-- a row lies past a bound: no bound lets every row pass
abbrev pub is_past : Option Row → Row → Bool
is_past None r = true
is_past (Some b) r = is_below b r

-- each row of the list is above x
abbrev pub IsBelowAll : Row → List Row → Type 0
IsBelowAll x [] = Unit {0}
IsBelowAll x (y ∷ ys) = (is_below x y ≡ true) × IsBelowAll x ys

-- each row is below all later ones
abbrev pub IsAscending : List Row → Type 0
IsAscending [] = Unit {0}
IsAscending (x ∷ xs) = IsBelowAll x xs × IsAscending xs

-- the row is one of the list
abbrev pub holds : List Row → Row → Bool
holds xs r = list_any (is_same r) xs

-- the ascending list with x in its place, unless it is there
abbrev pub put : Row → List Row → List Row
put x [] = x ∷ []
put x (y ∷ ys) = cond (is_below x y) (x ∷ y ∷ ys) (y ∷ cond (is_below y x) (put x ys) ys)

-- the strictly ascending list of the members of a list
abbrev pub normal : List Row → List Row
normal [] = []
normal (x ∷ xs) = put x (normal xs)

-- the list without x
abbrev pub without : Row → List Row → List Row
without x ys = filter (λ y. not (is_same x y)) ys
