-- Rows in blocks, one behind the other.
use Rattle.std.specs.Prelude.{ℕ, suc, true, ◌≡◌, ◌+◌, ◌<◌, ◌≤◌, List, [], ◌∷◌, ◌++◌, length, take, drop, Option, None, Some}
use Rattle.std.specs.List.{flat_map}
use Rattle.hera_sets.specs.Rows.{Row, is_below, IsBelowAll, IsAscending}

-- the rows of all blocks
abbrev pub joined : List (List Row) → List Row
joined bs = flat_map (λ b. b) bs

-- behind n rows, how many rows stand up to the end of each block
abbrev pub ends_of : ℕ → List (List Row) → List ℕ
ends_of n [] = []
ends_of n (b ∷ bs) = (n + length b) ∷ ends_of (n + length b) bs

-- no block is empty
abbrev pub AreFilled : List (List Row) → Type 0
AreFilled [] = Unit {0}
AreFilled (b ∷ bs) = (0 < length b) × AreFilled bs

-- each row of the list is below x
abbrev pub AreBelow : List Row → Row → Type 0
AreBelow [] x = Unit {0}
AreBelow (y ∷ ys) x = (is_below y x ≡ true) × AreBelow ys x

pub record AreInOrder (bs : List (List Row)) : Type 0 where
  pub filled : AreFilled bs
  pub ascending : IsAscending (joined bs)

pub record AreStacked (bs : List (List Row)) (ends : List ℕ) : Type 0 where
  pub order : AreInOrder bs
  pub counted : ends ≡ ends_of 0 bs

-- all rows before the block at place k are below x, and all behind it above x
pub record IsHome (bs : List (List Row)) (x : Row) (k : ℕ) : Type 0 where
  pub within : k < length bs
  pub front : AreBelow (joined (take k bs)) x
  pub rest : IsBelowAll x (joined (drop (suc k) bs))

-- the block at place k has the row at place i of all
pub record IsBlockOf (bs : List (List Row)) (i k : ℕ) : Type 0 where
  pub block : List Row
  pub within : k < length bs
  pub split : bs ≡ take k bs ++ block ∷ drop (suc k) bs
  pub from : length (joined (take k bs)) ≤ i
  pub upto : i < length (joined (take k bs)) + length block

-- the first of two rows that is there
abbrev pub or_else : Option Row → Option Row → Option Row
or_else None y = y
or_else (Some r) y = Some r

-- the place among all rows of the one at place i of the block at place k
abbrev pub place_of : List (List Row) → ℕ → ℕ → ℕ
place_of bs k i = length (joined (take k bs)) + i
