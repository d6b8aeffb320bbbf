-- What a schema is, and what a catalogue is.
use Rattle.std.specs.Prelude.{◌≡◌, ◌≤◌, ℕ, false, List, [], ◌∷◌, Option, map, length}
use Rattle.std.specs.List.{position_from}
use Rattle.hera_sets.specs.Rows.{is_same, holds}
use Rattle.hera_meaning.specs.declared.schemas.Attr.{Attr}
use Rattle.hera_meaning.specs.declared.schemas.TheConstants.{ATTRS_LIMIT}

-- no name stands twice
abbrev pub AreDistinct : List (List ℕ) → Type 0
AreDistinct [] = Unit {0}
AreDistinct (x ∷ xs) = (holds xs x ≡ false) × AreDistinct xs

abbrev pub attr_name : Attr → List ℕ
attr_name a = a.name

abbrev pub names_of : List Attr → List (List ℕ)
names_of attrs = map attr_name attrs

-- 1 to 16 attributes with distinct names
pub record IsSchema (attrs : List Attr) : Type 0 where
  pub some : 1 ≤ length attrs
  pub few : length attrs ≤ ATTRS_LIMIT
  pub distinct : AreDistinct (names_of attrs)

-- the place of the first attribute of this name
abbrev pub place_named : List ℕ → List Attr → Option ℕ
place_named name attrs = position_from (λ a. is_same name a.name) 0 attrs
