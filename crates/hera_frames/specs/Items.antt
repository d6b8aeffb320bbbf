-- Operands: values, or relations that are named with a layer.
use Rattle.std.specs.Prelude.{ℕ, suc, Bool, true, false, List, [], ◌∷◌, Option, None, map, max, pos}
use Rattle.hera_meaning.specs.Deltas.{State, rows_at}
use Rattle.hera_meaning.specs.Values.{Value, table, delta, int_value}
use Rattle.when_overlay.specs.declared.layers.Layer.{Layer}
use Rattle.hera_values.specs.Little.{plain_of}
use Rattle.hera_reads.specs.Branched.{seen_at}
use Rattle.hera_frames.specs.declared.operands.Operand.{Operand}
use Rattle.hera_frames.specs.declared.operands.Operand.TheVariants.{Held, Named}

-- an operand: a value, or a relation as it is under a layer
pub data Item : Type 0 where
  held : Value → Item
  relation : ℕ → ℕ → Item

-- what contracts see of operands: these, the newest first, and how many further ones have their place
pub record Shelf : Type 0 where
  pub items : List Item
  pub spare : ℕ

abbrev pub item_of : Operand → Item
item_of (Held v) = held (plain_of v)
item_of (Named rel tip) = relation rel.0 tip

-- the value of an operand, over the committed state and under the layers
abbrev pub value_at : State → List Layer → Item → Value
value_at s ls (held v) = v
value_at s ls (relation r k) = table (rows_at (seen_at s ls k) r)

abbrev pub operands_at : State → List Layer → List Item → List Value
operands_at s ls items = map (value_at s ls) items

-- the operand with its rows in place of the name
abbrev pub collected : State → List Layer → Item → Item
collected s ls item = held (value_at s ls item)

-- the operands have their values
abbrev pub IsHeld : Item → Type 0
IsHeld (held v) = Unit {0}
IsHeld (relation r k) = ⊥

abbrev pub AreHeld : List Item → Type 0
AreHeld [] = Unit {0}
AreHeld (item ∷ items) = IsHeld item × AreHeld items

-- how many layers have to be there, the oldest ones, for what is named
abbrev pub reach_of : Item → ℕ
reach_of (held v) = 0
reach_of (relation r k) = suc k

abbrev pub reach : List Item → ℕ
reach [] = 0
reach (item ∷ items) = max (reach_of item) (reach items)

abbrev pub is_relation : Item → Bool
is_relation (held v) = false
is_relation (relation r k) = true

-- the two newest operands are deltas
abbrev pub are_deltas : List Item → Bool
are_deltas (held (delta b) ∷ held (delta a) ∷ items) = true
are_deltas items = false

-- what an operand is that holds its value, by a test of that value, and what the newest operand is
abbrev pub held_of : {A : Type 0} → (Value → Option A) → Item → Option A
held_of f (held v) = f v
held_of f (relation r k) = None

abbrev pub newest_of : {A : Type 0} → (Value → Option A) → List Item → Option A
newest_of f [] = None
newest_of f (item ∷ items) = held_of f item

-- the value that an operand holds, and the one that the newest operand holds; the int 0 where there is none
abbrev pub held_in : Item → Value
held_in (held v) = v
held_in (relation r k) = int_value (pos 0)

abbrev pub newest_in : List Item → Value
newest_in [] = int_value (pos 0)
newest_in (item ∷ items) = held_in item
