-- How lists that share their ends are kept: what stands first in them once each, and for each list where that is.
use Rattle.std.specs.Prelude.{◌≡◌, ◌<◌, ◌⊎◌, ℕ, zero, suc, ◌+◌, ◌*◌, ◌++◌, Bool, false, cond, ◌&&◌, List, [], ◌∷◌, map, length, Option, None, Some, slice_get, nat_eq}
use Rattle.std.specs.declared.cmp.Ordering.{Ordering}
use Rattle.std.specs.Ordering.{nat_cmp, ordering_then}
use Rattle.std.specs.BTreeMap.{BTreeMap, get}
use Rattle.hera_stacks.specs.declared.forms.FlatForm.TheVariants as flat
use Rattle.hera_stacks.specs.declared.forms.FlatSeen.{FlatSeen}
use Rattle.hera_stacks.specs.declared.forms.FlatSeen.TheVariants as flat_seens
use Rattle.hera_stacks.specs.declared.entries.Entry.{Entry}
use Rattle.hera_stacks.specs.declared.entries.Entries.{Entries}
use Rattle.hera_stacks.specs.declared.lists.Cell.{Cell}
use Rattle.hera_stacks.specs.declared.lists.Lists.{Lists}
use Rattle.hera_stacks.specs.declared.stacks.Node.{Node}
use Rattle.hera_stacks.specs.Flat.{digit}

abbrev pub order : ℕ × ℕ → ℕ × ℕ → Ordering
order x y = ordering_then (nat_cmp x.0 y.0) (nat_cmp x.1 y.1)

-- ---- entries

abbrev pub seen_number : FlatSeen → ℕ
seen_number flat_seens.NoRows = 0
seen_number (flat_seens.Known flat.Delta) = 4
seen_number (flat_seens.Known (flat.Scalar k)) = 8 * digit k
seen_number (flat_seens.Known (flat.Tuple ks)) = 8 * ks.digits + 1
seen_number (flat_seens.Known (flat.Table ks)) = 8 * ks.digits + 2

-- under which numbers an entry is found
abbrev pub numbers_of : Entry → ℕ × ℕ
numbers_of e = (seen_number e.seen, e.gathers.digits)

-- each entry is found at its place
abbrev pub AreFound : List Entry → BTreeMap (ℕ × ℕ) ℕ → Type 0
AreFound entries places = (i : ℕ) (e : Entry) → slice_get entries i ≡ Some e → get order places (numbers_of e) ≡ Some i

-- ---- cells

-- the cell of a list; the one without items has the number 0
abbrev pub cell_at : List Cell → ℕ → Option Cell
cell_at cells zero = None
cell_at cells (suc i) = slice_get cells i

abbrev pub is_cell : Option Cell → Cell → Bool
is_cell None c = false
is_cell (Some d) c = nat_eq d.entry c.entry && nat_eq d.below c.below

module _ (cells : List Cell) (others : BTreeMap (ℕ × ℕ) ℕ) where
  -- the first list on its rest, where that has this cell, else what is told of others
  abbrev pub list_on : Option ℕ → Cell → Option ℕ
  list_on None c = None
  list_on (Some zero) c = None
  list_on (Some (suc t)) c = cond (is_cell (slice_get cells t) c) (Some (suc t)) (get order others (c.entry, c.below))

-- the list of a cell, by the first lists on each list and by what is told of others
abbrev pub list_of : List Cell → List ℕ → BTreeMap (ℕ × ℕ) ℕ → Cell → Option ℕ
list_of cells tops others c = list_on cells others (slice_get tops c.below) c

-- each cell is that of its list
abbrev pub ArePlaced : List Cell → List ℕ → BTreeMap (ℕ × ℕ) ℕ → Type 0
ArePlaced cells tops others = (i : ℕ) (c : Cell) → slice_get cells i ≡ Some c → list_of cells tops others c ≡ Some (suc i)

abbrev pub IsPlaced : Lists → Type 0
IsPlaced l = ArePlaced l.cells.items l.tops.items l.others

-- the cell came behind the others, or none did
abbrev pub Adds : List Cell → List Cell → Cell → Type 0
Adds before after c = (after ≡ before) ⊎ (after ≡ before ++ c ∷ [])

-- ---- lists

abbrev pub node_with : Option Entry → ℕ → Node
node_with None below = record { seen = flat_seens.NoRows; gathers = record { digits = 0 }; below = below }
node_with (Some e) below = record { seen = e.seen; gathers = e.gathers; below = below }

abbrev pub node_of : List Entry → Cell → Node
node_of entries c = node_with (slice_get entries c.entry) c.below

-- what stands first in each list, and the number of the rest
abbrev pub nodes_of : List Entry → List Cell → List Node
nodes_of entries cells = map (node_of entries) cells

-- entries and lists are found where they are, and each list has an entry
pub record AreKept (e : Entries) (l : Lists) : Type 0 where
  pub found : AreFound e.all.items e.places
  pub placed : IsPlaced l
  pub there : (i : ℕ) (c : Cell) → slice_get l.cells.items i ≡ Some c → c.entry < length e.all.items
