-- The three looks at code: at its bodies, at its slots, and at what is known at each address.
use Rattle.std.specs.Prelude.{◌≡◌, ◌<◌, ◌≤◌, ℕ, zero, suc, cond, nat_lt, List, Option, None, Some, length, slice_get}
use Rattle.hera_meaning.specs.declared.schemas.RelDecl.{RelDecl}
use Rattle.hera_meaning.specs.Hosts.{Hosts}
use Rattle.hera_code.specs.declared.instrs.BodyInfo.{BodyInfo}
use Rattle.hera_code.specs.declared.instrs.Code.{Code}
use Rattle.hera_typed.specs.Effects.{Slot_note, Body_note, slot, params}
use Rattle.hera_typed.specs.Typed.{Points, BodyIsFine, SlotIsFine, IsFlowTo}

-- a look found the least address up to which something isn't so, or that it is always so
abbrev pub Finds : (ℕ → Type 0) → Option ℕ → Type 0
Finds Holds None = (n : ℕ) → Holds n
Finds Holds (Some at) = (Holds at → ⊥) × ((n : ℕ) → n < at → Holds n)

-- the lesser of two answers
abbrev pub least : Option ℕ → Option ℕ → Option ℕ
least None o = o
least (Some a) None = Some a
least (Some a) (Some b) = Some (cond (nat_lt b a) b a)

-- ---- bodies, without points

-- main begins at 0 and has no parameters and no result; each other body begins behind the one before it
abbrev pub IsInPlace : Code → List Body_note → ℕ → BodyInfo → Type 0
IsInPlace code notes zero b = (b.at ≡ 0) × (b.params ≡ 0) × ((n : Body_note) → slice_get notes 0 ≡ Some n → n.result ≡ None)
IsInPlace code notes (suc k) b = (c : BodyInfo) → slice_get code.bodies k ≡ Some c → c.at < b.at

-- the rules on a body
abbrev pub IsBodyFine : Code → List Body_note → ℕ → BodyInfo → Type 0
IsBodyFine code notes k b = IsInPlace code notes k b × (b.at < length code.instrs) × (b.params ≤ b.slots)

-- those on one body that begins up to an address, and on the first ones
abbrev pub BodyFineTo : Code → List Body_note → ℕ → ℕ → Type 0
BodyFineTo code notes k n = (b : BodyInfo) → slice_get code.bodies k ≡ Some b → b.at ≤ n → IsBodyFine code notes k b

abbrev pub FirstFineTo : Code → List Body_note → ℕ → ℕ → Type 0
FirstFineTo code notes count n = (k : ℕ) → k < count → BodyFineTo code notes k n

-- ---- all rules

module _ (code : Code) (rels : List RelDecl) (hosts : Hosts) (notes : List Body_note) where
  -- the rules on bodies that begin up to an address
  abbrev pub BodiesFineTo : ℕ → Type 0
  BodiesFineTo n = (P : Points) (k : ℕ) (b : BodyInfo) → slice_get code.bodies k ≡ Some b → b.at ≤ n → BodyIsFine code rels hosts notes P k b

  -- the rules on slots whose ranges begin up to an address
  abbrev pub SlotsFineTo : ℕ → Type 0
  SlotsFineTo n = (P : Points) (k i : ℕ) (s : Slot_note) → slot notes k i ≡ Some s → params code k ≤ i → s.from < s.to → s.from ≤ n → SlotIsFine code rels hosts notes P k i s

  -- some points meet the rules on instructions up to an address
  abbrev pub FlowsTo : ℕ → Type 0
  FlowsTo n = (P : Points) × IsFlowTo code rels hosts notes P n

  -- the look at what is known: where nothing is broken, the points are the same for all addresses
  abbrev pub FindsFlow : Option ℕ → Type 0
  FindsFlow None = (P : Points) × ((n : ℕ) → IsFlowTo code rels hosts notes P n)
  FindsFlow (Some at) = Finds FlowsTo (Some at)
