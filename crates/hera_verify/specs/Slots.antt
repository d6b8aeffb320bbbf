-- The rules on slots, none of which speaks of points, taken one width of ranges after another.
use Rattle.std.specs.Prelude.{◌≡◌, ◌<◌, ◌≤◌, ◌↔◌, ℕ, suc, ◌+◌, ◌-◌, Bool, true, cond, ◌&&◌, ◌||◌, nat_lt, nat_le, nat_eq, List, Option, None, Some, length, slice_get}
use Rattle.std.specs.Option.{option_map}
use Rattle.hera_code.specs.declared.instrs.Instr.{Instr}
use Rattle.hera_code.specs.declared.instrs.BodyInfo.{BodyInfo}
use Rattle.hera_code.specs.declared.instrs.Code.{Code}
use Rattle.hera_typed.specs.Effects.{Slot_note, Body_note, slot, params, home}
use Rattle.hera_typed.specs.Typed.{Names, Writes}
use Rattle.hera_verify.specs.declared.reaches.Reach.{Reach}
use Rattle.hera_verify.specs.declared.spans.Span.{Span}
use Rattle.hera_verify.specs.declared.slots.Sources.{Sources}
use Rattle.hera_verify.specs.Spans.{AreSpans, AreFar}

-- ---- the addresses of a body

abbrev pub greater : ℕ → ℕ → ℕ
greater x y = cond (nat_lt x y) y x

-- those behind main up to body k begin at most there
abbrev pub HaveBegun : Code → ℕ → ℕ → Type 0
HaveBegun code k a = (j : ℕ) (b : BodyInfo) → 0 < j → j ≤ k → slice_get code.bodies j ≡ Some b → b.at ≤ a

abbrev pub start_at : List BodyInfo → ℕ → Option ℕ
start_at bodies k = option_map (λ (b : BodyInfo). b.at) (slice_get bodies k)

-- body k has the addresses at which all up to it have begun and the next has not
pub record IsReach (code : Code) (k : ℕ) (r : Reach) : Type 0 where
  pub from : (a : ℕ) → (r.from ≤ a) ↔ HaveBegun code k a
  pub to : r.to ≡ start_at code.bodies (k + 1)

abbrev pub Below : Option ℕ → ℕ → Type 0
Below None a = Unit {0}
Below (Some to) a = a < to

-- ---- one slot

-- the instruction before an address writes the slot
abbrev pub IsWritten : Code → ℕ → ℕ → Type 0
IsWritten code i from = (before : ℕ) × (from ≡ suc before) × (writer : Instr) × (slice_get code.instrs before ≡ Some writer) × Writes writer i

-- the address and the one before it lie in the body
abbrev pub IsIn : Code → ℕ → ℕ → Type 0
IsIn code k from = (before : ℕ) × (from ≡ suc before) × (home code before ≡ k) × (home code from ≡ k)

-- no instruction outside the range names an address in it
abbrev pub IsClosed : Code → ℕ → ℕ → Type 0
IsClosed code from to = (a b : ℕ) (j : Instr) → slice_get code.instrs a ≡ Some j → Names j b → from ≤ b → b < to → (from ≤ a) × (a < to)

pub record IsSlotFine (code : Code) (k i : ℕ) (s : Slot_note) : Type 0 where
  pub there : s.from < length code.instrs
  pub in_body : IsIn code k s.from
  pub written : IsWritten code i s.from
  pub closed : IsClosed code s.from s.to

-- the span of the range, so far as it lies in the code, is empty or lies within the range
abbrev pub is_inside : Option Span → ℕ → ℕ → Bool
is_inside None from to = true
is_inside (Some s) from to = nat_le from s.least && nat_lt s.greatest to

-- the range ends before the address behind the code
abbrev pub is_before : Option ℕ → ℕ → Bool
is_before None to = true
is_before (Some far) to = nat_le to far

-- ---- one width after another

abbrev pub lesser : ℕ → ℕ → ℕ
lesser x y = cond (nat_lt y x) y x

-- how many addresses of the code the range has
abbrev pub size : Code → Slot_note → ℕ
size code s = lesser s.to (length code.instrs) - s.from

-- from the width up to before twice the width; the least width has the empty ones too
abbrev pub is_of_width : ℕ → ℕ → Bool
is_of_width n width = nat_lt n (width + width) && (nat_eq width 1 || nat_le width n)

abbrev pub NoteFineTo : Code → ℕ → ℕ → ℕ → Slot_note → ℕ → Type 0
NoteFineTo code width k i s n = s.from < s.to → is_of_width (size code s) width ≡ true → s.from ≤ n → IsSlotFine code k i s

-- the first slots of a body
abbrev pub FirstSlotsFineTo : Code → ℕ → ℕ → ℕ → List Slot_note → ℕ → ℕ → Type 0
FirstSlotsFineTo code width k first slots count n = (i : ℕ) (s : Slot_note) → i < count → slice_get slots i ≡ Some s → first ≤ i → NoteFineTo code width k i s n

abbrev pub BodySlotsFineTo : Code → List Body_note → ℕ → ℕ → ℕ → Type 0
BodySlotsFineTo code notes width k n = (i : ℕ) (s : Slot_note) → slot notes k i ≡ Some s → params code k ≤ i → NoteFineTo code width k i s n

-- those of the first bodies
abbrev pub FirstBodiesFineTo : Code → List Body_note → ℕ → ℕ → ℕ → Type 0
FirstBodiesFineTo code notes width count n = (k : ℕ) → k < count → BodySlotsFineTo code notes width k n

abbrev pub WidthFineTo : Code → List Body_note → ℕ → ℕ → Type 0
WidthFineTo code notes width n = (k : ℕ) → BodySlotsFineTo code notes width k n

-- those of a size below the width, where it isn't the first
abbrev pub NarrowFineTo : Code → List Body_note → ℕ → ℕ → Type 0
NarrowFineTo code notes width n = (k i : ℕ) (s : Slot_note) → slot notes k i ≡ Some s → params code k ≤ i → s.from < s.to → 1 < width → size code s < width → s.from ≤ n → IsSlotFine code k i s

-- what is kept of the code while its slots are looked at
pub record AreSources (code : Code) (s : Sources) : Type 0 where
  pub spans : AreSpans code.instrs (length code.instrs) s.width s.spans.items
  pub fars : AreFar code.instrs s.fars.items
  pub some : 1 ≤ s.width
