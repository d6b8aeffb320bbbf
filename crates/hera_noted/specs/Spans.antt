-- The range of a slot: from behind the instruction that writes it first, up to where ways lead in from elsewhere.
use Rattle.std.specs.Prelude.{◌≡◌, ◌<◌, ◌≤◌, ℕ, ◌+◌, Bool, true, false, cond, List, Option, Some, None, length, slice_get, nat_eq, nat_le}
use Rattle.hera_code.specs.declared.instrs.Instr.{Instr}
use Rattle.hera_code.specs.declared.instrs.Instr.TheVariants.{Store, Jump, Unless, Back, Next}
use Rattle.hera_code.specs.declared.instrs.BodyInfo.{BodyInfo}
use Rattle.hera_code.specs.declared.instrs.Code.{Code}

-- the address that an instruction names
abbrev pub target_of : Instr → Option ℕ
target_of (Jump b) = Some b
target_of (Unless b) = Some b
target_of (Back b) = Some b
target_of (Next i b) = Some b
target_of _ = None

-- the instruction writes the slot
abbrev pub is_writer : Instr → ℕ → Bool
is_writer (Store j) i = nat_eq j i
is_writer (Next j b) i = nat_eq j i
is_writer _ i = false

-- where a body ends, of which this is the next one: there, but not behind the code
abbrev pub end_by : Option BodyInfo → ℕ → ℕ
end_by None long = long
end_by (Some b) long = cond (nat_le b.at long) b.at long

abbrev pub end_of : Code → ℕ → ℕ
end_of code k = end_by (slice_get code.bodies (k + 1)) (length code.instrs)

-- code of which the addresses from lo up to before hi are those of a body
module _ (is : List Instr) (lo hi : ℕ) where
  -- no way leads into the range from elsewhere in the body
  abbrev pub IsClosed : (from to : ℕ) → Type 0
  IsClosed from to = (a b : ℕ) (i : Instr) → lo ≤ a → a < hi → slice_get is a ≡ Some i → target_of i ≡ Some b → from ≤ b → b < to → (from ≤ a) × (a < to)

  -- no instruction up to here writes the slot
  abbrev pub IsUnwritten : (end i : ℕ) → Type 0
  IsUnwritten end i = (a : ℕ) (j : Instr) → lo ≤ a → a < end → slice_get is a ≡ Some j → is_writer j i ≡ false

  -- the first address of which the instruction writes the slot
  pub record IsFirstWrite (i a : ℕ) : Type 0 where
    pub low : lo ≤ a
    pub high : a < hi
    pub instr : Instr
    pub here : slice_get is a ≡ Some instr
    pub writes : is_writer instr i ≡ true
    pub before : IsUnwritten a i

  -- the farthest end of a range that begins here
  pub record IsFarthest (from to : ℕ) : Type 0 where
    pub up : from ≤ to
    pub within : to ≤ hi
    pub closed : IsClosed from to
    pub farthest : (z : ℕ) → z ≤ hi → IsClosed from z → z ≤ to

  -- the range of a slot, empty where nothing writes it
  pub record IsRange (i from to : ℕ) : Type 0 where
    pub within : (from ≤ hi) × (to ≤ hi)
    pub unwritten : IsUnwritten hi i → from ≡ to
    pub written : (a : ℕ) → IsFirstWrite i a → (from ≡ a + 1) × IsFarthest from to
    -- a range that isn't empty is that of a write
    pub source : from < to → (a : ℕ) × IsFirstWrite i a
