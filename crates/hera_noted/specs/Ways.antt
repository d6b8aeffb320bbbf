-- From where ways lead in a body. A place is an address of the body, counted from its beginning.
use Rattle.std.specs.Prelude.{◌≡◌, ◌<◌, ◌≤◌, ℕ, ◌+◌, ◌-◌, cond, nat_lt, List, Some, length, slice_get}
use Rattle.hera_code.specs.declared.instrs.Instr.{Instr}
use Rattle.hera_noted.specs.declared.ways.Sources.{Sources}
use Rattle.hera_noted.specs.Spans.{target_of}

-- with one place more, from which a way leads
abbrev pub widened : Sources → ℕ → Sources
widened s a = record { first = cond (nat_lt a s.first) a s.first; last = cond (nat_lt s.last a) a s.last }

-- code of which the addresses from lo up to before hi are those of a body
module _ (is : List Instr) (lo hi : ℕ) where
  -- a way leads from address a to address b
  pub record IsWay (a b : ℕ) : Type 0 where
    pub low : lo ≤ a
    pub high : a < hi
    pub instr : Instr
    pub here : slice_get is a ≡ Some instr
    pub names : target_of instr ≡ Some b

  -- the ways to place k from below address a come from between these two places, and from each that isn't k
  pub record AreSources (a k : ℕ) (s : Sources) : Type 0 where
    pub own : (s.first ≤ k) × (k ≤ s.last)
    pub ways : (c : ℕ) → c < a → IsWay c (lo + k) → (lo + s.first ≤ c) × (c ≤ lo + s.last)
    pub first : s.first < k → IsWay (lo + s.first) (lo + k)
    pub last : k < s.last → IsWay (lo + s.last) (lo + k)

  -- those of each place
  pub record HaveSources (a : ℕ) (all : List Sources) : Type 0 where
    pub long : length all ≡ hi - lo
    pub each : (k : ℕ) (s : Sources) → slice_get all k ≡ Some s → AreSources a k s
