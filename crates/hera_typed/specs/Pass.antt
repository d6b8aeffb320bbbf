-- One pass over the addresses: the points found so far, and the addresses that turned out to be broken.
use Rattle.std.specs.Prelude.{◌≡◌, ◌<◌, ◌≤◌, ℕ, zero, suc, ◌+◌, Bool, true, false, cond, not, ◌&&◌, ◌||◌, List, [], ◌∷◌, Option, Some, None, is_some, length, slice_get, nat_eq, nat_lt}
use Rattle.hera_meaning.specs.declared.schemas.RelDecl.{RelDecl}
use Rattle.hera_meaning.specs.Hosts.{Hosts}
use Rattle.hera_code.specs.declared.instrs.Instr.{Instr}
use Rattle.hera_code.specs.declared.instrs.Instr.TheVariants.{Walk}
use Rattle.hera_code.specs.declared.instrs.BodyInfo.{BodyInfo}
use Rattle.hera_code.specs.declared.instrs.Code.{Code}
use Rattle.hera_typed.specs.Points.{Seen, known, no_rows, same_kinds, same_form, Walked, Point, nothing}
use Rattle.hera_typed.specs.Effects.{Body_note, Goal, home, gathered_by, effect, is_placed}
use Rattle.hera_typed.specs.Typed.{Points, IsFlowTo}

abbrev pub same_seen : Seen → Seen → Bool
same_seen (known f) (known g) = same_form f g
same_seen no_rows no_rows = true
same_seen _ _ = false

abbrev pub all_same : List Seen → List Seen → Bool
all_same [] [] = true
all_same (s ∷ ss) (t ∷ ts) = same_seen s t && all_same ss ts
all_same _ _ = false

abbrev pub same_walks : List Walked → List Walked → Bool
same_walks [] [] = true
same_walks (v ∷ vs) (w ∷ ws) = (same_seen v.over w.over && same_kinds v.gathers w.gathers) && same_walks vs ws
same_walks _ _ = false

abbrev pub same_point : Point → Point → Bool
same_point p q = all_same p.operands q.operands && (same_walks p.walks q.walks && nat_eq p.layers q.layers)

-- the points found, and the broken addresses
pub record Found : Type 0 where
  pub points : Points
  pub broken : ℕ → Bool

-- a pass over code: it stopped at an address, or came through with what it found
pub data Passed : Type 0 where
  stopped : ℕ → Passed
  through : Found → Passed

abbrev pub with_point : ℕ → Point → Found → Found
with_point a p f = record { points = λ c. cond (nat_eq c a) (Some p) (f.points c); broken = f.broken }

abbrev pub with_broken : ℕ → Found → Found
with_broken a f = record { points = f.points; broken = λ c. cond (nat_eq c a) true (f.broken c) }

module _ (code : Code) (rels : List RelDecl) (hosts : Hosts) (notes : List Body_note) where
  -- the way can't be followed: the address to which it leads is broken, or this one where that was passed
  abbrev pub fails : ℕ → ℕ → Found → Option Found
  fails a to f = cond (nat_lt a to) (Some (with_broken to f)) None

  abbrev pub meets_point : ℕ → ℕ → Point → Option Point → Found → Option Found
  meets_point a to q None f = cond (nat_lt a to) (Some (with_point to q f)) None
  meets_point a to q (Some r) f = cond (same_point q r) (Some f) (fails a to f)

  abbrev pub follows_point : ℕ → ℕ → Option Point → Found → Option Found
  follows_point a to None f = fails a to f
  follows_point a to (Some q) f = meets_point a to q (f.points to) f

  -- one way from address a
  abbrev pub follow : ℕ → Goal → Found → Option Found
  follow a g f = cond (nat_lt g.to (length code.instrs) && nat_eq (home code g.to) (home code a)) (follows_point a g.to g.point f) (fails a g.to f)

  abbrev pub follow_next : (Found → Option Found) → Option Found → Option Found
  follow_next go None = None
  follow_next go (Some f) = go f

  abbrev pub follow_all : ℕ → List Goal → Found → Option Found
  follow_all a [] f = Some f
  follow_all a (g ∷ gs) f = follow_next (λ f. follow_all a gs f) (follow a g f)

  abbrev pub follow_ways : ℕ → Option (List Goal) → Found → Option Found
  follow_ways a None f = None
  follow_ways a (Some gs) f = follow_all a gs f

  abbrev pub from_point : ℕ → Instr → Option Point → Found → Option Found
  from_point a i None f = Some f
  from_point a i (Some p) f = follow_ways a (effect code rels hosts notes (home code a) a i p) f

  -- the instruction before is no Walk, or this one is a Next that says what it gathers
  abbrev pub gathers_behind : ℕ → Option Instr → Bool
  gathers_behind c (Some Walk) = is_some (gathered_by notes (home code c) (slice_get code.instrs (c + 1)))
  gathers_behind c _ = true

  abbrev pub behind_walk : ℕ → Bool
  behind_walk zero = true
  behind_walk (suc c) = gathers_behind c (slice_get code.instrs c)

  abbrev pub step_at : ℕ → Instr → Found → Option Found
  step_at a i f = cond (is_placed code notes (home code a) a i) (from_point a i (f.points a) f) None

  -- one address of the code, where nothing below it is broken; None where it is broken itself
  abbrev pub step : ℕ → Instr → Found → Option Found
  step a i f = cond (not (f.broken a) && behind_walk a) (step_at a i f) None

  -- ---- the whole pass

  -- a body begins here
  abbrev pub starts_at : List BodyInfo → ℕ → Bool
  starts_at [] a = false
  starts_at (b ∷ bodies) a = nat_eq b.at a || starts_at bodies a

  -- at first the starts of the bodies are known
  abbrev pub begun_with : Found
  begun_with = record { points = λ a. cond (starts_at code.bodies a && nat_lt a (length code.instrs)) (Some nothing) None; broken = λ a. false }

  abbrev pub passed_on : ℕ → (Found → Passed) → Option Found → Passed
  passed_on a go None = stopped a
  passed_on a go (Some f) = go f

  -- from address a on, where these instructions stand
  abbrev pub pass_from : ℕ → List Instr → Found → Passed
  pass_from a [] f = through f
  pass_from a (i ∷ is) f = passed_on a (λ f. pass_from (suc a) is f) (step a i f)

  abbrev pub pass : Passed
  pass = pass_from 0 code.instrs begun_with

  -- an address behind the code is broken: a way leads there, or a Walk stands last and this is behind it
  abbrev pub broken_behind : Found → ℕ → Bool
  broken_behind f a = f.broken a || (nat_eq a (length code.instrs) && not (behind_walk a))

  -- nothing meets the rules up to this address
  abbrev pub Breaks : ℕ → Type 0
  Breaks a = (P : Points) → IsFlowTo code rels hosts notes P a → ⊥

  -- the least address up to which nothing meets the rules
  pub record IsLeast (a : ℕ) : Type 0 where
    pub breaks : Breaks a
    pub met : (n : ℕ) → n < a → (P : Points) × IsFlowTo code rels hosts notes P n

  -- the pass finds what there is to find
  pub record PassIsExact : Type 0 where
    pub stops : (a : ℕ) → pass ≡ stopped a → IsLeast a
    pub behind : (f : Found) (a : ℕ) → pass ≡ through f → length code.instrs ≤ a → broken_behind f a ≡ true → ((c : ℕ) → length code.instrs ≤ c → c < a → broken_behind f c ≡ false) → IsLeast a
    pub meets : (f : Found) → pass ≡ through f → ((a : ℕ) → length code.instrs ≤ a → broken_behind f a ≡ false) → (n : ℕ) → IsFlowTo code rels hosts notes f.points n
