-- What the pass over the addresses keeps.
use Rattle.std.specs.Prelude.{◌≡◌, ◌<◌, ◌≤◌, ◌+◌, ℕ, Bool, true, false, cond, ◌||◌, List, [], ◌∷◌, drop, take, Option, None, Some, length, slice_get, slice_set, nat_lt, nat_eq}
use Rattle.hera_meaning.specs.declared.schemas.RelDecl.{RelDecl}
use Rattle.hera_meaning.specs.Hosts.{Hosts}
use Rattle.hera_code.specs.declared.instrs.BodyInfo.{BodyInfo}
use Rattle.hera_code.specs.declared.instrs.Code.{Code}
use Rattle.hera_typed.specs.Effects.{Body_note}
use Rattle.hera_typed.specs.Pass.{Found, behind_walk, stopped, pass_from, pass}
use Rattle.hera_stacks.specs.declared.stacks.Node.{Node}
use Rattle.hera_effects.specs.declared.spots.Spot.{Spot}
use Rattle.hera_effects.specs.Spots.{IsSpot}
use Rattle.hera_effects.specs.Ways.{Both}
use Rattle.hera_verify.specs.declared.tables.Table.{Table}
use Rattle.hera_verify.specs.declared.flow.Place.{Place}
use Rattle.hera_verify.specs.declared.flow.Walker.{Walker}
use Rattle.hera_verify.specs.Slots.{IsReach}
use Rattle.hera_verify.specs.Calls.{AreCalls}

-- the least broken address behind the code
abbrev pub IsNearest : ℕ → (ℕ → Bool) → Option ℕ → Type 0
IsNearest len broken None = (c : ℕ) → len ≤ c → broken c ≡ false
IsNearest len broken (Some far) = (len ≤ far) × (broken far ≡ true) × ((c : ℕ) → len ≤ c → c < far → broken c ≡ false)

-- the points found and the broken addresses, of code of this length
pub record IsTable (nodes : List Node) (len : ℕ) (t : Table) (f : Found) : Type 0 where
  pub spots_long : length t.spots.items ≡ len
  pub broken_long : length t.broken.items ≡ len
  pub points : (c : ℕ) (o : Option Spot) → slice_get t.spots.items c ≡ Some o → Both (IsSpot nodes) o (f.points c)
  pub broken : (c : ℕ) (b : Bool) → slice_get t.broken.items c ≡ Some b → b ≡ f.broken c
  pub far : IsNearest len f.broken t.far

-- what was found still stands, or what is broken was passed
abbrev pub Keeps : List Node → ℕ → Table → Bool → Option Found → Type 0
Keeps nodes len t true (Some f) = IsTable nodes len t f
Keeps nodes len t false None = Unit {0}
Keeps nodes len t _ _ = ⊥

-- the body in which an address lies, or one that has begun by then
pub record IsPlaced (code : Code) (a : ℕ) (place : Place) : Type 0 where
  pub there : place.body < length code.bodies
  pub reach : IsReach code place.body place.reach
  pub begun : place.reach.from ≤ a

module _ (code : Code) (rels : List RelDecl) (hosts : Hosts) (notes : List Body_note) where
  -- all addresses below a are passed
  pub record IsWalked (nodes : List Node) (w : Walker) (a : ℕ) (f : Found) : Type 0 where
    pub table : IsTable nodes (length code.instrs) w.table f
    pub place : IsPlaced code a w.place
    pub behind : w.behind ≡ behind_walk code rels hosts notes a
    pub calls : AreCalls code rels hosts notes nodes w.calls
    pub passes : pass_from code rels hosts notes a (drop a code.instrs) f ≡ pass code rels hosts notes

  -- with one address more, or the pass stops there
  abbrev pub HasPassed : List Node → Walker → ℕ → Bool → Type 0
  HasPassed nodes w a true = (f : Found) × IsWalked nodes w (a + 1) f
  HasPassed nodes w a false = pass code rels hosts notes ≡ stopped a

-- ---- the start, and the end

-- what is known where a body begins
abbrev pub fresh : Spot
fresh = record { operands = 0; walks = 0; layers = 0 }

abbrev pub begun_at : List (Option Spot) → ℕ → List (Option Spot)
begun_at spots at = cond (nat_lt at (length spots)) (slice_set spots at (Some fresh)) spots

-- one of these bodies begins there
abbrev pub begins_at : List BodyInfo → ℕ → Bool
begins_at [] a = false
begins_at (b ∷ bodies) a = nat_eq b.at a || begins_at bodies a

-- the starts of the first bodies are known
pub record AreStarts (len : ℕ) (bodies : List BodyInfo) (count : ℕ) (spots : List (Option Spot)) : Type 0 where
  pub long : length spots ≡ len
  pub at : (c : ℕ) (o : Option Spot) → slice_get spots c ≡ Some o → o ≡ cond (begins_at (take count bodies) c) (Some fresh) None

-- the address behind the code comes first, where it doesn't say what a walk gathers
abbrev pub if_behind : Bool → ℕ → Option ℕ → Option ℕ
if_behind true len far = far
if_behind false len far = Some len
