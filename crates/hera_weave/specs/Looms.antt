-- What contracts see of a weave, and when it stands for a schedule.
use Rattle.std.specs.Prelude.{◌≡◌, ◌≤◌, ℕ, suc, ◌+◌, Bool, true, false, List, [], ◌∷◌, drop, length, take, Option, None, Some, slice_get}
use Rattle.hera_meaning.specs.declared.schemas.RelDecl.{RelDecl}
use Rattle.hera_meaning.specs.Deltas.{Delta, State}
use Rattle.hera_meaning.specs.Hosts.{Hosts}
use Rattle.hera_steps.specs.Descends.{left}
use Rattle.hera_machine.specs.Over.{state_over}
use Rattle.hera_sessions.specs.Sessions.{Task}
use Rattle.hera_sessions.specs.Weaving.{Stage, waiting, running, closed, woven, AreTasks}
use Rattle.hera_weave.specs.Seats.{Sitting}
use Rattle.hera_weave.specs.Standing.{IsAt}
use Rattle.hera_weave.specs.declared.weave.Session.{Session}
use Rattle.hera_weave.specs.Tasks.{task_of}

-- the sessions at work, None for each that closed, how many commits there were at the start, and whether memory was
-- refused
pub record Loom : Type 0 where
  pub seats : List (Option Sitting)
  pub start : ℕ
  pub failed : Bool

-- the state behind the first of these commits
abbrev pub state_behind : State → List Delta → (n : ℕ) → State
state_behind base all n = state_over base (take n all)

-- a session's seat is as its stage says
abbrev pub SeatIs : Hosts → (base : State) (all : List Delta) (start : ℕ) → Option Task → Option Stage → Option (Option Sitting) → Type 0
SeatIs hosts base all start (Some t) (Some waiting) (Some (Some a)) = ((s : State) → IsAt t hosts base s 0 a) × (a.begun ≡ None)
SeatIs hosts base all start (Some t) (Some (running begun steps)) (Some (Some a)) =
    IsAt t hosts base (state_behind base all (start + begun)) steps a × (a.begun ≡ Some (start + begun)) × (start + begun ≤ length all)
SeatIs hosts base all start (Some t) (Some closed) (Some None) = Unit {0}
SeatIs hosts base all start None None None = Unit {0}
SeatIs hosts base all start _ _ _ = ⊥

-- the weave of these tasks stands for the schedule over this base, these commits and these hosts
pub record StandsFor (tasks : List Task) (hosts : Hosts) (base : State) (all : List Delta) (schedule : List ℕ) (w : Loom) : Type 0 where
  pub long : w.start ≤ length all
  pub commits : drop w.start all ≡ (woven tasks (state_behind base all w.start) hosts schedule).commits
  pub seats : (i : ℕ) → SeatIs hosts base all w.start (slice_get tasks i) (slice_get (woven tasks (state_behind base all w.start) hosts schedule).stages i) (slice_get w.seats i)

-- it stands for some schedule of sound programs of these relations
pub record StandsForSome (hosts : Hosts) (rels : List RelDecl) (base : State) (all : List Delta) (w : Loom) : Type 0 where
  pub tasks : List Task
  pub schedule : List ℕ
  pub are : AreTasks hosts rels tasks
  pub stands : StandsFor tasks hosts base all schedule w

-- the seat of a session that made no step yet
pub record IsFresh (session : Session) (a : Sitting) : Type 0 where
  pub at : (hosts : Hosts) (base s : State) → IsAt (task_of session) hosts base s 0 a
  pub begun : a.begun ≡ None

abbrev pub AreFresh : List Session → List (Option Sitting) → Type 0
AreFresh [] [] = Unit {0}
AreFresh (x ∷ xs) (Some a ∷ seats) = IsFresh x a × AreFresh xs seats
AreFresh _ _ = ⊥

-- the seat is there and empty
abbrev pub is_none_in : Option (Option Sitting) → Bool
is_none_in None = false
is_none_in (Some None) = true
is_none_in (Some (Some a)) = false

-- what is left of the sessions' code, and one more for each that has not closed
abbrev pub seat_left : Option Sitting → ℕ
seat_left None = 0
seat_left (Some a) = suc (left (length a.machine.code.instrs) a.machine.state)

abbrev pub seats_left : List (Option Sitting) → ℕ
seats_left [] = 0
seats_left (x ∷ xs) = seat_left x + seats_left xs
