-- Events, worlds, and how evaluations and statements end.
use Rattle.std.specs.Prelude.{ℕ, zero, suc, ◌+◌, ◌-◌, Bool, true, false, List, [], ◌∷◌, ◌++◌, replicate, length, pos, Option, Some, None}
use Rattle.hera_meaning.specs.declared.trees.TrapName.{TrapName}
use Rattle.hera_meaning.specs.declared.trees.TrapName.TheVariants.{ApplyFail, WhenFail}
use Rattle.hera_meaning.specs.Deltas.{Delta, fail, atoms, State, apply_of, smash_of}
use Rattle.hera_meaning.specs.Values.{Value, int_value}
use Rattle.hera_meaning.specs.Primitives.{Answer, gives, refuses}
use Rattle.hera_meaning.specs.Printed.{commit_text, label_text}

-- a text that is printed, or a state that is stored with the delta that leads to it
pub data Event : Type 0 where
  out : List ℕ → Event
  store : State → Delta → Event

-- the current state, the state last committed, the smash of the deltas applied since, the number of
-- commits, and the events so far
pub record World : Type 0 where
  pub state : State
  pub stored : State
  pub pending : Delta
  pub commits : ℕ
  pub events : List Event

-- a world in which nothing was done yet
abbrev pub world_at : State → World
world_at s = record { state = s; stored = s; pending = atoms []; commits = 0; events = [] }

abbrev pub with_event : Event → World → World
with_event e w = record w { events = w.events ++ e ∷ [] }

abbrev pub after_delta : Delta → World → World
after_delta d w = record w { state = apply_of w.state d; pending = smash_of w.pending d }

-- the state is stored, and then the commit's line is printed
abbrev pub committed : World → World
committed w = record {
  state = w.state;
  stored = w.state;
  pending = atoms [];
  commits = w.commits + 1;
  events = w.events ++ store w.state w.pending ∷ out (commit_text (w.commits + 1)) ∷ [];
}

-- a label is printed
abbrev pub labelled : Option (List ℕ) → World → World
labelled None w = w
labelled (Some label) w = with_event (out (label_text label)) w

abbrev pub rolled_back : World → World
rolled_back w = record w { state = w.stored; pending = atoms [] }

-- ---- locals

abbrev pub set_local : List Value → ℕ → Value → List Value
set_local [] i v = []
set_local (l ∷ ls) zero v = v ∷ ls
set_local (l ∷ ls) (suc i) v = l ∷ set_local ls i v

-- a body's locals as it starts: its arguments, and the int 0 in each other slot
abbrev pub locals_from : ℕ → List Value → List Value
locals_from slots args = args ++ replicate (slots - length args) (int_value (pos 0))

-- ---- how an evaluation ends: with a value and the turns left, with a trap, or for want of a turn

pub data Ended (A : Type 0) : Type 0 where
  got : (value : A) (turns : ℕ) → Ended A
  trapped : (name : TrapName) (at : ℕ) → Ended A
  spent : Ended A

-- goes on with the value; the first trap or Spent ends it
abbrev pub and_then : {A B : Type 0} → Ended A → (A → ℕ → Ended B) → Ended B
and_then (got a n) go = go a n
and_then (trapped name at) go = trapped name at
and_then spent go = spent

-- spends a turn
abbrev pub turn : {A : Type 0} → ℕ → (ℕ → Ended A) → Ended A
turn zero go = spent
turn (suc n) go = go n

abbrev pub answered : ℕ → Answer → ℕ → Ended Value
answered at (gives v) n = got v n
answered at (refuses name) n = trapped name at

-- one of two ways to go on
abbrev pub by : {A : Type 0} → Bool → (ℕ → A) → (ℕ → A) → ℕ → A
by true go other n = go n
by false go other n = other n

-- the state after a delta of a `when`
abbrev pub supposed : ℕ → State → Delta → ℕ → Ended State
supposed at s fail n = trapped WhenFail at
supposed at s (atoms xs) n = got (apply_of s (atoms xs)) n

-- ---- how a statement ends: with locals, world and turns, with a return, with a trap, or for want of a turn

pub data Ending : Type 0 where
  goes_on : (locals : List Value) (world : World) (turns : ℕ) → Ending
  returned : (value : Option Value) (world : World) (turns : ℕ) → Ending
  traps : (name : TrapName) (at : ℕ) (events : List Event) → Ending
  runs_out : (events : List Event) → Ending

abbrev pub then_do : Ending → (List Value → World → ℕ → Ending) → Ending
then_do (goes_on ls w n) go = go ls w n
then_do (returned v w n) go = returned v w n
then_do (traps name at es) go = traps name at es
then_do (runs_out es) go = runs_out es

-- goes on with a value that a statement evaluates
abbrev pub with_value : {A : Type 0} → Ended A → World → (A → ℕ → Ending) → Ending
with_value (got v n) w go = go v n
with_value (trapped name at) w go = traps name at w.events
with_value spent w go = runs_out w.events

-- spends a turn
abbrev pub turn_in : World → ℕ → (ℕ → Ending) → Ending
turn_in w zero go = runs_out w.events
turn_in w (suc n) go = go n

abbrev pub applied : ℕ → Delta → List Value → World → ℕ → Ending
applied at fail ls w n = traps ApplyFail at w.events
applied at (atoms xs) ls w n = goes_on ls (after_delta (atoms xs) w) n

-- the value that a func's body returns
abbrev pub result_of : Ending → Ended Value
result_of (goes_on ls w n) = got (int_value (pos 0)) n
result_of (returned None w n) = got (int_value (pos 0)) n
result_of (returned (Some v) w n) = got v n
result_of (traps name at es) = trapped name at
result_of (runs_out es) = spent

-- a proc's body is over: its caller goes on with its own locals
abbrev pub resumed : List Value → Ending → Ending
resumed ls (goes_on _ w n) = goes_on ls w n
resumed ls (returned v w n) = goes_on ls w n
resumed ls (traps name at es) = traps name at es
resumed ls (runs_out es) = runs_out es

-- what a call does: of the body's number, the arguments, the world and the turns left
abbrev pub Calls : Type 0
Calls = ℕ → List Value → World → ℕ → Ending
