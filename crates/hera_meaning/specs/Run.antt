-- What a program does, from a state and a number of turns.
use Rattle.std.specs.Prelude.{ℕ, zero, suc, false, List, [], ◌∷◌, ◌++◌}
use Rattle.hera_meaning.specs.declared.trees.TrapName.{TrapName}
use Rattle.hera_meaning.specs.Deltas.{State}
use Rattle.hera_meaning.specs.Hosts.{Hosts}
use Rattle.hera_meaning.specs.Printed.{trap_line, spent_line}
use Rattle.hera_meaning.specs.Trees.{no_stmt, Body_tree, Program_tree}
use Rattle.hera_meaning.specs.Worlds.{Event, out, store, world_at, locals_from, turn_in, Ending, goes_on, returned, traps, runs_out, Calls}
use Rattle.hera_meaning.specs.Statements.{exec_block}

-- a body by its number, an empty one past the last
abbrev pub body_at : List Body_tree → ℕ → Body_tree
body_at [] k = record { params = 0; slots = 0; func = false; block = no_stmt }
body_at (b ∷ bodies) zero = b
body_at (b ∷ bodies) (suc k) = body_at bodies k

-- calls that nest at most this deep: a turn, and then the body with new locals; as each call spends a
-- turn, a depth of n serves n turns
abbrev pub calls_at : Program_tree → Hosts → (depth : ℕ) → Calls
calls_at p hosts zero k args w n = runs_out w.events
calls_at p hosts (suc depth) k args w n =
    turn_in w n (λ m. exec_block p.relations hosts (calls_at p hosts depth) (body_at p.bodies k).block (locals_from (body_at p.bodies k).slots args) w m)

-- how a run ends
pub data Finish : Type 0 where
  finished : Finish
  stopped : TrapName → ℕ → Finish
  out_of_turns : Finish

-- the events, and the end
pub record Report : Type 0 where
  pub events : List Event
  pub finish : Finish

-- the line of a trap, or of a run that has no turn left, is the last event
abbrev pub report_of : Ending → Report
report_of (goes_on ls w n) = record { events = w.events; finish = finished }
report_of (returned v w n) = record { events = w.events; finish = finished }
report_of (traps name at es) = record { events = es ++ out (trap_line name at) ∷ []; finish = stopped name at }
report_of (runs_out es) = record { events = es ++ out spent_line ∷ []; finish = out_of_turns }

-- main from this state, with calls that nest at most this deep, and n turns
abbrev pub run_to : (depth : ℕ) → Program_tree → State → Hosts → ℕ → Ending
run_to depth p s hosts n = exec_block p.relations hosts (calls_at p hosts depth) (body_at p.bodies 0).block (locals_from (body_at p.bodies 0).slots []) (world_at s) n

-- the run of a program from this state with n turns
abbrev pub run_of : Program_tree → State → Hosts → ℕ → Report
run_of p s hosts n = report_of (run_to n p s hosts n)

-- what is printed
abbrev pub printed : List Event → List ℕ
printed [] = []
printed (out bytes ∷ events) = bytes ++ printed events
printed (store s d ∷ events) = printed events

abbrev pub output_of : Report → List ℕ
output_of report = printed report.events

-- the state of the last store, else the state from which the run began
abbrev pub state_after : State → List Event → State
state_after s [] = s
state_after s (out bytes ∷ events) = state_after s events
state_after s (store s' d ∷ events) = state_after s' events
