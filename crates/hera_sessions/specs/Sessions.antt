-- Runs one after another.
use Rattle.std.specs.Prelude.{ℕ, List, [], ◌∷◌}
use Rattle.hera_meaning.specs.Deltas.{Delta, State}
use Rattle.hera_meaning.specs.Commits.{smash_all}
use Rattle.hera_meaning.specs.Hosts.{Hosts}
use Rattle.hera_meaning.specs.Trees.{Program_tree}
use Rattle.hera_meaning.specs.Run.{Report, run_of, output_of, state_after}
use Rattle.hera_sessions.specs.Agreeing.{deltas_of}

-- a program and its number of turns
pub record Task : Type 0 where
  pub program : Program_tree
  pub turns : ℕ

abbrev pub run_task : Hosts → Task → State → Report
run_task hosts t s = run_of t.program s hosts t.turns

-- what a run stores, as one delta
abbrev pub delta_of : Report → Delta
delta_of report = smash_all (deltas_of report.events)

-- what runs one after another print, and the state that they leave
pub record Serial : Type 0 where
  pub outputs : List (List ℕ)
  pub state : State

-- each on the state that the former one stored
abbrev pub serial_of : Hosts → List Task → State → Serial
serial_of hosts [] s = record { outputs = []; state = s }
serial_of hosts (t ∷ tasks) s =
    let report = run_task hosts t s in
    let rest = serial_of hosts tasks (state_after s report.events) in
    record { outputs = output_of report ∷ rest.outputs; state = rest.state }
