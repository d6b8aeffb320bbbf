-- Where a session at work stands, and how it closes.
use Rattle.std.specs.Prelude.{◌≡◌, ℕ, suc, ◌+◌, true, List, [], ◌∷◌, ◌++◌, length, Option, None, Some}
use Rattle.std.specs.List.{list_all}
use Rattle.hera_meaning.specs.Deltas.{Delta, State, apply_of}
use Rattle.hera_meaning.specs.Fits.{is_delta_of}
use Rattle.hera_meaning.specs.Hosts.{Hosts}
use Rattle.hera_meaning.specs.Printed.{commit_text}
use Rattle.hera_meaning.specs.Worlds as worlds
use Rattle.hera_meaning.specs.Run.{printed, state_after}
use Rattle.hera_code.specs.Reached.{over, exec_code, code_at}
use Rattle.hera_code.specs.Machine.{code_step}
use Rattle.hera_machine.specs.declared.events.Event.{Event}
use Rattle.hera_code.specs.Scheme.{code_of}
use Rattle.hera_steps.specs.declared.events.End.{End}
use Rattle.hera_machine.specs.declared.events.Status.TheVariants.{Working}
use Rattle.hera_machine.specs.Over.{state_over}
use Rattle.hera_machine.specs.Standing.{machine_over, event_over, status_by, WaitsBy}
use Rattle.hera_steps.specs.Telling.{stop_of}
use Rattle.hera_sessions.specs.Agreeing.{deltas_of}
use Rattle.hera_sessions.specs.Sessions.{Task}
use Rattle.hera_sessions.specs.Weaving.{Outcome, committed, read, conflicted, conflict_text}
use Rattle.hera_weave.specs.declared.weave.WeaveEvent.{WeaveEvent}
use Rattle.hera_weave.specs.declared.weave.WeaveEvent.TheVariants.{Quiet, Commit, Read, Conflict}
use Rattle.hera_weave.specs.Seats.{Sitting}

-- what an instruction reads the base under: the commits before the session's beginning; once it has commits of its
-- own, the deltas that do what both do
abbrev pub given_by : (prefix own levels : List Delta) → List Delta
given_by prefix [] levels = prefix
given_by prefix (d ∷ own) levels = levels

abbrev pub given_of : (prefix : List Delta) → Sitting → List Delta
given_of prefix a = given_by prefix a.own a.levels

-- the state that it reads
abbrev pub read_state : (base : State) (prefix : List Delta) → Sitting → State
read_state base prefix a = state_over base (given_of prefix a)

-- an instruction was executed, which told this
pub record Executed (hosts : Hosts) (base : State) (prefix : List Delta) (old new : Sitting) (e : Event) : Type 0 where
  pub steps : event_over (read_state base prefix old) e new.machine ≡ code_step old.machine.code old.machine.relations hosts (read_state base prefix old) (machine_over (read_state base prefix old) old.machine)
  pub rest : new ≡ record old { machine = new.machine }
  pub status : new.machine.status ≡ status_by e
  pub waits : WaitsBy new.machine.waits e
  pub code : new.machine.code ≡ old.machine.code
  pub relations : new.machine.relations ≡ old.machine.relations

-- the commit that waits is kept
pub record Commits (prefix : List Delta) (d : Delta) (old new : Sitting) : Type 0 where
  pub machine : new.machine ≡ record old.machine { waits = None }
  pub own : new.own ≡ old.own ++ d ∷ []
  pub does : (s : State) → state_over s new.levels ≡ apply_of (read_state s prefix old) d
  pub known : list_all (is_delta_of old.machine.relations) (given_of prefix old) ≡ true → list_all (is_delta_of old.machine.relations) new.levels ≡ true
  pub text : new.text ≡ old.text ++ commit_text (length new.own)
  pub code : new.code ≡ old.code
  pub begun : new.begun ≡ old.begun

-- A session stands where the code of the task stands that began on the state s and made so many steps.
pub record IsAt (t : Task) (hosts : Hosts) (base s : State) (steps : ℕ) (a : Sitting) : Type 0 where
  pub events : List worlds.Event
  pub works : a.machine.status ≡ Working
  pub taken : a.machine.waits ≡ None
  pub own_code : a.code ≡ code_of t.program
  pub code_is : a.machine.code ≡ code_of t.program
  pub rels_are : a.machine.relations ≡ t.program.relations
  pub goes_on : (j : ℕ) → code_at (code_of t.program) t.program.relations s hosts t.turns (steps + j) ≡ exec_code (code_of t.program) t.program.relations hosts j (state_after s events) (machine_over (state_after s events) a.machine) events
  pub said : printed events ≡ a.text
  pub stored : deltas_of events ≡ a.own
  pub reads : (prefix : List Delta) → state_over base prefix ≡ s → read_state base prefix a ≡ state_after s events
  pub known : list_all (is_delta_of a.machine.relations) a.levels ≡ true

-- its last step ended the code
pub record IsEnded (t : Task) (hosts : Hosts) (s : State) (steps : ℕ) (end : End) (a : Sitting) : Type 0 where
  pub events : List worlds.Event
  pub ends : code_at (code_of t.program) t.program.relations s hosts t.turns steps ≡ over events (stop_of end)
  pub own_code : a.code ≡ code_of t.program
  pub said : printed events ≡ a.text
  pub stored : deltas_of events ≡ a.own

-- it made one step more, and did not end or did
abbrev pub Stepped : (t : Task) (hosts : Hosts) (base s : State) (steps : ℕ) (a : Sitting) → Option End → Type 0
Stepped t hosts base s steps a None = IsAt t hosts base s (suc steps) a
Stepped t hosts base s steps a (Some end) = IsEnded t hosts s (suc steps) end a

-- how a session closed
abbrev pub outcome_in : WeaveEvent → Option Outcome
outcome_in Quiet = None
outcome_in (Commit delta text) = Some (committed text delta)
outcome_in (Read text) = Some (read text)
outcome_in (Conflict number text) = Some (conflicted number)

-- a conflict has its text
abbrev pub HasText : WeaveEvent → Type 0
HasText Quiet = Unit {0}
HasText (Commit delta text) = Unit {0}
HasText (Read text) = Unit {0}
HasText (Conflict number text) = text ≡ conflict_text number

-- the commit that it stores
abbrev pub commits_in : WeaveEvent → List Delta
commits_in Quiet = []
commits_in (Commit delta text) = delta ∷ []
commits_in (Read text) = []
commits_in (Conflict number text) = []
