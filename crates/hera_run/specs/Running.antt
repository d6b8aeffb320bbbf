-- How far the run of some code was carried out, from a database whose next commit goes behind a gate, or has no place.
use Rattle.std.specs.Prelude.{◌≡◌, ℕ, true, false, List, [], ◌++◌, take, Option, None}
use Rattle.std.specs.Io.KnownBytes.{Appends}
use Rattle.hera_meaning.specs.declared.schemas.RelDecl.{RelDecl}
use Rattle.hera_meaning.specs.Deltas.{State}
use Rattle.hera_meaning.specs.Hosts.{Hosts}
use Rattle.hera_meaning.specs.Worlds.{Event}
use Rattle.hera_meaning.specs.Run.{printed, state_after}
use Rattle.hera_code.specs.declared.instrs.Code.{Code}
use Rattle.hera_code.specs.Reached.{Reached, over, code_at, start_of, with_line}
use Rattle.hera_codegen.specs.Correct.{events_in}
use Rattle.hera_guard.specs.Guarded.{guarded, passes}
use Rattle.hera_steps.specs.declared.events.End.{End}
use Rattle.hera_machine.specs.declared.events.Status.TheVariants.{Working}
use Rattle.hera_machine.specs.Standing.{Standing, machine_over}
use Rattle.hera_steps.specs.Telling.{stop_of}
use Rattle.hera_volume.specs.Time.{Image}
use Rattle.hera_volume.specs.declared.file_id.FileId.{FileId}
use Rattle.hera_store.specs.Databases.{Database}
use Rattle.hera_outcome.specs.declared.answer.Stop.{Stop}
use Rattle.hera_outcome.specs.declared.answer.Stop.TheVariants.{Full}
use Rattle.hera_outcome.specs.Answers.{IsSpoken}
use Rattle.hera_outcome.specs.Cut.{IsCutWith, with_state}
use Rattle.hera_run.specs.declared.keeper.Keeper as keeper
use Rattle.hera_run.specs.declared.run.Close.{Close}
use Rattle.hera_run.specs.declared.run.Close.TheVariants.{Ends, Refused}
use Rattle.hera_run.specs.Fitting.{all_fit, gate_after, overfills}

-- What is run: code on relations, with these hosts and so many turns; from this database, whose next commit goes behind a
-- gate, or has no place; and the line in place of a commit, where one with this state behind it is refused.
pub record Job : Type 0 where
  pub code : Code
  pub relations : List RelDecl
  pub hosts : Hosts
  pub turns : ℕ
  pub from : Database
  pub gate : Option ℕ
  pub refusal : State → Option (List ℕ)

-- that of code over what keeps its commits
abbrev pub job : {K : Type 0} → keeper.Ghosts K → K → Code → List RelDecl → Hosts → (turns : ℕ) → Job
job k kept code rels hosts turns = record { code = code; relations = rels; hosts = hosts; turns = turns; from = k.database kept; gate = k.gate kept; refusal = k.refusal kept }

-- where the code stands after so many steps
abbrev pub at_step : Job → ℕ → Reached
at_step j k = code_at j.code j.relations j.from.state j.hosts j.turns k

-- the events of so many steps, up to before a store that is refused, and then its line
abbrev pub first_events : Job → ℕ → List Event
first_events j k = guarded j.refusal (events_in (at_step j k))

-- what a run that ends so does last: nothing where it is done
abbrev pub ending_of : End → List Event
ending_of end = with_line [] (stop_of end)

-- the code ends so, no store was refused, and all its events were carried out
pub record IsAllDone (j : Job) (before now : Option (List ℕ)) (left : Database) (end : End) : Type 0 where
  pub steps : ℕ
  pub events : List Event
  pub ends : at_step j steps ≡ over events (stop_of end)
  pub pass : passes j.refusal events ≡ true
  pub fit : all_fit j.gate events ≡ true
  pub said : Appends before now (printed events)
  pub stored : left ≡ with_state j.from (state_after j.from.state events)

-- a store was refused; the events before it were carried out, and its line was said
pub record IsRefusedAt (j : Job) (before now : Option (List ℕ)) (left : Database) : Type 0 where
  pub steps : ℕ
  pub refused : passes j.refusal (events_in (at_step j steps)) ≡ false
  pub fit : all_fit j.gate (first_events j steps) ≡ true
  pub said : Appends before now (printed (first_events j steps))
  pub stored : left ≡ with_state j.from (state_after j.from.state (first_events j steps))

-- the run is over so
abbrev pub IsOver : Job → (before now : Option (List ℕ)) → (left : Database) → Close → Type 0
IsOver j before now left (Ends end) = IsAllDone j before now left end
IsOver j before now left Refused = IsRefusedAt j before now left

-- the events before a store that does not fit were carried out, and none after
pub record IsDoneUpToFull (j : Job) (before now : Option (List ℕ)) (left : Database) : Type 0 where
  pub steps : ℕ
  pub events : List Event
  pub next : List Event
  pub reaches : first_events j steps ≡ events ++ next
  pub fit : all_fit j.gate events ≡ true
  pub full : overfills (gate_after j.gate events) next ≡ true
  pub said : Appends before now (printed events)
  pub stored : left ≡ with_state j.from (state_after j.from.state events)

-- of what the events of the first steps print a front was said
pub record IsPartDone (j : Job) (before now : Option (List ℕ)) : Type 0 where
  pub steps : ℕ
  pub fit : all_fit j.gate (first_events j steps) ≡ true
  pub front : ℕ
  pub said : Appends before now (take front (printed (first_events j steps)))

-- The run was stopped. `Full` tells that a commit does not fit, and then all is as it `stands` behind the events before it; a
-- run that makes no call on a file is stopped by the output or for want of memory alone.
pub record IsStopped (j : Job) (apart : Type 0) (before now : Option (List ℕ)) (left : Database) (stands : Type 0) (stop : Stop) : Type 0 where
  pub part : IsPartDone j before now
  pub full : stop ≡ Full → IsDoneUpToFull j before now left × stands
  pub spoken : apart → IsSpoken stop

-- the image is a cut of the events of the first steps
pub record IsCodeCut (finds : (FileId → List ℕ) → State → Type 0) (j : Job) (start : Option (List ℕ)) (c : Image) : Type 0 where
  pub steps : ℕ
  pub fit : all_fit j.gate (first_events j steps) ≡ true
  pub cut : IsCutWith finds (first_events j steps) j.from.state start c

-- how many turns a machine has
abbrev pub turns_of : Standing → ℕ
turns_of m = (machine_over [] m).turns

-- a machine at the start of its code
pub record IsAtStart (m : Standing) : Type 0 where
  pub starts : (s : State) → machine_over s m ≡ start_of m.code (turns_of m)
  pub works : m.status ≡ Working
  pub taken : m.waits ≡ None
