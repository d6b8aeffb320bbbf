-- How far a weave over an open folder was carried out.
use Rattle.std.specs.Prelude.{◌≡◌, ℕ, true, false, List, [], ◌++◌, take, Option, None, Some, Result, Err, OnOk, OnErr, All}
use Rattle.std.specs.Io.KnownBytes.{Appends}
use Rattle.hera_meaning.specs.Commits.{IsCommitOf}
use Rattle.hera_meaning.specs.Deltas.{State}
use Rattle.hera_meaning.specs.Hosts.{Hosts}
use Rattle.hera_meaning.specs.Worlds.{Event}
use Rattle.hera_meaning.specs.Run.{printed, state_after}
use Rattle.hera_sessions.specs.Sessions.{Task}
use Rattle.hera_sessions.specs.Weaving.{Outcome, woven, weave_of, closes_next, closing_events, AreTasks}
use Rattle.hera_sessions.specs.Turns.{IsOrdered}
use Rattle.rel_pages.specs.Stored.{Stored}
use Rattle.hera_store.specs.Databases.{Database}
use Rattle.hera_store.specs.Standing.{Standing, StandsFor as store_stands, database_of}
use Rattle.hera_outcome.specs.declared.answer.Stop.{Stop}
use Rattle.hera_outcome.specs.declared.answer.Stop.TheVariants.{Full}
use Rattle.hera_outcome.specs.Cut.{IsCut, with_state}
use Rattle.hera_outcome.specs.Passages.{Passage}
use Rattle.hera_outcome.specs.Told.{FaultsBy, StopFaults}
use Rattle.hera_run.specs.Fitting.{all_fit, gate_after, overfills}
use Rattle.hera_weave.specs.Looms.{Loom, StandsFor, state_behind}
use Rattle.hera_weave.specs.Rotas.{Turn, IsDue}
use Rattle.hera_woven.specs.declared.keeping.Folder.{Folder}
use Rattle.hera_woven.specs.Weaving.{IsWhole}

-- ---- events over a store

-- The events were carried out over the store, which is another one then; or it was stopped, and a part of them was. At each
-- moment a stop leaves a cut of them. `Full` tells that the first does not fit, and nothing was done.
pub record Carries {T : Type 0} (events : List Event) (old now : Standing) (r : Result T Stop) (v : Passage) : Type 0 where
  pub base : now.base ≡ old.base
  pub unclosed : OnOk r (now.closed ≡ false)
  pub stands : v.told → OnOk r (store_stands v.disks_now now)
  pub kept : OnOk r (database_of now ≡ with_state (database_of old) (state_after (database_of old).state events))
  pub ends : OnOk r (Some now.end ≡ gate_after (Some old.end) events)
  pub fit : OnOk r (all_fit (Some old.end) events ≡ true)
  pub whole : OnOk r (Appends v.emitted_before v.emitted_now (printed events))
  pub part : OnErr r ((n : ℕ) × Appends v.emitted_before v.emitted_now (take n (printed events)))
  pub moments : v.told → v.leaves_only (IsCut events (database_of old) v.emitted_before)
  pub faults : FaultsBy r v
  pub past : r ≡ Err Full → overfills (Some old.end) events ≡ true
  pub unchanged : r ≡ Err Full → now ≡ old
  pub idle : overfills (Some old.end) events ≡ true → v.idle

-- ---- a weave

-- What is woven: sessions by the schedule of this number, over this base, from this database, whose next commit goes behind
-- this gate.
pub record Plan : Type 0 where
  pub tasks : List Task
  pub order : ℕ
  pub base : Stored
  pub from : Database
  pub gate : ℕ

-- that over an open store
abbrev pub plan_over : List Task → (order : ℕ) → Standing → Plan
plan_over tasks order store = record { tasks = tasks; order = order; base = store.base; from = database_of store; gate = store.end }

-- what a session does as it closes so, where it does
abbrev pub closing : State → (session : ℕ) → Option Outcome → List Event
closing s session None = []
closing s session (Some outcome) = closing_events s session outcome

module _ (hosts : Hosts) (plan : Plan) where
  -- what is done in these steps
  abbrev pub events_of : (schedule : List ℕ) → List Event
  events_of schedule = weave_of plan.tasks plan.from.state schedule hosts

  -- and at a step of the session behind them
  abbrev pub events_next : (schedule : List ℕ) → (session : ℕ) → List Event
  events_next schedule session = closing (state_after plan.from.state (events_of schedule)) session (closes_next plan.tasks plan.from.state hosts session (woven plan.tasks plan.from.state hosts schedule))

  -- A weave stands behind the steps of a schedule, and the folder has all that it stored in them.
  pub record IsBehind (schedule : List ℕ) (weave : Loom) (rota : Turn) (folder : Folder) : Type 0 where
    pub are : AreTasks hosts plan.base.catalogue plan.tasks
    pub base : folder.store.base ≡ plan.base
    pub unclosed : folder.store.closed ≡ false
    pub works : weave.failed ≡ false
    pub weaves : StandsFor plan.tasks hosts plan.base.state folder.commits.items schedule weave
    pub begins : state_behind plan.base.state folder.commits.items weave.start ≡ plan.from.state
    pub proper : All (IsCommitOf plan.base.catalogue) folder.commits.items
    pub due : IsDue plan.tasks plan.from.state hosts schedule rota
    pub order : rota.order ≡ plan.order
    pub stored : database_of folder.store ≡ with_state plan.from (state_after plan.from.state (events_of schedule))
    pub fit : all_fit (Some plan.gate) (events_of schedule) ≡ true
    pub ends : Some folder.store.end ≡ gate_after (Some plan.gate) (events_of schedule)

  -- the steps of a schedule were carried out since
  pub record IsCarriedOut (schedule : List ℕ) (store : Standing) (v : Passage) : Type 0 where
    pub said : Appends v.emitted_before v.emitted_now (printed (events_of schedule))
    pub stands : v.told → store_stands v.disks_now store
    pub moments : v.told → v.leaves_only (IsCut (events_of schedule) plan.from v.emitted_before)
    pub output : v.output_now ≡ v.output_before
    pub device : v.device_now ≡ v.device_before

  -- all sessions have closed, and all that they did was carried out
  pub record IsWoven (store : Standing) (v : Passage) : Type 0 where
    pub schedule : List ℕ
    pub whole : IsWhole plan.tasks plan.from.state hosts plan.order schedule
    pub stored : database_of store ≡ with_state plan.from (state_after plan.from.state (events_of schedule))
    pub fit : all_fit (Some plan.gate) (events_of schedule) ≡ true
    pub done : IsCarriedOut schedule store v

  -- the events were carried out, and the next is a store that does not fit
  pub record IsFull (events next : List Event) (store : Standing) (v : Passage) : Type 0 where
    pub past : overfills (gate_after (Some plan.gate) events) next ≡ true
    pub said : Appends v.emitted_before v.emitted_now (printed events)
    pub stored : database_of store ≡ with_state plan.from (state_after plan.from.state events)
    pub stands : v.told → store_stands v.disks_now store

  -- it was stopped in a step of the schedule: of the first of its events a part was carried out
  pub record IsHeldUp (store : Standing) (v : Passage) (stop : Stop) : Type 0 where
    pub schedule : List ℕ
    pub events : List Event
    pub next : List Event
    pub ordered : IsOrdered plan.tasks plan.from.state hosts plan.order schedule
    pub reaches : events ++ next ≡ events_of schedule
    pub fit : all_fit (Some plan.gate) events ≡ true
    pub part : (n : ℕ) × Appends v.emitted_before v.emitted_now (take n (printed events))
    pub moments : v.told → v.leaves_only (IsCut events plan.from v.emitted_before)
    pub faults : StopFaults stop v
    pub full : stop ≡ Full → IsFull events next store v

-- some weave stands so
pub record IsBehindSome (hosts : Hosts) (weave : Loom) (rota : Turn) (folder : Folder) : Type 0 where
  pub plan : Plan
  pub schedule : List ℕ
  pub behind : IsBehind hosts plan schedule weave rota folder
