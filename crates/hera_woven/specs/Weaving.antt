-- What programs that are woven over a folder come to.
use Rattle.std.specs.Prelude.{◌≡◌, ℕ, List, [], ◌∷◌, ◌++◌}
use Rattle.hera_meaning.specs.declared.schemas.RelDecl.{RelDecl}
use Rattle.hera_meaning.specs.Deltas.{State}
use Rattle.hera_meaning.specs.Hosts.{Hosts}
use Rattle.hera_meaning.specs.Trees.{Program_tree}
use Rattle.hera_meaning.specs.Run.{Report, finished}
use Rattle.hera_host.specs.Tables.{Host, specs_of}
use Rattle.hera_rules.specs.Bound.{bound, Differs}
use Rattle.hera_bind.specs.Having.{AllHas}
use Rattle.hera_sessions.specs.Sessions.{Task}
use Rattle.hera_sessions.specs.Weaving.{woven, weave_of}
use Rattle.hera_sessions.specs.Turns.{open_from, IsOrdered}
use Rattle.hera_store.specs.Databases.{Database, held}
use Rattle.hera_outcome.specs.declared.refusal.Refusal.{Refusal}
use Rattle.hera_outcome.specs.declared.refusal.Refusal.TheVariants.{Differing}
use Rattle.hera_outcome.specs.Outcomes.{Outcome, refused, too_long}
use Rattle.hera_outcome.specs.Passages.{Start}
use Rattle.hera_run.specs.Folder.{IsThere, IsClosed, IsStarting, IsOverfull, outcome_from}

-- the relations that programs declare, one program after another
abbrev pub relations_of : List Program_tree → List RelDecl
relations_of [] = []
relations_of (p ∷ ps) = p.relations ++ relations_of ps

-- programs bound to a catalogue
abbrev pub all_bound : (catalogue : List RelDecl) → List Program_tree → List Program_tree
all_bound catalogue [] = []
all_bound catalogue (p ∷ ps) = bound p catalogue ∷ all_bound catalogue ps

-- programs as sessions in this order, each with so many turns
abbrev pub tasks_of : (turns : ℕ) → List Program_tree → List Task
tasks_of turns [] = []
tasks_of turns (p ∷ ps) = record { program = p; turns = turns } ∷ tasks_of turns ps

-- the steps of the schedule are those that the number tells, and at the last of them the last session closed
pub record IsWhole (tasks : List Task) (s0 : State) (hosts : Hosts) (order : ℕ) (schedule : List ℕ) : Type 0 where
  pub ordered : IsOrdered tasks s0 hosts order schedule
  pub closed : open_from 0 (woven tasks s0 hosts schedule).stages ≡ []

-- all that a weave does; it is done however its sessions end
abbrev pub report_of : List Task → State → (schedule : List ℕ) → Hosts → Report
report_of tasks s0 schedule hosts = record { events = weave_of tasks s0 schedule hosts; finish = finished }

-- The outcome of a weave of programs: the folder is refused, then the first relation, in the order of the programs, that it
-- has not; or a half of format 1 has no room in format 2; and else the bound programs are woven by the schedule of the number,
-- up to the step at which the last session closes.
pub data WeavesTo (hosts : List Host) (turns order : ℕ) (ps : List Program_tree) (v : Start) : Outcome → Type 0 where
  closed : {refusal : Refusal} → IsClosed v refusal → WeavesTo hosts turns order ps v (refused refusal)
  differs : {db : Database} {name : List ℕ} → IsThere v (held db) → Differs db.catalogue (relations_of ps) name → WeavesTo hosts turns order ps v (refused (Differing name))
  overflows : {db : Database} → IsThere v (held db) → IsOverfull v db → AllHas db.catalogue (relations_of ps) → WeavesTo hosts turns order ps v (too_long db)
  weaves : {db : Database} {gate : ℕ} {schedule : List ℕ} → IsThere v (held db) → IsStarting v db gate → AllHas db.catalogue (relations_of ps)
      → IsWhole (tasks_of turns (all_bound db.catalogue ps)) db.state (specs_of hosts) order schedule
      → WeavesTo hosts turns order ps v (outcome_from db gate (report_of (tasks_of turns (all_bound db.catalogue ps)) db.state schedule (specs_of hosts)))
