-- What a run under guards over a folder comes to.
use Rattle.std.specs.Prelude.{◌≡◌, ℕ, cond, Some, List, []}
use Rattle.hera_meaning.specs.declared.schemas.RelDecl.{RelDecl}
use Rattle.hera_meaning.specs.Deltas.{Delta, IsState}
use Rattle.hera_meaning.specs.Trees.{Program_tree}
use Rattle.hera_host.specs.Tables.{Host, specs_of}
use Rattle.hera_rules.specs.Bound.{bound, Differs}
use Rattle.hera_bind.specs.Having.{AllHas}
use Rattle.hera_script.specs.declared.cause.Cause.TheVariants.{Unknown, Mismatch}
use Rattle.hera_store.specs.Databases.{Database, held}
use Rattle.hera_store.specs.Standing.{Standing, database_of}
use Rattle.hera_guard.specs.declared.table.Guard.{Guard}
use Rattle.hera_guard.specs.Guards.{AreGuards, breaks}
use Rattle.hera_guard.specs.Guarded.{GuardedFinish, ends as guarded_ends, refused as guarded_refused, GuardedReport, guarded_of}
use Rattle.hera_guard_lines.specs.declared.lines.GuardLine.{GuardLine}
use Rattle.hera_guard_lines.specs.declared.naming.NameFault.TheVariants as faults
use Rattle.hera_guard_lines.specs.Naming.{Mean, FirstFault}
use Rattle.hera_outcome.specs.declared.answer.Stop.{Stop}
use Rattle.hera_outcome.specs.declared.answer.Stop.TheVariants as stops
use Rattle.hera_outcome.specs.declared.refusal.Refusal.{Refusal}
use Rattle.hera_outcome.specs.declared.refusal.Refusal.TheVariants.{Differing, Script}
use Rattle.hera_outcome.specs.Outcomes.{Outcome, Ended, ends, full, broken, refused, too_long, carried}
use Rattle.hera_outcome.specs.Passages.{Start}
use Rattle.hera_run.specs.Fitting.{all_fit, fitting}
use Rattle.hera_run.specs.Folder.{IsThere, IsClosed, IsStarting, IsOverfull}
use Rattle.hera_run.specs.Keeping.{IsReadyWith}

-- ---- guards over a catalogue

-- the lines mean these guards
pub record AreRules (rels : List RelDecl) (hosts : List Host) (lines : List GuardLine) (guards : List Guard) : Type 0 where
  pub are : AreGuards rels hosts guards
  pub mean : Mean rels hosts lines guards

-- the store takes a commit, and no row that it holds breaks a guard
pub record IsGuardedStore (hosts : List Host) (lines : List GuardLine) (guards : List Guard) (levels : List Delta) (store : Standing) : Type 0 where
  pub ready : IsReadyWith levels store
  pub rules : AreRules store.base.catalogue hosts lines guards
  pub state : IsState store.base.catalogue (database_of store).state
  pub unbroken : breaks (specs_of hosts) guards store.base.catalogue (database_of store).state ≡ []

-- ---- refusals

-- The catalogue lacks a relation of the program; or it has all, and the first line with a fault has this one: a name that
-- means nothing, or a host that does not fit.
pub data IsUnfit (hosts : List Host) (lines : List GuardLine) (own catalogue : List RelDecl) : Refusal → Type 0 where
  differs : {name : List ℕ} → Differs catalogue own name → IsUnfit hosts lines own catalogue (Differing name)
  unknown : {at : ℕ} → AllHas catalogue own → FirstFault catalogue hosts lines (faults.Unknown at) → IsUnfit hosts lines own catalogue (Script Unknown at)
  mismatched : {at : ℕ} → AllHas catalogue own → FirstFault catalogue hosts lines (faults.Mismatch at) → IsUnfit hosts lines own catalogue (Script Mismatch at)

-- the same of a stop, or there was no memory
abbrev pub IsUnruled : List Host → List GuardLine → (own catalogue : List RelDecl) → Stop → Type 0
IsUnruled hosts lines own catalogue (stops.Refused refusal) = IsUnfit hosts lines own catalogue refusal
IsUnruled hosts lines own catalogue stops.Device = ⊥
IsUnruled hosts lines own catalogue stops.Output = ⊥
IsUnruled hosts lines own catalogue stops.Memory = Unit {0}
IsUnruled hosts lines own catalogue stops.Full = ⊥

-- nothing is run: the folder held no whole database, or one that does not fit the program and the lines
pub data IsBarred (hosts : List Host) (lines : List GuardLine) (own : List RelDecl) (v : Start) : Refusal → Type 0 where
  closed : {refusal : Refusal} → IsClosed v refusal → IsBarred hosts lines own v refusal
  unfit : {db : Database} {refusal : Refusal} → IsThere v (held db) → IsUnfit hosts lines own db.catalogue refusal → IsBarred hosts lines own v refusal

-- ---- outcomes

-- a guarded run ends as the meaning does, or with the line of a break
abbrev pub ended_of : GuardedFinish → Ended
ended_of (guarded_ends finish) = ends finish
ended_of guarded_refused = broken

-- a guarded run from a database whose journal ends at this gate: all its events, or those up to a store for which the half is
-- too full
abbrev pub guarded_outcome : Database → (gate : ℕ) → GuardedReport → Outcome
guarded_outcome db gate report = carried db (fitting (Some gate) report.events) (cond (all_fit (Some gate) report.events) (ended_of report.finish) full)

-- the outcome of a guarded run of a program: it is barred; or a half of format 1 has no room in format 2; and else the bound
-- program runs under the guards that the lines mean
pub data GuardsTo (hosts : List Host) (lines : List GuardLine) (turns : ℕ) (p : Program_tree) (v : Start) : Outcome → Type 0 where
  barred : {refusal : Refusal} → IsBarred hosts lines p.relations v refusal → GuardsTo hosts lines turns p v (refused refusal)
  overflows : {db : Database} {guards : List Guard} → IsThere v (held db) → IsOverfull v db → AllHas db.catalogue p.relations → Mean db.catalogue hosts lines guards → GuardsTo hosts lines turns p v (too_long db)
  runs : {db : Database} {gate : ℕ} {guards : List Guard} → IsThere v (held db) → IsStarting v db gate → AllHas db.catalogue p.relations → Mean db.catalogue hosts lines guards
      → GuardsTo hosts lines turns p v (guarded_outcome db gate (guarded_of (bound p db.catalogue) db.state hosts turns guards))
