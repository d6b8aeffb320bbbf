-- What a run over a folder begins from, and what it comes to.
use Rattle.std.specs.Prelude.{◌≡◌, ◌≤◌, ◌<◌, ◌⊎◌, ℕ, suc, cond, Some, List, length}
use Rattle.hera_meaning.specs.Trees.{Program_tree}
use Rattle.hera_meaning.specs.Run.{Report, run_of}
use Rattle.hera_host.specs.Tables.{Host, specs_of}
use Rattle.hera_rules.specs.Bound.{bound, Differs}
use Rattle.hera_bind.specs.Having.{AllHas}
use Rattle.hera_volume.specs.declared.file_id.FileId.{FileId}
use Rattle.hera_volume.specs.declared.file_id.FileId.TheVariants.{Select}
use Rattle.rel_format.specs.Pages.{format_one, format_two}
use Rattle.rel_format.specs.Journal.{IsHalf, half_limit}
use Rattle.commit_journal.specs.Halves.{IsHalfTo}
use Rattle.hera_store.specs.Databases.{Database, Names, FilesFound, IsFound, absent, spoilt, held}
use Rattle.hera_store.specs.Faults.{half_with}
use Rattle.hera_outcome.specs.declared.refusal.Refusal.{Refusal}
use Rattle.hera_outcome.specs.declared.refusal.Refusal.TheVariants.{NoDatabase, Damaged, Differing}
use Rattle.hera_outcome.specs.Outcomes.{Outcome, ends, full, refused, too_long, carried}
use Rattle.hera_outcome.specs.Passages.{Start}
use Rattle.hera_run.specs.Fitting.{all_fit, fitting}

-- ---- what the files were as the call began

-- what the folder held
abbrev pub IsThere : Start → FilesFound → Type 0
IsThere v found = v.told → IsFound (λ f. (v.disks f).bytes) found

-- it held no whole database, and this refusal says so
pub data IsClosed (v : Start) : Refusal → Type 0 where
  finds_none : IsThere v absent → IsClosed v NoDatabase
  finds_damage : {file : FileId} {at : ℕ} → IsThere v (spoilt file at) → IsClosed v (Damaged file at)

-- the half is of format 1, and the half of format 2 that replaces it is within the limit, its only gate at this place
pub record IsReplaced (bytes : List ℕ) (db : Database) (gate : ℕ) : Type 0 where
  pub old : IsHalf format_one bytes db.catalogue db.state
  pub place : suc gate ≡ length (half_with db)
  pub fits : length (half_with db) ≤ half_limit

-- The half that is selected has this database, and the records of a run stand behind this gate: that at the end of its
-- journal, or the only one of the half that replaces it.
pub record StartsAt (files : FileId → List ℕ) (db : Database) (gate : ℕ) : Type 0 where
  pub half : FileId
  pub named : Names (files Select) half
  pub starts : IsHalfTo format_two (files half) db.catalogue db.state gate ⊎ IsReplaced (files half) db gate

-- the half that is selected is of format 1, and the half of format 2 with its database passes the limit
pub record Overfills (files : FileId → List ℕ) (db : Database) : Type 0 where
  pub half : FileId
  pub named : Names (files Select) half
  pub old : IsHalf format_one (files half) db.catalogue db.state
  pub past : half_limit < length (half_with db)

abbrev pub IsStarting : Start → Database → ℕ → Type 0
IsStarting v db gate = v.told → StartsAt (λ f. (v.disks f).bytes) db gate

abbrev pub IsOverfull : Start → Database → Type 0
IsOverfull v db = v.told → Overfills (λ f. (v.disks f).bytes) db

-- ---- outcomes

-- a run from a database whose journal ends at this gate: all its events, or those up to a store for which the half is
-- too full
abbrev pub outcome_from : Database → (gate : ℕ) → Report → Outcome
outcome_from db gate report = carried db (fitting (Some gate) report.events) (cond (all_fit (Some gate) report.events) (ends report.finish) full)

-- the outcome of a run of a program: the folder is refused, then the binding; or a half of format 1 has no room in
-- format 2; and else the bound program runs
pub data RunsTo (hosts : List Host) (turns : ℕ) (p : Program_tree) (v : Start) : Outcome → Type 0 where
  closed : {refusal : Refusal} → IsClosed v refusal → RunsTo hosts turns p v (refused refusal)
  differs : {db : Database} {name : List ℕ} → IsThere v (held db) → Differs db.catalogue p.relations name → RunsTo hosts turns p v (refused (Differing name))
  overflows : {db : Database} → IsThere v (held db) → IsOverfull v db → AllHas db.catalogue p.relations → RunsTo hosts turns p v (too_long db)
  runs : {db : Database} {gate : ℕ} → IsThere v (held db) → IsStarting v db gate → AllHas db.catalogue p.relations
      → RunsTo hosts turns p v (outcome_from db gate (run_of (bound p db.catalogue) db.state (specs_of hosts) turns))
