-- A folder opened for a guarded run.
use Rattle.std.specs.Prelude.{◌≡◌, ◌⊎◌, List}
use Rattle.hera_meaning.specs.declared.schemas.RelDecl.{RelDecl}
use Rattle.hera_host.specs.Tables.{Host}
use Rattle.hera_bind.specs.Having.{AllHas}
use Rattle.hera_store.specs.Databases.{Database, held}
use Rattle.hera_store.specs.Moments.{IsStill}
use Rattle.hera_store.specs.Standing.{Standing}
use Rattle.hera_guard.specs.declared.table.Guard.{Guard}
use Rattle.hera_guard_lines.specs.declared.lines.GuardLine.{GuardLine}
use Rattle.hera_guard_lines.specs.Naming.{Mean}
use Rattle.hera_outcome.specs.declared.answer.Stop.{Stop}
use Rattle.hera_outcome.specs.declared.answer.Stop.TheVariants.{Refused, Device, Output, Memory, Full}
use Rattle.hera_outcome.specs.Passages.{Passage, start_of, Stores}
use Rattle.hera_outcome.specs.Told.{IsCause, IsGivenUp, IsPending}
use Rattle.hera_run.specs.Folder.{IsThere, IsOverfull}
use Rattle.hera_run.specs.Opening.{IsRewritten, IsUnwritten, IsFoundFor, IsReady}
use Rattle.hera_guarded.specs.Guarding.{AreRules, IsUnruled, IsBarred}

-- the store was rewritten, and fits the program and the lines
pub record IsRenewedUnder (hosts : List Host) (lines : List GuardLine) (own : List RelDecl) (store next : Standing) (guards : List Guard) (v : Passage) : Type 0 where
  pub rewritten : IsRewritten store next v
  pub has : AllHas next.base.catalogue own
  pub rules : AreRules next.base.catalogue hosts lines guards

-- it was not rewritten, or no guards were made for what was
abbrev pub IsUnrenewed : List Host → List GuardLine → List RelDecl → Standing → Stop → Passage → Type 0
IsUnrenewed hosts lines own store stop v = IsUnwritten store stop v ⊎ ((next : Standing) × IsRewritten store next v × IsUnruled hosts lines own next.base.catalogue stop)

-- the folder held a database with all these relations over which the lines mean guards
pub record IsFoundUnder (hosts : List Host) (lines : List GuardLine) (own : List RelDecl) (v : Passage) : Type 0 where
  pub found : IsFoundFor own v
  pub guards : List Guard
  pub mean : Mean found.db.catalogue hosts lines guards

-- The folder was opened, it has all these relations, and the lines mean guards over it; a half of format 1 was rewritten.
pub record IsReadyUnder (hosts : List Host) (lines : List GuardLine) (own : List RelDecl) (store : Standing) (guards : List Guard) (v : Passage) : Type 0 where
  pub ready : IsReady own store v
  pub has : AllHas store.base.catalogue own
  pub rules : AreRules store.base.catalogue hosts lines guards
  pub so_far : (IsPending v × (v.told → v.once_synced)) ⊎ IsFoundUnder hosts lines own v

-- why it is not ready
abbrev pub IsUnreadyUnder : List Host → List GuardLine → List RelDecl → Stop → Passage → Type 0
IsUnreadyUnder hosts lines own (Refused refusal) v = IsBarred hosts lines own (start_of v) refusal × IsPending v
IsUnreadyUnder hosts lines own Device v = IsGivenUp 6 v ⊎ (IsFoundUnder hosts lines own v × IsCause 6 v × (v.emitted_now ≡ v.emitted_before))
IsUnreadyUnder hosts lines own Output v = ⊥
IsUnreadyUnder hosts lines own Memory v = IsGivenUp 9 v ⊎ (IsFoundUnder hosts lines own v × IsCause 9 v × (v.emitted_now ≡ v.emitted_before))
IsUnreadyUnder hosts lines own Full v =
    (db : Database) × (guards : List Guard) × IsThere (start_of v) (held db) × IsOverfull (start_of v) db × AllHas db.catalogue own × Mean db.catalogue hosts lines guards
    × IsPending v × (v.told → Stores db v) × (v.told → v.once_opened (IsStill db v.emitted_before))
