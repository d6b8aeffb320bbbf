-- A store over a folder, opened, and ready for events.
use Rattle.std.specs.Prelude.{◌≡◌, ◌≤◌, ◌<◌, ◌⊎◌, ℕ, suc, false, List, length}
use Rattle.hera_meaning.specs.declared.schemas.RelDecl.{RelDecl}
use Rattle.hera_meaning.specs.Deltas.{IsState}
use Rattle.hera_bind.specs.Having.{AllHas}
use Rattle.rel_format.specs.Journal.{half_limit}
use Rattle.rel_format.specs.Versions.{is_old}
use Rattle.hera_store.specs.Databases.{Database, held}
use Rattle.hera_store.specs.Faults.{half_with}
use Rattle.hera_store.specs.Moments.{IsStill}
use Rattle.hera_store.specs.Standing.{Standing, StandsFor, database_of}
use Rattle.hera_outcome.specs.declared.answer.Stop.{Stop}
use Rattle.hera_outcome.specs.declared.answer.Stop.TheVariants.{Refused, Device, Output, Memory, Full}
use Rattle.hera_outcome.specs.Passages.{Passage, start_of, Stores}
use Rattle.hera_outcome.specs.Told.{IsCause, IsGivenUp, IsPending}
use Rattle.hera_run.specs.Folder.{IsThere, IsClosed, IsStarting, IsOverfull}

-- the store is open and stands for the files as they are now
pub record IsOpen (store : Standing) (v : Passage) : Type 0 where
  pub stands : v.told → StandsFor v.disks_now store
  pub unclosed : store.closed ≡ false
  pub state : IsState store.base.catalogue (database_of store).state

-- nothing was emitted, and nothing failed
pub record IsQuiet (v : Passage) : Type 0 where
  pub emitted : v.emitted_now ≡ v.emitted_before
  pub output : v.output_now ≡ v.output_before
  pub device : v.device_now ≡ v.device_before

-- ---- opened

-- the folder was opened: it held the store's database, nothing was done that shows, and behind the syncs a stop leaves
-- only what it may leave now
pub record IsOpened (store : Standing) (v : Passage) : Type 0 where
  pub there : IsThere (start_of v) (held (database_of store))
  pub opens : IsOpen store v
  pub pending : IsPending v
  pub synced : v.told → v.once_synced

-- why a folder was not opened: it holds no whole database, a call on a file failed, or there was no memory
abbrev pub IsUnopened : Stop → Passage → Type 0
IsUnopened (Refused refusal) v = IsClosed (start_of v) refusal × IsPending v
IsUnopened Device v = IsGivenUp 6 v
IsUnopened Output v = ⊥
IsUnopened Memory v = IsGivenUp 9 v
IsUnopened Full v = ⊥

-- ---- rewritten

-- the store's half was written anew in format 2, with its only gate at the end; at each moment the database is the same
pub record IsRewritten (store next : Standing) (v : Passage) : Type 0 where
  pub same : v.told → database_of next ≡ database_of store
  pub two : v.told → is_old next.base.version ≡ false
  pub gate : v.told → suc next.end ≡ length (half_with (database_of store))
  pub fits : length (half_with (database_of store)) ≤ half_limit
  pub opens : IsOpen next v
  pub quiet : IsQuiet v
  pub moments : v.told → v.leaves_only (IsStill (database_of store) v.emitted_before)

-- it was cut short while a half was rewritten
pub record IsHalted (db : Database) (status : ℕ) (v : Passage) : Type 0 where
  pub cause : IsCause status v
  pub emitted : v.emitted_now ≡ v.emitted_before
  pub moments : v.told → v.leaves_only (IsStill db v.emitted_before)

-- why it was not: the half has no room, and nothing was done; or a call on a file failed, or there was no memory. A folder
-- that is refused as it is opened again is none that is told.
abbrev pub IsUnwritten : Standing → Stop → Passage → Type 0
IsUnwritten store (Refused refusal) v = IsClosed (start_of v) refusal × IsPending v
IsUnwritten store Device v = (length (half_with (database_of store)) ≤ half_limit) × IsHalted (database_of store) 6 v
IsUnwritten store Output v = ⊥
IsUnwritten store Memory v = v.idle ⊎ ((length (half_with (database_of store)) ≤ half_limit) × IsHalted (database_of store) 9 v)
IsUnwritten store Full v = (half_limit < length (half_with (database_of store))) × v.idle

-- ---- ready

-- the folder held this database with all these relations, behind this gate a run's records come, and behind the opening a
-- stop leaves it
pub record IsFoundFor (own : List RelDecl) (v : Passage) : Type 0 where
  pub db : Database
  pub gate : ℕ
  pub there : IsThere (start_of v) (held db)
  pub starts : IsStarting (start_of v) db gate
  pub has : AllHas db.catalogue own
  pub moments : v.told → v.once_opened (IsStill db v.emitted_before)

-- The folder was opened, and a half of format 1 that has all these relations was rewritten: the store's database is the one
-- that was found, and behind its end a run's records come.
pub record IsReady (own : List RelDecl) (store : Standing) (v : Passage) : Type 0 where
  pub there : IsThere (start_of v) (held (database_of store))
  pub starts : AllHas store.base.catalogue own → IsStarting (start_of v) (database_of store) store.end
  pub opens : IsOpen store v
  pub quiet : IsQuiet v
  pub moments : v.told → v.once_opened (IsStill (database_of store) v.emitted_before)
  pub lacks : (AllHas store.base.catalogue own → ⊥) → IsPending v
  pub so_far : (IsPending v × (v.told → v.once_synced)) ⊎ IsFoundFor own v

-- why it is not ready
abbrev pub IsUnready : List RelDecl → Stop → Passage → Type 0
IsUnready own (Refused refusal) v = IsClosed (start_of v) refusal × IsPending v
IsUnready own Device v = IsGivenUp 6 v ⊎ (IsFoundFor own v × IsCause 6 v × (v.emitted_now ≡ v.emitted_before))
IsUnready own Output v = ⊥
IsUnready own Memory v = IsGivenUp 9 v ⊎ (IsFoundFor own v × IsCause 9 v × (v.emitted_now ≡ v.emitted_before))
IsUnready own Full v = (db : Database) × IsThere (start_of v) (held db) × IsOverfull (start_of v) db × AllHas db.catalogue own × IsPending v × (v.told → Stores db v) × (v.told → v.once_opened (IsStill db v.emitted_before))
