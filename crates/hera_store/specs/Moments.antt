-- What a crash leaves at the moments of a call.
use Rattle.std.specs.Prelude.{◌≡◌, ◌⊎◌, ◌≤◌, ℕ, List, [], Option, Some}
use Rattle.std.specs.Io.KnownBytes.{Keeps}
use Rattle.hera_volume.specs.Disk.{Disk, IsSettled, Within}
use Rattle.hera_volume.specs.Time.{Image, IsImageOf, LeavesOnly}
use Rattle.hera_volume.specs.declared.file_id.FileId.{FileId}
use Rattle.hera_volume.specs.declared.file_id.FileId.TheVariants.{Select}
use Rattle.hera_store.specs.Databases.{Database, Holds}

-- this database is found, and nothing was emitted since
pub record IsStill (db : Database) (so_far : Option (List ℕ)) (c : Image) : Type 0 where
  pub found : Holds c.files db
  pub emitted : Keeps so_far (Some c.emitted)

-- one of two databases is found, and nothing was emitted since
pub record IsEither (before after : Database) (so_far : Option (List ℕ)) (c : Image) : Type 0 where
  pub found : Holds c.files before ⊎ Holds c.files after
  pub emitted : Keeps so_far (Some c.emitted)

-- no database is found or this one, and nothing was emitted since
pub record IsNoneOr (db : Database) (so_far : Option (List ℕ)) (c : Image) : Type 0 where
  pub found : (c.files Select ≡ []) ⊎ Holds c.files db
  pub emitted : Keeps so_far (Some c.emitted)

-- A read gives what it gave, and a crash now or meanwhile leaves what it might have left before.
pub record IsUntouched {D : Type 0} (disk : D → FileId → Disk) (emitted : D → Option (List ℕ)) (moment : D → ℕ) (left_since : D → ℕ → Image → Type 0) (old new : D) : Type 0 where
  pub reads : (f : FileId) → (disk new f).bytes ≡ (disk old f).bytes
  pub within : (f : FileId) → Within (disk new f) (disk old f)
  pub same : emitted new ≡ emitted old
  pub any_moment : LeavesOnly moment left_since old new (IsImageOf (disk old) (emitted old))

-- Each file was synced in this call. What a crash might have left since the last of these syncs, it may leave now:
-- nothing comes back of what it might have left before.
pub record LeavesOnceSynced {D : Type 0} (disk : D → FileId → Disk) (emitted : D → Option (List ℕ)) (moment : D → ℕ) (left_since : D → ℕ → Image → Type 0) (synced_at : D → FileId → ℕ) (old new : D) : Type 0 where
  pub anew : (f : FileId) → moment old ≤ synced_at new f
  pub past : (f : FileId) → synced_at new f ≤ moment new
  pub since : (last : FileId) (c : Image) → ((f : FileId) → synced_at new f ≤ synced_at new last) → left_since new (synced_at new last) c → IsImageOf (disk new) (emitted new) c

-- The same of `select` alone, from its sync on.
pub record LeavesOnceNamed {D : Type 0} (disk : D → FileId → Disk) (emitted : D → Option (List ℕ)) (moment : D → ℕ) (left_since : D → ℕ → Image → Type 0) (synced_at : D → FileId → ℕ) (old new : D) : Type 0 where
  pub anew : moment old ≤ synced_at new Select
  pub past : synced_at new Select ≤ moment new
  pub since : (c : Image) → left_since new (synced_at new Select) c → IsImageOf (disk new) (emitted new) c

-- This file was not synced since.
abbrev pub IsUnsynced : {D : Type 0} → (D → FileId → ℕ) → D → D → FileId → Type 0
IsUnsynced synced_at old new f = synced_at new f ≡ synced_at old f

-- Up to a moment between, nothing is touched but for syncs, among them that of `select`. From that sync up to there a
-- crash leaves what it may leave there, and from there on only what has P.
pub record LeavesOnceSettled {D : Type 0} (disk : D → FileId → Disk) (emitted : D → Option (List ℕ)) (moment : D → ℕ) (left_since : D → ℕ → Image → Type 0) (synced_at : D → FileId → ℕ) (old new : D) (P : Image → Type 0) : Type 0 where
  pub between : D
  pub before : IsUntouched disk emitted moment left_since old between
  pub settled : IsSettled (disk between Select)
  pub named : LeavesOnceNamed disk emitted moment left_since synced_at old between
  pub behind : LeavesOnly moment left_since between new P
