-- What is seen of an outside over a call.
use Rattle.std.specs.Prelude.{◌≡◌, ◌⊎◌, ℕ, List, Option}
use Rattle.hera_volume.specs.Disk.{Disk, IsSettled, Within}
use Rattle.hera_volume.specs.Time.{Image, IsImageOf, IsAsRead, LeavesOnly}
use Rattle.hera_volume.specs.declared.file_id.FileId.{FileId}
use Rattle.hera_volume.specs.declared.file_id.FileId.TheVariants.{Select}
use Rattle.hera_volume.specs.declared.outside.Outside as files
use Rattle.hera_causes.specs.declared.traits.Output as output
use Rattle.hera_store.specs.Databases.{Database, Holds}
use Rattle.hera_store.specs.Moments.{IsUntouched, IsUnsynced, LeavesOnceSynced, LeavesOnceNamed, LeavesOnceSettled}

-- Up to a moment between, at which each file is synced and settled, a read gives what it gave, a crash leaves what it
-- might have left at the start, and nothing is emitted. From the last of these syncs up to there a crash leaves what it
-- may leave there; at that moment and from there on it leaves only what has P.
pub record LeavesOnceOpened {D : Type 0} (disk : D → FileId → Disk) (emitted : D → Option (List ℕ)) (moment : D → ℕ) (left_since : D → ℕ → Image → Type 0) (synced_at : D → FileId → ℕ) (old new : D) (P : Image → Type 0) : Type 0 where
  pub between : D
  pub before : IsUntouched disk emitted moment left_since old between
  pub settled : (f : FileId) → IsSettled (disk between f)
  pub synced : LeavesOnceSynced disk emitted moment left_since synced_at old between
  pub there : (c : Image) → IsImageOf (disk between) (emitted between) c → P c
  pub behind : LeavesOnly moment left_since between new P

-- Whether the files are told, and what they, the emitted bytes and the two counts of faults were when the call began and
-- are now. `leaves_only` says of a property that a stop at any moment of the call leaves only images that have it, beside
-- those that it might have left before. `once_opened` says it of the moments behind the opening of a folder, and
-- `once_settled` of those behind the first sync of `select`, or that this was not synced and nothing is touched. `idle`
-- says that nothing was done, `once_synced` that each file was synced in the call, and since the last of these syncs a
-- stop leaves only what it may leave now, `once_named` the same of `select` and its sync, and `unsynced` that a file was
-- not synced.
pub record Passage : Type 1 where
  pub told : Type 0
  pub disks_before : FileId → Disk
  pub disks_now : FileId → Disk
  pub emitted_before : Option (List ℕ)
  pub emitted_now : Option (List ℕ)
  pub output_before : ℕ
  pub output_now : ℕ
  pub device_before : ℕ
  pub device_now : ℕ
  pub leaves_only : (Image → Type 0) → Type 0
  pub once_opened : (Image → Type 0) → Type 0
  pub once_settled : (Image → Type 0) → Type 0
  pub idle : Type 0
  pub once_synced : Type 0
  pub once_named : Type 0
  pub unsynced : FileId → Type 0

-- the passage of an outside from the first of two moments to the second
abbrev pub passage : {D : Type 0} → output.Ghosts D → files.Ghosts D → D → D → Passage
passage q w old new = record {
  told = w.told;
  disks_before = w.disk old;
  disks_now = w.disk new;
  emitted_before = q.emitted old;
  emitted_now = q.emitted new;
  output_before = q.output_faults old;
  output_now = q.output_faults new;
  device_before = w.device_faults old;
  device_now = w.device_faults new;
  leaves_only = λ P. LeavesOnly w.moment w.left_since old new P;
  once_opened = λ P. LeavesOnceOpened w.disk q.emitted w.moment w.left_since w.synced_at old new P;
  once_settled = λ P. LeavesOnceSettled w.disk q.emitted w.moment w.left_since w.synced_at old new P
      ⊎ (IsUntouched w.disk q.emitted w.moment w.left_since old new × IsUnsynced w.synced_at old new Select);
  idle = new ≡ old;
  once_synced = LeavesOnceSynced w.disk q.emitted w.moment w.left_since w.synced_at old new;
  once_named = LeavesOnceNamed w.disk q.emitted w.moment w.left_since w.synced_at old new;
  unsynced = IsUnsynced w.synced_at old new;
}

-- Whether the files are told, and what they are, as a call begins. What it comes to depends on no more of an outside.
pub record Start : Type 1 where
  pub told : Type 0
  pub disks : FileId → Disk

abbrev pub start : {D : Type 0} → files.Ghosts D → D → Start
start w old = record { told = w.told; disks = w.disk old }

-- the beginning of a passage
abbrev pub start_of : Passage → Start
start_of v = record { told = v.told; disks = v.disks_before }

-- the files read as before
abbrev pub ReadsAsBefore : Passage → Type 0
ReadsAsBefore v = (f : FileId) → (v.disks_now f).bytes ≡ (v.disks_before f).bytes

-- the files as they read, with what was emitted, have P
abbrev pub ReadsAmong : (Image → Type 0) → Passage → Type 0
ReadsAmong P v = (c : Image) → IsAsRead v.disks_now v.emitted_now c → P c

-- the files hold this database, as they read
abbrev pub ReadsAs : Database → Passage → Type 0
ReadsAs db v = Holds (λ f. (v.disks_now f).bytes) db

-- the files hold this database, as they read and after any crash now
pub record Stores (db : Database) (v : Passage) : Type 0 where
  pub settled : (f : FileId) → IsSettled (v.disks_now f)
  pub holds : Holds (λ f. (v.disks_now f).bytes) db

-- no call on a file was made that shows: they are as before, and none has failed
pub record KeepsFiles (v : Passage) : Type 0 where
  pub files : v.told → (f : FileId) → v.disks_now f ≡ v.disks_before f
  pub device : v.device_now ≡ v.device_before

-- Nothing was emitted, a read gives what it gave, and a crash now or meanwhile leaves what it might have left before.
pub record IsUnseen (v : Passage) : Type 0 where
  pub emitted : v.emitted_now ≡ v.emitted_before
  pub output : v.output_now ≡ v.output_before
  pub reads : v.told → ReadsAsBefore v
  pub within : v.told → (f : FileId) → Within (v.disks_now f) (v.disks_before f)
  pub moments : v.told → v.leaves_only (IsImageOf v.disks_before v.emitted_before)

-- how far a call came with the syncs that it begins with: it made none, as nothing was done; each went well, or that of
-- `select` alone, which a database is made behind; or one did not
pub data HasSynced (v : Passage) : Type 0 where
  does_nothing : v.idle → HasSynced v
  syncs_all : v.once_synced → HasSynced v
  syncs_select : v.once_named → HasSynced v
  fails_at : (f : FileId) → v.unsynced f → HasSynced v
