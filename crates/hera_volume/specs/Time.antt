-- The three files and the output under one clock.
use Rattle.std.specs.Prelude.{◌≡◌, ◌≢◌, ◌⊎◌, ℕ, ◌≤◌, List, take, Option, Some}
use Rattle.std.specs.Io.KnownBytes.{Appends, Keeps}
use Rattle.hera_volume.specs.Disk.{Disk, IsImage}
use Rattle.hera_volume.specs.declared.file_id.FileId.{FileId}

-- what a crash leaves: the bytes of the files, and those that were emitted
pub record Image : Type 0 where
  pub files : FileId → List ℕ
  pub emitted : List ℕ

-- at rest between two calls
pub record IsImageOf (disks : FileId → Disk) (so_far : Option (List ℕ)) (c : Image) : Type 0 where
  pub files : (f : FileId) → IsImage (disks f) (c.files f)
  pub emitted : Keeps so_far (Some c.emitted)

-- the files as a read gives them
pub record IsAsRead (disks : FileId → Disk) (so_far : Option (List ℕ)) (c : Image) : Type 0 where
  pub files : (f : FileId) → c.files f ≡ (disks f).bytes
  pub emitted : Keeps so_far (Some c.emitted)

-- while one file is changed to this disk
pub record IsImageIn (disks : FileId → Disk) (so_far : Option (List ℕ)) (which : FileId) (changed : Disk) (c : Image) : Type 0 where
  pub file : IsImage changed (c.files which)
  pub others : (f : FileId) → f ≢ which → IsImage (disks f) (c.files f)
  pub emitted : Keeps so_far (Some c.emitted)

-- while a piece is emitted
pub record IsImageAmid (disks : FileId → Disk) (so_far : Option (List ℕ)) (piece : List ℕ) (c : Image) : Type 0 where
  pub files : (f : FileId) → IsImage (disks f) (c.files f)
  pub emitted : (n : ℕ) × Appends so_far (Some c.emitted) (take n piece)

-- From old to new a crash leaves only what has P: the images since an earlier moment are those from before, and some that have P.
pub record LeavesOnly {D : Type 0} (moment : D → ℕ) (left_since : D → ℕ → Image → Type 0) (old new : D) (P : Image → Type 0) : Type 0 where
  pub later : moment old ≤ moment new
  pub only : (t : ℕ) (c : Image) → t ≤ moment old → left_since new t c → left_since old t c ⊎ P c
  pub keeps : (t : ℕ) (c : Image) → t ≤ moment old → left_since old t c → left_since new t c

-- The images since an earlier moment are, at new, those since it at old and those from old to new.
pub record GoesOn {D : Type 0} (moment : D → ℕ) (left_since : D → ℕ → Image → Type 0) (old new : D) : Type 0 where
  pub either : (t : ℕ) (c : Image) → t ≤ moment old → left_since new t c → left_since old t c ⊎ left_since new (moment old) c
  pub before : (t : ℕ) (c : Image) → t ≤ moment old → left_since old t c → left_since new t c
  pub after : (t : ℕ) (c : Image) → t ≤ moment old → left_since new (moment old) c → left_since new t c

-- From a to b only this piece was emitted, in whole or in part.
pub record EmitsOnly {D : Type 0} (told : Type 0) (disk : D → FileId → Disk) (emitted : D → Option (List ℕ)) (moment : D → ℕ) (left_since : D → ℕ → Image → Type 0)
    (synced_at : D → FileId → ℕ) (device_faults output_faults : D → ℕ) (a b : D) (piece : List ℕ) (n : ℕ) : Type 0 where
  pub bytes : Appends (emitted a) (emitted b) (take n piece)
  pub files : told → (f : FileId) → disk b f ≡ disk a f
  pub any_moment : told → LeavesOnly moment left_since a b (IsImageAmid (disk a) (emitted a) piece)
  pub since : told → GoesOn moment left_since a b
  pub syncs : told → (f : FileId) → synced_at b f ≡ synced_at a f
  pub device : device_faults b ≡ device_faults a
  pub output : output_faults a ≤ output_faults b

-- while one file may be anything
pub record IsImageBut (disks : FileId → Disk) (so_far : Option (List ℕ)) (which : FileId) (c : Image) : Type 0 where
  pub others : (f : FileId) → f ≢ which → IsImage (disks f) (c.files f)
  pub emitted : Keeps so_far (Some c.emitted)
