-- A journal's last gate, and the record behind it.
use Rattle.std.specs.Prelude.{◌≡◌, ◌≢◌, ◌⊎◌, ℕ, ◌+◌, ◌<◌, ◌≤◌, max, List, ◌∷◌, ◌++◌, length, slice_index, Option, Some}
use Rattle.std.specs.Io.KnownBytes.{Keeps}
use Rattle.hera_volume.specs.Disk.{Disk, IsImage, IsSettled}
use Rattle.hera_volume.specs.Time.{Image}
use Rattle.hera_volume.specs.declared.file_id.FileId.{FileId}

-- behind these bytes stands a gate that is not open
pub record IsWithout (front bytes : List ℕ) : Type 0 where
  pub gate : ℕ
  pub rest : List ℕ
  pub is : bytes ≡ front ++ (gate ∷ rest)
  pub shut : gate ≢ 1

-- behind these bytes stands an open gate with the body, and then a closed gate
pub record IsWith (front body bytes : List ℕ) : Type 0 where
  pub rest : List ℕ
  pub is : bytes ≡ front ++ (1 ∷ (body ++ (0 ∷ rest)))

-- the journal is with the record or without, and no longer than it was or than the record needs
pub record IsEither (front body old bytes : List ℕ) : Type 0 where
  pub journal : IsWithout front bytes ⊎ IsWith front body bytes
  pub no_longer : length bytes ≤ max (length old) (length front + length body + 2)

-- the file's journal is with the record or without, and all else is as it was
pub record IsBeforeOrAfter (disks : FileId → Disk) (so_far : Option (List ℕ)) (which : FileId) (front body : List ℕ) (c : Image) : Type 0 where
  pub file : IsEither front body (disks which).bytes (c.files which)
  pub others : (f : FileId) → f ≢ which → IsImage (disks f) (c.files f)
  pub emitted : Keeps so_far (Some c.emitted)

-- the file is settled, and its first gate that is not open stands behind the first `end` bytes
pub record IsReady (d : Disk) (end : ℕ) : Type 0 where
  pub settled : IsSettled d
  pub within : end < length d.bytes
  pub shut : slice_index d.bytes end ≢ 1
