-- A file between two syncs, and what a crash may leave of it.
use Rattle.std.specs.Prelude.{◌≡◌, ◌⊎◌, ℕ, ◌+◌, ◌<◌, ◌≤◌, min, max, List, [], ◌∷◌, ◌++◌, length, take, drop, slice_index}

-- a file: its bytes as a read gives them, the least and the greatest length that it had since the last sync,
-- and the ranges written since, each as its start and its length
pub record Disk : Type 0 where
  pub bytes : List ℕ
  pub floor : ℕ
  pub ceiling : ℕ
  pub written : List (ℕ × ℕ)

-- the place lies in the range
abbrev pub IsIn : ℕ → ℕ × ℕ → Type 0
IsIn k range = (range.0 ≤ k) × (k < range.0 + range.1)

-- the place lies in none of the ranges
abbrev pub IsOutside : ℕ → List (ℕ × ℕ) → Type 0
IsOutside k [] = Unit {0}
IsOutside k (range ∷ ranges) = (¬ IsIn k range) × IsOutside k ranges

-- a crash may leave these bytes
pub record IsImage (d : Disk) (c : List ℕ) : Type 0 where
  pub no_shorter : d.floor ≤ length c
  pub no_longer : length c ≤ d.ceiling
  pub kept : (k : ℕ) → k < d.floor → IsOutside k d.written → slice_index c k ≡ slice_index d.bytes k

-- a crash leaves what a read gives
pub record IsSettled (d : Disk) : Type 0 where
  pub floor : d.floor ≡ length d.bytes
  pub ceiling : d.ceiling ≡ length d.bytes
  pub written : d.written ≡ []

-- its length lies between
pub record IsSound (d : Disk) : Type 0 where
  pub floor : d.floor ≤ length d.bytes
  pub ceiling : length d.bytes ≤ d.ceiling

-- a disk whose bounds are set to its length where that lies outside of them
abbrev pub bounded : Disk → Disk
bounded d = record { bytes = d.bytes; floor = min d.floor (length d.bytes); ceiling = max d.ceiling (length d.bytes); written = d.written }

-- the bytes with a piece put over them at a place
abbrev pub splice : List ℕ → ℕ → List ℕ → List ℕ
splice bytes at piece = take at bytes ++ piece ++ drop (at + length piece) bytes

abbrev pub after_write : Disk → ℕ → List ℕ → Disk
after_write d at piece = record {
  bytes = splice d.bytes at piece;
  floor = d.floor;
  ceiling = max d.ceiling (at + length piece);
  written = (at, length piece) ∷ d.written;
}

abbrev pub after_cut : Disk → ℕ → Disk
after_cut d n = record { bytes = take n d.bytes; floor = min d.floor n; ceiling = d.ceiling; written = d.written }

abbrev pub after_sync : Disk → Disk
after_sync d = record { bytes = d.bytes; floor = length d.bytes; ceiling = length d.bytes; written = [] }

-- what a crash may leave of the first it may leave of the second
abbrev pub Within : Disk → Disk → Type 0
Within a b = (c : List ℕ) → IsImage a c → IsImage b c

-- in an image of a file this byte stands wherever a crash may leave any byte
abbrev pub IsFilled : Disk → ℕ → List ℕ → Type 0
IsFilled d byte c = (k : ℕ) → k < length c → (slice_index c k ≡ byte) ⊎ ((k < d.floor) × IsOutside k d.written)
