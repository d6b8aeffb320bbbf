-- What is seen of an outside in memory.
use Rattle.std.specs.Prelude.{◌≡◌, ◌≢◌, ◌⊎◌, ℕ, ◌+◌, ◌-◌, ◌^◌, ◌≤◌, min, List, length, drop, Option, Some}
use Rattle.hera_causes.specs.Causes.{Rose}
use Rattle.hera_volume.specs.Plan.{MayGo}
use Rattle.hera_volume.specs.Disk.{Disk, IsImage}
use Rattle.hera_volume.specs.Time.{Image, IsImageOf, EmitsOnly}
use Rattle.hera_volume.specs.Files.{disk_in}
use Rattle.hera_volume.specs.Syncs.{sync_in}
use Rattle.hera_volume.specs.Past.{LeftSince, only_now_in}
use Rattle.std.proofs.Common.{inl, refl, arith}
use Rattle.hera_volume.specs.Emits.{EmitsOnly-none, EmitsOnly-on}
use Rattle.hera_causes.specs.declared.piece.Piece.{Piece}
use Rattle.hera_volume.specs.declared.file_id.FileId.{FileId}
use Rattle.hera_volume.specs.declared.mem_outside.MemOutside.{MemOutside}

abbrev pub mem_disk : MemOutside → FileId → Disk
mem_disk m = disk_in m.files

abbrev pub mem_bytes : MemOutside → List ℕ
mem_bytes m = m.bytes.items

abbrev pub mem_emitted : MemOutside → Option (List ℕ)
mem_emitted m = Some m.bytes.items

abbrev pub mem_moment : MemOutside → ℕ
mem_moment m = length m.past.items

abbrev pub mem_left_since : MemOutside → ℕ → Image → Type 0
mem_left_since m = LeftSince m.past.items m.files m.bytes.items

abbrev pub mem_synced_at : MemOutside → FileId → ℕ
mem_synced_at m = sync_in m.syncs

abbrev pub mem_device_faults : MemOutside → ℕ
mem_device_faults m = m.device_faults

abbrev pub mem_output_faults : MemOutside → ℕ
mem_output_faults m = m.output_faults

-- the files as a read gives them, and the emitted bytes
abbrev pub image_now : MemOutside → Image
image_now m = record { files = λ f. (mem_disk m f).bytes; emitted = mem_bytes m }

-- the number of the next call on a file
abbrev pub mem_calls : MemOutside → ℕ
mem_calls m = m.plan.calls

abbrev pub mem_fails : MemOutside → List ℕ
mem_fails m = m.plan.fails.items

abbrev pub mem_stop : MemOutside → Option ℕ
mem_stop m = m.plan.stop

abbrev pub mem_pieces : MemOutside → List Piece
mem_pieces m = m.pieces

-- how often it found no memory for its own growth
abbrev pub mem_starved : MemOutside → ℕ
mem_starved m = m.starved

-- one call on a file was counted, and nothing else of the plan was changed
pub record IsCounted (a b : MemOutside) : Type 0 where
  pub calls : mem_calls b ≡ min (mem_calls a + 1) (2 ^ 64 - 1)
  pub fails : mem_fails b ≡ mem_fails a
  pub stop : mem_stop b ≡ mem_stop a
  pub pieces : mem_pieces b ≡ mem_pieces a

-- a call on a file went well: neither the list nor the stop let it fail
pub record mem_went_by (a b : MemOutside) : Type 0 where
  pub counted : IsCounted a b
  pub may_go : MayGo (mem_calls a) (mem_fails a) (mem_stop a)
  pub starved : mem_starved b ≡ mem_starved a

-- A call failed that was to change the file to this disk. One that neither the list nor the stop lets fail found no
-- memory. The one at which all stops takes effect, where there is memory, and every other leaves the file as it was.
pub record mem_failed_by (a b : MemOutside) (which : FileId) (d : Disk) : Type 0 where
  pub counted : IsCounted a b
  pub starved : mem_starved a ≤ mem_starved b
  pub cause : MayGo (mem_calls a) (mem_fails a) (mem_stop a) → Rose (mem_starved a) (mem_starved b)
  pub kept : mem_stop a ≢ Some (mem_calls a) → mem_disk b which ≡ mem_disk a which
  pub stopped : mem_stop a ≡ Some (mem_calls a) → (mem_disk b which ≡ d) ⊎ ((mem_disk b which ≡ mem_disk a which) × Rose (mem_starved a) (mem_starved b))

pub mem_only_now : (a : MemOutside) (c : Image) → Unit {0} → mem_left_since a (mem_moment a) c → IsImageOf (mem_disk a) (mem_emitted a) c
mem_only_now a c told = only_now_in a.past.items a.files a.bytes.items c

pub mem_counts_now : (a : MemOutside) (t : ℕ) (c : Image) → Unit {0} → t ≤ mem_moment a → IsImageOf (mem_disk a) (mem_emitted a) c → mem_left_since a t c
mem_counts_now a t c told le now = inl now

abbrev pub mem_passed : MemOutside → MemOutside → List ℕ → ℕ → Type 0
mem_passed a b piece n = EmitsOnly (Unit {0}) mem_disk mem_emitted mem_moment mem_left_since mem_synced_at mem_device_faults mem_output_faults a b piece n

pub mem_passed-none : (a : MemOutside) (piece : List ℕ) → mem_passed a a piece 0
mem_passed-none = EmitsOnly-none (Unit {0}) mem_disk mem_emitted mem_moment mem_left_since mem_synced_at mem_device_faults mem_output_faults mem_only_now mem_counts_now

pub mem_passed-on : (a b c : MemOutside) (piece : List ℕ) (n m : ℕ) → mem_passed a b piece n → mem_passed b c (drop n piece) m → mem_passed a c piece (n + m)
mem_passed-on = EmitsOnly-on (Unit {0}) mem_disk mem_emitted mem_moment mem_left_since mem_synced_at mem_device_faults mem_output_faults

pub mem_as_read : (a : MemOutside) (f : FileId) → Unit {0} → IsImage (mem_disk a f) (mem_disk a f).bytes
mem_as_read a f told = record { no_shorter = omega arith; no_longer = omega arith; kept = λ k lt clean. refl }
