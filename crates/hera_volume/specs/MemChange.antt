-- What a call does to an outside in memory: it changes one file, or nothing that is seen.
use Rattle.std.specs.Prelude.{◌≡◌, ℕ, List, [], ◌∷◌, ◌++◌, length, take, Vec}
use Rattle.std.specs.declared.alloc.Global.{Global}
use Rattle.hera_volume.specs.Disk.{Disk}
use Rattle.hera_volume.specs.Files.{kept_in, with_disk}
use Rattle.hera_volume.specs.Syncs.{with_sync}
use Rattle.hera_volume.specs.declared.file_id.FileId.{FileId}
use Rattle.hera_volume.specs.declared.mem_files.Past.TheVariants.{Changed, Emitted}
use Rattle.hera_volume.specs.declared.mem_outside.MemOutside.{MemOutside}

abbrev pub IsChanged : MemOutside → MemOutside → FileId → Disk → Type 0
IsChanged a b which disk =
    (b.files ≡ with_disk a.files which disk)
    × (b.past.items ≡ a.past.items ++ Changed which (kept_in a.files which) ∷ [])
    × (b.bytes.items ≡ a.bytes.items)

abbrev pub IsKept : MemOutside → MemOutside → Type 0
IsKept a b =
    (b.files ≡ a.files)
    × (b.past.items ≡ a.past.items)
    × (b.bytes.items ≡ a.bytes.items)

-- n bytes of the piece were emitted
abbrev pub IsEmitted : MemOutside → MemOutside → List ℕ → ℕ → Type 0
IsEmitted a b piece n =
    (b.files ≡ a.files)
    × ((v : Vec ℕ Global) × (v.items ≡ piece) × (b.past.items ≡ a.past.items ++ Emitted (length a.bytes.items) v ∷ []))
    × (b.bytes.items ≡ a.bytes.items ++ take n piece)

-- each file was last synced when it was
abbrev pub IsAsSynced : MemOutside → MemOutside → Type 0
IsAsSynced a b = b.syncs ≡ a.syncs

-- a file was synced now
abbrev pub IsNoted : MemOutside → MemOutside → FileId → Type 0
IsNoted a b which = b.syncs ≡ with_sync a.syncs which (length b.past.items)

-- what stands beside the files is as it was: the plan, the pieces and the count of the output's faults
abbrev pub IsBeside : MemOutside → MemOutside → Type 0
IsBeside a b = (b.plan ≡ a.plan) × (b.pieces ≡ a.pieces) × (b.output_faults ≡ a.output_faults)
