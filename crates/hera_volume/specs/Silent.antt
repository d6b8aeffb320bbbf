-- An outside that tells nothing: what is seen of it are its two counts.
use Rattle.std.specs.Prelude.{ℕ, ◌+◌, List, [], drop, Option, None}
use Rattle.hera_volume.specs.Disk.{Disk}
use Rattle.hera_volume.specs.Time.{Image, EmitsOnly}
use Rattle.hera_volume.specs.Emits.{EmitsOnly-none, EmitsOnly-on}
use Rattle.hera_volume.specs.declared.file_id.FileId.{FileId}

module _ {D : Type 0} where
  -- in place of its files, of what was emitted, of the moments, of what a crash leaves and of the syncs
  abbrev pub untold_disk : D → FileId → Disk
  untold_disk o f = record { bytes = []; floor = 0; ceiling = 0; written = [] }

  abbrev pub untold_bytes : D → Option (List ℕ)
  untold_bytes o = None

  abbrev pub untold_moment : D → ℕ
  untold_moment o = 0

  abbrev pub untold_left : D → ℕ → Image → Type 0
  untold_left o t c = ⊥

  abbrev pub untold_syncs : D → FileId → ℕ
  untold_syncs o f = 0

module _ {D : Type 0} (device_faults output_faults : D → ℕ) where
  -- from a to b only this piece was emitted
  abbrev pub EmitsSilent : D → D → List ℕ → ℕ → Type 0
  EmitsSilent a b piece n = EmitsOnly ⊥ untold_disk untold_bytes untold_moment untold_left untold_syncs device_faults output_faults a b piece n

  pub EmitsSilent-none : (a : D) (piece : List ℕ) → EmitsOnly ⊥ untold_disk untold_bytes untold_moment untold_left untold_syncs device_faults output_faults a a piece 0
  EmitsSilent-none = EmitsOnly-none ⊥ untold_disk untold_bytes untold_moment untold_left untold_syncs device_faults output_faults (λ a c told. absurd told) (λ a t c told. absurd told)

  pub EmitsSilent-on : (a b c : D) (piece : List ℕ) (n m : ℕ) → EmitsOnly ⊥ untold_disk untold_bytes untold_moment untold_left untold_syncs device_faults output_faults a b piece n
      → EmitsOnly ⊥ untold_disk untold_bytes untold_moment untold_left untold_syncs device_faults output_faults b c (drop n piece) m
      → EmitsOnly ⊥ untold_disk untold_bytes untold_moment untold_left untold_syncs device_faults output_faults a c piece (n + m)
  EmitsSilent-on = EmitsOnly-on ⊥ untold_disk untold_bytes untold_moment untold_left untold_syncs device_faults output_faults
