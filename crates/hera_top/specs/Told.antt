-- A call whose sources and files are told.
use Rattle.std.specs.Prelude.{◌≡◌, ℕ, List, Some, map}
use Rattle.std.specs.List.{AllZip}
use Rattle.hera_volume.specs.declared.file_id.FileId.{FileId}
use Rattle.hera_outcome.specs.Passages.{Start}
use Rattle.hera_top.specs.Sources.{Seen}

-- sources that have these texts left, and have never failed
abbrev pub full_sources : List (List ℕ) → List Seen
full_sources texts = map (λ (text : List ℕ). record { left = Some text; faults = 0 }) texts

-- sources have these texts left, one each
abbrev pub HaveLeft : (texts : List (List ℕ)) (before : List Seen) → Type 0
HaveLeft texts before = AllZip (λ (b : Seen) (text : List ℕ). b.left ≡ Some text) before texts

-- as the call begins the sources have these texts left, and the files read so
pub record BeginsWith (texts : List (List ℕ)) (files : FileId → List ℕ) (before : List Seen) (v : Start) : Type 0 where
  pub texts_told : HaveLeft texts before
  pub files_told : v.told
  pub reads : (f : FileId) → (v.disks f).bytes ≡ files f
