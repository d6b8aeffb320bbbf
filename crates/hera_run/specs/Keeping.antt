-- What keeps the commits of a run.
use Rattle.std.specs.Prelude.{◌≡◌, ℕ, true, false, List}
use Rattle.std.specs.List.{list_all}
use Rattle.std.proofs.Common.{sym, subst}
use Rattle.hera_meaning.specs.Commits.{after_all as after_commits}
use Rattle.hera_meaning.specs.Deltas.{Delta}
use Rattle.hera_meaning.specs.Fits.{is_delta_of}
use Rattle.when_overlay.specs.Changed.{after_all}
use Rattle.rel_pages.specs.Stored.{Stored}
use Rattle.hera_volume.specs.Disk.{Disk, IsImage}
use Rattle.hera_volume.specs.declared.file_id.FileId.{FileId}
use Rattle.hera_volume.proofs.Images.{image-settled}
use Rattle.hera_store.specs.Databases.{Database, Holds}
use Rattle.hera_store.specs.Standing.{Standing, StandsFor, database_of}
use Rattle.hera_store.proofs.Commits.{stands_holds}
use Rattle.hera_outcome.specs.Cut.{HoldsWith}

-- few deltas do what the commits of a store do, and are of its catalogue
pub record IsLevelled (levels : List Delta) (store : Standing) : Type 0 where
  pub same : after_all store.base.state levels ≡ after_commits store.base.state store.commits
  pub of : list_all (is_delta_of store.base.catalogue) levels ≡ true

-- a store that takes a commit, with such deltas
pub record IsReadyWith (levels : List Delta) (store : Standing) : Type 0 where
  pub unclosed : store.closed ≡ false
  pub levelled : IsLevelled levels store

-- the catalogue of a base, with its state after these deltas
abbrev pub database_with : Stored → List Delta → Database
database_with base levels = record { catalogue = base.catalogue; state = after_all base.state levels }

-- a stop leaves files that it might have left of these
abbrev pub AreLeft : (FileId → Disk) → (FileId → List ℕ) → Type 0
AreLeft disks files = (f : FileId) → IsImage (disks f) (files f)

-- the only image of settled files is what a read gives
pub finds_settled : (disks : FileId → Disk) (s : Standing) (files : FileId → List ℕ) → StandsFor disks s → AreLeft disks files → HoldsWith (database_of s) files (database_of s).state
finds_settled disks s files stands left =
    let is : (λ (f : FileId). (disks f).bytes) ≡ files = λ i f. sym (image-settled (disks f) (files f) (stands.settled f) (left f)) i in
    subst (λ (x : FileId → List ℕ). Holds x (database_of s)) is (stands_holds disks s stands)
