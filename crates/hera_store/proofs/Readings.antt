-- What a read gives at the end of a call.
use Rattle.std.proofs.Common.{◌≡◌, ◌⊎◌, ◌≤◌, ◌∙◌, ℕ, List, [], Option, inl, sym, subst}
use Rattle.rel_format.specs.Versions.{IsHalfOf}
use Rattle.hera_volume.specs.Disk.{Disk, IsImage, IsSettled}
use Rattle.hera_volume.specs.Time.{Image, IsImageOf, LeavesOnly}
use Rattle.hera_volume.specs.declared.file_id.FileId.{FileId}
use Rattle.hera_volume.specs.declared.file_id.FileId.TheVariants.{Select}
use Rattle.hera_volume.proofs.Images.{image-settled}
use Rattle.hera_volume.proofs.Moments.{read_image, is_as_read, read-among}
use Rattle.hera_store.specs.Databases.{Database, Holds, half_named}
use Rattle.hera_store.specs.Standing.{Standing, StandsFor, database_of}
use Rattle.hera_store.specs.Moments.{IsStill, IsEither, IsNoneOr}
use Rattle.hera_store.proofs.Commits.{stands_holds}

-- settled files hold after a crash what they hold as they read
pub holds_still : (disks : FileId → Disk) (db : Database) (files : FileId → List ℕ) → ((f : FileId) → IsSettled (disks f)) → Holds (λ f. (disks f).bytes) db → ((f : FileId) → IsImage (disks f) (files f)) → Holds files db
holds_still disks db files settled holds image =
    let same : (f : FileId) → files f ≡ (disks f).bytes = λ f. image-settled (disks f) (files f) (settled f) (image f) in
    record {
      byte = holds.byte;
      selects = same Select ∙ holds.selects;
      half = subst (λ (bytes : List ℕ). IsHalfOf bytes db.catalogue db.state) (sym (same (half_named holds.byte))) holds.half;
    }

module _ {D : Type 0} (told : Type 0) (disk : D → FileId → Disk) (emitted : D → Option (List ℕ)) (moment : D → ℕ) (left_since : D → ℕ → Image → Type 0)
    (as_read : (a : D) (f : FileId) → told → IsImage (disk a f) (disk a f).bytes)
    (only_now : (a : D) (c : Image) → told → left_since a (moment a) c → IsImageOf (disk a) (emitted a) c)
    (counts_now : (a : D) (t : ℕ) (c : Image) → told → t ≤ moment a → IsImageOf (disk a) (emitted a) c → left_since a t c) (t : told) (a b : D) where
  -- at the end of a commit, or of a widening
  pub read_either : (store : Standing) (after : Database) → StandsFor (disk a) store → LeavesOnly moment left_since a b (IsEither (database_of store) after (emitted a))
      → Holds (λ f. (disk b f).bytes) (database_of store) ⊎ Holds (λ f. (disk b f).bytes) after
  read_either store after stands run =
      (read-among told disk emitted moment left_since as_read only_now counts_now t run
      (λ c image. record { found = inl (holds_still (disk a) (database_of store) c.files stands.settled (stands_holds (disk a) store stands) image.files); emitted = image.emitted })
      (read_image (disk b) (emitted b)) (is_as_read (disk b) (emitted b))).found

  -- at the end of a checkpoint
  pub read_still : (store : Standing) → StandsFor (disk a) store → LeavesOnly moment left_since a b (IsStill (database_of store) (emitted a)) → Holds (λ f. (disk b f).bytes) (database_of store)
  read_still store stands run =
      (read-among told disk emitted moment left_since as_read only_now counts_now t run
      (λ c image. record { found = holds_still (disk a) (database_of store) c.files stands.settled (stands_holds (disk a) store stands) image.files; emitted = image.emitted })
      (read_image (disk b) (emitted b)) (is_as_read (disk b) (emitted b))).found

  -- at the end of an init, from the moment on at which `select` was synced
  pub read_none_or : (db : Database) → IsSettled (disk a Select) → (disk a Select).bytes ≡ [] → LeavesOnly moment left_since a b (IsNoneOr db (emitted a)) → ((disk b Select).bytes ≡ []) ⊎ Holds (λ f. (disk b f).bytes) db
  read_none_or db settled vacant run =
      (read-among told disk emitted moment left_since as_read only_now counts_now t run
      (λ c image. record { found = inl (image-settled (disk a Select) (c.files Select) settled (image.files Select) ∙ vacant); emitted = image.emitted })
      (read_image (disk b) (emitted b)) (is_as_read (disk b) (emitted b))).found
