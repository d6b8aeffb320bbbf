-- A database made: both halves, and then `select`. And a half rewritten and then selected.
use Rattle.std.proofs.Common.{◌≡◌, ◌≢◌, ℕ, List, [], ◌∷◌, Option, inl, inr, ⊎_elim, refl, sym, ap, subst, ◌∙◌}
use Rattle.hera_volume.specs.Disk.{Disk, IsSettled, after_write}
use Rattle.hera_volume.specs.Time.{Image, IsImageIn, IsImageBut, LeavesOnly}
use Rattle.hera_volume.specs.declared.file_id.FileId.{FileId}
use Rattle.hera_volume.specs.declared.file_id.FileId.TheVariants.{Select, Left, Right}
use Rattle.hera_volume.proofs.Moments.{leaves-on, leaves-weaker}
use Rattle.rel_format.specs.Versions.{IsHalfOf}
use Rattle.hera_store.specs.Databases.{Database, Names}
use Rattle.hera_store.specs.Standing.{other_half}
use Rattle.hera_store.specs.Moments.{IsStill, IsEither, IsNoneOr}
use Rattle.hera_store.proofs.Selections.{still_none, none_or_made, still_there, one_of_both, not_select}

-- a file that stays as it was
pub settled_still : (before now : FileId → Disk) (f : FileId) → now f ≡ before f → IsSettled (before f) → IsSettled (now f)
settled_still before now f same settled = subst IsSettled (sym same) settled

pub bytes_still : (before now : FileId → Disk) (f : FileId) (bytes : List ℕ) → now f ≡ before f → (before f).bytes ≡ bytes → (now f).bytes ≡ bytes
bytes_still before now f bytes same is = ap (λ (d : Disk). d.bytes) same ∙ is

-- the half that is written is neither `select` nor the half that is named
pub select_apart : (which : FileId) (bytes : List ℕ) → Names bytes (other_half which) → Select ≢ which
select_apart Select bytes named = absurd (not_select Select bytes named refl)
select_apart Left bytes named = λ e. cc
select_apart Right bytes named = λ e. cc

pub other_apart : (which : FileId) (bytes : List ℕ) → Names bytes (other_half which) → other_half which ≢ which
other_apart Select bytes named = absurd (not_select Select bytes named refl)
other_apart Left bytes named = λ e. cc
other_apart Right bytes named = λ e. cc

module _ {D : Type 0} (disk : D → FileId → Disk) (emitted : D → Option (List ℕ)) (moment : D → ℕ) (left_since : D → ℕ → Image → Type 0) (db : Database) (a b : D) where
  -- ---- a database is made

  pub left_written : IsSettled (disk a Select) → (disk a Select).bytes ≡ [] → LeavesOnly moment left_since a b (IsImageBut (disk a) (emitted a) Left) → LeavesOnly moment left_since a b (IsNoneOr db (emitted a))
  left_written settled vacant run = leaves-weaker moment left_since run (λ i image. still_none (disk a) (emitted a) (emitted a) db refl settled Left i vacant (λ e. cc) image)

  pub right_written : (c : D) → LeavesOnly moment left_since a b (IsNoneOr db (emitted a)) → emitted b ≡ emitted a → IsSettled (disk b Select) → (disk b Select).bytes ≡ [] → LeavesOnly moment left_since b c (IsImageBut (disk b) (emitted b) Right) → LeavesOnly moment left_since a c (IsNoneOr db (emitted a))
  right_written c first same settled vacant run = leaves-on moment left_since first run (λ i image. still_none (disk b) (emitted a) (emitted b) db same settled Right i vacant (λ e. cc) image)

  pub made_selected : (c : D) (byte : ℕ) (bytes : List ℕ) → IsHalfOf bytes db.catalogue db.state → LeavesOnly moment left_since a b (IsNoneOr db (emitted a)) → emitted b ≡ emitted a → IsSettled (disk b Select) → (disk b Select).bytes ≡ []
      → IsSettled (disk b Left) → IsSettled (disk b Right) → (disk b Left).bytes ≡ bytes → (disk b Right).bytes ≡ bytes
      → LeavesOnly moment left_since b c (IsImageIn (disk b) (emitted b) Select (after_write (disk b Select) 0 (byte ∷ []))) → LeavesOnly moment left_since a c (IsNoneOr db (emitted a))
  made_selected c byte bytes half first same settled vacant settled_left settled_right left right run =
      leaves-on moment left_since first run (λ i image. none_or_made (disk b) (emitted a) (emitted b) db same settled byte bytes i vacant settled_left settled_right left right half image)

-- ---- the other half is written and selected

module _ {D : Type 0} (disk : D → FileId → Disk) (emitted : D → Option (List ℕ)) (moment : D → ℕ) (left_since : D → ℕ → Image → Type 0) (before after : Database) (a b : D) where
  -- while the half is written, the former database is found
  former : (c : Image) → IsStill before (emitted a) c → IsEither before after (emitted a) c
  former c still = record { found = inl still.found; emitted = still.emitted }

  pub other_written : (which : FileId) → ((f : FileId) → IsSettled (disk a f)) → Names (disk a Select).bytes (other_half which) → IsHalfOf (disk a (other_half which)).bytes before.catalogue before.state
      → LeavesOnly moment left_since a b (IsImageBut (disk a) (emitted a) which) → LeavesOnly moment left_since a b (IsEither before after (emitted a))
  other_written Select settled named half run = absurd (not_select Select (disk a Select).bytes named refl)
  other_written Left settled named half run = leaves-weaker moment left_since run (λ i image. former i (still_there (disk a) (emitted a) (emitted a) before refl (settled Select) Right Left (disk a Right).bytes i named (λ e. cc) (λ e. cc) (settled Right) refl half image))
  other_written Right settled named half run = leaves-weaker moment left_since run (λ i image. former i (still_there (disk a) (emitted a) (emitted a) before refl (settled Select) Left Right (disk a Left).bytes i named (λ e. cc) (λ e. cc) (settled Left) refl half image))

  swapped : (c : Image) → IsEither after before (emitted a) c → IsEither before after (emitted a) c
  swapped c either = record { found = ⊎_elim (λ h. inr h) (λ h. inl h) either.found; emitted = either.emitted }

  pub other_selected : (c : D) (which : FileId) (byte : ℕ) → LeavesOnly moment left_since a b (IsEither before after (emitted a)) → emitted b ≡ emitted a → ((f : FileId) → IsSettled (disk b f)) → Names (disk b Select).bytes (other_half which)
      → IsHalfOf (disk b (other_half which)).bytes before.catalogue before.state → IsHalfOf (disk b which).bytes after.catalogue after.state
      → LeavesOnly moment left_since b c (IsImageIn (disk b) (emitted b) Select (after_write (disk b Select) 0 (byte ∷ []))) → LeavesOnly moment left_since a c (IsEither before after (emitted a))
  other_selected c Select byte first same settled named left right run = absurd (not_select Select (disk b Select).bytes named refl)
  other_selected c Left byte first same settled named old new run =
      leaves-on moment left_since first run (λ i image. swapped i (one_of_both (disk b) (emitted a) (emitted b) same (settled Select) after before byte named.0 (disk b Left).bytes (disk b Right).bytes i named.1 (settled Left) (settled Right) refl refl new old image))
  other_selected c Right byte first same settled named old new run =
      leaves-on moment left_since first run (λ i image. one_of_both (disk b) (emitted a) (emitted b) same (settled Select) before after byte named.0 (disk b Left).bytes (disk b Right).bytes i named.1 (settled Left) (settled Right) refl refl old new image)
