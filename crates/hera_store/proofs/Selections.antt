-- What a crash leaves while a half or `select` is written.
use Rattle.std.proofs.Common.{◌≡◌, ◌≢◌, ◌≤◌, ◌⊎◌, inl, inr, ⊎_elim, ◌==◌, ℕ, Bool, true, false, cond, List, [], ◌∷◌, Option, Some, length, refl, sym, ap, subst, ◌∙◌, arith}
use Rattle.std.specs.Io.KnownBytes.{Keeps}
use Rattle.hera_volume.specs.Disk.{Disk, IsImage, IsSettled, after_write}
use Rattle.hera_volume.specs.Time.{Image, IsImageIn, IsImageBut}
use Rattle.hera_volume.specs.declared.file_id.FileId.{FileId}
use Rattle.hera_volume.specs.declared.file_id.FileId.TheVariants.{Select, Left, Right}
use Rattle.hera_volume.proofs.Images.{image-settled}
use Rattle.rel_format.specs.Versions.{IsHalfOf}
use Rattle.hera_store.specs.Databases.{Database, half_named, Names, Holds}
use Rattle.hera_store.specs.Moments.{IsStill, IsEither, IsNoneOr}

-- ---- the halves that are named

pub not_select : (half : FileId) (bytes : List ℕ) → Names bytes half → Select ≢ half
not_select half bytes named is = by (named.0 == 1) (named.2 ∙ sym is)
  where
    by : (v : Bool) → cond v Right Left ≡ Select → ⊥
    by true e = cc
    by false e = cc

named_by : (P : FileId → Type 0) (byte : ℕ) → P Left → P Right → P (half_named byte)
named_by P byte left right = by (byte == 1)
  where
    by : (v : Bool) → P (cond v Right Left)
    by true = right
    by false = left

short_list : (c : List ℕ) → length c ≤ 1 → (c ≡ []) ⊎ ((byte : ℕ) × (c ≡ byte ∷ []))
short_list [] le = inl refl
short_list (byte ∷ []) le = inr (byte, refl)
short_list (byte ∷ more ∷ rest) le = absurd (omega (arith, le))

-- a file whose only image is what a read gives
pub left_as : (disks : FileId → Disk) (c : Image) (f : FileId) (bytes : List ℕ) → IsSettled (disks f) → (disks f).bytes ≡ bytes → IsImage (disks f) (c.files f) → c.files f ≡ bytes
left_as disks c f bytes settled is image = image-settled (disks f) (c.files f) settled image ∙ is

module _ (disks : FileId → Disk) (so_far since : Option (List ℕ)) (db : Database) (since_is : since ≡ so_far) (settled : IsSettled (disks Select)) where
  told_emitted : (c : Image) → Keeps since (Some c.emitted) → Keeps so_far (Some c.emitted)
  told_emitted c kept = subst (λ (e : Option (List ℕ)). Keeps e (Some c.emitted)) since_is kept

  -- ---- a database is made

  -- while a half is written and `select` is empty
  pub still_none : (which : FileId) (c : Image) → (disks Select).bytes ≡ [] → Select ≢ which → IsImageBut disks since which c → IsNoneOr db so_far c
  still_none which c vacant ne image = record {
    found = inl (left_as disks c Select [] settled vacant (image.others Select ne));
    emitted = told_emitted c image.emitted;
  }

  -- while the byte of `select` is written, both halves being those of the database
  pub none_or_made : (byte : ℕ) (bytes : List ℕ) (c : Image) → (disks Select).bytes ≡ [] → IsSettled (disks Left) → IsSettled (disks Right) → (disks Left).bytes ≡ bytes → (disks Right).bytes ≡ bytes
      → IsHalfOf bytes db.catalogue db.state → IsImageIn disks since Select (after_write (disks Select) 0 (byte ∷ [])) c → IsNoneOr db so_far c
  none_or_made byte bytes c vacant settled_left settled_right left right half image = record {
    found = by (short_list (c.files Select) (omega (arith, image.file.no_longer, settled.ceiling, ap length vacant)));
    emitted = told_emitted c image.emitted;
  }
    where
      left_is : c.files Left ≡ bytes
      left_is = left_as disks c Left bytes settled_left left (image.others Left (λ e. cc))

      right_is : c.files Right ≡ bytes
      right_is = left_as disks c Right bytes settled_right right (image.others Right (λ e. cc))

      halves : (b : ℕ) → IsHalfOf (c.files (half_named b)) db.catalogue db.state
      halves b = named_by (λ f. IsHalfOf (c.files f) db.catalogue db.state) b (subst (λ (l : List ℕ). IsHalfOf l db.catalogue db.state) (sym left_is) half) (subst (λ (l : List ℕ). IsHalfOf l db.catalogue db.state) (sym right_is) half)

      by : (c.files Select ≡ []) ⊎ ((b : ℕ) × (c.files Select ≡ b ∷ [])) → (c.files Select ≡ []) ⊎ Holds c.files db
      by (inl e) = inl e
      by (inr x) = inr (record { byte = x.0; selects = x.1; half = halves x.0 })

  -- ---- a database is moved to the other half

  -- while the half that is not selected is written
  pub still_there : (half which : FileId) (bytes : List ℕ) (c : Image) → Names (disks Select).bytes half → half ≢ which → Select ≢ which → IsSettled (disks half) → (disks half).bytes ≡ bytes
      → IsHalfOf bytes db.catalogue db.state → IsImageBut disks since which c → IsStill db so_far c
  still_there half which bytes c named other ne settled_half is stored image =
      let here : c.files half ≡ bytes = left_as disks c half bytes settled_half is (image.others half other) in
      record {
        found = record {
          byte = named.0;
          selects = left_as disks c Select (named.0 ∷ []) settled named.1 (image.others Select ne);
          half = subst (λ (f : FileId). IsHalfOf (c.files f) db.catalogue db.state) (sym named.2) (subst (λ (l : List ℕ). IsHalfOf l db.catalogue db.state) (sym here) stored);
        };
        emitted = told_emitted c image.emitted;
      }

-- two databases that are one
pub either_same : (db : Database) (so_far : Option (List ℕ)) (c : Image) → IsEither db db so_far c → IsStill db so_far c
either_same db so_far c either = record { found = ⊎_elim (λ h. h) (λ h. h) either.found; emitted = either.emitted }

module _ (disks : FileId → Disk) (so_far since : Option (List ℕ)) (since_is : since ≡ so_far) (settled : IsSettled (disks Select)) (in_left in_right : Database) where
  -- while the byte of `select` is written, each half having a database
  pub one_of_both : (byte old : ℕ) (left right : List ℕ) (c : Image) → (disks Select).bytes ≡ old ∷ [] → IsSettled (disks Left) → IsSettled (disks Right) → (disks Left).bytes ≡ left → (disks Right).bytes ≡ right
      → IsHalfOf left in_left.catalogue in_left.state → IsHalfOf right in_right.catalogue in_right.state → IsImageIn disks since Select (after_write (disks Select) 0 (byte ∷ [])) c → IsEither in_left in_right so_far c
  one_of_both byte old left right c is settled_left settled_right left_is right_is half_left half_right image = record {
    found = by (short_list (c.files Select) (omega (arith, image.file.no_longer, settled.ceiling, size)));
    emitted = subst (λ (e : Option (List ℕ)). Keeps e (Some c.emitted)) since_is image.emitted;
  }
    where
      size : length (disks Select).bytes ≡ 1
      size = ap length is

      here : c.files Left ≡ left
      here = left_as disks c Left left settled_left left_is (image.others Left (λ e. cc))

      there : c.files Right ≡ right
      there = left_as disks c Right right settled_right right_is (image.others Right (λ e. cc))

      halves : (b : ℕ) → IsHalfOf (c.files (half_named b)) in_left.catalogue in_left.state ⊎ IsHalfOf (c.files (half_named b)) in_right.catalogue in_right.state
      halves b = named_by (λ f. IsHalfOf (c.files f) in_left.catalogue in_left.state ⊎ IsHalfOf (c.files f) in_right.catalogue in_right.state) b
          (inl (subst (λ (l : List ℕ). IsHalfOf l in_left.catalogue in_left.state) (sym here) half_left))
          (inr (subst (λ (l : List ℕ). IsHalfOf l in_right.catalogue in_right.state) (sym there) half_right))

      by : (c.files Select ≡ []) ⊎ ((b : ℕ) × (c.files Select ≡ b ∷ [])) → Holds c.files in_left ⊎ Holds c.files in_right
      by (inl e) = absurd (omega (arith, ap length e, size, image.file.no_shorter, settled.floor))
      by (inr x) = ⊎_elim (λ half. inl (record { byte = x.0; selects = x.1; half = half })) (λ half. inr (record { byte = x.0; selects = x.1; half = half })) (halves x.0)
