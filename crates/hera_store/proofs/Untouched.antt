-- Calls that touch nothing.
use Rattle.std.proofs.Common.{◌≡◌, ◌≢◌, List, Option, Some, ℕ, refl, sym, ap, subst, ◌∙◌}
use Rattle.std.specs.Prelude.{Result, OnOk}
use Rattle.std.proofs.lemmas.Result.{on_ok_weaker}
use Rattle.std.specs.Io.KnownBytes.{Keeps}
use Rattle.hera_volume.specs.Disk.{Disk, IsImage, IsSound, IsSettled, Within, after_sync}
use Rattle.hera_volume.specs.Time.{Image, IsImageOf, LeavesOnly}
use Rattle.hera_volume.specs.declared.file_id.FileId.{FileId}
use Rattle.hera_volume.specs.declared.file_id.FileId.TheVariants.{Select, Left, Right}
use Rattle.hera_volume.proofs.Images.{synced-within}
use Rattle.hera_volume.proofs.Moments.{leaves-none, leaves-on}
use Rattle.hera_store.specs.Moments.{IsUntouched}

-- one file, and then the others
pub each : (P : FileId → Type 0) (file : FileId) → P file → ((f : FileId) → f ≢ file → P f) → (f : FileId) → P f
each P Select p others Select = p
each P Select p others Left = others Left (λ e. cc)
each P Select p others Right = others Right (λ e. cc)
each P Left p others Select = others Select (λ e. cc)
each P Left p others Left = p
each P Left p others Right = others Right (λ e. cc)
each P Right p others Select = others Select (λ e. cc)
each P Right p others Left = others Left (λ e. cc)
each P Right p others Right = p

-- three files settled one after another
pub settled-three : {T E : Type 0} (a b c : FileId → Disk) (last : Result T E) → IsSettled (a Select) → IsSettled (b Left) → OnOk last (IsSettled (c Right)) → ((f : FileId) → f ≢ Left → b f ≡ a f) → ((f : FileId) → f ≢ Right → c f ≡ b f)
    → OnOk last ((f : FileId) → IsSettled (c f))
settled-three a b c last select left right second third = on_ok_weaker last here right
  where
    here : IsSettled (c Right) → (f : FileId) → IsSettled (c f)
    here settled Select = subst IsSettled (sym (third Select (λ e. cc) ∙ second Select (λ e. cc))) select
    here settled Left = subst IsSettled (sym (third Left (λ e. cc))) left
    here settled Right = settled

module _ {D : Type 0} (disk : D → FileId → Disk) (emitted : D → Option (List ℕ)) (moment : D → ℕ) (left_since : D → ℕ → Image → Type 0) where
  -- no call at all
  pub untouched-none : (a : D) → IsUntouched disk emitted moment left_since a a
  untouched-none a = record {
    reads = λ f. refl;
    within = λ f c image. image;
    same = refl;
    any_moment = leaves-none moment left_since a (IsImageOf (disk a) (emitted a));
  }

  -- an image after the first of two calls
  pub earlier : (a b : D) → IsUntouched disk emitted moment left_since a b → (c : Image) → IsImageOf (disk b) (emitted b) c → IsImageOf (disk a) (emitted a) c
  earlier a b first c image = record {
    files = λ f. first.within f (c.files f) (image.files f);
    emitted = subst (λ (e : Option (List ℕ)). Keeps e (Some c.emitted)) first.same image.emitted;
  }

  -- one call behind another
  pub untouched-on : (a b c : D) → IsUntouched disk emitted moment left_since a b → IsUntouched disk emitted moment left_since b c → IsUntouched disk emitted moment left_since a c
  untouched-on a b c first second = record {
    reads = λ f. second.reads f ∙ first.reads f;
    within = λ f i image. first.within f i (second.within f i image);
    same = second.same ∙ first.same;
    any_moment = leaves-on moment left_since first.any_moment second.any_moment (earlier a b first);
  }

  -- a call that changes no file
  pub untouched-same : (a b : D) → ((f : FileId) → disk b f ≡ disk a f) → emitted b ≡ emitted a → LeavesOnly moment left_since a b (IsImageOf (disk a) (emitted a)) → IsUntouched disk emitted moment left_since a b
  untouched-same a b files same any_moment = record {
    reads = λ f. ap (λ (d : Disk). d.bytes) (files f);
    within = λ f c image. subst (λ (d : Disk). IsImage d c) (files f) image;
    same = same;
    any_moment = any_moment;
  }

  -- a sync that went well
  pub untouched-sync : (a b : D) (file : FileId) → IsSound (disk a file) → disk b file ≡ after_sync (disk a file) → ((f : FileId) → f ≢ file → disk b f ≡ disk a f) → emitted b ≡ emitted a
      → LeavesOnly moment left_since a b (IsImageOf (disk a) (emitted a)) → IsUntouched disk emitted moment left_since a b
  untouched-sync a b file sound synced others same any_moment = record {
    reads = each (λ f. (disk b f).bytes ≡ (disk a f).bytes) file (ap (λ (d : Disk). d.bytes) synced) (λ f ne. ap (λ (d : Disk). d.bytes) (others f ne));
    within = each (λ f. Within (disk b f) (disk a f)) file (subst (λ (d : Disk). Within d (disk a file)) (sym synced) (synced-within (disk a file) sound)) (λ f ne c image. subst (λ (d : Disk). IsImage d c) (others f ne) image);
    same = same;
    any_moment = any_moment;
  }

  -- a sync that failed
  pub untouched-failed : (a b : D) (file : FileId) → disk b file ≡ disk a file → ((f : FileId) → f ≢ file → disk b f ≡ disk a f) → emitted b ≡ emitted a
      → LeavesOnly moment left_since a b (IsImageOf (disk a) (emitted a)) → IsUntouched disk emitted moment left_since a b
  untouched-failed a b file here others same any_moment = untouched-same a b (each (λ f. disk b f ≡ disk a f) file here others) same any_moment
