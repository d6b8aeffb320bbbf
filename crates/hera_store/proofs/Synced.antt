-- What a crash leaves since the last sync of the files.
use Rattle.std.proofs.Common.{◌≡◌, ◌≢◌, ◌≤◌, ◌∙◌, ⊎_elim, ℕ, List, Option, Some, sym, subst, arith}
use Rattle.std.specs.Prelude.{Result, OnOk}
use Rattle.std.specs.Io.KnownBytes.{Keeps}
use Rattle.std.proofs.lemmas.Result.{on_ok_weaker}
use Rattle.hera_volume.specs.Disk.{Disk, IsImage}
use Rattle.hera_volume.specs.Time.{Image, IsImageOf, LeavesOnly}
use Rattle.hera_volume.specs.declared.file_id.FileId.{FileId}
use Rattle.hera_volume.specs.declared.file_id.FileId.TheVariants.{Select, Left, Right}
use Rattle.hera_store.specs.Moments.{LeavesOnceSynced, LeavesOnceNamed}

module _ {D : Type 0} (disk : D → FileId → Disk) (emitted : D → Option (List ℕ)) (moment : D → ℕ) (left_since : D → ℕ → Image → Type 0) (synced_at : D → FileId → ℕ) where
  abbrev Synced : D → D → Type 0
  Synced a b = LeavesOnceSynced disk emitted moment left_since synced_at a b

  abbrev Named : D → D → Type 0
  Named a b = LeavesOnceNamed disk emitted moment left_since synced_at a b

  abbrev OnlyNow : D → Type 0
  OnlyNow a = (c : Image) → left_since a (moment a) c → IsImageOf (disk a) (emitted a) c

  -- three files synced one after another
  pub synced-three : {T E : Type 0} (last : Result T E) (a b c d : D) → OnlyNow d → moment a ≤ moment b → moment b ≤ moment c → moment c ≤ moment d
      → synced_at b Select ≡ moment b → synced_at c Left ≡ moment c → ((f : FileId) → f ≢ Left → synced_at c f ≡ synced_at b f)
      → OnOk last (synced_at d Right ≡ moment d) → ((f : FileId) → f ≢ Right → synced_at d f ≡ synced_at c f) → OnOk last (Synced a d)
  synced-three last a b c d only_now first second third select left other_left right other_right = on_ok_weaker last here right
    where
      select_is : synced_at d Select ≡ moment b
      select_is = other_right Select (λ e. cc) ∙ other_left Select (λ e. cc) ∙ select

      left_is : synced_at d Left ≡ moment c
      left_is = other_right Left (λ e. cc) ∙ left

      here : synced_at d Right ≡ moment d → Synced a d
      here right_is = record {
        anew = anew;
        past = past;
        since = λ l i le was.
            let now : synced_at d l ≡ moment d = omega (arith, le Right, past l, right_is) in
            only_now i (subst (λ (t : ℕ). left_since d t i) now was);
      }
        where
          anew : (f : FileId) → moment a ≤ synced_at d f
          anew Select = omega (arith, first, select_is)
          anew Left = omega (arith, first, second, left_is)
          anew Right = omega (arith, first, second, third, right_is)

          past : (f : FileId) → synced_at d f ≤ moment d
          past Select = omega (arith, second, third, select_is)
          past Left = omega (arith, third, left_is)
          past Right = omega (arith, right_is)

  -- `select` synced
  pub named-now : (a b : D) → OnlyNow b → moment a ≤ moment b → synced_at b Select ≡ moment b → Named a b
  named-now a b only_now later is = record {
    anew = omega (arith, later, is);
    past = omega (arith, is);
    since = λ i was. only_now i (subst (λ (t : ℕ). left_since b t i) is was);
  }

  -- a call that changes no file
  module _ (a b c : D) (files : (f : FileId) → disk c f ≡ disk b f) (same : emitted c ≡ emitted b) (syncs : (f : FileId) → synced_at c f ≡ synced_at b f) (run : LeavesOnly moment left_since b c (IsImageOf (disk b) (emitted b))) where
    moved : (i : Image) → IsImageOf (disk b) (emitted b) i → IsImageOf (disk c) (emitted c) i
    moved i image = record {
      files = λ f. subst (λ (d : Disk). IsImage d (i.files f)) (sym (files f)) (image.files f);
      emitted = subst (λ (e : Option (List ℕ)). Keeps e (Some i.emitted)) (sym same) image.emitted;
    }

    -- what was left at the end since a sync, was left since it before the call, or during the call
    back : (f : FileId) (i : Image) → synced_at b f ≤ moment b → (left_since b (synced_at b f) i → IsImageOf (disk b) (emitted b) i) → left_since c (synced_at c f) i → IsImageOf (disk c) (emitted c) i
    back f i le before was = moved i (⊎_elim before (λ image. image) (run.only (synced_at b f) i le (subst (λ (t : ℕ). left_since c t i) (syncs f) was)))

    pub synced-still : Synced a b → Synced a c
    synced-still first = record {
      anew = λ f. omega (arith, first.anew f, syncs f);
      past = λ f. omega (arith, first.past f, syncs f, run.later);
      since = λ last i le. back last i (first.past last) (first.since last i (λ f. omega (arith, le f, syncs f, syncs last)));
    }

    pub named-still : Named a b → Named a c
    named-still first = record {
      anew = omega (arith, first.anew, syncs Select);
      past = omega (arith, first.past, syncs Select, run.later);
      since = λ i. back Select i first.past (first.since i);
    }

  -- calls behind an opening, from which a crash leaves only what has P: since the last sync of the opening it leaves nothing else
  pub since_behind : (a b c : D) (P : Image → Type 0) → Synced a b → LeavesOnly moment left_since b c P → ((i : Image) → IsImageOf (disk b) (emitted b) i → P i)
      → (last : FileId) → ((f : FileId) → synced_at b f ≤ synced_at b last) → (i : Image) → left_since c (synced_at b last) i → P i
  since_behind a b c P first run there last le i was = ⊎_elim (λ early. there i (first.since last i le early)) (λ p. p) (run.only (synced_at b last) i (first.past last) was)
