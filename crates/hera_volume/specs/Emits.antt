-- One emission follows another.
use Rattle.std.specs.Prelude.{ℕ, ◌+◌, ◌≤◌, List, drop, Option, Some}
use Rattle.std.specs.Io.KnownBytes.{Appends}
use Rattle.std.proofs.Common.{inl, inr, ⊎_elim, refl, sym, ◌∙◌, subst, arith}
use Rattle.std.proofs.Math.Seq.{take-add}
use Rattle.std.proofs.KnownBytes.{Appends-nil, Appends-trans}
use Rattle.hera_volume.specs.Disk.{Disk, IsImage}
use Rattle.hera_volume.specs.Time.{Image, IsImageOf, EmitsOnly}
use Rattle.hera_volume.specs.declared.file_id.FileId.{FileId}

module _ {D : Type 0} (told : Type 0) (disk : D → FileId → Disk) (emitted : D → Option (List ℕ)) (moment : D → ℕ) (left_since : D → ℕ → Image → Type 0)
    (synced_at : D → FileId → ℕ) (device_faults output_faults : D → ℕ) where
  abbrev Emits : D → D → List ℕ → ℕ → Type 0
  Emits a b piece n = EmitsOnly told disk emitted moment left_since synced_at device_faults output_faults a b piece n

  -- where what might be left since the present moment is what is left now, which counts since each earlier moment
  pub EmitsOnly-none : ((a : D) (c : Image) → told → left_since a (moment a) c → IsImageOf (disk a) (emitted a) c)
      → ((a : D) (t : ℕ) (c : Image) → told → t ≤ moment a → IsImageOf (disk a) (emitted a) c → left_since a t c)
      → (a : D) (piece : List ℕ) → EmitsOnly told disk emitted moment left_since synced_at device_faults output_faults a a piece 0
  EmitsOnly-none only_now counts_now a piece = record {
    bytes = Appends-nil (emitted a);
    files = λ t f. refl;
    any_moment = λ t. record { later = omega arith; only = λ u c le left. inl left; keeps = λ u c le left. left };
    since = λ t. record {
      either = λ u c le left. inl left;
      before = λ u c le left. left;
      after = λ u c le left. counts_now a u c t le (only_now a c t left);
    };
    syncs = λ t f. refl;
    device = refl;
    output = omega arith;
  }

  pub EmitsOnly-on : (a b c : D) (piece : List ℕ) (n m : ℕ) → EmitsOnly told disk emitted moment left_since synced_at device_faults output_faults a b piece n
      → EmitsOnly told disk emitted moment left_since synced_at device_faults output_faults b c (drop n piece) m
      → EmitsOnly told disk emitted moment left_since synced_at device_faults output_faults a c piece (n + m)
  EmitsOnly-on a b c piece n m first second = record {
    bytes = subst (Appends (emitted a) (emitted c)) (sym (take-add n m piece)) (Appends-trans _ _ _ _ _ first.bytes second.bytes);
    files = λ t f. second.files t f ∙ first.files t f;
    any_moment = λ t. record {
      later = omega (arith, (first.any_moment t).later, (second.any_moment t).later);
      only = λ u i le left. ⊎_elim (λ before. (first.any_moment t).only u i le before) (λ amid. inr (record {
        files = λ f. subst (λ (d : Disk). IsImage d (i.files f)) (first.files t f) (amid.files f);
        emitted = (n + amid.emitted.0, subst (Appends (emitted a) (Some i.emitted)) (sym (take-add n amid.emitted.0 piece)) (Appends-trans _ _ _ _ _ first.bytes amid.emitted.1));
      })) ((second.any_moment t).only u i (omega (arith, le, (first.any_moment t).later)) left);
      keeps = λ u i le left. (second.any_moment t).keeps u i (omega (arith, le, (first.any_moment t).later)) ((first.any_moment t).keeps u i le left);
    };
    since = λ t.
        let one = first.since t in
        let two = second.since t in
        let far : (u : ℕ) → u ≤ moment a → u ≤ moment b = λ u le. omega (arith, le, (first.any_moment t).later) in
        let start : moment a ≤ moment b = (first.any_moment t).later in
        record {
          either = λ u i le left. ⊎_elim
              (λ early. ⊎_elim (λ before. inl before) (λ amid. inr (two.before (moment a) i start amid)) (one.either u i le early))
              (λ late. inr (two.after (moment a) i start late))
              (two.either u i (far u le) left);
          before = λ u i le left. two.before u i (far u le) (one.before u i le left);
          after = λ u i le left. ⊎_elim
              (λ amid. two.before u i (far u le) (one.after u i le amid))
              (λ late. two.after u i (far u le) late)
              (two.either (moment a) i start left);
        };
    syncs = λ t f. second.syncs t f ∙ first.syncs t f;
    device = second.device ∙ first.device;
    output = omega (arith, first.output, second.output);
  }
