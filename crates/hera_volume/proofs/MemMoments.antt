-- What a call on an outside in memory adds to what a crash might have left.
use Rattle.std.proofs.Common.{◌≡◌, ◌⊎◌, inl, inr, ⊎_elim, ℕ, suc, OnOk, OnErr, Result, Ok, Err, ◌-◌, ◌≤◌, List, [], ◌∷◌, ◌++◌, length, take, reverse, Some, refl, sym, ap, subst, ◌∙◌, arith, length-append}
use Rattle.std.proofs.lemmas.List.{reverse-append, take_at, append-nil}
use Rattle.std.specs.Io.KnownBytes.{Appends, Keeps}
use Rattle.hera_volume.specs.Disk.{Disk, IsImage, IsSound, Within, after_sync, bounded}
use Rattle.hera_volume.proofs.Images.{synced-within, image-reads, sound-synced, bounded-sound, sound-bounded}
use Rattle.hera_volume.specs.Time.{Image, IsImageOf, IsImageIn, IsImageAmid, LeavesOnly, GoesOn}
use Rattle.hera_volume.specs.Files.{kept_in, disk_in, with_disk}
use Rattle.hera_volume.specs.Past.{HadBeen, LeftSince}
use Rattle.hera_volume.specs.MemOutside.{mem_moment, mem_left_since, mem_disk, mem_emitted}
use Rattle.hera_volume.specs.MemChange.{IsChanged, IsKept, IsEmitted}
use Rattle.hera_volume.specs.declared.file_id.FileId.{FileId}
use Rattle.hera_volume.specs.declared.file_id.FileId.TheVariants.{Select, Left, Right}
use Rattle.hera_volume.specs.declared.mem_files.MemFiles.{MemFiles}
use Rattle.hera_volume.specs.declared.mem_files.Past.{Past}
use Rattle.hera_volume.specs.declared.mem_files.Past.TheVariants.{Changed, Emitted}
use Rattle.hera_volume.specs.declared.mem_outside.MemOutside.{MemOutside}

-- one change more, and the changes since a moment
newest : (past later : List Past) (p : Past) (t : ℕ) → t ≤ length past → later ≡ past ++ p ∷ []
    → take (length later - t) (reverse later) ≡ p ∷ take (length past - t) (reverse past)
newest past later p t le is =
    let count : length later - t ≡ suc (length past - t) = omega (arith, ap (λ (l : List Past). length l) is, length-append past (p ∷ [])) in
    ap (λ (n : ℕ). take n (reverse later)) count ∙ ap (λ (l : List Past). take (suc (length past - t)) l) (ap (λ (l : List Past). reverse l) is ∙ reverse-append past (p ∷ []))

-- a file that is put back
pub put_back : (files : MemFiles) (which : FileId) (d : Disk) → with_disk (with_disk files which d) which (kept_in files which) ≡ files
put_back files Select d = refl
put_back files Left d = refl
put_back files Right d = refl

pub disk_in-same : (files : MemFiles) (which : FileId) (d : Disk) → disk_in (with_disk files which d) which ≡ bounded d
disk_in-same files Select d = refl
disk_in-same files Left d = refl
disk_in-same files Right d = refl

pub disk_in-other : (files : MemFiles) (which : FileId) (d : Disk) (f : FileId) → (f ≡ which → ⊥) → disk_in (with_disk files which d) f ≡ disk_in files f
disk_in-other files Select d Select ne = absurd (ne refl)
disk_in-other files Select d Left ne = refl
disk_in-other files Select d Right ne = refl
disk_in-other files Left d Select ne = refl
disk_in-other files Left d Left ne = absurd (ne refl)
disk_in-other files Left d Right ne = refl
disk_in-other files Right d Select ne = refl
disk_in-other files Right d Left ne = refl
disk_in-other files Right d Right ne = absurd (ne refl)

-- at rest, or before
abbrev Seen : List Past → MemFiles → List ℕ → Image → Type 0
Seen past files bytes c = IsImageOf (disk_in files) (Some bytes) c ⊎ HadBeen past files bytes c

pub changed-leaves : (a b : MemOutside) (which : FileId) (d : Disk) (P : Image → Type 0) → IsChanged a b which d → ((c : Image) → IsImageOf (mem_disk b) (mem_emitted b) c → P c)
    → LeavesOnly mem_moment mem_left_since a b P
changed-leaves a b which d P change here = record {
  later = omega (arith, ap (λ (l : List Past). length l) change.1, length-append a.past.items (Changed which (kept_in a.files which) ∷ []));
  only = λ t c le left. ⊎_elim (λ now. inr (here c now)) (λ had. inl (back t c le had)) left;
  keeps = λ t c le left. inr (forth t c le left);
}
  where
    old : with_disk b.files which (kept_in a.files which) ≡ a.files
    old = ap (λ (f : MemFiles). with_disk f which (kept_in a.files which)) change.0 ∙ put_back a.files which d

    back : (t : ℕ) (c : Image) → t ≤ length a.past.items → HadBeen (take (length b.past.items - t) (reverse b.past.items)) b.files b.bytes.items c → LeftSince a.past.items a.files a.bytes.items t c
    back t c le had =
        let had' = subst (λ (l : List Past). HadBeen l b.files b.bytes.items c) (newest a.past.items b.past.items (Changed which (kept_in a.files which)) t le change.1) had in
        subst (λ (l : List ℕ). Seen (take (length a.past.items - t) (reverse a.past.items)) a.files l c) change.2
        (subst (λ (f : MemFiles). Seen (take (length a.past.items - t) (reverse a.past.items)) f b.bytes.items c) old had')

    forth : (t : ℕ) (c : Image) → t ≤ length a.past.items → LeftSince a.past.items a.files a.bytes.items t c → HadBeen (take (length b.past.items - t) (reverse b.past.items)) b.files b.bytes.items c
    forth t c le left =
        subst (λ (l : List Past). HadBeen l b.files b.bytes.items c) (sym (newest a.past.items b.past.items (Changed which (kept_in a.files which)) t le change.1))
        (subst (λ (f : MemFiles). Seen (take (length a.past.items - t) (reverse a.past.items)) f b.bytes.items c) (sym old)
        (subst (λ (l : List ℕ). Seen (take (length a.past.items - t) (reverse a.past.items)) a.files l c) (sym change.2) left))

pub kept-leaves : (a b : MemOutside) (P : Image → Type 0) → IsKept a b → LeavesOnly mem_moment mem_left_since a b P
kept-leaves a b P same = record {
  later = omega (arith, ap (λ (l : List Past). length l) same.1);
  only = λ t c le left. inl (subst (λ (l : List Past). LeftSince l a.files a.bytes.items t c) same.1
      (subst (λ (f : MemFiles). LeftSince b.past.items f a.bytes.items t c) same.0
      (subst (λ (l : List ℕ). LeftSince b.past.items b.files l t c) same.2 left)));
  keeps = λ t c le left. subst (λ (l : List ℕ). LeftSince b.past.items b.files l t c) (sym same.2)
      (subst (λ (f : MemFiles). LeftSince b.past.items f a.bytes.items t c) (sym same.0)
      (subst (λ (l : List Past). LeftSince l a.files a.bytes.items t c) (sym same.1) left));
}

-- a file is this one or another
pub which_file : (f which : FileId) → (f ≡ which) ⊎ (f ≡ which → ⊥)
which_file Select Select = inl refl
which_file Select Left = inr (λ e. cc)
which_file Select Right = inr (λ e. cc)
which_file Left Select = inr (λ e. cc)
which_file Left Left = inl refl
which_file Left Right = inr (λ e. cc)
which_file Right Select = inr (λ e. cc)
which_file Right Left = inr (λ e. cc)
which_file Right Right = inl refl

-- each file is sound as it is seen
pub mem_sound : (a : MemOutside) (f : FileId) → IsSound (mem_disk a f)
mem_sound a f = sound-bounded (kept_in a.files f)

pub changed-disk : (a b : MemOutside) (which : FileId) (d : Disk) → IsSound d → IsChanged a b which d → mem_disk b which ≡ d
changed-disk a b which d sound change = ap (λ (f : MemFiles). disk_in f which) change.0 ∙ disk_in-same a.files which d ∙ bounded-sound d sound

pub changed-other : (a b : MemOutside) (which : FileId) (d : Disk) → IsChanged a b which d → (f : FileId) → (f ≡ which → ⊥) → mem_disk b f ≡ mem_disk a f
changed-other a b which d change f ne = ap (λ (l : MemFiles). disk_in l f) change.0 ∙ disk_in-other a.files which d f ne

pub kept-disk : (a b : MemOutside) → IsKept a b → (f : FileId) → mem_disk b f ≡ mem_disk a f
kept-disk a b same f = ap (λ (l : MemFiles). disk_in l f) same.0

-- a file that was changed to one whose images are among these
pub changed-in : (a b : MemOutside) (which : FileId) (d changed : Disk) → IsSound d → IsChanged a b which d → Within d changed
    → LeavesOnly mem_moment mem_left_since a b (IsImageIn (mem_disk a) (mem_emitted a) which changed)
changed-in a b which d changed sound change within = changed-leaves a b which d _ change (λ c image. record {
  file = within (c.files which) (subst (λ (x : Disk). IsImage x (c.files which)) (changed-disk a b which d sound change) (image.files which));
  others = λ f ne. subst (λ (x : Disk). IsImage x (c.files f)) (changed-other a b which d change f ne) (image.files f);
  emitted = subst (λ (l : List ℕ). Keeps (Some l) (Some c.emitted)) change.2 image.emitted;
})

-- a file that was changed to one whose images are among its own
pub changed-of : (a b : MemOutside) (which : FileId) (d : Disk) → IsSound d → IsChanged a b which d → Within d (mem_disk a which)
    → LeavesOnly mem_moment mem_left_since a b (IsImageOf (mem_disk a) (mem_emitted a))
changed-of a b which d sound change within = changed-leaves a b which d _ change (λ c image. record {
  files = λ f. ⊎_elim
      (λ same. subst (λ (g : FileId). IsImage (mem_disk a g) (c.files g)) (sym same) (within (c.files which) (subst (λ (x : Disk). IsImage x (c.files which)) (changed-disk a b which d sound change) (image.files which))))
      (λ ne. subst (λ (x : Disk). IsImage x (c.files f)) (changed-other a b which d change f ne) (image.files f))
      (which_file f which);
  emitted = subst (λ (l : List ℕ). Keeps (Some l) (Some c.emitted)) change.2 image.emitted;
})

module _ (a b : MemOutside) (piece : List ℕ) (n : ℕ) (change : IsEmitted a b piece n) where
  abbrev entry : Past
  entry = Emitted (length a.bytes.items) change.1.0

  is : b.past.items ≡ a.past.items ++ entry ∷ []
  is = change.1.2

  old : take (length a.bytes.items) b.bytes.items ≡ a.bytes.items
  old = ap (λ (l : List ℕ). take (length a.bytes.items) l) change.2 ∙ take_at a.bytes.items (take n piece) (length a.bytes.items) refl

  during : (c : Image) → IsImageAmid (disk_in b.files) (Some (take (length a.bytes.items) b.bytes.items)) change.1.0.items c → IsImageAmid (mem_disk a) (mem_emitted a) piece c
  during c amid = record {
    files = λ f. subst (λ (l : MemFiles). IsImage (disk_in l f) (c.files f)) change.0 (amid.files f);
    emitted = (amid.emitted.0, subst (λ (l : List ℕ). c.emitted ≡ a.bytes.items ++ take amid.emitted.0 l) change.1.1 (subst (λ (l : List ℕ). c.emitted ≡ l ++ take amid.emitted.0 change.1.0.items) old amid.emitted.1));
  }

  back : (t : ℕ) (c : Image) → HadBeen (take (length a.past.items - t) (reverse a.past.items)) b.files (take (length a.bytes.items) b.bytes.items) c → HadBeen (take (length a.past.items - t) (reverse a.past.items)) a.files a.bytes.items c
  back t c had = subst (λ (l : List ℕ). HadBeen (take (length a.past.items - t) (reverse a.past.items)) a.files l c) old
      (subst (λ (f : MemFiles). HadBeen (take (length a.past.items - t) (reverse a.past.items)) f (take (length a.bytes.items) b.bytes.items) c) change.0 had)

  forth : (t : ℕ) (c : Image) → HadBeen (take (length a.past.items - t) (reverse a.past.items)) a.files a.bytes.items c → HadBeen (take (length a.past.items - t) (reverse a.past.items)) b.files (take (length a.bytes.items) b.bytes.items) c
  forth t c had = subst (λ (f : MemFiles). HadBeen (take (length a.past.items - t) (reverse a.past.items)) f (take (length a.bytes.items) b.bytes.items) c) (sym change.0)
      (subst (λ (l : List ℕ). HadBeen (take (length a.past.items - t) (reverse a.past.items)) a.files l c) (sym old) had)

  -- what had been at b is what might be left during the emission, and what had been before it
  split : (t : ℕ) (c : Image) → t ≤ length a.past.items → HadBeen (take (length b.past.items - t) (reverse b.past.items)) b.files b.bytes.items c
      → IsImageAmid (disk_in b.files) (Some (take (length a.bytes.items) b.bytes.items)) change.1.0.items c ⊎ HadBeen (take (length a.past.items - t) (reverse a.past.items)) b.files (take (length a.bytes.items) b.bytes.items) c
  split t c le had = subst (λ (l : List Past). HadBeen l b.files b.bytes.items c) (newest a.past.items b.past.items entry t le is) had

  join : (t : ℕ) (c : Image) → t ≤ length a.past.items → IsImageAmid (disk_in b.files) (Some (take (length a.bytes.items) b.bytes.items)) change.1.0.items c ⊎ HadBeen (take (length a.past.items - t) (reverse a.past.items)) b.files (take (length a.bytes.items) b.bytes.items) c
      → HadBeen (take (length b.past.items - t) (reverse b.past.items)) b.files b.bytes.items c
  join t c le had = subst (λ (l : List Past). HadBeen l b.files b.bytes.items c) (sym (newest a.past.items b.past.items entry t le is)) had

  pub emitted-leaves : LeavesOnly mem_moment mem_left_since a b (IsImageAmid (mem_disk a) (mem_emitted a) piece)
  emitted-leaves = record {
    later = omega (arith, ap (λ (l : List Past). length l) is, length-append a.past.items (entry ∷ []));
    only = λ t c le left. ⊎_elim (λ now. inr (record {
      files = λ f. subst (λ (l : MemFiles). IsImage (disk_in l f) (c.files f)) change.0 (now.files f);
      emitted = (n, now.emitted ∙ change.2);
    })) (λ had. ⊎_elim (λ amid. inr (during c amid)) (λ before. inl (inr (back t c before))) (split t c le had)) left;
    keeps = kept;
  }
    where
      kept : (t : ℕ) (c : Image) → t ≤ mem_moment a → mem_left_since a t c → mem_left_since b t c
      kept t c le left = inr (join t c le
          (⊎_elim (λ now. inl (record {
            files = λ f. subst (λ (l : MemFiles). IsImage (disk_in l f) (c.files f)) (sym change.0) (now.files f);
            emitted = (0, now.emitted ∙ sym (append-nil a.bytes.items) ∙ ap (λ (l : List ℕ). l ++ []) (sym old));
          })) (λ had. inr (forth t c had)) left))

  pub emitted-on : GoesOn mem_moment mem_left_since a b
  emitted-on = record {
    either = λ t c le left. ⊎_elim (λ now. inr (inl now))
        (λ had. ⊎_elim (λ amid. inr (inr (join (length a.past.items) c (omega arith) (inl amid)))) (λ before. inl (inr (back t c before))) (split t c le had)) left;
    before = emitted-leaves.keeps;
    after = λ t c le left. ⊎_elim (λ now. inl now) (λ had. ⊎_elim (λ amid. inr (join t c le (inl amid))) (λ early. absurd (nothing_early c early)) (split (length a.past.items) c (omega arith) had)) left;
  }
    where
      nothing_early : (c : Image) → HadBeen (take (length a.past.items - length a.past.items) (reverse a.past.items)) b.files (take (length a.bytes.items) b.bytes.items) c → ⊥
      nothing_early c had =
          let none : length a.past.items - length a.past.items ≡ 0 = omega arith in
          subst (λ (k : ℕ). HadBeen (take k (reverse a.past.items)) b.files (take (length a.bytes.items) b.bytes.items) c) none had

-- a call that changes a file, or fails and changes nothing
pub step-in : (a b : MemOutside) (which : FileId) (d : Disk) {T E : Type 0} (r : Result T E) → IsSound d → OnOk r (IsChanged a b which d) → OnErr r (IsKept a b)
    → LeavesOnly mem_moment mem_left_since a b (IsImageIn (mem_disk a) (mem_emitted a) which d)
step-in a b which d (Ok x) sound ok err = changed-in a b which d d sound ok (λ c image. image)
step-in a b which d (Err e) sound ok err = kept-leaves a b _ err

pub step-of : (a b : MemOutside) (which : FileId) {T E : Type 0} (r : Result T E) → OnOk r (IsChanged a b which (after_sync (mem_disk a which))) → OnErr r (IsKept a b)
    → LeavesOnly mem_moment mem_left_since a b (IsImageOf (mem_disk a) (mem_emitted a))
step-of a b which (Ok x) ok err = changed-of a b which (after_sync (mem_disk a which)) (sound-synced (mem_disk a which)) ok (synced-within (mem_disk a which) (mem_sound a which))
step-of a b which (Err e) ok err = kept-leaves a b _ err

-- what a crash may leave of the file, whether it was changed or not
pub step-within : (a b : MemOutside) (which : FileId) (d : Disk) {T E : Type 0} (r : Result T E) → IsSound d → OnOk r (IsChanged a b which d) → OnErr r (IsKept a b)
    → Within (mem_disk a which) d → Within (mem_disk b which) d
step-within a b which d (Ok x) sound ok err keeps = λ c. subst (λ (x : Disk). IsImage x c → IsImage d c) (sym (changed-disk a b which d sound ok)) (λ image. image)
step-within a b which d (Err e) sound ok err keeps = λ c. subst (λ (x : Disk). IsImage x c → IsImage d c) (sym (kept-disk a b err which)) (keeps c)

-- the file reads as one of the images of the call, whether it was changed or not
pub step-reads : (a b : MemOutside) (which : FileId) (d : Disk) {T E : Type 0} (r : Result T E) → IsSound d → OnOk r (IsChanged a b which d) → OnErr r (IsKept a b)
    → Within (mem_disk a which) d → IsImage d (mem_disk b which).bytes
step-reads a b which d (Ok x) sound ok err keeps = subst (λ (y : Disk). IsImage d y.bytes) (sym (changed-disk a b which d sound ok)) (image-reads d sound)
step-reads a b which d (Err e) sound ok err keeps = subst (λ (y : Disk). IsImage d y.bytes) (sym (kept-disk a b err which)) (keeps _ (image-reads (mem_disk a which) (mem_sound a which)))

-- what holds anyway holds at an error
pub at-error : {T E P : Type 0} (r : Result T E) → P → OnErr r P
at-error (Ok x) p = tt
at-error (Err e) p = p

-- inside an emission each part of the piece might have been left
pub emitted-amid : (a b : MemOutside) (piece : List ℕ) (n : ℕ) → IsEmitted a b piece n → (t : ℕ) (c : Image) → t ≤ mem_moment a
    → IsImageAmid (mem_disk a) (mem_emitted a) piece c → mem_left_since b t c
emitted-amid a b piece n change t c le amid =
    let entry = Emitted (length a.bytes.items) change.1.0 in
    let old : take (length a.bytes.items) b.bytes.items ≡ a.bytes.items = ap (λ (l : List ℕ). take (length a.bytes.items) l) change.2 ∙ take_at a.bytes.items (take n piece) (length a.bytes.items) refl in
    inr (subst (λ (l : List Past). HadBeen l b.files b.bytes.items c) (sym (newest a.past.items b.past.items entry t le change.1.2)) (inl (record {
      files = λ f. subst (λ (l : MemFiles). IsImage (disk_in l f) (c.files f)) (sym change.0) (amid.files f);
      emitted = (
        amid.emitted.0,
        subst (λ (p : List ℕ). Appends (Some (take (length a.bytes.items) b.bytes.items)) (Some c.emitted) (take amid.emitted.0 p)) (sym change.1.1)
            (subst (λ (l : List ℕ). Appends (Some l) (Some c.emitted) (take amid.emitted.0 piece)) (sym old) amid.emitted.1),
      );
    })))
