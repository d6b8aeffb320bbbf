-- A commit: what a crash leaves while its record is sealed, and for what the store stands afterwards.
use Rattle.std.proofs.Common.{◌≡◌, ◌≢◌, ◌≤◌, inl, inr, max, ℕ, ◌+◌, false, List, [], ◌∷◌, ◌++◌, Option, length, take, refl, sym, ap, subst, ◌∙◌, arith}
use Rattle.hera_meaning.specs.Commits.{after_all}
use Rattle.hera_meaning.specs.Deltas.{Delta, State, fail, atoms, IsDelta, IsDeltaOf, is_fail, apply_of}
use Rattle.delta_atoms.specs.Atoms.{atoms_in}
use Rattle.hera_volume.specs.Disk.{Disk, IsSettled}
use Rattle.hera_volume.specs.Time.{Image}
use Rattle.hera_volume.specs.declared.file_id.FileId.{FileId}
use Rattle.hera_volume.specs.declared.file_id.FileId.TheVariants.{Select}
use Rattle.rel_format.specs.Versions.{format_of, IsHalfOf}
use Rattle.rel_format.specs.Journal.{IsRecordOf, record_of, half_limit}
use Rattle.commit_journal.specs.Gate.{IsReady, IsWith, IsBeforeOrAfter}
use Rattle.commit_journal.specs.Prepare.{need_of}
use Rattle.commit_journal.specs.Halves.{IsHalfTo}
use Rattle.commit_journal.proofs.Halves.{half_either, half_with, half_ready, has_record}
use Rattle.hera_store.specs.Databases.{Holds}
use Rattle.hera_store.specs.Standing.{Standing, StandsFor, database_of, database_after}
use Rattle.hera_store.specs.Moments.{IsEither}
use Rattle.hera_meaning.proofs.CommitLaws.{state_push}
use Rattle.hera_store.proofs.Selections.{not_select, left_as}
use Rattle.hera_store.proofs.Untouched.{each}

pub told_atoms : (d : Delta) → is_fail d ≡ false → atoms (atoms_in d) ≡ d
told_atoms fail e = cc
told_atoms (atoms xs) e = refl

-- the store's database is what the files hold
pub stands_holds : (disks : FileId → Disk) (store : Standing) → StandsFor disks store → Holds (λ f. (disks f).bytes) (database_of store)
stands_holds disks store stands = record {
  byte = stands.named.0;
  selects = stands.named.1;
  half = subst (λ (f : FileId). IsHalfOf (disks f).bytes store.base.catalogue (after_all store.base.state store.commits)) (sym stands.named.2) (store.base.version, stands.half.half);
}

-- it still does where the files stay as they are
pub stands_still : (before now : FileId → Disk) (store : Standing) → ((f : FileId) → now f ≡ before f) → StandsFor before store → StandsFor now store
stands_still before now store same stands = record {
  settled = λ f. subst IsSettled (sym (same f)) (stands.settled f);
  named = (stands.named.0, ap (λ (d : Disk). d.bytes) (same Select) ∙ stands.named.1, stands.named.2);
  half = subst (λ (d : Disk). IsHalfTo (format_of store.base.version) d.bytes store.base.catalogue (after_all store.base.state store.commits) store.end) (sym (same store.half)) stands.half;
}

module _ (disks : FileId → Disk) (store : Standing) (delta : Delta) (stands : StandsFor disks store) (proper : is_fail delta ≡ false) (valid : IsDelta delta) (known : IsDeltaOf store.base.catalogue delta) (fits : need_of (atoms_in delta) store.end ≤ half_limit) where
  pub is_ready : IsReady (disks store.half) store.end
  is_ready = half_ready (format_of store.base.version) (disks store.half) store.base.catalogue (after_all store.base.state store.commits) store.end stands.half (stands.settled store.half)

  record_is : IsRecordOf store.base.catalogue (atoms_in delta)
  record_is = has_record store.base.catalogue delta store.end proper valid known fits

  state_is : apply_of (after_all store.base.state store.commits) (atoms (atoms_in delta)) ≡ after_all store.base.state (store.commits ++ delta ∷ [])
  state_is = ap (apply_of (after_all store.base.state store.commits)) (told_atoms delta proper) ∙ sym (state_push store.base.state store.commits delta)

  holds_as : (c : Image) (state : State) → c.files Select ≡ stands.named.0 ∷ [] → IsHalfOf (c.files store.half) store.base.catalogue state → Holds c.files (record { catalogue = store.base.catalogue; state = state })
  holds_as c state selects half = record {
    byte = stands.named.0;
    selects = selects;
    half = subst (λ (f : FileId). IsHalfOf (c.files f) store.base.catalogue state) (sym stands.named.2) half;
  }

  -- while the record is sealed
  pub is_either : (so_far : Option (List ℕ)) (c : Image) → IsBeforeOrAfter disks so_far store.half (take store.end (disks store.half).bytes) (record_of (atoms_in delta)) c → IsEither (database_of store) (database_after store delta) so_far c
  is_either so_far c image =
      let selects : c.files Select ≡ stands.named.0 ∷ [] = left_as disks c Select (stands.named.0 ∷ []) (stands.settled Select) stands.named.1 (image.others Select (not_select store.half (disks Select).bytes stands.named)) in
      record {
        found = elim (half_either (format_of store.base.version) (disks store.half).bytes (c.files store.half) store.base.catalogue (after_all store.base.state store.commits) store.end (atoms_in delta) stands.half record_is image.file fits) [
          | inl before ↦ inl (holds_as c (after_all store.base.state store.commits) selects (store.base.version, before.half))
          | inr after ↦ inr (holds_as c (after_all store.base.state (store.commits ++ delta ∷ [])) selects (subst (λ (s : State). IsHalfOf (c.files store.half) store.base.catalogue s) state_is (store.base.version, after.half)))
        ];
        emitted = image.emitted;
      }

  -- once it is sealed
  pub stands_after : (now : FileId → Disk) (next : ℕ) → IsSettled (now store.half) → IsWith (take store.end (disks store.half).bytes) (record_of (atoms_in delta)) (now store.half).bytes
      → length (now store.half).bytes ≤ max (length (disks store.half).bytes) (store.end + length (record_of (atoms_in delta)) + 2) → ((f : FileId) → f ≢ store.half → now f ≡ disks f)
      → next ≡ store.end + length (record_of (atoms_in delta)) + 1 → StandsFor now (record store { commits = store.commits ++ delta ∷ []; end = next })
  stands_after now next settled sealed no_longer others next_is =
      let front_short = stands.half.half.short in
      let short : length (now store.half).bytes ≤ half_limit = omega (arith, no_longer, front_short, fits) in
      let select : now Select ≡ disks Select = others Select (not_select store.half (disks Select).bytes stands.named) in
      let half = half_with (format_of store.base.version) (disks store.half).bytes (now store.half).bytes store.base.catalogue (after_all store.base.state store.commits) store.end (atoms_in delta) stands.half record_is sealed short in
      record {
        settled = each (λ f. IsSettled (now f)) store.half settled (λ f ne. subst IsSettled (sym (others f ne)) (stands.settled f));
        named = (stands.named.0, ap (λ (d : Disk). d.bytes) select ∙ stands.named.1, stands.named.2);
        half = subst (λ (n : ℕ). IsHalfTo (format_of store.base.version) (now store.half).bytes store.base.catalogue (after_all store.base.state (store.commits ++ delta ∷ [])) n) (sym next_is)
            (subst (λ (s : State). IsHalfTo (format_of store.base.version) (now store.half).bytes store.base.catalogue s (store.end + length (record_of (atoms_in delta)) + 1)) state_is half);
      }
