-- A database that is made where there was none.
use Rattle.std.proofs.Common.{◌≡◌, ◌≢◌, ◌⊎◌, ⊎_elim, inl, inr, ℕ, List, [], ◌∷◌, take, codes, Option, Some, Result, Ok, Err, IfOk, refl, sym, ap, ◌∙◌, subst}
use Rattle.std.specs.Io.KnownBytes.{Appends}
use Rattle.std.proofs.KnownBytes.{Appends-nil}
use Rattle.hera_causes.specs.declared.traits.Output as output
use Rattle.hera_meaning.specs.declared.schemas.RelDecl.{RelDecl}
use Rattle.hera_volume.specs.Disk.{Disk, IsSettled}
use Rattle.hera_volume.specs.Time.{Image, IsImageAmid, LeavesOnly}
use Rattle.hera_volume.specs.declared.file_id.FileId.{FileId}
use Rattle.hera_volume.specs.declared.file_id.FileId.TheVariants.{Select}
use Rattle.hera_volume.specs.declared.outside.Outside as files
use Rattle.hera_volume.proofs.Images.{image-settled}
use Rattle.hera_volume.proofs.Moments.{leaves-weaker, leaves-on}
use Rattle.rel_format.specs.Versions.{IsHalfOf}
use Rattle.hera_store.specs.Databases.{Database, Holds, empty_database, half_named}
use Rattle.hera_store.specs.Moments.{IsNoneOr, IsUntouched, IsUnsynced, LeavesOnceNamed, LeavesOnceSettled}
use Rattle.hera_outcome.specs.declared.answer.Ending.{Ending}
use Rattle.hera_outcome.specs.declared.answer.Ending.TheVariants.{Done}
use Rattle.hera_outcome.specs.declared.answer.Stop.{Stop}
use Rattle.hera_outcome.specs.declared.answer.Stop.TheVariants.{Refused, Device, Memory}
use Rattle.hera_outcome.specs.declared.refusal.Refusal.TheVariants.{Exists}
use Rattle.hera_outcome.specs.Answers.{number_of_ending}
use Rattle.hera_outcome.specs.Outcomes.{made, IsMaking, FilesAfter}
use Rattle.hera_outcome.specs.Passages.{Passage, passage, start, KeepsFiles, IsUnseen, syncs_select, fails_at}
use Rattle.hera_outcome.specs.Told.{HasRisen, Says, IsTold, Tells, Answered}
use Rattle.hera_top.specs.Commands.{IsMade, is_made, is_taken}

-- the same files hold the same
pub holds_same : (files others : FileId → List ℕ) (db : Database) → ((f : FileId) → others f ≡ files f) → Holds files db → Holds others db
holds_same files others db same holds = record {
  byte = holds.byte;
  selects = same Select ∙ holds.selects;
  half = subst (λ (bytes : List ℕ). IsHalfOf bytes db.catalogue db.state) (sym (same (half_named holds.byte))) holds.half;
}

module _ {D : Type 0} (q : output.Ghosts D) (w : files.Ghosts D) (a far : D) (rels : List RelDecl) (same : q.emitted far ≡ q.emitted a) (fine : q.output_faults far ≡ q.output_faults a) where
  abbrev over : D → D → Passage
  over x y = passage q w x y

  abbrev db : Database
  db = empty_database rels

  abbrev Only : Type 0
  Only = LeavesOnceSettled w.disk q.emitted w.moment w.left_since w.synced_at a far (IsNoneOr db (q.emitted a))

  -- nothing was touched
  unseen : (w.told → IsUntouched w.disk q.emitted w.moment w.left_since a far) → IsUnseen (over a far)
  unseen untouched = record { emitted = same; output = fine; reads = λ t. (untouched t).reads; within = λ t. (untouched t).within; moments = λ t. (untouched t).any_moment }

  -- there was a database
  pub taken_answered : w.device_faults far ≡ w.device_faults a → (w.told → (w.disk a Select).bytes ≢ []) → (w.told → IsUntouched w.disk q.emitted w.moment w.left_since a far)
      → Answered (IsMade rels (start w a)) (Err (Refused Exists)) (over a far)
  taken_answered sound some untouched = (is_taken some, record { device = sound; unseen = unseen untouched })

  -- there was no memory
  pub memory_answered : w.device_faults far ≡ w.device_faults a → (w.told → IsUntouched w.disk q.emitted w.moment w.left_since a far) → (w.told → LeavesOnceNamed w.disk q.emitted w.moment w.left_since w.synced_at a far)
      → Answered (IsMade rels (start w a)) (Err Memory) (over a far)
  memory_answered sound untouched named = inr (record { cause = inr (refl, sound); unseen = unseen untouched; syncs = λ t. syncs_select (named t) })

  -- no database is read or the new one
  abbrev ReadsSo : Type 0
  ReadsSo = ((w.disk far Select).bytes ≡ []) ⊎ Holds (λ f. (w.disk far f).bytes) db

  -- the same, or `select` was not synced
  abbrev Or : Type 0
  Or = Only ⊎ (IsUntouched w.disk q.emitted w.moment w.left_since a far × IsUnsynced w.synced_at a far Select)

  -- what is known of the sync of `select` where there was a database
  abbrev Tried : Type 0
  Tried = LeavesOnceNamed w.disk q.emitted w.moment w.left_since w.synced_at a far ⊎ IsUnsynced w.synced_at a far Select

  making : Only → LeavesOnceSettled w.disk q.emitted w.moment w.left_since w.synced_at a far (IsMaking db (q.emitted a))
  making only = record {
    between = only.between;
    before = only.before;
    settled = only.settled;
    named = only.named;
    behind = leaves-weaker w.moment w.left_since only.behind (λ c none. inl none);
  }

  nothing_said : Appends (q.emitted a) (q.emitted far) []
  nothing_said = subst (λ (e : Option (List ℕ)). Appends (q.emitted a) e []) (sym same) (Appends-nil (q.emitted a))

  some_byte : (bytes rest : List ℕ) (x : ℕ) → bytes ≡ x ∷ rest → bytes ≢ []
  some_byte bytes rest x is none = (let bad : x ∷ rest ≡ [] = sym is ∙ none in cc (bad))

  module _ (risen : HasRisen (w.device_faults a) (w.device_faults far)) where
    made_short : (w.told → Or) → (w.told → ReadsSo) → IsTold (made rels) 6 (over a far)
    made_short only reads = record {
      ending = inr (record { cause = inl (refl, risen, fine); front = (0, nothing_said); files = λ t. ((λ eight. cc (eight)), (λ nine. cc (nine)), (λ six. reads t)) });
      moments = λ t. ⊎_elim (λ (at : Only). inl (making at)) (λ none. inr none) (only t);
    }

    -- a call on a file failed, where `select` was empty or not
    failed_at : (bytes : List ℕ) → (w.disk a Select).bytes ≡ bytes → (w.told → (w.disk a Select).bytes ≡ [] → Or)
        → (w.told → (w.disk a Select).bytes ≡ [] → ReadsSo) → (w.told → (w.disk a Select).bytes ≢ [] → IsUntouched w.disk q.emitted w.moment w.left_since a far) → (w.told → (w.disk a Select).bytes ≢ [] → Tried)
        → Tells (IsMade rels (start w a)) 6 (over a far)
    failed_at [] is only reads occupied tried = inl (made rels, is_made (λ t. is), made_short (λ t. only t is) (λ t. reads t is))
    failed_at (x ∷ rest) is only reads occupied tried =
        let some = some_byte (w.disk a Select).bytes rest x is in
        inr (record { cause = inl (refl, risen); unseen = unseen (λ t. occupied t some); syncs = λ t. ⊎_elim (λ named. syncs_select named) (λ none. fails_at Select none) (tried t some) })

    pub failed : (w.told → (w.disk a Select).bytes ≡ [] → Or) → (w.told → (w.disk a Select).bytes ≡ [] → ReadsSo) → (w.told → (w.disk a Select).bytes ≢ [] → IsUntouched w.disk q.emitted w.moment w.left_since a far)
        → (w.told → (w.disk a Select).bytes ≢ [] → Tried) → Answered (IsMade rels (start w a)) (Err Device) (over a far)
    failed only reads occupied tried = failed_at (w.disk a Select).bytes refl only reads occupied tried

  module _ (sound : w.device_faults far ≡ w.device_faults a) (settled : w.told → (f : FileId) → IsSettled (w.disk far f)) (holds : w.told → Holds (λ f. (w.disk far f).bytes) db) (vacant : w.told → (w.disk a Select).bytes ≡ [])
      (only : w.told → (w.disk a Select).bytes ≡ [] → Only) where
    line_amid : w.told → (c : Image) → IsImageAmid (w.disk far) (q.emitted far) (codes "created\n") c → IsMaking db (q.emitted a) c
    line_amid t c image =
        let read : (f : FileId) → c.files f ≡ (w.disk far f).bytes = λ f. image-settled (w.disk far f) (c.files f) (settled t f) (image.files f) in
        let (n, said) = image.emitted in
        inr (holds_same (λ f. (w.disk far f).bytes) c.files db read (holds t), (n, subst (λ (e : Option (List ℕ)). Appends e (Some c.emitted) (take n (codes "created\n"))) same said))

    after : (c : D) → KeepsFiles (over far c) → w.told → FilesAfter (made rels) (over a c)
    after c keeps t = record {
      settled = λ f. subst IsSettled (sym (keeps.files t f)) (settled t f);
      holds = holds_same (λ f. (w.disk far f).bytes) (λ f. (w.disk c f).bytes) db (λ f. ap (λ (d : Disk). d.bytes) (keeps.files t f)) (holds t);
    }

    moments_said : (c : D) → w.told → LeavesOnly w.moment w.left_since far c (IsImageAmid (w.disk far) (q.emitted far) (codes "created\n")) → LeavesOnceSettled w.disk q.emitted w.moment w.left_since w.synced_at a c (IsMaking db (q.emitted a))
    moments_said c t said =
        let first = only t (vacant t) in
        record {
          between = first.between;
          before = first.before;
          settled = first.settled;
          named = first.named;
          behind = leaves-on w.moment w.left_since (leaves-weaker w.moment w.left_since first.behind (λ i none. inl none)) said (line_amid t);
        }

    -- it was made, and then the line was said
    pub made_answered : (c : D) (r : Result Ending Stop) → Says (codes "created\n") r (over far c) → IfOk r (λ ending. ending ≡ Done) → Answered (IsMade rels (start w a)) r (over a c)
    made_answered c (Ok ending) says done = inl (
      made rels,
      is_made vacant,
      record {
        ending = inl (record {
          own_status = ap number_of_ending done;
          whole_text = subst (λ (e : Option (List ℕ)). Appends e (q.emitted c) (codes "created\n")) same says.whole.0;
          files = after c says.keeps;
          output = says.whole.1 ∙ fine;
          device = says.keeps.device ∙ sound;
        });
        moments = λ t. inl (moments_said c t (says.moments t));
      },
    )
    made_answered c (Err stop) says done =
        subst (λ (s : Stop). Answered (IsMade rels (start w a)) (Err s) (over a c)) (sym says.fault)
        (inl (
          made rels,
          is_made vacant,
          record {
            ending = inr (record {
              cause = inr (inl (refl, subst (λ (n : ℕ). HasRisen n (q.output_faults c)) fine says.part.1, says.keeps.device ∙ sound));
              front = (let (n, said) = says.part.0 in (n, subst (λ (e : Option (List ℕ)). Appends e (q.emitted c) (take n (codes "created\n"))) same said));
              files = λ t. ((λ is. after c says.keeps t), (λ is. cc (is)), (λ is. cc (is)));
            });
            moments = λ t. inl (moments_said c t (says.moments t));
          },
        ))
