-- A checkpoint: the same database, before and behind the renewing of its half.
use Rattle.std.proofs.Common.{◌≡◌, ◌≤◌, ◌<◌, ◌==◌, ℕ, Bool, true, false, cond, inl, inr, List, [], ◌∷◌, length, take, Option, Some, Result, Ok, Err, IfOk, refl, sym, ap, ◌∙◌, subst}
use Rattle.std.specs.Prelude.{codes}
use Rattle.std.specs.Io.KnownBytes.{Appends, Keeps}
use Rattle.std.proofs.KnownBytes.{Appends-nil}
use Rattle.hera_causes.specs.declared.traits.Output as output
use Rattle.hera_meaning.specs.Catalogues.{IsCatalogue}
use Rattle.hera_meaning.specs.Deltas.{IsState}
use Rattle.rel_format.specs.Journal.{half_limit}
use Rattle.rel_format.specs.Versions.{IsHalfOf}
use Rattle.rel_format.specs.declared.version.Version.TheVariants.{Two}
use Rattle.half_laws.proofs.Halves.{half_of_is}
use Rattle.hera_volume.specs.Disk.{Disk, IsImage, IsSettled}
use Rattle.hera_volume.specs.Time.{Image, IsImageOf, IsImageAmid, LeavesOnly}
use Rattle.hera_volume.specs.declared.file_id.FileId.{FileId}
use Rattle.hera_volume.specs.declared.file_id.FileId.TheVariants.{Select, Left, Right}
use Rattle.hera_volume.specs.declared.outside.Outside as files
use Rattle.hera_volume.proofs.Images.{image-settled}
use Rattle.hera_volume.proofs.Moments.{leaves-none, leaves-on, leaves-weaker}
use Rattle.hera_store.specs.Databases.{Database, Holds, Names, half_named}
use Rattle.hera_store.specs.Faults.{half_with}
use Rattle.hera_store.specs.Moments.{IsStill}
use Rattle.hera_store.specs.Standing.{Standing, StandsFor, database_of, other_half, select_byte}
use Rattle.hera_outcome.specs.declared.answer.Ending.{Ending}
use Rattle.hera_outcome.specs.declared.answer.Ending.TheVariants.{Done}
use Rattle.hera_outcome.specs.declared.answer.Stop.{Stop}
use Rattle.hera_outcome.specs.declared.answer.Stop.TheVariants.{Refused, Device, Output, Memory, Full}
use Rattle.hera_outcome.specs.Answers.{number_of_ending}
use Rattle.hera_outcome.specs.Outcomes.{renewed, too_long, IsRenewed, IsRenewing, FilesAfter}
use Rattle.hera_outcome.specs.Passages.{Passage, passage, start, start_of, LeavesOnceOpened, KeepsFiles, syncs_all}
use Rattle.hera_outcome.specs.Told.{HasRisen, Says, IsTold, Answered}
use Rattle.hera_outcome.proofs.Passing.{untouched_by, given_up_there}
use Rattle.hera_run.specs.Opening.{IsOpened, IsUnopened}
use Rattle.hera_top.specs.Commands.{Finds, closed, renews, overflows}
use Rattle.hera_words.specs.declared.command.Command.{Command}
use Rattle.hera_words.specs.declared.command.Command.TheVariants.{Checkpoint}

-- a half as it is printed holds what it prints
half_holds : (db : Database) → IsCatalogue db.catalogue → IsState db.catalogue db.state → length (half_with db) ≤ half_limit → IsHalfOf (half_with db) db.catalogue db.state
half_holds db known valid short = (Two, (half_of_is db.catalogue db.state known valid short).half)

no_select : (b : Bool) → cond b Right Left ≡ Select → ⊥
no_select true is = cc (is)
no_select false is = cc (is)

-- the byte of the other half names it
other_named : (byte : ℕ) (half : FileId) → half_named byte ≡ half → half_named (select_byte (other_half half)) ≡ other_half half
other_named byte Left is = refl
other_named byte Right is = refl
other_named byte Select is = absurd (no_select (byte == 1) is)

-- what a crash leaves of files for which a store stands
pub found_settled : (disks : FileId → Disk) (store : Standing) → StandsFor disks store → (files : FileId → List ℕ) → ((f : FileId) → IsImage (disks f) (files f)) → Holds files (database_of store)
found_settled disks store stands files image =
    let (byte, is, names) = stands.named in
    let db = database_of store in
    let same : (f : FileId) → files f ≡ (disks f).bytes = λ f. image-settled (disks f) (files f) (stands.settled f) (image f) in
    let half : IsHalfOf (disks (half_named byte)).bytes db.catalogue db.state = subst (λ (f : FileId). IsHalfOf (disks f).bytes db.catalogue db.state) (sym names) (store.base.version, stands.half.half) in
    record {
      byte = byte;
      selects = same Select ∙ is;
      half = subst (λ (bytes : List ℕ). IsHalfOf bytes db.catalogue db.state) (sym (same (half_named byte))) half;
    }

-- what files hold whose other half was printed anew and selected
module _ (db : Database) (half : FileId) (files : FileId → List ℕ) (printed : files (other_half half) ≡ half_with db) (selects : files Select ≡ select_byte (other_half half) ∷ []) where
  holds_renewed : half_named (select_byte (other_half half)) ≡ other_half half → IsHalfOf (half_with db) db.catalogue db.state → Holds files db
  holds_renewed named whole = record {
    byte = select_byte (other_half half);
    selects = selects;
    half = subst (λ (f : FileId). IsHalfOf (files f) db.catalogue db.state) (sym named) (subst (λ (bytes : List ℕ). IsHalfOf bytes db.catalogue db.state) (sym printed) whole);
  }

  is_renewed : half_named (select_byte (other_half half)) ≡ other_half half → (before : FileId → List ℕ) → Names (before Select) half → IsRenewed db before files
  is_renewed named before was = record { half = half; was = was; is = (select_byte (other_half half), selects, named); printed = printed }

eight_not_six : ◌≡◌ {A = ℕ} 8 6 → ⊥
eight_not_six is = cc (is)

-- why a folder was not opened
pub unopened_answered : (command : Command) (stop : Stop) (v : Passage) → IsUnopened stop v → Answered (Finds (start_of v) command) (Err stop) v
unopened_answered command (Refused refusal) v (shut, pending) = (closed shut, pending)
unopened_answered command Device v up = inr up
unopened_answered command Output v none = absurd none
unopened_answered command Memory v up = inr up
unopened_answered command Full v none = absurd none

-- an opening from a to b, and then the renewing from b to far
module _ {D : Type 0} (q : output.Ghosts D) (w : files.Ghosts D) (a b : D) (store : Standing) (opened : IsOpened store (passage q w a b)) where
  abbrev over : D → D → Passage
  over x y = passage q w x y

  abbrev db : Database
  db = database_of store

  abbrev before : FileId → List ℕ
  before f = (w.disk a f).bytes

  abbrev same : q.emitted b ≡ q.emitted a
  same = opened.pending.unseen.emitted

  still_here : (c : Image) → IsStill db (q.emitted b) c → IsStill db (q.emitted a) c
  still_here c still = record { found = still.found; emitted = subst (λ (e : Option (List ℕ)). Keeps e (Some c.emitted)) same still.emitted }

  rest_here : w.told → (c : Image) → IsImageOf (w.disk b) (q.emitted b) c → IsStill db (q.emitted a) c
  rest_here t c image = still_here c (record { found = found_settled (w.disk b) store (opened.opens.stands t) c.files image.files; emitted = image.emitted })

  nothing_said : (c : D) → q.emitted c ≡ q.emitted a → Appends (q.emitted a) (q.emitted c) []
  nothing_said c is = subst (λ (e : Option (List ℕ)). Appends (q.emitted a) e []) (sym is) (Appends-nil (q.emitted a))

  -- it is too long
  overflowed : IsTold (too_long db) 10 (over a b)
  overflowed = record {
    ending = inl (record { own_status = refl; whole_text = nothing_said b same; files = λ t. opened.pending.unseen.reads t; output = opened.pending.unseen.output; device = opened.pending.device });
    moments = λ t. record { between = b; before = untouched_by q w a b opened.pending.unseen t; settled = (opened.opens.stands t).settled; synced = opened.synced t; there = rest_here t; behind = leaves-none w.moment w.left_since b _ };
  }

  pub full_answered : (c : D) → half_limit < length (half_with db) → c ≡ b → Answered (Finds (start w a) Checkpoint) (Err Full) (over a c)
  full_answered c long is = subst (λ (x : D). Answered (Finds (start w a) Checkpoint) (Err Full) (over a x)) (sym is) (inl (too_long db, overflows opened.there long, overflowed))

  pub memory_answered : (command : Command) (c : D) → c ≡ b → Answered (Finds (start w a) command) (Err Memory) (over a c)
  memory_answered command c is = subst (λ (x : D). Answered (Finds (start w a) command) (Err Memory) (over a x)) (sym is) (inr (given_up_there q w a b opened.pending (λ t. syncs_all (opened.synced t))))

  module _ (far : D) (silent : q.emitted far ≡ q.emitted b) (only : w.told → LeavesOnly w.moment w.left_since b far (IsStill db (q.emitted b))) where
    first_moments : w.told → LeavesOnly w.moment w.left_since b far (IsRenewing db before (q.emitted a))
    first_moments t = leaves-weaker w.moment w.left_since (only t) (λ c still. inl (still_here c still))

    opened_at : (c : D) → w.told → LeavesOnly w.moment w.left_since b c (IsRenewing db before (q.emitted a)) → LeavesOnceOpened w.disk q.emitted w.moment w.left_since w.synced_at a c (IsRenewing db before (q.emitted a))
    opened_at c t behind = record { between = b; before = untouched_by q w a b opened.pending.unseen t; settled = (opened.opens.stands t).settled; synced = opened.synced t; there = λ i image. inl (rest_here t i image); behind = behind }

    -- a call on a file failed
    pub stopped_answered : q.output_faults far ≡ q.output_faults b → HasRisen (w.device_faults b) (w.device_faults far) → length (half_with db) ≤ half_limit → (w.told → Holds (λ f. (w.disk far f).bytes) db) → Answered (Finds (start w a) Checkpoint) (Err Device) (over a far)
    stopped_answered quiet risen short reads = inl (
      renewed db,
      renews opened.there short,
      record {
        ending = inr (record {
          cause = inl (refl, subst (λ (n : ℕ). HasRisen n (w.device_faults far)) opened.pending.device risen, quiet ∙ opened.pending.unseen.output);
          front = (0, nothing_said far (silent ∙ same));
          files = λ t. ((λ is. cc (is)), (λ is. cc (is)), (λ is. reads t));
        });
        moments = λ t. opened_at far t (first_moments t);
      },
    )

    module _ (quiet : q.output_faults far ≡ q.output_faults b) (whole_device : w.device_faults far ≡ w.device_faults b) (settled : w.told → (f : FileId) → IsSettled (w.disk far f))
        (selects : w.told → (w.disk far Select).bytes ≡ select_byte (other_half store.half) ∷ []) (printed : w.told → (w.disk far (other_half store.half)).bytes ≡ half_with db) (short : length (half_with db) ≤ half_limit) where
      named : w.told → half_named (select_byte (other_half store.half)) ≡ other_half store.half
      named t = other_named ((opened.opens.stands t).named).0 store.half ((opened.opens.stands t).named).2

      was : w.told → Names (before Select) store.half
      was t = subst (λ (bytes : List ℕ). Names bytes store.half) (opened.pending.unseen.reads t Select) (opened.opens.stands t).named

      -- files with these bytes are renewed
      module _ (t : w.told) (files : FileId → List ℕ) (read : (f : FileId) → files f ≡ (w.disk far f).bytes) where
        held_there : Holds files db
        held_there = holds_renewed db store.half files (read (other_half store.half) ∙ printed t) (read Select ∙ selects t) (named t) (half_holds db (opened.opens.stands t).half.half.catalogue opened.opens.state short)

        renewed_there : IsRenewed db before files
        renewed_there = is_renewed db store.half files (read (other_half store.half) ∙ printed t) (read Select ∙ selects t) (named t) before (was t)

      line_amid : w.told → (c : Image) → IsImageAmid (w.disk far) (q.emitted far) (codes "checkpointed\n") c → IsRenewing db before (q.emitted a) c
      line_amid t c image =
          let read : (f : FileId) → c.files f ≡ (w.disk far f).bytes = λ f. image-settled (w.disk far f) (c.files f) (settled t f) (image.files f) in
          let (n, said) = image.emitted in
          inr (held_there t c.files read, renewed_there t c.files read, (n, subst (λ (e : Option (List ℕ)). Appends e (Some c.emitted) (take n (codes "checkpointed\n"))) (silent ∙ same) said))

      after : (c : D) → KeepsFiles (over far c) → w.told → FilesAfter (renewed db) (over a c)
      after c keeps t =
          let read : (f : FileId) → (w.disk c f).bytes ≡ (w.disk far f).bytes = λ f. ap (λ (d : Disk). d.bytes) (keeps.files t f) in
          (record { settled = λ f. subst IsSettled (sym (keeps.files t f)) (settled t f); holds = held_there t (λ f. (w.disk c f).bytes) read }, renewed_there t (λ f. (w.disk c f).bytes) read)

      -- and then the line was said
      pub renewed_answered : (c : D) (r : Result Ending Stop) → Says (codes "checkpointed\n") r (over far c) → IfOk r (λ ending. ending ≡ Done) → Answered (Finds (start w a) Checkpoint) r (over a c)
      renewed_answered c (Ok ending) says done = inl (
        renewed db,
        renews opened.there short,
        record {
          ending = inl (record {
            own_status = ap number_of_ending done;
            whole_text = subst (λ (e : Option (List ℕ)). Appends e (q.emitted c) (codes "checkpointed\n")) (silent ∙ same) says.whole.0;
            files = after c says.keeps;
            output = says.whole.1 ∙ quiet ∙ opened.pending.unseen.output;
            device = says.keeps.device ∙ whole_device ∙ opened.pending.device;
          });
          moments = λ t. opened_at c t (leaves-on w.moment w.left_since (first_moments t) (says.moments t) (line_amid t));
        },
      )
      renewed_answered c (Err stop) says done =
          subst (λ (s : Stop). Answered (Finds (start w a) Checkpoint) (Err s) (over a c)) (sym says.fault)
          (inl (
            renewed db,
            renews opened.there short,
            record {
              ending = inr (record {
                cause = inr (inl (refl, subst (λ (n : ℕ). HasRisen n (q.output_faults c)) (quiet ∙ opened.pending.unseen.output) says.part.1, says.keeps.device ∙ whole_device ∙ opened.pending.device));
                front = (let (n, said) = says.part.0 in (n, subst (λ (e : Option (List ℕ)). Appends e (q.emitted c) (take n (codes "checkpointed\n"))) (silent ∙ same) said));
                files = λ t. ((λ is. after c says.keeps t), (λ is. cc (is)), (λ is. absurd (eight_not_six is)));
              });
              moments = λ t. opened_at c t (leaves-on w.moment w.left_since (first_moments t) (says.moments t) (line_amid t));
            },
          ))
