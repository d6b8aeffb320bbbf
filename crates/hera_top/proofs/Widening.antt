-- A widening: the database before it, and the widened one.
use Rattle.std.proofs.Common.{◌≡◌, ◌≤◌, ◌<◌, ◌⊎◌, ℕ, inl, inr, List, [], length, take, Option, Some, Result, Ok, Err, IfOk, refl, sym, ap, ◌∙◌, subst}
use Rattle.std.specs.Prelude.{codes}
use Rattle.std.specs.Io.KnownBytes.{Appends, Keeps}
use Rattle.std.proofs.KnownBytes.{Appends-nil}
use Rattle.hera_causes.specs.declared.traits.Output as output
use Rattle.hera_meaning.specs.declared.schemas.RelDecl.{RelDecl}
use Rattle.hera_meaning.specs.Wider.{Wider, first_narrowed}
use Rattle.rel_format.specs.Journal.{half_limit}
use Rattle.hera_volume.specs.Disk.{Disk, IsSettled}
use Rattle.hera_volume.specs.Time.{Image, IsImageOf, IsImageAmid, LeavesOnly}
use Rattle.hera_volume.specs.declared.file_id.FileId.{FileId}
use Rattle.hera_volume.specs.declared.outside.Outside as files
use Rattle.hera_volume.proofs.Images.{image-settled}
use Rattle.hera_volume.proofs.Moments.{leaves-none, leaves-on, leaves-weaker}
use Rattle.hera_store.specs.Databases.{Database, Holds}
use Rattle.hera_store.specs.Faults.{half_with}
use Rattle.hera_store.specs.Moments.{IsStill, IsEither}
use Rattle.hera_store.specs.Standing.{Standing, database_of}
use Rattle.hera_store.specs.Widened.{widened as widened_to}
use Rattle.hera_outcome.specs.declared.answer.Ending.{Ending}
use Rattle.hera_outcome.specs.declared.answer.Ending.TheVariants.{Done}
use Rattle.hera_outcome.specs.declared.answer.Stop.{Stop}
use Rattle.hera_outcome.specs.declared.answer.Stop.TheVariants.{Refused, Device, Output, Memory, Full}
use Rattle.hera_outcome.specs.declared.refusal.Refusal.TheVariants.{Narrows}
use Rattle.hera_outcome.specs.Answers.{number_of_ending}
use Rattle.hera_outcome.specs.Outcomes.{widened, too_long, IsWidening}
use Rattle.hera_outcome.specs.Passages.{Passage, passage, start, start_of, LeavesOnceOpened, KeepsFiles, Stores, syncs_all}
use Rattle.hera_outcome.specs.Told.{HasRisen, Says, IsTold, Answered}
use Rattle.hera_outcome.proofs.Passing.{untouched_by, given_up_there}
use Rattle.hera_run.specs.Opening.{IsOpened, IsUnopened}
use Rattle.hera_top.specs.Commands.{IsWidened, is_shut, is_narrowed, is_wide, is_too_wide}
use Rattle.hera_top.proofs.Making.{holds_same}
use Rattle.hera_top.proofs.Renewing.{found_settled}

eight_not_six : ◌≡◌ {A = ℕ} 8 6 → ⊥
eight_not_six is = cc (is)

-- why a folder was not opened
pub unopened_answered : (rels : List RelDecl) (stop : Stop) (v : Passage) → IsUnopened stop v → Answered (IsWidened rels (start_of v)) (Err stop) v
unopened_answered rels (Refused refusal) v (shut, pending) = (is_shut shut, pending)
unopened_answered rels Device v up = inr up
unopened_answered rels Output v none = absurd none
unopened_answered rels Memory v up = inr up
unopened_answered rels Full v none = absurd none

-- an opening from a to b, and then the widening from b to far
module _ {D : Type 0} (q : output.Ghosts D) (w : files.Ghosts D) (a b : D) (store : Standing) (opened : IsOpened store (passage q w a b)) (rels : List RelDecl) where
  abbrev over : D → D → Passage
  over x y = passage q w x y

  abbrev old : Database
  old = database_of store

  abbrev new : Database
  new = widened_to old rels

  abbrev same : q.emitted b ≡ q.emitted a
  same = opened.pending.unseen.emitted

  kept_here : (c : Image) → Keeps (q.emitted b) (Some c.emitted) → Keeps (q.emitted a) (Some c.emitted)
  kept_here c kept = subst (λ (e : Option (List ℕ)). Keeps e (Some c.emitted)) same kept

  rest_here : w.told → (c : Image) → IsImageOf (w.disk b) (q.emitted b) c → IsStill old (q.emitted a) c
  rest_here t c image = record { found = found_settled (w.disk b) store (opened.opens.stands t) c.files image.files; emitted = kept_here c image.emitted }

  nothing_said : (c : D) → q.emitted c ≡ q.emitted a → Appends (q.emitted a) (q.emitted c) []
  nothing_said c is = subst (λ (e : Option (List ℕ)). Appends (q.emitted a) e []) (sym is) (Appends-nil (q.emitted a))

  -- it is too long
  overflowed : IsTold (too_long old) 10 (over a b)
  overflowed = record {
    ending = inl (record { own_status = refl; whole_text = nothing_said b same; files = λ t. opened.pending.unseen.reads t; output = opened.pending.unseen.output; device = opened.pending.device });
    moments = λ t. record { between = b; before = untouched_by q w a b opened.pending.unseen t; settled = (opened.opens.stands t).settled; synced = opened.synced t; there = rest_here t; behind = leaves-none w.moment w.left_since b _ };
  }

  pub full_answered : (c : D) → Wider old.catalogue rels → half_limit < length (half_with new) → c ≡ b → Answered (IsWidened rels (start w a)) (Err Full) (over a c)
  full_answered c wider long is = subst (λ (x : D). Answered (IsWidened rels (start w a)) (Err Full) (over a x)) (sym is) (inl (too_long old, is_too_wide opened.there wider long, overflowed))

  pub narrowed_answered : (c : D) (relation : List ℕ) → first_narrowed old.catalogue rels ≡ Some relation → c ≡ b → Answered (IsWidened rels (start w a)) (Err (Refused (Narrows relation))) (over a c)
  narrowed_answered c relation first is = subst (λ (x : D). Answered (IsWidened rels (start w a)) (Err (Refused (Narrows relation))) (over a x)) (sym is) (is_narrowed opened.there first, opened.pending)

  pub memory_answered : (c : D) → c ≡ b → Answered (IsWidened rels (start w a)) (Err Memory) (over a c)
  memory_answered c is = subst (λ (x : D). Answered (IsWidened rels (start w a)) (Err Memory) (over a x)) (sym is) (inr (given_up_there q w a b opened.pending (λ t. syncs_all (opened.synced t))))

  module _ (far : D) (silent : q.emitted far ≡ q.emitted b) (only : w.told → LeavesOnly w.moment w.left_since b far (IsEither old new (q.emitted b))) (wider : Wider old.catalogue rels) (short : length (half_with new) ≤ half_limit)
      (quiet : q.output_faults far ≡ q.output_faults b) where
    first_moments : w.told → LeavesOnly w.moment w.left_since b far (IsWidening old new (q.emitted a))
    first_moments t = leaves-weaker w.moment w.left_since (only t) (λ c either. inl (record { found = either.found; emitted = kept_here c either.emitted }))

    rest_either : w.told → (c : Image) → IsImageOf (w.disk b) (q.emitted b) c → IsWidening old new (q.emitted a) c
    rest_either t c image = (let still = rest_here t c image in inl (record { found = inl still.found; emitted = still.emitted }))

    opened_at : (c : D) → w.told → LeavesOnly w.moment w.left_since b c (IsWidening old new (q.emitted a)) → LeavesOnceOpened w.disk q.emitted w.moment w.left_since w.synced_at a c (IsWidening old new (q.emitted a))
    opened_at c t behind = record { between = b; before = untouched_by q w a b opened.pending.unseen t; settled = (opened.opens.stands t).settled; synced = opened.synced t; there = rest_either t; behind = behind }

    -- a call on a file failed
    pub stopped_answered : HasRisen (w.device_faults b) (w.device_faults far) → (w.told → Holds (λ f. (w.disk far f).bytes) old ⊎ Holds (λ f. (w.disk far f).bytes) new) → Answered (IsWidened rels (start w a)) (Err Device) (over a far)
    stopped_answered risen reads = inl (
      widened old new,
      is_wide opened.there wider short,
      record {
        ending = inr (record {
          cause = inl (refl, subst (λ (n : ℕ). HasRisen n (w.device_faults far)) opened.pending.device risen, quiet ∙ opened.pending.unseen.output);
          front = (0, nothing_said far (silent ∙ same));
          files = λ t. ((λ is. cc (is)), (λ is. cc (is)), (λ is. reads t));
        });
        moments = λ t. opened_at far t (first_moments t);
      },
    )

    module _ (whole_device : w.device_faults far ≡ w.device_faults b) (settled : w.told → (f : FileId) → IsSettled (w.disk far f)) (holds : w.told → Holds (λ f. (w.disk far f).bytes) new) where
      line_amid : w.told → (c : Image) → IsImageAmid (w.disk far) (q.emitted far) (codes "widened\n") c → IsWidening old new (q.emitted a) c
      line_amid t c image =
          let read : (f : FileId) → c.files f ≡ (w.disk far f).bytes = λ f. image-settled (w.disk far f) (c.files f) (settled t f) (image.files f) in
          let (n, said) = image.emitted in
          inr (holds_same (λ f. (w.disk far f).bytes) c.files new read (holds t), (n, subst (λ (e : Option (List ℕ)). Appends e (Some c.emitted) (take n (codes "widened\n"))) (silent ∙ same) said))

      after : (c : D) → KeepsFiles (over far c) → w.told → Stores new (over a c)
      after c keeps t = record {
        settled = λ f. subst IsSettled (sym (keeps.files t f)) (settled t f);
        holds = holds_same (λ f. (w.disk far f).bytes) (λ f. (w.disk c f).bytes) new (λ f. ap (λ (d : Disk). d.bytes) (keeps.files t f)) (holds t);
      }

      -- and then the line was said
      pub widened_answered : (c : D) (r : Result Ending Stop) → Says (codes "widened\n") r (over far c) → IfOk r (λ ending. ending ≡ Done) → Answered (IsWidened rels (start w a)) r (over a c)
      widened_answered c (Ok ending) says done = inl (
        widened old new,
        is_wide opened.there wider short,
        record {
          ending = inl (record {
            own_status = ap number_of_ending done;
            whole_text = subst (λ (e : Option (List ℕ)). Appends e (q.emitted c) (codes "widened\n")) (silent ∙ same) says.whole.0;
            files = after c says.keeps;
            output = says.whole.1 ∙ quiet ∙ opened.pending.unseen.output;
            device = says.keeps.device ∙ whole_device ∙ opened.pending.device;
          });
          moments = λ t. opened_at c t (leaves-on w.moment w.left_since (first_moments t) (says.moments t) (line_amid t));
        },
      )
      widened_answered c (Err stop) says done =
          subst (λ (s : Stop). Answered (IsWidened rels (start w a)) (Err s) (over a c)) (sym says.fault)
          (inl (
            widened old new,
            is_wide opened.there wider short,
            record {
              ending = inr (record {
                cause = inr (inl (refl, subst (λ (n : ℕ). HasRisen n (q.output_faults c)) (quiet ∙ opened.pending.unseen.output) says.part.1, says.keeps.device ∙ whole_device ∙ opened.pending.device));
                front = (let (n, said) = says.part.0 in (n, subst (λ (e : Option (List ℕ)). Appends e (q.emitted c) (take n (codes "widened\n"))) (silent ∙ same) said));
                files = λ t. ((λ is. after c says.keeps t), (λ is. cc (is)), (λ is. absurd (eight_not_six is)));
              });
              moments = λ t. opened_at c t (leaves-on w.moment w.left_since (first_moments t) (says.moments t) (line_amid t));
            },
          ))
