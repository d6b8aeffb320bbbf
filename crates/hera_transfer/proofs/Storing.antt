-- One delta is stored, and then a line is told.
use Rattle.std.proofs.Common.{◌≡◌, ⊎_elim, ℕ, Bool, true, false, ◌&&◌, cond, inl, inr, List, [], ◌∷◌, ◌++◌, take, Option, Some, Result, Ok, Err, IfOk, IfErr, refl, sym, ap, ◌∙◌, subst, append-nil}
use Rattle.std.specs.Io.KnownBytes.{Appends}
use Rattle.std.proofs.KnownBytes.{Appends-nil}
use Rattle.hera_causes.specs.declared.traits.Output as output
use Rattle.hera_meaning.specs.Deltas.{Delta, State, apply_of}
use Rattle.hera_meaning.specs.Run.{printed, finished}
use Rattle.hera_meaning.specs.Worlds.{Event, out, store}
use Rattle.hera_volume.specs.Disk.{IsSettled}
use Rattle.hera_volume.specs.Time.{Image, IsImageAmid, LeavesOnly}
use Rattle.hera_volume.specs.declared.file_id.FileId.{FileId}
use Rattle.hera_volume.specs.declared.outside.Outside as files
use Rattle.hera_volume.proofs.Moments.{leaves-none, leaves-weaker, leaves-on}
use Rattle.hera_store.specs.Databases.{Database, Holds}
use Rattle.hera_store.specs.Standing.{Standing, StandsFor, database_of}
use Rattle.hera_store.proofs.Commits.{stands_holds, stands_still}
use Rattle.hera_outcome.specs.declared.answer.Ending.{Ending}
use Rattle.hera_outcome.specs.declared.answer.Ending.TheVariants.{Done}
use Rattle.hera_outcome.specs.declared.answer.Stop.{Stop}
use Rattle.hera_outcome.specs.declared.answer.Stop.TheVariants.{Refused, Device, Output, Memory, Full}
use Rattle.hera_outcome.specs.Answers.{number_of, number_of_ending, number_of_stop, IsFault}
use Rattle.hera_outcome.specs.Cut.{IsCut, HoldsWith, with_state}
use Rattle.hera_outcome.specs.Outcomes.{Outcome, carried, ends, full}
use Rattle.hera_outcome.specs.Passages.{Passage, passage, ReadsAmong, KeepsFiles, Stores}
use Rattle.hera_outcome.specs.Told.{HasRisen, StopFaults, Says, IsCause, IsToldBehind}
use Rattle.hera_run.specs.Fitting.{fits}
use Rattle.hera_run.specs.Folder.{outcome_from}
use Rattle.hera_run.specs.Keeping.{AreLeft, finds_settled}
use Rattle.hera_run.proofs.Cuts.{cut-longer, cut-behind}
use Rattle.hera_run.proofs.Fittings.{true_or_false, no_truth}
use Rattle.hera_run.proofs.Images.{cut-said, database_more}
use Rattle.hera_transfer.specs.Transfers.{stored_and_told}

-- a line that was said is no refusal
pub said_fault : (line : List ℕ) (r : Result Ending Stop) (v : Passage) → Says line r v → IfErr r IsFault
said_fault line (Ok ending) v says = tt
said_fault line (Err stop) v says = subst IsFault (sym says.fault) tt

module _ (s : Standing) (d : Delta) (line : List ℕ) where
  abbrev db : Database
  db = database_of s

  abbrev here : State
  here = apply_of db.state d

  abbrev stored : List Event
  stored = store here d ∷ []

  abbrev both : List Event
  both = store here d ∷ out line ∷ []

  abbrev ours : Outcome
  ours = outcome_from db s.end (stored_and_told db.state d line)

  abbrev by_fit : Bool → Outcome
  by_fit b = carried db (cond b both []) (cond (b && true) (ends finished) full)

  abbrev whole : Outcome
  whole = carried db both (ends finished)

  abbrev none : Outcome
  none = carried db [] full

  is_whole : fits (Some s.end) d ≡ true → ours ≡ whole
  is_whole fit = ap by_fit fit

  is_none : fits (Some s.end) d ≡ false → ours ≡ none
  is_none past = ap by_fit past

  module _ {D : Type 0} (q : output.Ghosts D) (w : files.Ghosts D) (a b : D) (stands : w.told → StandsFor (w.disk a) s)
      (read : (events : List Event) (c : D) → w.told → LeavesOnly w.moment w.left_since a c (IsCut events db (q.emitted a)) → ReadsAmong (IsCut events db (q.emitted a)) (passage q w a c))
      (silent : q.emitted b ≡ q.emitted a) (only : w.told → LeavesOnly w.moment w.left_since a b (IsCut stored db (q.emitted a))) where
    abbrev over : D → D → Passage
    over x y = passage q w x y

    nothing : Appends (q.emitted a) (q.emitted b) []
    nothing = subst (λ (e : Option (List ℕ)). Appends (q.emitted a) e []) (sym silent) (Appends-nil (q.emitted a))

    stored_moments : w.told → LeavesOnly w.moment w.left_since a b (IsCut both db (q.emitted a))
    stored_moments t = leaves-weaker w.moment w.left_since (only t) (λ image cut. cut-longer (HoldsWith db) stored (out line ∷ []) both db.state (q.emitted a) image refl cut)

    -- ---- it was not stored

    cut_short : (status : ℕ) → IsCause status (over a b) → IsToldBehind whole status (over a b)
    cut_short status cause = record {
      ending = inr (record { cause = cause; front = (0, nothing); files = λ t. read both b t (stored_moments t) });
      moments = stored_moments;
    }

    stop_cause : (stop : Stop) → StopFaults stop (over a b) → (stop ≡ Full → ⊥) → IsCause (number_of_stop stop) (over a b)
    stop_cause (Refused refusal) faults other = absurd faults
    stop_cause Device faults other = inl (refl, faults.0, faults.1)
    stop_cause Output faults other = inr (inl (refl, faults.0, faults.1))
    stop_cause Memory faults other = inr (inr (refl, faults.0, faults.1))
    stop_cause Full faults other = absurd (other refl)

    -- nothing was done
    module _ (is : b ≡ a) where
      none_moments : w.told → LeavesOnly w.moment w.left_since a b (IsCut [] db (q.emitted a))
      none_moments t = subst (λ (x : D). LeavesOnly w.moment w.left_since a x (IsCut [] db (q.emitted a))) (sym is) (leaves-none w.moment w.left_since a (IsCut [] db (q.emitted a)))

      none_short : (status : ℕ) → IsCause status (over a b) → IsToldBehind none status (over a b)
      none_short status cause = record {
        ending = inr (record { cause = cause; front = (0, nothing); files = λ t. read [] b t (none_moments t) });
        moments = none_moments;
      }

      still_stands : w.told → StandsFor (w.disk b) s
      still_stands t = subst (λ (x : D). StandsFor (w.disk x) s) (sym is) (stands t)

      overfull : StopFaults Full (over a b) → IsToldBehind none 10 (over a b)
      overfull faults = record {
        ending = inl (record {
          own_status = refl;
          whole_text = nothing;
          files = λ t. record { settled = (still_stands t).settled; holds = stands_holds (w.disk b) s (still_stands t) };
          output = faults.0;
          device = faults.1;
        });
        moments = none_moments;
      }

      stopped_none : (stop : Stop) → StopFaults stop (over a b) → IsToldBehind none (number_of_stop stop) (over a b)
      stopped_none (Refused refusal) faults = absurd faults
      stopped_none Device faults = none_short 6 (stop_cause Device faults (λ h. cc (h)))
      stopped_none Output faults = none_short 8 (stop_cause Output faults (λ h. cc (h)))
      stopped_none Memory faults = none_short 9 (stop_cause Memory faults (λ h. cc (h)))
      stopped_none Full faults = overfull faults

    pub stopped_told : (stop : Stop) → StopFaults stop (over a b) → (stop ≡ Full → fits (Some s.end) d ≡ false) → (fits (Some s.end) d ≡ false → b ≡ a) → IsToldBehind ours (number_of_stop stop) (over a b)
    stopped_told stop faults past same =
        ⊎_elim
        (λ (fit : fits (Some s.end) d ≡ true). subst (λ (o : Outcome). IsToldBehind o (number_of_stop stop) (over a b)) (sym (is_whole fit))
        (cut_short (number_of_stop stop) (stop_cause stop faults (λ is. no_truth (sym (past is) ∙ fit)))))
        (λ (long : fits (Some s.end) d ≡ false). subst (λ (o : Outcome). IsToldBehind o (number_of_stop stop) (over a b)) (sym (is_none long)) (stopped_none (same long) stop faults))
        (true_or_false (fits (Some s.end) d))

    -- ---- it was stored

    module _ (now : Standing) (there : w.told → StandsFor (w.disk b) now) (base : now.base ≡ s.base) (commits : now.commits ≡ s.commits ++ d ∷ []) (fit : fits (Some s.end) d ≡ true)
        (quiet : (q.output_faults b ≡ q.output_faults a) × (w.device_faults b ≡ w.device_faults a)) where
      more : database_of now ≡ with_state db here
      more = database_more s now d db base commits refl

      found : w.told → (f : FileId → List ℕ) → AreLeft (w.disk b) f → HoldsWith db f here
      found t f left = subst (λ (x : Database). Holds f x) more (finds_settled (w.disk b) now f (there t) left)

      line_cut : w.told → (image : Image) → IsImageAmid (w.disk b) (q.emitted b) line image → IsCut both db (q.emitted a) image
      line_cut t image amid =
          cut-behind (HoldsWith db) stored (out line ∷ []) db.state here (q.emitted a) (q.emitted b) image nothing refl
          (cut-said (HoldsWith db) (w.disk b) here (found t) (q.emitted b) image line amid)

      both_moments : (c : D) → (w.told → LeavesOnly w.moment w.left_since b c (IsImageAmid (w.disk b) (q.emitted b) line)) → w.told → LeavesOnly w.moment w.left_since a c (IsCut both db (q.emitted a))
      both_moments c said t = leaves-on w.moment w.left_since (stored_moments t) (said t) (λ image amid. line_cut t image amid)

      after : (c : D) → KeepsFiles (over b c) → w.told → Stores (with_state db here) (over a c)
      after c keeps t = record {
        settled = λ f. subst IsSettled (sym (keeps.files t f)) ((there t).settled f);
        holds = subst (λ (x : Database). Holds (λ f. (w.disk c f).bytes) x) more (stands_holds (w.disk c) now (stands_still (w.disk b) (w.disk c) now (keeps.files t) (there t)));
      }

      text_is : line ≡ printed both
      text_is = sym (append-nil line)

      pub stored_told : (c : D) (r : Result Ending Stop) → Says line r (over b c) → IfOk r (λ ending. ending ≡ Done) → IsToldBehind ours (number_of r) (over a c)
      stored_told c (Ok ending) says done = subst (λ (o : Outcome). IsToldBehind o (number_of_ending ending) (over a c)) (sym (is_whole fit)) (record {
        ending = inl (record {
          own_status = ap number_of_ending done;
          whole_text = subst (λ (e : Option (List ℕ)). Appends e (q.emitted c) (printed both)) silent (subst (λ (l : List ℕ). Appends (q.emitted b) (q.emitted c) l) text_is says.whole.0);
          files = λ t. after c says.keeps t;
          output = says.whole.1 ∙ quiet.0;
          device = says.keeps.device ∙ quiet.1;
        });
        moments = both_moments c says.moments;
      })
      stored_told c (Err stop) says done =
          subst (λ (o : Outcome). IsToldBehind o (number_of_stop stop) (over a c)) (sym (is_whole fit))
          (subst (λ (x : Stop). IsToldBehind whole (number_of_stop x) (over a c)) (sym says.fault) (record {
            ending = inr (record {
              cause = inr (inl (refl, subst (λ (n : ℕ). HasRisen n (q.output_faults c)) quiet.0 says.part.1, says.keeps.device ∙ quiet.1));
              front = (let (n, said) = says.part.0 in (n, subst (λ (e : Option (List ℕ)). Appends e (q.emitted c) (take n (printed both))) silent (subst (λ (l : List ℕ). Appends (q.emitted b) (q.emitted c) (take n l)) text_is said)));
              files = λ t. read both c t (both_moments c says.moments t);
            });
            moments = both_moments c says.moments;
          }))
