-- A weave over an open store is told as its events say.
use Rattle.std.proofs.Common.{◌≡◌, ◌⊎◌, ℕ, Bool, true, false, cond, inl, inr, List, ◌++◌, take, Option, Some, refl, sym, ap, ◌∙◌, subst, append-nil, append_assoc}
use Rattle.std.specs.Io.KnownBytes.{Appends}
use Rattle.hera_causes.specs.declared.traits.Output as output
use Rattle.hera_meaning.specs.Hosts.{Hosts}
use Rattle.hera_meaning.specs.Worlds.{Event}
use Rattle.hera_meaning.specs.Run.{finished, printed, state_after}
use Rattle.hera_codegen.specs.Correct.{IsPrefix}
use Rattle.hera_sessions.specs.Sessions.{Task}
use Rattle.hera_sessions.specs.Weaving.{weave_of}
use Rattle.hera_volume.specs.Time.{LeavesOnly}
use Rattle.hera_volume.specs.declared.outside.Outside as files
use Rattle.hera_volume.proofs.Moments.{leaves-weaker}
use Rattle.hera_store.specs.Databases.{Database, Holds}
use Rattle.hera_store.specs.Standing.{Standing, database_of}
use Rattle.hera_store.proofs.Commits.{stands_holds}
use Rattle.hera_outcome.specs.declared.answer.Stop.{Stop}
use Rattle.hera_outcome.specs.declared.answer.Stop.TheVariants.{Refused, Device, Output, Memory, Full}
use Rattle.hera_outcome.specs.Answers.{number_of_stop}
use Rattle.hera_outcome.specs.Cut.{IsCut, HoldsWith, with_state}
use Rattle.hera_outcome.specs.Outcomes.{Outcome, ends, full, status_of_ended}
use Rattle.hera_outcome.specs.Passages.{Passage, passage, ReadsAmong}
use Rattle.hera_outcome.specs.Told.{StopFaults, IsDone, IsCutShort, IsToldBehind}
use Rattle.hera_run.specs.Fitting.{all_fit, fitting, gate_after}
use Rattle.hera_run.specs.Folder.{outcome_from}
use Rattle.hera_run.proofs.Cuts.{cut-longer}
use Rattle.hera_run.proofs.Fittings.{all_fit-append, fitting-append, fitting-all, fitting-none, all_fit-none, prefix_fitting}
use Rattle.hera_run.proofs.Meaning.{front_printed, faults_full}
use Rattle.hera_woven.specs.Weaving.{IsWhole, report_of}
use Rattle.hera_woven.specs.Going.{Plan, plan_over, events_of, IsWoven, IsFull, IsHeldUp}
use Rattle.hera_woven.proofs.Schedules.{begins_whole, one_whole, weave_longer}

module _ (hosts : Hosts) (tasks : List Task) (order : ℕ) (s : Standing) (schedule : List ℕ) (whole : IsWhole tasks (database_of s).state hosts order schedule) where
  abbrev db : Database
  db = database_of s

  abbrev plan : Plan
  plan = plan_over tasks order s

  abbrev gate : Option ℕ
  gate = Some s.end

  abbrev all : List Event
  all = weave_of tasks db.state schedule hosts

  abbrev done : List Event
  done = fitting gate all

  abbrev ours : Outcome
  ours = outcome_from db s.end (report_of tasks db.state schedule hosts)

  -- ---- all sessions have closed

  module _ (now : Standing) (v : Passage) (w : IsWoven hosts plan now v) where
    all_is : events_of hosts plan w.schedule ≡ all
    all_is = ap (λ (l : List ℕ). weave_of tasks db.state l hosts) (one_whole tasks db.state hosts order w.schedule schedule w.whole whole)

    all_fits : all_fit gate all ≡ true
    all_fits = ap (all_fit gate) (sym all_is) ∙ w.fit

    done_is : events_of hosts plan w.schedule ≡ done
    done_is = all_is ∙ sym (fitting-all gate all all_fits)

    after : database_of now ≡ with_state db (state_after db.state done)
    after = w.stored ∙ ap (λ (es : List Event). with_state db (state_after db.state es)) done_is

    woven_done : IsDone ours 0 v
    woven_done = record {
      own_status = ap (λ (b : Bool). status_of_ended (cond b (ends finished) full)) (sym all_fits);
      whole_text = subst (λ (l : List ℕ). Appends v.emitted_before v.emitted_now l) (ap printed done_is) w.done.said;
      files = λ t. record { settled = (w.done.stands t).settled; holds = subst (λ (x : Database). Holds (λ f. (v.disks_now f).bytes) x) after (stands_holds v.disks_now now (w.done.stands t)) };
      output = w.done.output;
      device = w.done.device;
    }

    pub woven_told : IsToldBehind ours 0 v
    woven_told = record {
      ending = inl woven_done;
      moments = λ t. subst (λ (es : List Event). v.leaves_only (IsCut es db v.emitted_before)) done_is (w.done.moments t);
    }

  -- ---- it was stopped

  module _ (now : Standing) (v : Passage) (stop : Stop) (h : IsHeldUp hosts plan now v stop) where
    rest_of : (rest : List ℕ) × (h.schedule ++ rest ≡ schedule)
    rest_of = begins_whole tasks db.state hosts order h.schedule schedule h.ordered whole

    more_of : (more : List Event) × (events_of hosts plan h.schedule ++ more ≡ weave_of tasks db.state (h.schedule ++ rest_of.0) hosts)
    more_of = weave_longer tasks db.state hosts h.schedule rest_of.0

    joined : h.events ++ (h.next ++ more_of.0) ≡ all
    joined = sym (append_assoc h.events h.next more_of.0) ∙ ap (λ (es : List Event). es ++ more_of.0) h.reaches ∙ more_of.1 ∙ ap (λ (l : List ℕ). weave_of tasks db.state l hosts) rest_of.1

    pub first_done : IsPrefix h.events done
    first_done = prefix_fitting gate h.events all (record { rest = h.next ++ more_of.0; joined = joined }) h.fit

    front_said : (n : ℕ) × Appends v.emitted_before v.emitted_now (take n (printed done))
    front_said =
        let front = front_printed h.events done h.part.0 first_done in
        (front.0, subst (λ (l : List ℕ). Appends v.emitted_before v.emitted_now l) front.1 h.part.1)

    -- at a commit that does not fit
    module _ (is : stop ≡ Full) where
      past : IsFull hosts plan h.events h.next now v
      past = h.full is

      done_here : done ≡ h.events
      done_here =
          ap (fitting gate) (sym joined) ∙ fitting-append gate h.events (h.next ++ more_of.0) h.fit
          ∙ ap (λ (es : List Event). h.events ++ es) (fitting-none (gate_after gate h.events) h.next more_of.0 past.past) ∙ append-nil h.events

      over_full : all_fit gate all ≡ false
      over_full = ap (all_fit gate) (sym joined) ∙ all_fit-append gate h.events (h.next ++ more_of.0) h.fit ∙ all_fit-none (gate_after gate h.events) h.next more_of.0 past.past

      stored_here : database_of now ≡ with_state db (state_after db.state done)
      stored_here = past.stored ∙ ap (λ (es : List Event). with_state db (state_after db.state es)) (sym done_here)

      full_done : IsDone ours 10 v
      full_done =
          let quiet = faults_full stop v is h.faults in
          record {
            own_status = ap (λ (b : Bool). status_of_ended (cond b (ends finished) full)) (sym over_full);
            whole_text = subst (λ (l : List ℕ). Appends v.emitted_before v.emitted_now l) (ap printed (sym done_here)) past.said;
            files = λ t. record { settled = (past.stands t).settled; holds = subst (λ (x : Database). Holds (λ f. (v.disks_now f).bytes) x) stored_here (stands_holds v.disks_now now (past.stands t)) };
            output = quiet.0;
            device = quiet.1;
          }

    pub held_ending : (v.told → ReadsAmong (IsCut done db v.emitted_before) v) → IsDone ours (number_of_stop stop) v ⊎ IsCutShort ours (number_of_stop stop) v
    held_ending reads = by stop h.faults full_done
      where
        by : (e : Stop) → StopFaults e v → (e ≡ Full → IsDone ours 10 v) → IsDone ours (number_of_stop e) v ⊎ IsCutShort ours (number_of_stop e) v
        by (Refused refusal) faults whole_of = absurd faults
        by Device (rose, still) whole_of = inr (record { cause = inl (refl, rose, still); front = front_said; files = reads })
        by Output (rose, still) whole_of = inr (record { cause = inr (inl (refl, rose, still)); front = front_said; files = reads })
        by Memory (fine, sound) whole_of = inr (record { cause = inr (inr (refl, fine, sound)); front = front_said; files = reads })
        by Full faults whole_of = inl (whole_of refl)

  module _ {D : Type 0} (q : output.Ghosts D) (w : files.Ghosts D) (a b : D) (now : Standing) (stop : Stop) (h : IsHeldUp hosts plan now (passage q w a b) stop) where
    pub held_moments : w.told → LeavesOnly w.moment w.left_since a b (IsCut done db (q.emitted a))
    held_moments t =
        let first = first_done now (passage q w a b) stop h in
        leaves-weaker w.moment w.left_since (h.moments t) (λ image cut. cut-longer (HoldsWith db) h.events first.rest done db.state (q.emitted a) image first.joined cut)

    pub held_told : (w.told → ReadsAmong (IsCut done db (q.emitted a)) (passage q w a b)) → IsToldBehind ours (number_of_stop stop) (passage q w a b)
    held_told reads = record { ending = held_ending now (passage q w a b) stop h reads; moments = held_moments }
