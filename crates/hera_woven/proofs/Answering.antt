-- What a weave over a folder answers, of what was answered on the way.
use Rattle.std.proofs.Common.{◌≡◌, ◌⊎◌, ⊎_elim, ℕ, inl, inr, List, [], take, Option, Some, Result, Err, IfErr, refl, ◌∙◌, sym, subst}
use Rattle.std.specs.Io.KnownBytes.{Appends}
use Rattle.std.proofs.KnownBytes.{Appends-nil}
use Rattle.hera_causes.specs.declared.traits.Output as output
use Rattle.hera_meaning.specs.declared.schemas.RelDecl.{RelDecl}
use Rattle.hera_meaning.specs.Trees.{Program_tree}
use Rattle.hera_meaning.specs.Worlds.{Event}
use Rattle.hera_host.specs.Tables.{Host, specs_of}
use Rattle.hera_bind.specs.Having.{AllHas}
use Rattle.hera_bind.proofs.Found.{all_no_difference}
use Rattle.hera_sessions.specs.Sessions.{Task}
use Rattle.hera_volume.specs.Time.{Image, LeavesOnly}
use Rattle.hera_volume.specs.declared.outside.Outside as files
use Rattle.hera_store.specs.Databases.{Database}
use Rattle.hera_store.specs.Standing.{Standing, database_of}
use Rattle.hera_outcome.specs.declared.answer.Ending.{Ending}
use Rattle.hera_outcome.specs.declared.answer.Stop.{Stop}
use Rattle.hera_outcome.specs.declared.answer.Stop.TheVariants.{Refused, Device, Output, Memory, Full}
use Rattle.hera_outcome.specs.Answers.{number_of, IsFault}
use Rattle.hera_outcome.specs.Cut.{IsCut}
use Rattle.hera_outcome.specs.Outcomes.{Outcome, too_long, text_of_outcome}
use Rattle.hera_outcome.specs.Passages.{Passage, passage, start, LeavesOnceOpened, ReadsAmong, syncs_all}
use Rattle.hera_outcome.specs.Told.{IsCause, IsDone, IsCutShort, IsToldBehind, Tells, Answered}
use Rattle.hera_outcome.proofs.Passing.{given_up_none, given_up_there, cause_by, answered_by}
use Rattle.hera_run.specs.Fitting.{fitting}
use Rattle.hera_run.specs.Folder.{outcome_from}
use Rattle.hera_run.specs.Opening.{IsFoundFor, IsReady, IsUnready}
use Rattle.hera_run.proofs.Readied.{cut_still, once_weaker, once_longer}
use Rattle.hera_woven.specs.Weaving.{relations_of, all_bound, tasks_of, IsWhole, report_of, WeavesTo, closed, differs, overflows, weaves}
use Rattle.hera_woven.specs.Binding.{IsUnbound, lacks, short}
use Rattle.hera_woven.proofs.Schedules.{some_whole}

module _ {D : Type 0} (q : output.Ghosts D) (w : files.Ghosts D) (read : (a c : D) (P : Image → Type 0) → w.told → LeavesOnceOpened w.disk q.emitted w.moment w.left_since w.synced_at a c P → ReadsAmong P (passage q w a c))
    (hosts : List Host) (turns order : ℕ) (ps : List Program_tree) where
  abbrev over : D → D → Passage
  over a b = passage q w a b

  abbrev own : List RelDecl
  own = relations_of ps

  abbrev Comes : D → Outcome → Type 0
  Comes a = WeavesTo hosts turns order ps (start w a)

  abbrev sessions : Database → List Task
  sessions db = tasks_of turns (all_bound db.catalogue ps)

  -- the schedule of the number over this database
  schedule_over : (db : Database) → (schedule : List ℕ) × IsWhole (sessions db) db.state (specs_of hosts) order schedule
  schedule_over db = some_whole (sessions db) db.state (specs_of hosts) order

  abbrev outcome_by : Database → (gate : ℕ) → (schedule : List ℕ) → Outcome
  outcome_by db gate schedule = outcome_from db gate (report_of (sessions db) db.state schedule (specs_of hosts))

  -- before the folder was opened
  pub nothing_answered : (a : D) → Answered (Comes a) (Err Memory) (over a a)
  nothing_answered a = inr (given_up_none q w a)

  -- it was cut short before the first event
  cut_before : (a c : D) (status : ℕ) → IsFoundFor own (over a c) → IsCause status (over a c) → q.emitted c ≡ q.emitted a → Tells (Comes a) status (over a c)
  cut_before a c status found cause same =
      let whole = schedule_over found.db in
      inl (
        outcome_by found.db found.gate whole.0,
        weaves found.there found.starts found.has whole.1,
        record {
          ending = inr (record { cause = cause; front = (0, subst (λ (e : Option (List ℕ)). Appends (q.emitted a) e []) (sym same) (Appends-nil (q.emitted a))); files = λ t. read a c _ t (once_weaker q w a c _ _ (λ i still. cut_still q w found.db _ (q.emitted a) i still) (found.moments t)) });
          moments = λ t. once_weaker q w a c _ _ (λ i still. cut_still q w found.db _ (q.emitted a) i still) (found.moments t);
        },
      )

  pub unready_answered : (a c : D) (stop : Stop) → IsUnready own stop (over a c) → Answered (Comes a) (Err stop) (over a c)
  unready_answered a c (Refused r) (shut, pend) = (closed shut, pend)
  unready_answered a c Device (inl up) = inr up
  unready_answered a c Device (inr (found, cause, same)) = cut_before a c 6 found cause same
  unready_answered a c Output none = absurd none
  unready_answered a c Memory (inl up) = inr up
  unready_answered a c Memory (inr (found, cause, same)) = cut_before a c 9 found cause same
  unready_answered a c Full (db, there, over_full, has, pend, stored, still) = inl (
    too_long db,
    overflows there over_full has,
    record {
      ending = inl (record {
        own_status = refl;
        whole_text = subst (λ (e : Option (List ℕ)). Appends (q.emitted a) e []) (sym pend.unseen.emitted) (Appends-nil (q.emitted a));
        files = pend.unseen.reads;
        output = pend.unseen.output;
        device = pend.device;
      });
      moments = still;
    },
  )

  module _ (a b : D) (s : Standing) (ready : IsReady own s (over a b)) where
    abbrev db : Database
    db = database_of s

    memory_answered : Answered (Comes a) (Err Memory) (over a b)
    memory_answered =
        ⊎_elim (λ (pend, synced). inr (given_up_there q w a b pend (λ t. syncs_all (synced t))))
        (λ found. cut_before a b 9 found (inr (inr (refl, ready.quiet.output, ready.quiet.device))) ready.quiet.emitted) ready.so_far

    pub unbound_answered : (stop : Stop) → IsUnbound s.base.catalogue own stop → Answered (Comes a) (Err stop) (over a b)
    unbound_answered _ (lacks {name = name} lacking) = (differs ready.there lacking, ready.lacks (λ has. all_no_difference s.base.catalogue own name has lacking))
    unbound_answered _ short = memory_answered

    module _ (has : AllHas s.base.catalogue own) where
      abbrev schedule : List ℕ
      schedule = (schedule_over db).0

      abbrev ours : Outcome
      ours = outcome_by db s.end schedule

      abbrev our_events : List Event
      our_events = fitting (Some s.end) (report_of (sessions db) db.state schedule (specs_of hosts)).events

      said_before : (text : List ℕ) (c : D) → Appends (q.emitted b) (q.emitted c) text → Appends (q.emitted a) (q.emitted c) text
      said_before text c said = subst (λ (e : Option (List ℕ)). Appends e (q.emitted c) text) ready.quiet.emitted said

      ending_quiet : (c : D) (status : ℕ) → (w.told → ReadsAmong (IsCut our_events db (q.emitted a)) (over a c)) → IsDone ours status (over b c) ⊎ IsCutShort ours status (over b c) → IsDone ours status (over a c) ⊎ IsCutShort ours status (over a c)
      ending_quiet c status reads ending =
          ⊎_elim
          (λ done. inl (record {
            own_status = done.own_status;
            whole_text = said_before (text_of_outcome ours) c done.whole_text;
            files = λ t. record { settled = (done.files t).settled; holds = (done.files t).holds };
            output = done.output ∙ ready.quiet.output;
            device = done.device ∙ ready.quiet.device;
          }))
          (λ cut. inr (record {
            cause = cause_by q w a b ready.quiet.device ready.quiet.output status c cut.cause;
            front = (let (n, said) = cut.front in (n, said_before (take n (text_of_outcome ours)) c said));
            files = reads;
          }))
          ending

      pub weave_answered : (c : D) (answer : Result Ending Stop) → IfErr answer IsFault
          → ((schedule : List ℕ) → IsWhole (sessions db) db.state (specs_of hosts) order schedule → IsToldBehind (outcome_by db s.end schedule) (number_of answer) (over b c)) → Answered (Comes a) answer (over a c)
      weave_answered c answer fault tells =
          let told : IsToldBehind ours (number_of answer) (over b c) = tells schedule (schedule_over db).1 in
          let moments : w.told → LeavesOnceOpened w.disk q.emitted w.moment w.left_since w.synced_at a c (IsCut our_events db (q.emitted a)) = λ t.
          once_longer q w a b c _ _ (λ i still. cut_still q w db our_events (q.emitted a) i still) (ready.moments t)
          (subst (λ (e : Option (List ℕ)). LeavesOnly w.moment w.left_since b c (IsCut our_events db e)) ready.quiet.emitted (told.moments t)) in
          answered_by (Comes a) answer (over a c) fault
          (inl (
            ours,
            weaves ready.there (ready.starts has) has (schedule_over db).1,
            record { ending = ending_quiet c (number_of answer) (λ t. read a c _ t (moments t)) told.ending; moments = moments },
          ))
