-- A folder opened for a guarded run, and what is answered.
use Rattle.std.proofs.Common.{◌≡◌, ◌≤◌, ◌⊎◌, ⊎_elim, ℕ, true, false, inl, inr, List, [], take, length, Option, Result, Ok, Err, IfOk, IfErr, refl, sym, ap, ◌∙◌, subst}
use Rattle.std.specs.Io.KnownBytes.{Appends}
use Rattle.std.proofs.KnownBytes.{Appends-nil}
use Rattle.hera_causes.specs.declared.traits.Output as output
use Rattle.hera_meaning.specs.declared.schemas.RelDecl.{RelDecl}
use Rattle.hera_meaning.specs.Trees.{Program_tree}
use Rattle.hera_meaning.specs.Worlds.{Event}
use Rattle.hera_host.specs.Tables.{Host}
use Rattle.hera_rules.specs.Bound.{bound}
use Rattle.hera_bind.specs.Having.{AllHas}
use Rattle.hera_volume.specs.Time.{Image, LeavesOnly}
use Rattle.hera_volume.specs.declared.outside.Outside as files
use Rattle.hera_volume.proofs.Moments.{leaves-none}
use Rattle.rel_format.specs.Journal.{half_limit}
use Rattle.rel_format.specs.Versions.{is_old}
use Rattle.hera_store.specs.Databases.{Database}
use Rattle.hera_store.specs.Faults.{half_with}
use Rattle.hera_store.specs.Moments.{IsStill}
use Rattle.hera_store.specs.Standing.{Standing, database_of}
use Rattle.hera_store.proofs.Commits.{stands_holds}
use Rattle.hera_guard.specs.declared.table.Guard.{Guard}
use Rattle.hera_guard.specs.Guarded.{GuardedReport, guarded_of}
use Rattle.hera_guard_lines.specs.declared.lines.GuardLine.{GuardLine}
use Rattle.hera_outcome.specs.declared.answer.Ending.{Ending}
use Rattle.hera_outcome.specs.declared.answer.Stop.{Stop}
use Rattle.hera_outcome.specs.declared.answer.Stop.TheVariants.{Refused, Device, Output, Memory, Full}
use Rattle.hera_outcome.specs.declared.refusal.Refusal.{Refusal}
use Rattle.hera_outcome.specs.Answers.{number_of, IsFault}
use Rattle.hera_outcome.specs.Cut.{IsCut}
use Rattle.hera_outcome.specs.Outcomes.{Outcome, Ended, too_long, carried, text_of_outcome}
use Rattle.hera_outcome.specs.Passages.{Passage, passage, Start, start, LeavesOnceOpened, ReadsAmong, syncs_all}
use Rattle.hera_outcome.specs.Told.{IsCause, IsDone, IsCutShort, IsToldBehind, IsGivenUp, Tells, Answered}
use Rattle.hera_outcome.proofs.Passing.{pending_on, given_up_there, cause_by, answered_by}
use Rattle.hera_run.specs.Opening.{IsOpened, IsUnopened, IsRewritten, IsUnwritten}
use Rattle.hera_run.proofs.Readied.{closed_before, pending_never, found_for, ready_rewritten, ready_as_opened, cause_before, cut_still, once_weaker, once_longer, once, named_before, old_half}
use Rattle.hera_guarded.specs.Guarding.{AreRules, IsUnfit, IsUnruled, closed, unfit, guarded_outcome, GuardsTo, barred, overflows, runs}
use Rattle.hera_guarded.specs.Opening.{IsRenewedUnder, IsUnrenewed, IsFoundUnder, IsReadyUnder, IsUnreadyUnder}
use Rattle.hera_guarded.proofs.Named.{never_unfit}

module _ {D : Type 0} (q : output.Ghosts D) (w : files.Ghosts D) (hosts : List Host) (lines : List GuardLine) where
  abbrev over : D → D → Passage
  over a b = passage q w a b

  abbrev at_start : D → Start
  at_start a = start w a

  pub unready_unopened : (a b : D) (own : List RelDecl) (stop : Stop) → IsUnopened stop (over a b) → IsUnreadyUnder hosts lines own stop (over a b)
  unready_unopened a b own (Refused r) (shut, pend) = (closed shut, pend)
  unready_unopened a b own Device up = inl up
  unready_unopened a b own Output none = absurd none
  unready_unopened a b own Memory up = inl up
  unready_unopened a b own Full none = absurd none

  -- ---- ready

  module _ (a b : D) (s : Standing) (opened : IsOpened s (over a b)) (own : List RelDecl) where
    -- what was opened does not fit
    pub unready_unruled : (stop : Stop) → IsUnruled hosts lines own s.base.catalogue stop → IsUnreadyUnder hosts lines own stop (over a b)
    unready_unruled (Refused r) bad = (unfit opened.there bad, opened.pending)
    unready_unruled Device none = absurd none
    unready_unruled Output none = absurd none
    unready_unruled Memory none = inl (given_up_there q w a b opened.pending (λ t. syncs_all (opened.synced t)))
    unready_unruled Full none = absurd none

    module _ (guards : List Guard) (has : AllHas s.base.catalogue own) (rules : AreRules s.base.catalogue hosts lines guards) where
      pub ready_opened : is_old s.base.version ≡ false → IsReadyUnder hosts lines own s guards (over a b)
      ready_opened new = record { ready = ready_as_opened q w a b s opened own (λ all. new); has = has; rules = rules; so_far = inl (opened.pending, opened.synced) }

      module _ (old : is_old s.base.version ≡ true) where
        found_under : (c : D) → length (half_with (database_of s)) ≤ half_limit → (w.told → LeavesOnly w.moment w.left_since b c (IsStill (database_of s) (q.emitted b))) → IsFoundUnder hosts lines own (over a c)
        unfolding found_for
        found_under c fits still = record { found = found_for q w a b s opened own old has c fits still; guards = guards; mean = rules.mean }

        ready_renewed : (c : D) (next : Standing) (more : List Guard) → IsRenewedUnder hosts lines own s next more (over b c) → IsReadyUnder hosts lines own next more (over a c)
        ready_renewed c next more renewed = record {
          ready = ready_rewritten q w a b s opened own old has c next renewed.rewritten;
          has = renewed.has;
          rules = renewed.rules;
          so_far = inr (found_under c renewed.rewritten.fits renewed.rewritten.moments);
        }

        unready_unwritten : (c : D) (stop : Stop) → IsUnwritten s stop (over b c) → IsUnreadyUnder hosts lines own stop (over a c)
        unready_unwritten c (Refused r) (shut, p) = (closed (closed_before q w a b r opened.pending shut), pending_on q w a b opened.pending c p)
        unready_unwritten c Device (fits, halt) = inr (found_under c fits halt.moments, cause_before q w a b s opened own old has 6 c halt.cause, halt.emitted ∙ opened.pending.unseen.emitted)
        unready_unwritten c Output none = absurd none
        unready_unwritten c Memory (inl is) = inl (subst (λ (x : D). IsGivenUp 9 (over a x)) (sym is) (given_up_there q w a b opened.pending (λ t. syncs_all (opened.synced t))))
        unready_unwritten c Memory (inr (fits, halt)) = inr (found_under c fits halt.moments, cause_before q w a b s opened own old has 9 c halt.cause, halt.emitted ∙ opened.pending.unseen.emitted)
        unready_unwritten c Full (past, is) = subst (λ (x : D). IsUnreadyUnder hosts lines own Full (over a x)) (sym is) (
          database_of s,
          guards,
          opened.there,
          (λ t. record { half = s.half; named = named_before q w a b s opened own t; old = old_half q w a b s opened own old has t; past = past }),
          has,
          rules.mean,
          opened.pending,
          (λ t. record { settled = (opened.opens.stands t).settled; holds = stands_holds (w.disk b) s (opened.opens.stands t) }),
          (λ t. once q w a b s opened own b _ t (λ i here. here) (leaves-none w.moment w.left_since b _)),
        )

        -- a half that was rewritten fits as it did
        module _ (c : D) (next : Standing) (done : IsRewritten s next (over b c)) where
          same_catalogue : w.told → next.base.catalogue ≡ s.base.catalogue
          same_catalogue t = ap (λ (x : Database). x.catalogue) (done.same t)

          never_told : (r : Refusal) → IsUnfit hosts lines own next.base.catalogue r → w.told → ⊥
          never_told r bad t = never_unfit hosts lines own s.base.catalogue guards r has rules.mean (subst (λ (rels : List RelDecl). IsUnfit hosts lines own rels r) (same_catalogue t) bad)

          unready_next : (stop : Stop) → IsUnruled hosts lines own next.base.catalogue stop → IsUnreadyUnder hosts lines own stop (over a c)
          unready_next (Refused r) bad =
              let never = never_told r bad in
              (unfit {db = database_of next} (λ t. absurd (never t)) bad, pending_never q w a c never (done.quiet.emitted ∙ opened.pending.unseen.emitted) (done.quiet.output ∙ opened.pending.unseen.output) (done.quiet.device ∙ opened.pending.device))
          unready_next Device none = absurd none
          unready_next Output none = absurd none
          unready_next Memory none =
              inr (found_under c done.fits done.moments, cause_before q w a b s opened own old has 9 c (inr (inr (refl, done.quiet.output, done.quiet.device))), done.quiet.emitted ∙ opened.pending.unseen.emitted)
          unready_next Full none = absurd none

        unready_unrenewed : (c : D) (stop : Stop) → IsUnrenewed hosts lines own s stop (over b c) → IsUnreadyUnder hosts lines own stop (over a c)
        unready_unrenewed c stop (inl unwritten) = unready_unwritten c stop unwritten
        unready_unrenewed c stop (inr (next, done, bad)) = unready_next c next done stop bad

        pub renewed_ready : (c : D) (r : Result (Standing × List Guard) Stop) → IfOk r (λ both. IsRenewedUnder hosts lines own s both.0 both.1 (over b c)) → IfOk r (λ both. IsReadyUnder hosts lines own both.0 both.1 (over a c))
        renewed_ready c (Ok both) renewed = ready_renewed c both.0 both.1 renewed
        renewed_ready c (Err stop) none = tt

        pub unrenewed_unready : (c : D) (r : Result (Standing × List Guard) Stop) → IfErr r (λ stop. IsUnrenewed hosts lines own s stop (over b c)) → IfErr r (λ stop. IsUnreadyUnder hosts lines own stop (over a c))
        unrenewed_unready c (Ok both) none = tt
        unrenewed_unready c (Err stop) unrenewed = unready_unrenewed c stop unrenewed

  -- ---- answers

  module _ (read : (a c : D) (P : Image → Type 0) → w.told → LeavesOnceOpened w.disk q.emitted w.moment w.left_since w.synced_at a c P → ReadsAmong P (over a c)) (turns : ℕ) (p : Program_tree) where
    abbrev Comes : D → Outcome → Type 0
    Comes a = GuardsTo hosts lines turns p (at_start a)

    abbrev report_of : Database → List Guard → GuardedReport
    report_of db guards = guarded_of (bound p db.catalogue) db.state hosts turns guards

    -- it was cut short before the first event
    cut_before : (a c : D) (status : ℕ) → IsFoundUnder hosts lines p.relations (over a c) → IsCause status (over a c) → q.emitted c ≡ q.emitted a → Tells (Comes a) status (over a c)
    cut_before a c status under cause same =
        let found = under.found in
        inl (
          guarded_outcome found.db found.gate (report_of found.db under.guards),
          runs found.there found.starts found.has under.mean,
          record {
            ending = inr (record { cause = cause; front = (0, subst (λ (e : Option (List ℕ)). Appends (q.emitted a) e []) (sym same) (Appends-nil (q.emitted a))); files = λ t. read a c _ t (once_weaker q w a c _ _ (λ i still. cut_still q w found.db _ (q.emitted a) i still) (found.moments t)) });
            moments = λ t. once_weaker q w a c _ _ (λ i still. cut_still q w found.db _ (q.emitted a) i still) (found.moments t);
          },
        )

    pub unready_answered : (a c : D) (stop : Stop) → IsUnreadyUnder hosts lines p.relations stop (over a c) → Answered (Comes a) (Err stop) (over a c)
    unready_answered a c (Refused r) (bars, pend) = (barred bars, pend)
    unready_answered a c Device (inl up) = inr up
    unready_answered a c Device (inr (found, cause, same)) = cut_before a c 6 found cause same
    unready_answered a c Output none = absurd none
    unready_answered a c Memory (inl up) = inr up
    unready_answered a c Memory (inr (found, cause, same)) = cut_before a c 9 found cause same
    unready_answered a c Full (db, guards, there, over_full, has, mean, pend, stored, still) = inl (
      too_long db,
      overflows there over_full has mean,
      record {
        ending = inl (record {
          own_status = refl;
          whole_text = subst (λ (e : Option (List ℕ)). Appends (q.emitted a) e []) (sym pend.unseen.emitted) (Appends-nil (q.emitted a));
          files = pend.unseen.reads;
          output = pend.unseen.output;
          device = pend.device;
        });
        moments = still;
      },
    )

    module _ (a b : D) (s : Standing) (guards : List Guard) (under : IsReadyUnder hosts lines p.relations s guards (over a b)) where
      pub memory_answered : Answered (Comes a) (Err Memory) (over a b)
      memory_answered =
          ⊎_elim (λ (pend, synced). inr (given_up_there q w a b pend (λ t. syncs_all (synced t))))
          (λ found. cut_before a b 9 found (inr (inr (refl, under.ready.quiet.output, under.ready.quiet.device))) under.ready.quiet.emitted) under.so_far

      -- events that were carried out over it
      module _ (events : List Event) (ended : Ended) where
        abbrev ours : Outcome
        ours = carried (database_of s) events ended

        said_before : (text : List ℕ) (c : D) → Appends (q.emitted b) (q.emitted c) text → Appends (q.emitted a) (q.emitted c) text
        said_before text c said = subst (λ (e : Option (List ℕ)). Appends e (q.emitted c) text) under.ready.quiet.emitted said

        ending_quiet : (c : D) (status : ℕ) → (w.told → ReadsAmong (IsCut events (database_of s) (q.emitted a)) (over a c)) → IsDone ours status (over b c) ⊎ IsCutShort ours status (over b c) → IsDone ours status (over a c) ⊎ IsCutShort ours status (over a c)
        ending_quiet c status reads ending =
            ⊎_elim
            (λ done. inl (record {
              own_status = done.own_status;
              whole_text = said_before (text_of_outcome ours) c done.whole_text;
              files = λ t. record { settled = (done.files t).settled; holds = (done.files t).holds };
              output = done.output ∙ under.ready.quiet.output;
              device = done.device ∙ under.ready.quiet.device;
            }))
            (λ short. inr (record {
              cause = cause_by q w a b under.ready.quiet.device under.ready.quiet.output status c short.cause;
              front = (let (n, said) = short.front in (n, said_before (take n (text_of_outcome ours)) c said));
              files = reads;
            }))
            ending

        carried_answered : (c : D) (answer : Result Ending Stop) → Comes a ours → IfErr answer IsFault → IsToldBehind ours (number_of answer) (over b c) → Answered (Comes a) answer (over a c)
        carried_answered c answer comes fault told =
            let moments : w.told → LeavesOnceOpened w.disk q.emitted w.moment w.left_since w.synced_at a c (IsCut events (database_of s) (q.emitted a)) = λ t.
            once_longer q w a b c _ _ (λ i still. cut_still q w (database_of s) events (q.emitted a) i still) (under.ready.moments t)
            (subst (λ (e : Option (List ℕ)). LeavesOnly w.moment w.left_since b c (IsCut events (database_of s) e)) under.ready.quiet.emitted (told.moments t)) in
            answered_by (Comes a) answer (over a c) fault
            (inl (ours, comes, record { ending = ending_quiet c (number_of answer) (λ t. read a c _ t (moments t)) told.ending; moments = moments }))

      pub run_answered : (c : D) (answer : Result Ending Stop) → IfErr answer IsFault → IsToldBehind (guarded_outcome (database_of s) s.end (report_of (database_of s) guards)) (number_of answer) (over b c) → Answered (Comes a) answer (over a c)
      run_answered c answer fault told = carried_answered _ _ c answer (runs under.ready.there (under.ready.starts under.has) under.has under.rules.mean) fault told
