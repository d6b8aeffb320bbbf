-- What an import answers, of what was answered on the way; and what an export answers.
use Rattle.std.proofs.Common.{◌≡◌, ◌⊎◌, ⊎_elim, ℕ, true, inl, inr, List, [], length, take, Option, None, Some, Result, Ok, Err, IfErr, refl, sym, ap, ◌∙◌, subst}
use Rattle.std.specs.Io.KnownBytes.{Appends}
use Rattle.std.proofs.KnownBytes.{Appends-nil}
use Rattle.hera_sets.specs.Rows.{Row}
use Rattle.hera_causes.specs.declared.traits.Output as output
use Rattle.hera_meaning.specs.declared.schemas.Attr.{Attr}
use Rattle.hera_meaning.specs.declared.schemas.RelDecl.{RelDecl}
use Rattle.hera_meaning.specs.Deltas.{Delta, schema_of}
use Rattle.hera_meaning.specs.Run.{Report}
use Rattle.hera_meaning.specs.Worlds.{Event}
use Rattle.hera_row.specs.Numbers.{number_named}
use Rattle.hera_csv.specs.Records.{records_of, bad_in, rows_of}
use Rattle.hera_volume.specs.Time.{Image, LeavesOnly}
use Rattle.hera_volume.specs.declared.outside.Outside as files
use Rattle.rel_format.specs.Versions.{is_old}
use Rattle.hera_store.specs.Databases.{Database, held}
use Rattle.hera_store.specs.Moments.{IsStill}
use Rattle.hera_store.specs.Standing.{Standing, database_of}
use Rattle.hera_store.proofs.Founds.{found_one}
use Rattle.hera_outcome.specs.declared.answer.Ending.{Ending}
use Rattle.hera_outcome.specs.declared.answer.Stop.{Stop}
use Rattle.hera_outcome.specs.declared.answer.Stop.TheVariants.{Refused, Device, Output, Memory, Full}
use Rattle.hera_outcome.specs.Answers.{number_of, IsFault}
use Rattle.hera_outcome.specs.Cut.{IsCut}
use Rattle.hera_outcome.specs.Outcomes.{Outcome, too_long, text_of_outcome}
use Rattle.hera_outcome.specs.Passages.{Passage, passage, start, start_of, LeavesOnceOpened, ReadsAmong, syncs_all}
use Rattle.hera_outcome.specs.Told.{IsCause, IsDone, IsCutShort, IsToldBehind, Tells, Answered}
use Rattle.hera_outcome.proofs.Passing.{given_up_there, cause_by, answered_by}
use Rattle.hera_run.specs.Fitting.{fitting}
use Rattle.hera_run.specs.Folder.{IsThere, StartsAt, Overfills, IsStarting, outcome_from}
use Rattle.hera_run.specs.Opening.{IsOpened, IsUnopened, IsUnwritten, IsFoundFor, IsReady, IsUnready}
use Rattle.hera_run.proofs.Readied.{pending_never, ready_as_opened, rewritten_ready, unwritten_unready, cut_still, once_weaker, once_longer}
use Rattle.hera_transfer.specs.Transfers.{ExportsTo, shut, addition, imported_text, stored_and_told, IsGood, import_of, ImportsTo, closed, lacks, refuses, overflows, imports}
use Rattle.hera_transfer.specs.Reading.{IsReadFor, IsUnread, has_none, has_bad, lacks_memory, IsMadeNew, is_new, is_rewritten, IsAdding, IsUnadded, is_gone, is_short}

-- ---- exports

pub export_unopened : (name : List ℕ) (stop : Stop) (v : Passage) → IsUnopened stop v → Answered (ExportsTo name (start_of v)) (Err stop) v
export_unopened name (Refused refusal) v (is_shut, pending) = (shut is_shut, pending)
export_unopened name Device v up = inr up
export_unopened name Output v none = absurd none
export_unopened name Memory v up = inr up
export_unopened name Full v none = absurd none

-- ---- imports

-- what is added to a relation whose file was read
module _ (db : Database) (name file : List ℕ) (schema : List Attr) (rows : List Row) (rels : List RelDecl) (got : IsReadFor rels name file schema rows) (delta : Delta) (line : List ℕ) (adding : IsAdding db.catalogue name schema rows delta line) where
  good_there : IsGood db name file adding.rel
  good_there = record { named = adding.named; good = subst (λ (s : List Attr). bad_in s (records_of file) ≡ None) (sym adding.schema_is) got.good }

  rows_there : rows ≡ rows_of (schema_of db.catalogue adding.rel) (records_of file)
  rows_there = got.rows_are ∙ ap (λ (s : List Attr). rows_of s (records_of file)) (sym adding.schema_is)

  report_there : stored_and_told db.state delta line ≡ import_of db adding.rel file
  report_there =
      ap (λ (d : Delta). stored_and_told db.state d line) adding.delta_is
      ∙ ap (λ (l : List ℕ). stored_and_told db.state (addition adding.rel rows) l) adding.line_is
      ∙ ap (λ (xs : List Row). stored_and_told db.state (addition adding.rel xs) (imported_text (length xs))) rows_there

module _ (name file : List ℕ) {D : Type 0} (q : output.Ghosts D) (w : files.Ghosts D) where
  abbrev over : D → D → Passage
  over x y = passage q w x y

  abbrev Comes : D → Outcome → Type 0
  Comes a = ImportsTo name file (start w a)

  pub unopened_answered : (a b : D) (stop : Stop) → IsUnopened stop (over a b) → Answered (Comes a) (Err stop) (over a b)
  unopened_answered a b (Refused refusal) (is_shut, pending) = (closed is_shut, pending)
  unopened_answered a b Device up = inr up
  unopened_answered a b Output none = absurd none
  unopened_answered a b Memory up = inr up
  unopened_answered a b Full none = absurd none

  module _ (a b : D) (s : Standing) (opened : IsOpened s (over a b)) where
    abbrev db : Database
    db = database_of s

    pub unread_answered : (stop : Stop) → IsUnread s.base.catalogue name file stop → Answered (Comes a) (Err stop) (over a b)
    unread_answered _ (has_none none) = (lacks opened.there none, opened.pending)
    unread_answered _ (has_bad named bad) = (refuses opened.there named bad, opened.pending)
    unread_answered _ lacks_memory = inr (given_up_there q w a b opened.pending (λ t. syncs_all (opened.synced t)))

    -- what is found in the folder is the database that was opened
    same_found : (x : Database) → IsThere (start w a) (held x) → w.told → x ≡ db
    same_found x there t = let is = found_one (λ f. (w.disk a f).bytes) (held x) (held db) (there t) (opened.there t) in cc (is)

    module _ (read : (c : D) (P : Image → Type 0) → w.told → LeavesOnceOpened w.disk q.emitted w.moment w.left_since w.synced_at a c P → ReadsAmong P (over a c)) (schema : List Attr) (rows : List Row) (got : IsReadFor s.base.catalogue name file schema rows) where
      good_here : IsGood db name file got.rel
      good_here = record { named = got.named; good = subst (λ (x : List Attr). bad_in x (records_of file) ≡ None) (sym got.schema_is) got.good }

      abbrev ours_at : ℕ → Outcome
      ours_at gate = outcome_from db gate (import_of db got.rel file)

      -- it was cut short before the first event
      cut_before : (c : D) (status : ℕ) → IsFoundFor [] (over a c) → IsCause status (over a c) → q.emitted c ≡ q.emitted a → Tells (Comes a) status (over a c)
      cut_before c status found cause same =
          let starts : IsStarting (start w a) db found.gate = λ t. subst (λ (x : Database). StartsAt (λ f. (w.disk a f).bytes) x found.gate) (same_found found.db found.there t) (found.starts t) in
          let events : List Event = fitting (Some found.gate) (import_of db got.rel file).events in
          let moments : w.told → LeavesOnceOpened w.disk q.emitted w.moment w.left_since w.synced_at a c (IsCut events db (q.emitted a)) = λ t.
          once_weaker q w a c (IsStill db (q.emitted a)) (IsCut events db (q.emitted a)) (λ i still. cut_still q w db events (q.emitted a) i still)
          (subst (λ (x : Database). LeavesOnceOpened w.disk q.emitted w.moment w.left_since w.synced_at a c (IsStill x (q.emitted a))) (same_found found.db found.there t) (found.moments t)) in
          inl (
            ours_at found.gate,
            imports opened.there good_here starts,
            record {
              ending = inr (record { cause = cause; front = (0, subst (λ (e : Option (List ℕ)). Appends (q.emitted a) e []) (sym same) (Appends-nil (q.emitted a))); files = λ t. read c (IsCut events db (q.emitted a)) t (moments t) });
              moments = moments;
            },
          )

      unready_answered : (c : D) (stop : Stop) → IsUnready [] stop (over a c) → Answered (Comes a) (Err stop) (over a c)
      unready_answered c (Refused refusal) (is_shut, pending) = (closed is_shut, pending)
      unready_answered c Device (inl up) = inr up
      unready_answered c Device (inr (found, cause, same)) = cut_before c 6 found cause same
      unready_answered c Output none = absurd none
      unready_answered c Memory (inl up) = inr up
      unready_answered c Memory (inr (found, cause, same)) = cut_before c 9 found cause same
      unready_answered c Full (other, there, past, has, pending, stored, still) =
          let same = same_found other there in
          inl (
            too_long db,
            overflows opened.there good_here (λ t. subst (λ (x : Database). Overfills (λ f. (w.disk a f).bytes) x) (same t) (past t)),
            record {
              ending = inl (record {
                own_status = refl;
                whole_text = subst (λ (e : Option (List ℕ)). Appends (q.emitted a) e []) (sym pending.unseen.emitted) (Appends-nil (q.emitted a));
                files = pending.unseen.reads;
                output = pending.unseen.output;
                device = pending.device;
              });
              moments = λ t. subst (λ (x : Database). LeavesOnceOpened w.disk q.emitted w.moment w.left_since w.synced_at a c (IsStill x (q.emitted a))) (same t) (still t);
            },
          )

      pub unwritten_answered : (c : D) (stop : Stop) → is_old s.base.version ≡ true → IsUnwritten s stop (over b c) → Answered (Comes a) (Err stop) (over a c)
      unwritten_answered c stop old unwritten = unready_answered c stop (unwritten_unready q w a b s opened [] old tt c (Err stop) unwritten)

      -- the folder is ready
      ready_there : (c : D) (next : Standing) → IsMadeNew s next (over b c) → IsReady [] next (over a c)
      ready_there c next (is_new two same idle) =
          subst (λ (x : D). IsReady [] next (over a x)) (sym idle) (subst (λ (x : Standing). IsReady [] x (over a b)) (sym same) (ready_as_opened q w a b s opened [] (λ has. two)))
      ready_there c next (is_rewritten old written) = rewritten_ready q w a b s opened [] old tt c (Ok next) written

      module _ (c : D) (next : Standing) (made : IsMadeNew s next (over b c)) where
        abbrev new_db : Database
        new_db = database_of next

        ready : IsReady [] next (over a c)
        ready = ready_there c next made

        no_database : Database
        no_database = record { catalogue = []; state = [] }

        -- the relation that was read for is there, but where nothing is told
        still_there : ((rel : ℕ) → number_named name next.base.catalogue ≡ Some rel → schema_of next.base.catalogue rel ≡ schema → ⊥) → w.told → ⊥
        still_there gone t =
            let same : s.base.catalogue ≡ next.base.catalogue = ap (λ (x : Database). x.catalogue) (sym (same_found new_db ready.there t)) in
            gone got.rel (subst (λ (rels : List RelDecl). number_named name rels ≡ Some got.rel) same got.named) (subst (λ (rels : List RelDecl). schema_of rels got.rel ≡ schema) same got.schema_is)

        pub unadded_answered : (stop : Stop) → IsUnadded next.base.catalogue name schema stop → Answered (Comes a) (Err stop) (over a c)
        unadded_answered _ (is_gone gone) =
            let never = still_there gone in
            (lacks {db = record { catalogue = []; state = [] }} (λ t. absurd (never t)) refl, pending_never q w a c never ready.quiet.emitted ready.quiet.output ready.quiet.device)
        unadded_answered _ is_short =
            ⊎_elim (λ (pending, synced). inr (given_up_there q w a c pending (λ t. syncs_all (synced t))))
            (λ found. cut_before c 9 found (inr (inr (refl, ready.quiet.output, ready.quiet.device))) ready.quiet.emitted) ready.so_far

        module _ (delta : Delta) (line : List ℕ) (adding : IsAdding next.base.catalogue name schema rows delta line) where
          abbrev report : Report
          report = import_of new_db adding.rel file

          abbrev ours : Outcome
          ours = outcome_from new_db next.end report

          abbrev our_events : List Event
          our_events = fitting (Some next.end) report.events

          said_before : (text : List ℕ) (e : D) → Appends (q.emitted c) (q.emitted e) text → Appends (q.emitted a) (q.emitted e) text
          said_before text e said = subst (λ (x : Option (List ℕ)). Appends x (q.emitted e) text) ready.quiet.emitted said

          ending_quiet : (e : D) (status : ℕ) → (w.told → ReadsAmong (IsCut our_events new_db (q.emitted a)) (over a e)) → IsDone ours status (over c e) ⊎ IsCutShort ours status (over c e) → IsDone ours status (over a e) ⊎ IsCutShort ours status (over a e)
          ending_quiet e status reads ending =
              ⊎_elim
              (λ done. inl (record {
                own_status = done.own_status;
                whole_text = said_before (text_of_outcome ours) e done.whole_text;
                files = λ t. record { settled = (done.files t).settled; holds = (done.files t).holds };
                output = done.output ∙ ready.quiet.output;
                device = done.device ∙ ready.quiet.device;
              }))
              (λ short. inr (record {
                cause = cause_by q w a c ready.quiet.device ready.quiet.output status e short.cause;
                front = (let (n, said) = short.front in (n, said_before (take n (text_of_outcome ours)) e said));
                files = reads;
              }))
              ending

          pub added_answered : (e : D) (answer : Result Ending Stop) → IfErr answer IsFault → IsToldBehind (outcome_from new_db next.end (stored_and_told new_db.state delta line)) (number_of answer) (over c e) → Answered (Comes a) answer (over a e)
          added_answered e answer fault said =
              let told : IsToldBehind ours (number_of answer) (over c e) =
              subst (λ (r : Report). IsToldBehind (outcome_from new_db next.end r) (number_of answer) (over c e)) (report_there new_db name file schema rows s.base.catalogue got delta line adding) said in
              let moments : w.told → LeavesOnceOpened w.disk q.emitted w.moment w.left_since w.synced_at a e (IsCut our_events new_db (q.emitted a)) = λ t.
              once_longer q w a c e (IsStill new_db (q.emitted a)) (IsCut our_events new_db (q.emitted a)) (λ i still. cut_still q w new_db our_events (q.emitted a) i still) (ready.moments t)
              (subst (λ (x : Option (List ℕ)). LeavesOnly w.moment w.left_since c e (IsCut our_events new_db x)) ready.quiet.emitted (told.moments t)) in
              answered_by (Comes a) answer (over a e) fault
              (inl (
                ours,
                imports ready.there (good_there new_db name file schema rows s.base.catalogue got delta line adding) (ready.starts tt),
                record { ending = ending_quiet e (number_of answer) (λ t. read e (IsCut our_events new_db (q.emitted a)) t (moments t)) told.ending; moments = moments },
              ))
