-- The sessions that commit are as good as runs one after another.
use Rattle.std.proofs.Common.{◌≡◌, ℕ, suc, Bool, true, false, cond, List, [], ◌∷◌, ◌++◌, take, drop, length, Option, Some, None, refl, sym, ap, subst, ◌∙◌, append_assoc, append-nil}
use Rattle.std.specs.Prelude.{slice_get, All}
use Rattle.std.proofs.lemmas.List.{take-append-drop}
use Rattle.std.proofs.lemmas.List.Elements.{All-nil, All-cons, All-head, All-tail, All-append, All-take, All-drop}
use Rattle.hera_meaning.specs.declared.schemas.RelDecl.{RelDecl}
use Rattle.hera_meaning.specs.Deltas.{Delta, State, IsState, apply_of}
use Rattle.hera_meaning.specs.Hosts.{Hosts}
use Rattle.hera_meaning.specs.Worlds.{Event}
use Rattle.hera_meaning.specs.Run.{Report, output_of, state_after}
use Rattle.hera_meaning.specs.Sound.{Sound}
use Rattle.hera_code.specs.Machine.{Stop}
use Rattle.hera_code.specs.Reached.{Reached, still, over}
use Rattle.hera_codegen.proofs.Whole.{only_so, stores_so}
use Rattle.hera_sessions.specs.Reads.{reads_of, is_among, touches}
use Rattle.hera_sessions.specs.Agreeing.{deltas_of}
use Rattle.hera_meaning.specs.Commits.{IsCommitOf, smashed, after_all}
use Rattle.hera_meaning.proofs.CommitLaws.{state_after_one, state_after_all, smashed_is_commit, smashed_applied}
use Rattle.hera_sessions.specs.Sessions.{Task, run_task, Serial, serial_of}
use Rattle.hera_sessions.specs.Weaving.{Outcome, committed, read, conflicted, Closing, Stage, waiting, running, closed, Woven, first_touch, outcome_by, delta_stored, after_told, outcome_of, told_by, reach, step_by, step_of, woven_start, woven_from, woven, closing_events, closings_events, weave_of, with_commit, text_with_commit, committers, commit_texts, AreTasks}
use Rattle.hera_sessions.proofs.Agreement.{AgreeFrom, agree_self, agree_trans, untouched}
use Rattle.hera_sessions.proofs.Decides.{same_printed, same_deltas, SameRun, reads_decide, state_after-append, run_follows}
use Rattle.hera_sessions.proofs.Smashes.{after_all-append, follow_state, stored_commits}

-- ---- one run more

serial-push : (hosts : Hosts) (ts : List Task) (t : Task) (s : State) →
    serial_of hosts (ts ++ t ∷ []) s ≡ record {
      outputs = (serial_of hosts ts s).outputs ++ output_of (run_task hosts t (serial_of hosts ts s).state) ∷ [];
      state = state_after (serial_of hosts ts s).state (run_task hosts t (serial_of hosts ts s).state).events;
    }
serial-push hosts [] t s = refl
serial-push hosts (u ∷ ts) t s =
    let report = run_task hosts u s in
    ap (λ (r : Serial). record { outputs = output_of report ∷ r.outputs; state = r.state }) (serial-push hosts ts t (state_after s report.events))

committers-push : (tasks : List Task) (cs : List Closing) (c : Closing) → committers tasks (cs ++ c ∷ []) ≡ committers tasks cs ++ with_commit (slice_get tasks c.session) c.outcome
committers-push tasks [] c = append-nil (with_commit (slice_get tasks c.session) c.outcome)
committers-push tasks (d ∷ cs) c =
    let front = with_commit (slice_get tasks d.session) d.outcome in
    ap (λ (l : List Task). front ++ l) (committers-push tasks cs c) ∙ sym (append_assoc front (committers tasks cs) (with_commit (slice_get tasks c.session) c.outcome))

texts-push : (cs : List Closing) (c : Closing) → commit_texts (cs ++ c ∷ []) ≡ commit_texts cs ++ text_with_commit c.outcome
texts-push [] c = append-nil (text_with_commit c.outcome)
texts-push (d ∷ cs) c =
    ap (λ (l : List (List ℕ)). text_with_commit d.outcome ++ l) (texts-push cs c) ∙ sym (append_assoc (text_with_commit d.outcome) (commit_texts cs) (text_with_commit c.outcome))

pub closing_state : (s : State) (i : ℕ) (o : Outcome) → state_after s (closing_events s i o) ≡ after_all s (delta_stored o)
closing_state s i (committed text d) = refl
closing_state s i (read text) = refl
closing_state s i (conflicted k) = refl

-- the deltas that sessions stored as they closed
abbrev pub deltas_closed : List Closing → List Delta
deltas_closed [] = []
deltas_closed (c ∷ cs) = delta_stored c.outcome ++ deltas_closed cs

deltas_closed-push : (cs : List Closing) (c : Closing) → deltas_closed (cs ++ c ∷ []) ≡ deltas_closed cs ++ delta_stored c.outcome
deltas_closed-push [] c = append-nil (delta_stored c.outcome)
deltas_closed-push (d ∷ cs) c =
    ap (λ (l : List Delta). delta_stored d.outcome ++ l) (deltas_closed-push cs c) ∙ sym (append_assoc (delta_stored d.outcome) (deltas_closed cs) (delta_stored c.outcome))

-- the events store the state after these deltas
events_state : (s : State) (cs : List Closing) → state_after s (closings_events s cs) ≡ after_all s (deltas_closed cs)
events_state s [] = refl
events_state s (c ∷ cs) =
    let next : State = after_all s (delta_stored c.outcome) in
    state_after-append s (closing_events s c.session c.outcome) (closings_events next cs)
    ∙ ap (λ (t : State). state_after t (closings_events next cs)) (closing_state s c.session c.outcome)
    ∙ events_state next cs
    ∙ sym (after_all-append s (delta_stored c.outcome) (deltas_closed cs))

-- ---- what no commit touched

touched_next : (rs : List ℕ) (k : ℕ) (d : Delta) (ds : List Delta) → first_touch rs k (d ∷ ds) ≡ None → (touches rs d ≡ false) × (first_touch rs (suc k) ds ≡ None)
touched_next rs k d ds h = by (touches rs d) refl h
  where
    by : (b : Bool) → touches rs d ≡ b → cond b (Some k) (first_touch rs (suc k) ds) ≡ None → (touches rs d ≡ false) × (first_touch rs (suc k) ds ≡ None)
    by true e g = absurd cc
    by false e g = (e, g)

untouched_all : (rs : List ℕ) (rels : List RelDecl) (k : ℕ) (s : State) (ds : List Delta) → IsState rels s → All (IsCommitOf rels) ds → first_touch rs k ds ≡ None → AgreeFrom 0 (is_among rs) s (after_all s ds)
untouched_all rs rels k s [] valid all h = agree_self 0 (is_among rs) s
untouched_all rs rels k s (d ∷ ds) valid all h =
    let parts = touched_next rs k d ds h in
    let next = state_after_one rels s d valid (All-head (IsCommitOf rels) d ds all).known in
    agree_trans 0 (is_among rs) s (apply_of s d) (after_all (apply_of s d) ds) (untouched rs rels s d valid parts.0)
    (untouched_all rs rels (suc k) (apply_of s d) ds next (All-tail (IsCommitOf rels) d ds all) parts.1)

module _ (tasks : List Task) (rels : List RelDecl) (s0 : State) (hosts : Hosts) (are : AreTasks hosts rels tasks) (valid : IsState rels s0) where
  -- ---- the run of a session

  state_at : List Delta → (begun : ℕ) → State
  state_at commits begun = after_all s0 (take begun commits)

  module _ (i : ℕ) (t : Task) (there : slice_get tasks i ≡ Some t) where
    sound : Sound t.program hosts
    sound = are.sound i t there

    own_state : (s : State) → IsState rels s → IsState t.program.relations s
    own_state s h = subst (λ (r : List RelDecl). IsState r s) (sym (are.relations i t there)) h

    -- at its end the code has made the events of the run
    pub ran : (commits : List Delta) (begun steps : ℕ) (es : List Event) (stop : Stop) → All (IsCommitOf rels) commits → reach tasks s0 hosts t commits begun steps ≡ over es stop
        → es ≡ (run_task hosts t (after_all s0 (take begun commits))).events
    ran commits begun steps es stop good e =
        (only_so t.program hosts (after_all s0 (take begun commits)) t.turns sound (own_state _ (state_after_all rels s0 (take begun commits) valid (All-take (IsCommitOf rels) begun commits good))) steps es stop e).0

    run_commits : (s : State) → IsState rels s → All (IsCommitOf rels) (deltas_of (run_task hosts t s).events)
    run_commits s h =
        subst (λ (r : List RelDecl). All (IsCommitOf r) (deltas_of (run_task hosts t s).events)) (are.relations i t there)
        (stored_commits t.program.relations (run_task hosts t s).events (stores_so t.program hosts s t.turns sound (own_state s h)))

    -- what it stores, from the state behind which no commit touched what it reads: as one delta, what its run stores from the state now
    pub run_now : (commits : List Delta) (begun : ℕ) (d : Delta) (ds : List Delta) → All (IsCommitOf rels) commits
        → deltas_of (run_task hosts t (after_all s0 (take begun commits))).events ≡ d ∷ ds
        → first_touch (reads_of t.program) (suc begun) (drop begun commits) ≡ None
        → (output_of (run_task hosts t (after_all s0 (take begun commits))) ≡ output_of (run_task hosts t (after_all s0 commits)))
        × (apply_of (after_all s0 commits) (smashed d ds) ≡ state_after (after_all s0 commits) (run_task hosts t (after_all s0 commits)).events)
        × IsCommitOf rels (smashed d ds)
    run_now commits begun d ds good stored none =
        let then : State = after_all s0 (take begun commits) in
        let now : State = after_all s0 commits in
        let then_valid : IsState rels then = state_after_all rels s0 (take begun commits) valid (All-take (IsCommitOf rels) begun commits good) in
        let now_valid : IsState rels now = state_after_all rels s0 commits valid good in
        let now_is : after_all then (drop begun commits) ≡ now = sym (after_all-append s0 (take begun commits) (drop begun commits)) ∙ ap (after_all s0) (take-append-drop begun commits) in
        let agree : AgreeFrom 0 (is_among (reads_of t.program)) then now =
        subst (λ (s : State). AgreeFrom 0 (is_among (reads_of t.program)) then s) now_is (untouched_all (reads_of t.program) rels (suc begun) then (drop begun commits) then_valid (All-drop (IsCommitOf rels) begun commits good) none) in
        let same : SameRun t.program hosts t.turns then now = reads_decide t.program hosts t.turns then now sound (own_state then then_valid) (own_state now now_valid) agree in
        let now_stored : deltas_of (run_task hosts t now).events ≡ d ∷ ds = sym (same_deltas (run_task hosts t then).events (run_task hosts t now).events same.events) ∙ stored in
        let all : All (IsCommitOf rels) (d ∷ ds) = subst (λ (l : List Delta). All (IsCommitOf rels) l) now_stored (run_commits now now_valid) in
        let one = All-head (IsCommitOf rels) d ds all in
        let more = All-tail (IsCommitOf rels) d ds all in (
          same_printed (run_task hosts t then).events (run_task hosts t now).events same.events,
          smashed_applied rels now d ds one more ∙ ap (after_all now) (sym now_stored) ∙ sym (follow_state now (run_task hosts t now).events (run_follows t.program hosts t.turns now sound (own_state now now_valid))),
          smashed_is_commit rels d ds one more,
        )

  -- ---- the invariant

  pub record Right (w : Woven) : Type 0 where
    pub serial : serial_of hosts (committers tasks w.closings) s0 ≡ record { outputs = commit_texts w.closings; state = after_all s0 w.commits }
    pub good : All (IsCommitOf rels) w.commits
    pub stored : deltas_closed w.closings ≡ w.commits

  right_start : Right (woven_start tasks s0 hosts)
  right_start = record { serial = refl; good = All-nil (IsCommitOf rels); stored = refl }

  -- a session closed without a commit
  right_kept : (w : Woven) (stages : List Stage) (c : Closing) → with_commit (slice_get tasks c.session) c.outcome ≡ [] → text_with_commit c.outcome ≡ [] → delta_stored c.outcome ≡ []
      → Right w → Right (record { stages = stages; commits = w.commits ++ delta_stored c.outcome; closings = w.closings ++ c ∷ [] })
  right_kept w stages c none no_text no_delta h =
      let same : w.commits ++ delta_stored c.outcome ≡ w.commits = ap (λ (l : List Delta). w.commits ++ l) no_delta ∙ append-nil w.commits in
      let who : committers tasks (w.closings ++ c ∷ []) ≡ committers tasks w.closings = committers-push tasks w.closings c ∙ ap (λ (l : List Task). committers tasks w.closings ++ l) none ∙ append-nil (committers tasks w.closings) in
      let said : commit_texts (w.closings ++ c ∷ []) ≡ commit_texts w.closings = texts-push w.closings c ∙ ap (λ (l : List (List ℕ)). commit_texts w.closings ++ l) no_text ∙ append-nil (commit_texts w.closings) in
      record {
        serial = ap (λ (ts : List Task). serial_of hosts ts s0) who ∙ h.serial
            ∙ ap (λ (l : List (List ℕ)). record { outputs = l; state = after_all s0 w.commits }) (sym said)
            ∙ ap (λ (ds : List Delta). record { outputs = commit_texts (w.closings ++ c ∷ []); state = after_all s0 ds }) (sym same);
        good = subst (λ (ds : List Delta). All (IsCommitOf rels) ds) (sym same) h.good;
        stored = deltas_closed-push w.closings c ∙ ap (λ (ds : List Delta). ds ++ delta_stored c.outcome) h.stored;
      }

  none_by : (o : Option Task) (text : List ℕ) → with_commit o (read text) ≡ []
  none_by None text = refl
  none_by (Some t) text = refl

  none_with : (o : Option Task) (k : ℕ) → with_commit o (conflicted k) ≡ []
  none_with None k = refl
  none_with (Some t) k = refl

  -- a session closed with a commit
  right_commit : (w : Woven) (stages : List Stage) (i : ℕ) (t : Task) (begun : ℕ) (d : Delta) (ds : List Delta) → slice_get tasks i ≡ Some t
      → deltas_of (run_task hosts t (after_all s0 (take begun w.commits))).events ≡ d ∷ ds → first_touch (reads_of t.program) (suc begun) (drop begun w.commits) ≡ None
      → Right w → Right (record { stages = stages; commits = w.commits ++ smashed d ds ∷ []; closings = w.closings ++ record { session = i; outcome = committed (output_of (run_task hosts t (after_all s0 (take begun w.commits)))) (smashed d ds) } ∷ [] })
  right_commit w stages i t begun d ds there stored none h =
      let text : List ℕ = output_of (run_task hosts t (after_all s0 (take begun w.commits))) in
      let c : Closing = record { session = i; outcome = committed text (smashed d ds) } in
      let now : State = after_all s0 w.commits in
      let run = run_now i t there w.commits begun d ds h.good stored none in
      let who : committers tasks (w.closings ++ c ∷ []) ≡ committers tasks w.closings ++ t ∷ [] =
      committers-push tasks w.closings c ∙ ap (λ (o : Option Task). committers tasks w.closings ++ with_commit o (committed text (smashed d ds))) there in
      let last : after_all s0 (w.commits ++ smashed d ds ∷ []) ≡ apply_of now (smashed d ds) = after_all-append s0 w.commits (smashed d ds ∷ []) in
      record {
        serial = ap (λ (ts : List Task). serial_of hosts ts s0) who ∙ serial-push hosts (committers tasks w.closings) t s0
            ∙ ap (λ (r : Serial). record { outputs = r.outputs ++ output_of (run_task hosts t r.state) ∷ []; state = state_after r.state (run_task hosts t r.state).events }) h.serial
            ∙ ap (λ (l : List ℕ). record { outputs = commit_texts w.closings ++ l ∷ []; state = state_after now (run_task hosts t now).events }) (sym run.0)
            ∙ ap (λ (l : List (List ℕ)). record { outputs = l; state = state_after now (run_task hosts t now).events }) (sym (texts-push w.closings c))
            ∙ ap (λ (s : State). record { outputs = commit_texts (w.closings ++ c ∷ []); state = s }) (sym run.1 ∙ sym last);
        good = All-append (IsCommitOf rels) w.commits (smashed d ds ∷ []) h.good (All-cons (IsCommitOf rels) (smashed d ds) [] run.2 (All-nil (IsCommitOf rels)));
        stored = deltas_closed-push w.closings c ∙ ap (λ (l : List Delta). l ++ smashed d ds ∷ []) h.stored;
      }

  -- a session closed so
  right_closed : (w : Woven) (stages : List Stage) (i : ℕ) (t : Task) (begun : ℕ) (ds : List Delta) (hit : Option ℕ) → slice_get tasks i ≡ Some t
      → deltas_of (run_task hosts t (after_all s0 (take begun w.commits))).events ≡ ds → first_touch (reads_of t.program) (suc begun) (drop begun w.commits) ≡ hit
      → Right w → let o = outcome_by ds (output_of (run_task hosts t (after_all s0 (take begun w.commits)))) hit in
      Right (record { stages = stages; commits = w.commits ++ delta_stored o; closings = w.closings ++ record { session = i; outcome = o } ∷ [] })
  right_closed w stages i t begun [] hit there stored touched h = right_kept w stages (record { session = i; outcome = read (output_of (run_task hosts t (after_all s0 (take begun w.commits)))) }) (none_by (slice_get tasks i) _) refl refl h
  right_closed w stages i t begun (d ∷ ds) (Some k) there stored touched h = right_kept w stages (record { session = i; outcome = conflicted k }) (none_with (slice_get tasks i) k) refl refl h
  right_closed w stages i t begun (d ∷ ds) None there stored touched h = right_commit w stages i t begun d ds there stored touched h

  right_told : (w : Woven) (i : ℕ) (t : Task) (begun steps : ℕ) (r : Reached) → slice_get tasks i ≡ Some t → reach tasks s0 hosts t w.commits begun steps ≡ r
      → Right w → Right (after_told i begun steps (told_by t w.commits begun r) w)
  right_told w i t begun steps (still s m es) there e h = record { serial = h.serial; good = h.good; stored = h.stored }
  right_told w i t begun steps (over es stop) there e h =
      let report : Report = run_task hosts t (after_all s0 (take begun w.commits)) in
      let is : es ≡ report.events = ran i t there w.commits begun steps es stop h.good e in
      subst (λ (es : List Event). Right (after_told i begun steps (Some (outcome_of t w.commits begun es)) w)) (sym is)
      (right_closed w _ i t begun (deltas_of report.events) (first_touch (reads_of t.program) (suc begun) (drop begun w.commits)) there refl refl h)

  right_step : (w : Woven) (i : ℕ) (o : Option Task) (g : Option Stage) → slice_get tasks i ≡ o → Right w → Right (step_by tasks s0 hosts i o g w)
  right_step w i None g there h = h
  right_step w i (Some t) None there h = h
  right_step w i (Some t) (Some waiting) there h = right_told w i t (length w.commits) 1 _ there refl h
  right_step w i (Some t) (Some (running begun steps)) there h = right_told w i t begun (suc steps) _ there refl h
  right_step w i (Some t) (Some closed) there h = h

  right_from : (schedule : List ℕ) (w : Woven) → Right w → Right (woven_from tasks s0 hosts w schedule)
  right_from [] w h = h
  right_from (i ∷ rest) w h = right_from rest (step_of tasks s0 hosts i w) (right_step w i (slice_get tasks i) (slice_get w.stages i) refl h)

  pub right : (schedule : List ℕ) → Right (woven tasks s0 hosts schedule)
  right schedule = right_from schedule (woven_start tasks s0 hosts) right_start

  -- the sessions that committed, in commit order, and what their runs one after another come to
  pub serially : (schedule : List ℕ) → serial_of hosts (committers tasks (woven tasks s0 hosts schedule).closings) s0 ≡ record {
    outputs = commit_texts (woven tasks s0 hosts schedule).closings;
    state = state_after s0 (weave_of tasks s0 schedule hosts);
  }
  serially schedule =
      let h = right schedule in
      h.serial ∙ ap (λ (s : State). record { outputs = commit_texts (woven tasks s0 hosts schedule).closings; state = s })
      (ap (after_all s0) (sym h.stored) ∙ sym (events_state s0 (woven tasks s0 hosts schedule).closings))
