-- The guarded run of a program's code over an open store is its meaning's, up to the first store that breaks a guard.
use Rattle.std.proofs.Common.{◌≡◌, ◌⊎◌, ℕ, Bool, true, false, cond, inl, inr, List, ◌++◌, take, Option, Some, refl, sym, ap, ◌∙◌, subst, append-nil, append_assoc}
use Rattle.std.specs.Io.KnownBytes.{Appends}
use Rattle.hera_meaning.specs.declared.schemas.RelDecl.{RelDecl}
use Rattle.hera_meaning.specs.Deltas.{State}
use Rattle.hera_meaning.specs.Hosts.{Hosts}
use Rattle.hera_meaning.specs.Trees.{Program_tree}
use Rattle.hera_meaning.specs.Worlds.{Event}
use Rattle.hera_meaning.specs.Run.{Report, Finish, printed, state_after, run_of}
use Rattle.hera_code.specs.declared.instrs.Code.{Code}
use Rattle.hera_code.specs.Machine.{ended}
use Rattle.hera_code.specs.Reached.{code_at}
use Rattle.hera_code.specs.Scheme.{code_of}
use Rattle.hera_codegen.specs.Correct.{events_in, AreStoresOf}
use Rattle.hera_steps.specs.declared.events.End.{End}
use Rattle.hera_steps.specs.declared.events.End.TheVariants.{Stuck}
use Rattle.hera_steps.specs.Telling.{stop_of}
use Rattle.hera_volume.specs.Time.{Image}
use Rattle.hera_store.specs.Databases.{Database, Holds}
use Rattle.hera_store.specs.Standing as seen
use Rattle.hera_store.proofs.Commits.{stands_holds}
use Rattle.hera_guard.specs.Guarded.{guarded, passes, ends as guarded_ends, refused as guarded_refused, guarded_report}
use Rattle.hera_outcome.specs.declared.answer.Stop.{Stop as Stopped}
use Rattle.hera_outcome.specs.declared.answer.Stop.TheVariants.{Refused, Device, Output, Memory, Full}
use Rattle.hera_outcome.specs.Answers.{number_of_stop}
use Rattle.hera_outcome.specs.Cut.{IsCut, HoldsWith, with_state}
use Rattle.hera_outcome.specs.Outcomes.{Outcome, full, status_of_finish, status_of_ended}
use Rattle.hera_outcome.specs.Passages.{Passage, ReadsAmong}
use Rattle.hera_outcome.specs.Told.{StopFaults, IsDone, IsCutShort}
use Rattle.hera_run.specs.Fitting.{all_fit, fitting, gate_after}
use Rattle.hera_run.specs.declared.run.Close.{Close}
use Rattle.hera_run.specs.declared.run.Close.TheVariants.{Ends, Refused as Close_refused}
use Rattle.hera_run.specs.Running.{Job, IsAllDone, IsRefusedAt, IsOver, IsDoneUpToFull, IsPartDone, IsCodeCut}
use Rattle.hera_run.proofs.Cuts.{cut-longer}
use Rattle.hera_run.proofs.Fittings.{all_fit-append, fitting-append, fitting-all, fitting-none, all_fit-none, prefix_fitting}
use Rattle.hera_run.proofs.Meaning.{Compiles, front_printed, stores_front, own}
use Rattle.hera_guarded.specs.Guarding.{ended_of, guarded_outcome}
use Rattle.hera_guarded.proofs.Prefixes.{prefix_guarded, prefix_refused, all_guarded}

module _ (p : Program_tree) (hosts : Hosts) (db : Database) (place turns : ℕ) (compiles : Compiles p hosts db.state turns) (refusal : State → Option (List ℕ)) where
  abbrev report : Report
  report = run_of p db.state hosts turns

  -- where the next record goes
  abbrev gate : Option ℕ
  gate = Some place

  -- the events up to the first store that is refused, and those that are carried out
  abbrev all : List Event
  all = guarded refusal report.events

  abbrev done : List Event
  done = fitting gate all

  abbrev pub ours : Outcome
  ours = guarded_outcome db place (guarded_report refusal report)

  -- code that is run so
  abbrev pub work : Code → List RelDecl → Job
  work code rels = record { code = code; relations = rels; hosts = hosts; turns = turns; from = db; gate = gate; refusal = refusal }

  -- the events of the first steps of its own
  abbrev front_of : ℕ → List Event
  front_of k = events_in (code_at (code_of p) p.relations db.state hosts turns k)

  -- each store of the code is of the catalogue
  pub proper_at : (code : Code) (rels catalogue : List RelDecl) → code ≡ code_of p → rels ≡ p.relations → catalogue ≡ p.relations → (k : ℕ) → AreStoresOf catalogue (events_in (code_at code rels db.state hosts turns k))
  proper_at code rels catalogue is its same k =
      let pre = compiles.prefixes k in
      let are = stores_front p.relations (front_of k) pre.rest (subst (λ (es : List Event). AreStoresOf p.relations es) (sym pre.joined) compiles.stores) in
      own (λ (c : Code) (rs : List RelDecl). AreStoresOf catalogue (events_in (code_at c rs db.state hosts turns k))) (code_of p) code p.relations rels (sym is) (sym its)
      (subst (λ (rs : List RelDecl). AreStoresOf rs (front_of k)) (sym same) are)

  -- a cut of the code's events is one of the outcome's
  pub cut_of_outcome : (code : Code) (rels : List RelDecl) (start : Option (List ℕ)) (c : Image) → code ≡ code_of p → rels ≡ p.relations → IsCodeCut (HoldsWith db) (work code rels) start c → IsCut done db start c
  cut_of_outcome code rels start c is its cut =
      let mine : IsCodeCut (HoldsWith db) (work (code_of p) p.relations) start c = own (λ (x : Code) (rs : List RelDecl). IsCodeCut (HoldsWith db) (work x rs) start c) code (code_of p) rels p.relations is its cut in
      let first = front_of mine.steps in
      let pre = prefix_fitting gate (guarded refusal first) all (prefix_guarded refusal first report.events (compiles.prefixes mine.steps)) mine.fit in
      cut-longer (HoldsWith db) (guarded refusal first) pre.rest done db.state start c pre.joined mine.cut

  -- what was said up to a fault is a front of the outcome's text
  pub run_part : (code : Code) (rels : List RelDecl) (before now : Option (List ℕ)) → code ≡ code_of p → rels ≡ p.relations → IsPartDone (work code rels) before now → (n : ℕ) × Appends before now (take n (printed done))
  run_part code rels before now is its said =
      let mine : IsPartDone (work (code_of p) p.relations) before now = own (λ (x : Code) (rs : List RelDecl). IsPartDone (work x rs) before now) code (code_of p) rels p.relations is its said in
      let first = front_of mine.steps in
      let (m, same) = front_printed (guarded refusal first) done mine.front (prefix_fitting gate (guarded refusal first) all (prefix_guarded refusal first report.events (compiles.prefixes mine.steps)) mine.fit) in
      (m, subst (λ (l : List ℕ). Appends before now l) same mine.said)

  -- what is done of an outcome whose events were carried out
  carried_out : (status : ℕ) (v : Passage) (now : seen.Standing) (events : List Event) → status ≡ status_of_ended (cond (all_fit gate all) (ended_of (guarded_report refusal report).finish) full) → events ≡ done
      → Appends v.emitted_before v.emitted_now (printed events) → seen.database_of now ≡ with_state db (state_after db.state events) → (v.told → seen.StandsFor v.disks_now now)
      → (v.output_now ≡ v.output_before) × (v.device_now ≡ v.device_before) → IsDone ours status v
  carried_out status v now events own_status whole said stored stands quiet =
      let after : seen.database_of now ≡ with_state db (state_after db.state done) = stored ∙ ap (λ (es : List Event). with_state db (state_after db.state es)) whole in
      record {
        own_status = own_status;
        whole_text = subst (λ (l : List ℕ). Appends v.emitted_before v.emitted_now l) (ap printed whole) said;
        files = λ told. record { settled = (stands told).settled; holds = subst (λ (x : Database). Holds (λ f. (v.disks_now f).bytes) x) after (stands_holds v.disks_now now (stands told)) };
        output = quiet.0;
        device = quiet.1;
      }

  -- an end of the code, with its store, is the meaning's
  whole_run : (code : Code) (rels : List RelDecl) (status : ℕ) (v : Passage) (now : seen.Standing) (end : End) → code ≡ code_of p → rels ≡ p.relations
      → ((finish : Finish) → stop_of end ≡ ended finish → status ≡ status_of_finish finish) → IsAllDone (work code rels) v.emitted_before v.emitted_now (seen.database_of now) end
      → (v.told → seen.StandsFor v.disks_now now) → (v.output_now ≡ v.output_before) × (v.device_now ≡ v.device_before) → IsDone ours status v
  whole_run code rels status v now end is its own_status said stands quiet =
      let mine : IsAllDone (work (code_of p) p.relations) v.emitted_before v.emitted_now (seen.database_of now) end =
      own (λ (x : Code) (rs : List RelDecl). IsAllDone (work x rs) v.emitted_before v.emitted_now (seen.database_of now) end) code (code_of p) rels p.relations is its said in
      let (events, stop) = compiles.only mine.steps mine.events (stop_of end) mine.ends in
      let pass : passes refusal report.events ≡ true = ap (passes refusal) (sym events) ∙ mine.pass in
      let same : mine.events ≡ all = events ∙ sym (all_guarded refusal report.events pass) in
      let fit : all_fit gate all ≡ true = ap (all_fit gate) (sym same) ∙ mine.fit in
      carried_out status v now mine.events
      (own_status report.finish stop
      ∙ ap (λ (b : Bool). status_of_ended (ended_of (cond b (guarded_ends report.finish) guarded_refused))) (sym pass)
      ∙ ap (λ (b : Bool). status_of_ended (cond b (ended_of (guarded_report refusal report).finish) full)) (sym fit))
      (same ∙ sym (fitting-all gate all fit)) mine.said mine.stored stands quiet

  -- a run that ends at a commit that is refused
  refused_run : (code : Code) (rels : List RelDecl) (status : ℕ) (v : Passage) (now : seen.Standing) → code ≡ code_of p → rels ≡ p.relations → status ≡ 11 → IsRefusedAt (work code rels) v.emitted_before v.emitted_now (seen.database_of now)
      → (v.told → seen.StandsFor v.disks_now now) → (v.output_now ≡ v.output_before) × (v.device_now ≡ v.device_before) → IsDone ours status v
  refused_run code rels status v now is its own_status said stands quiet =
      let mine : IsRefusedAt (work (code_of p) p.relations) v.emitted_before v.emitted_now (seen.database_of now) =
      own (λ (x : Code) (rs : List RelDecl). IsRefusedAt (work x rs) v.emitted_before v.emitted_now (seen.database_of now)) code (code_of p) rels p.relations is its said in
      let first = front_of mine.steps in
      let (same, fails) = prefix_refused refusal first report.events (compiles.prefixes mine.steps) mine.refused in
      let fit : all_fit gate all ≡ true = ap (all_fit gate) same ∙ mine.fit in
      carried_out status v now (guarded refusal first)
      (own_status
      ∙ ap (λ (b : Bool). status_of_ended (ended_of (cond b (guarded_ends report.finish) guarded_refused))) (sym fails)
      ∙ ap (λ (b : Bool). status_of_ended (cond b (ended_of (guarded_report refusal report).finish) full)) (sym fit))
      (sym same ∙ sym (fitting-all gate all fit)) mine.said mine.stored stands quiet

  -- a run that ends at a commit that does not fit
  pub full_run : (code : Code) (rels : List RelDecl) (v : Passage) (now : seen.Standing) → code ≡ code_of p → rels ≡ p.relations
      → IsDoneUpToFull (work code rels) v.emitted_before v.emitted_now (seen.database_of now) → (v.told → seen.StandsFor v.disks_now now)
      → (v.output_now ≡ v.output_before) × (v.device_now ≡ v.device_before) → IsDone ours 10 v
  full_run code rels v now is its said stands quiet =
      let mine : IsDoneUpToFull (work (code_of p) p.relations) v.emitted_before v.emitted_now (seen.database_of now) =
      own (λ (x : Code) (rs : List RelDecl). IsDoneUpToFull (work x rs) v.emitted_before v.emitted_now (seen.database_of now)) code (code_of p) rels p.relations is its said in
      let first = front_of mine.steps in
      let pre = prefix_guarded refusal first report.events (compiles.prefixes mine.steps) in
      let whole : mine.events ++ (mine.next ++ pre.rest) ≡ all = sym (append_assoc mine.events mine.next pre.rest) ∙ ap (λ (es : List Event). es ++ pre.rest) (sym mine.reaches) ∙ pre.joined in
      let behind = gate_after gate mine.events in
      let front : done ≡ mine.events = ap (fitting gate) (sym whole) ∙ fitting-append gate mine.events (mine.next ++ pre.rest) mine.fit
      ∙ ap (λ (es : List Event). mine.events ++ es) (fitting-none behind mine.next pre.rest mine.full) ∙ append-nil mine.events in
      let over_full : all_fit gate all ≡ false = ap (all_fit gate) (sym whole) ∙ all_fit-append gate mine.events (mine.next ++ pre.rest) mine.fit ∙ all_fit-none behind mine.next pre.rest mine.full in
      carried_out 10 v now mine.events (ap (λ (b : Bool). status_of_ended (cond b (ended_of (guarded_report refusal report).finish) full)) (sym over_full)) (sym front) mine.said mine.stored stands quiet

  -- however it is over, it is as the guarded meaning ends
  pub whole_over : (code : Code) (rels : List RelDecl) (status : ℕ) (v : Passage) (now : seen.Standing) (close : Close) → code ≡ code_of p → rels ≡ p.relations
      → ((end : End) (finish : Finish) → close ≡ Ends end → stop_of end ≡ ended finish → status ≡ status_of_finish finish) → (close ≡ Close_refused → status ≡ 11)
      → IsOver (work code rels) v.emitted_before v.emitted_now (seen.database_of now) close
      → (v.told → seen.StandsFor v.disks_now now) → (v.output_now ≡ v.output_before) × (v.device_now ≡ v.device_before) → IsDone ours status v
  whole_over code rels status v now (Ends end) is its by_end by_refusal said stands quiet = whole_run code rels status v now end is its (λ finish stop. by_end end finish refl stop) said stands quiet
  whole_over code rels status v now Close_refused is its by_end by_refusal said stands quiet = refused_run code rels status v now is its (by_refusal refl) said stands quiet

  stuck_no_end : (finish : Finish) (end : End) → end ≡ Stuck → stop_of end ≡ ended finish → ⊥
  stuck_no_end finish end is stop = (let bad : stop_of Stuck ≡ ended finish = ap stop_of (sym is) ∙ stop in cc (bad))

  -- the code is not stuck
  pub never_over_stuck : (code : Code) (rels : List RelDecl) (before now : Option (List ℕ)) (left : Database) (close : Close) → code ≡ code_of p → rels ≡ p.relations → close ≡ Ends Stuck → IsOver (work code rels) before now left close → ⊥
  never_over_stuck code rels before now left close is its stuck said =
      let at : IsAllDone (work code rels) before now left Stuck = subst (λ (x : Close). IsOver (work code rels) before now left x) stuck said in
      let mine : IsAllDone (work (code_of p) p.relations) before now left Stuck = own (λ (x : Code) (rs : List RelDecl). IsAllDone (work x rs) before now left Stuck) code (code_of p) rels p.relations is its at in
      stuck_no_end report.finish Stuck refl (compiles.only mine.steps mine.events (stop_of Stuck) mine.ends).1

  -- a run that stops
  pub run_stop : (stop : Stopped) (v : Passage) → StopFaults stop v → ((n : ℕ) × Appends v.emitted_before v.emitted_now (take n (printed done)))
      → (v.told → ReadsAmong (IsCut done db v.emitted_before) v) → (stop ≡ Full → IsDone ours 10 v) → IsDone ours (number_of_stop stop) v ⊎ IsCutShort ours (number_of_stop stop) v
  run_stop (Refused r) v faults front reads whole = absurd faults
  run_stop Device v (rose, still) front reads whole = inr (record { cause = inl (refl, rose, still); front = front; files = reads })
  run_stop Output v (rose, still) front reads whole = inr (record { cause = inr (inl (refl, rose, still)); front = front; files = reads })
  run_stop Memory v (fine, sound) front reads whole = inr (record { cause = inr (inr (refl, fine, sound)); front = front; files = reads })
  run_stop Full v faults front reads whole = inl (whole refl)
