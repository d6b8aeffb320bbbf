-- The run of a program's code over an open store is its meaning's.
use Rattle.std.proofs.lemmas.Bool.{cases_lt}
use Rattle.std.proofs.lemmas.List.{take_all, take-append-le}
use Rattle.std.proofs.Math.Seq.{take-append_seam}
use Rattle.std.proofs.Common.{◌<◌, ◌≤◌, length, arith, ◌≡◌, ◌⊎◌, ℕ, Bool, true, false, cond, inl, inr, ⊎_elim, List, [], ◌∷◌, ◌++◌, take, Option, None, Some, refl, sym, ap, ◌∙◌, subst, append-nil, append_assoc}
use Rattle.std.specs.Io.KnownBytes.{Appends}
use Rattle.std.proofs.KnownBytes.{Appends-nil}
use Rattle.hera_meaning.specs.declared.schemas.RelDecl.{RelDecl}
use Rattle.hera_meaning.specs.Deltas.{State}
use Rattle.hera_meaning.specs.Hosts.{Hosts}
use Rattle.hera_meaning.specs.Trees.{Program_tree}
use Rattle.hera_meaning.specs.Worlds.{Event, out, store}
use Rattle.hera_meaning.specs.Run.{Report, Finish, printed, state_after, run_of}
use Rattle.hera_code.specs.declared.instrs.Code.{Code}
use Rattle.hera_code.specs.Machine.{Stop, ended, stuck}
use Rattle.hera_code.specs.Reached.{code_at, over}
use Rattle.hera_code.specs.Scheme.{code_of}
use Rattle.hera_codegen.specs.Correct.{events_in, IsPrefix, AreStoresOf}
use Rattle.hera_steps.specs.declared.events.End.{End}
use Rattle.hera_steps.specs.declared.events.End.TheVariants.{Stuck}
use Rattle.hera_steps.specs.Telling.{stop_of}
use Rattle.hera_machine.proofs.Along.{printed-append}
use Rattle.hera_volume.specs.Time.{Image}
use Rattle.hera_store.specs.Databases.{Database, Holds}
use Rattle.hera_store.specs.Standing as seen
use Rattle.hera_causes.specs.declared.traits.Output as output
use Rattle.hera_volume.specs.declared.outside.Outside as files
use Rattle.hera_volume.proofs.Moments.{leaves-none}
use Rattle.hera_outcome.specs.declared.answer.Stop.{Stop as Stopped}
use Rattle.hera_outcome.specs.declared.answer.Stop.TheVariants.{Refused, Device, Output, Memory, Full}
use Rattle.hera_outcome.specs.Answers.{number_of_stop, IsFault}
use Rattle.hera_outcome.specs.Cut.{IsCut, IsCutWith, HoldsWith, with_state}
use Rattle.hera_outcome.specs.Outcomes.{Ended, ends, full, carried, status_of_finish, status_of_ended}
use Rattle.hera_outcome.specs.Passages.{Passage, passage, ReadsAmong}
use Rattle.hera_outcome.specs.Told.{StopFaults, IsDone, IsCutShort, IsToldBehind}
use Rattle.hera_run.specs.Fitting.{all_fit, fitting, gate_after}
use Rattle.hera_run.specs.declared.run.Close.{Close}
use Rattle.hera_run.specs.declared.run.Close.TheVariants.{Ends, Refused as Close_refused}
use Rattle.hera_run.specs.Folder.{outcome_from}
use Rattle.hera_run.specs.Running.{Job, IsAllDone, IsRefusedAt, IsOver, IsDoneUpToFull, IsPartDone, IsCodeCut}
use Rattle.hera_run.proofs.Allowed.{unguarded, all_passed}
use Rattle.hera_run.proofs.Cuts.{cut-longer}
use Rattle.hera_run.proofs.Fittings.{all_fit-append, fitting-append, fitting-all, fitting-none, all_fit-none, prefix_fitting}
use Rattle.hera_store.proofs.Commits.{stands_holds}

pub stores_front : (rels : List RelDecl) (front more : List Event) → AreStoresOf rels (front ++ more) → AreStoresOf rels front
stores_front rels [] more are = tt
stores_front rels (out bytes ∷ front) more are = stores_front rels front more are
stores_front rels (store s d ∷ front) more are = (are.0, stores_front rels front more are.1)

-- a prefix of the first of two lists is one of both
front_of_both : (n : ℕ) (xs ys : List ℕ) → (m : ℕ) × (take n xs ≡ take m (xs ++ ys))
front_of_both n xs ys =
    ⊎_elim
    (λ (past : length xs < n). (length xs, take_all n xs (omega arith) ∙ sym (take-append_seam xs ys)))
    (λ (within : n ≤ length xs). (n, sym (take-append-le n xs ys within)))
    (cases_lt (length xs) n)

-- a front of what the first events print is one of what all print
pub front_printed : (front events : List Event) (n : ℕ) → IsPrefix front events → (m : ℕ) × (take n (printed front) ≡ take m (printed events))
front_printed front events n p =
    let (m, is) = front_of_both n (printed front) (printed p.rest) in
    (m, is ∙ ap (λ (l : List ℕ). take m l) (sym (printed-append front p.rest) ∙ ap printed p.joined))

-- what is said of the code and its relations is said of the program's
pub own : (F : Code → List RelDecl → Type 0) (code own_code : Code) (rels own_rels : List RelDecl) → code ≡ own_code → rels ≡ own_rels → F code rels → F own_code own_rels
own F code own_code rels own_rels is its x = subst (λ (c : Code). F c own_rels) is (subst (λ (rs : List RelDecl). F code rs) its x)

-- what the theorem on the compiler says of one run
pub record Compiles (p : Program_tree) (hosts : Hosts) (s : State) (n : ℕ) : Type 0 where
  pub only : (k : ℕ) (events : List Event) (stop : Stop) → code_at (code_of p) p.relations s hosts n k ≡ over events stop → (events ≡ (run_of p s hosts n).events) × (stop ≡ ended (run_of p s hosts n).finish)
  pub stores : AreStoresOf p.relations (run_of p s hosts n).events
  pub prefixes : (k : ℕ) → IsPrefix (events_in (code_at (code_of p) p.relations s hosts n k)) (run_of p s hosts n).events

module _ (p : Program_tree) (hosts : Hosts) (db : Database) (place turns : ℕ) (compiles : Compiles p hosts db.state turns) where
  abbrev report : Report
  report = run_of p db.state hosts turns

  -- where the next record goes
  abbrev gate : Option ℕ
  gate = Some place

  -- the events that are carried out
  abbrev done : List Event
  done = fitting gate report.events

  -- code that is run so, with nothing that is refused
  abbrev pub ours : Code → List RelDecl → Job
  ours code rels = record { code = code; relations = rels; hosts = hosts; turns = turns; from = db; gate = gate; refusal = λ s. None }

  -- each store of the code is of the catalogue
  pub proper_at : (code : Code) (rels catalogue : List RelDecl) → code ≡ code_of p → rels ≡ p.relations → catalogue ≡ p.relations → (k : ℕ) → AreStoresOf catalogue (events_in (code_at code rels db.state hosts turns k))
  proper_at code rels catalogue is its same k =
      let pre = compiles.prefixes k in
      let front = events_in (code_at (code_of p) p.relations db.state hosts turns k) in
      let are = stores_front p.relations front pre.rest (subst (λ (es : List Event). AreStoresOf p.relations es) (sym pre.joined) compiles.stores) in
      own (λ (c : Code) (rs : List RelDecl). AreStoresOf catalogue (events_in (code_at c rs db.state hosts turns k))) (code_of p) code p.relations rels (sym is) (sym its)
      (subst (λ (rs : List RelDecl). AreStoresOf rs front) (sym same) are)

  -- a cut of the code's events is one of the outcome's
  pub cut_of_outcome : (code : Code) (rels : List RelDecl) (start : Option (List ℕ)) (c : Image) → code ≡ code_of p → rels ≡ p.relations → IsCodeCut (HoldsWith db) (ours code rels) start c → IsCut done db start c
  cut_of_outcome code rels start c is its cut =
      let mine : IsCodeCut (HoldsWith db) (ours (code_of p) p.relations) start c = own (λ (x : Code) (rs : List RelDecl). IsCodeCut (HoldsWith db) (ours x rs) start c) code (code_of p) rels p.relations is its cut in
      let front = events_in (code_at (code_of p) p.relations db.state hosts turns mine.steps) in
      let all = unguarded front in
      let pre = prefix_fitting gate front report.events (compiles.prefixes mine.steps) (ap (all_fit gate) (sym all) ∙ mine.fit) in
      cut-longer (HoldsWith db) front pre.rest done db.state start c pre.joined (subst (λ (es : List Event). IsCutWith (HoldsWith db) es db.state start c) all mine.cut)

  -- what was said up to a fault is a front of the outcome's text
  pub run_part : (code : Code) (rels : List RelDecl) (before now : Option (List ℕ)) → code ≡ code_of p → rels ≡ p.relations
      → IsPartDone (ours code rels) before now → (n : ℕ) × Appends before now (take n (printed done))
  run_part code rels before now is its said =
      let mine : IsPartDone (ours (code_of p) p.relations) before now = own (λ (x : Code) (rs : List RelDecl). IsPartDone (ours x rs) before now) code (code_of p) rels p.relations is its said in
      let front = events_in (code_at (code_of p) p.relations db.state hosts turns mine.steps) in
      let all = unguarded front in
      let (m, same) = front_printed front done mine.front (prefix_fitting gate front report.events (compiles.prefixes mine.steps) (ap (all_fit gate) (sym all) ∙ mine.fit)) in
      (m, subst (λ (l : List ℕ). Appends before now l) (ap (λ (es : List Event). take mine.front (printed es)) all ∙ same) mine.said)

  -- an end of the code, with its store, is the meaning's
  whole_run : (code : Code) (rels : List RelDecl) (status : ℕ) (v : Passage) (now : seen.Standing) (end : End) → code ≡ code_of p → rels ≡ p.relations
      → ((finish : Finish) → stop_of end ≡ ended finish → status ≡ status_of_finish finish) → IsAllDone (ours code rels) v.emitted_before v.emitted_now (seen.database_of now) end
      → (v.told → seen.StandsFor v.disks_now now) → (v.output_now ≡ v.output_before) × (v.device_now ≡ v.device_before) → IsDone (outcome_from db place report) status v
  whole_run code rels status v now end is its own_status said stands quiet =
      let mine : IsAllDone (ours (code_of p) p.relations) v.emitted_before v.emitted_now (seen.database_of now) end =
      own (λ (x : Code) (rs : List RelDecl). IsAllDone (ours x rs) v.emitted_before v.emitted_now (seen.database_of now) end) code (code_of p) rels p.relations is its said in
      let (events, stop) = compiles.only mine.steps mine.events (stop_of end) mine.ends in
      let fit : all_fit gate report.events ≡ true = ap (all_fit gate) (sym events) ∙ mine.fit in
      let all : mine.events ≡ done = events ∙ sym (fitting-all gate report.events fit) in
      let after : seen.database_of now ≡ with_state db (state_after db.state done) = mine.stored ∙ ap (λ (es : List Event). with_state db (state_after db.state es)) all in
      record {
        own_status = own_status report.finish stop ∙ ap (λ (b : Bool). status_of_ended (cond b (ends report.finish) full)) (sym fit);
        whole_text = subst (λ (l : List ℕ). Appends v.emitted_before v.emitted_now l) (ap printed all) mine.said;
        files = λ told. record { settled = (stands told).settled; holds = subst (λ (x : Database). Holds (λ f. (v.disks_now f).bytes) x) after (stands_holds v.disks_now now (stands told)) };
        output = quiet.0;
        device = quiet.1;
      }

  -- a run that ends at a commit that does not fit
  pub full_run : (code : Code) (rels : List RelDecl) (v : Passage) (now : seen.Standing) → code ≡ code_of p → rels ≡ p.relations
      → IsDoneUpToFull (ours code rels) v.emitted_before v.emitted_now (seen.database_of now) → (v.told → seen.StandsFor v.disks_now now)
      → (v.output_now ≡ v.output_before) × (v.device_now ≡ v.device_before) → IsDone (outcome_from db place report) 10 v
  full_run code rels v now is its said stands quiet =
      let mine : IsDoneUpToFull (ours (code_of p) p.relations) v.emitted_before v.emitted_now (seen.database_of now) =
      own (λ (x : Code) (rs : List RelDecl). IsDoneUpToFull (ours x rs) v.emitted_before v.emitted_now (seen.database_of now)) code (code_of p) rels p.relations is its said in
      let pre = compiles.prefixes mine.steps in
      let whole : mine.events ++ (mine.next ++ pre.rest) ≡ report.events = sym (append_assoc mine.events mine.next pre.rest) ∙ ap (λ (es : List Event). es ++ pre.rest) (sym mine.reaches ∙ unguarded (events_in (code_at (code_of p) p.relations db.state hosts turns mine.steps))) ∙ pre.joined in
      let behind = gate_after gate mine.events in
      let front : done ≡ mine.events = ap (fitting gate) (sym whole) ∙ fitting-append gate mine.events (mine.next ++ pre.rest) mine.fit
      ∙ ap (λ (es : List Event). mine.events ++ es) (fitting-none behind mine.next pre.rest mine.full) ∙ append-nil mine.events in
      let over_full : all_fit gate report.events ≡ false = ap (all_fit gate) (sym whole) ∙ all_fit-append gate mine.events (mine.next ++ pre.rest) mine.fit ∙ all_fit-none behind mine.next pre.rest mine.full in
      let after : seen.database_of now ≡ with_state db (state_after db.state done) = mine.stored ∙ ap (λ (es : List Event). with_state db (state_after db.state es)) (sym front) in
      record {
        own_status = ap (λ (b : Bool). status_of_ended (cond b (ends report.finish) full)) (sym over_full);
        whole_text = subst (λ (l : List ℕ). Appends v.emitted_before v.emitted_now l) (ap printed (sym front)) mine.said;
        files = λ told. record { settled = (stands told).settled; holds = subst (λ (x : Database). Holds (λ f. (v.disks_now f).bytes) x) after (stands_holds v.disks_now now (stands told)) };
        output = quiet.0;
        device = quiet.1;
      }

  pub stuck_is_no_end : (finish : Finish) → stuck ≡ ended finish → ⊥
  stuck_is_no_end _ is = cc (is)

  never_stuck : (code : Code) (rels : List RelDecl) (before now : Option (List ℕ)) (left : Database) (end : End) → code ≡ code_of p → rels ≡ p.relations → end ≡ Stuck
      → IsAllDone (ours code rels) before now left end → ⊥
  never_stuck code rels before now left end is its stops said =
      let mine : IsAllDone (ours (code_of p) p.relations) before now left end = own (λ (x : Code) (rs : List RelDecl). IsAllDone (ours x rs) before now left end) code (code_of p) rels p.relations is its said in
      stuck_is_no_end report.finish (sym (ap stop_of stops) ∙ (compiles.only mine.steps mine.events (stop_of end) mine.ends).1)

  never_refused : (code : Code) (rels : List RelDecl) (before now : Option (List ℕ)) (left : Database) → IsRefusedAt (ours code rels) before now left → ⊥
  never_refused code rels before now left at = (let bad = sym (all_passed (events_in (code_at code rels db.state hosts turns at.steps))) ∙ at.refused in cc (bad))

  -- however it is over, it is as the meaning ends
  pub whole_over : (code : Code) (rels : List RelDecl) (status : ℕ) (v : Passage) (now : seen.Standing) (close : Close) → code ≡ code_of p → rels ≡ p.relations
      → ((end : End) (finish : Finish) → close ≡ Ends end → stop_of end ≡ ended finish → status ≡ status_of_finish finish) → IsOver (ours code rels) v.emitted_before v.emitted_now (seen.database_of now) close
      → (v.told → seen.StandsFor v.disks_now now) → (v.output_now ≡ v.output_before) × (v.device_now ≡ v.device_before) → IsDone (outcome_from db place report) status v
  whole_over code rels status v now (Ends end) is its own_status said stands quiet = whole_run code rels status v now end is its (λ finish stop. own_status end finish refl stop) said stands quiet
  whole_over code rels status v now Close_refused is its own_status said stands quiet = absurd (never_refused code rels _ _ _ said)

  pub never_over_refused : (code : Code) (rels : List RelDecl) (before now : Option (List ℕ)) (left : Database) (close : Close) → close ≡ Close_refused → IsOver (ours code rels) before now left close → ⊥
  never_over_refused code rels before now left close is said = never_refused code rels before now left (subst (λ (x : Close). IsOver (ours code rels) before now left x) is said)

  pub never_over_stuck : (code : Code) (rels : List RelDecl) (before now : Option (List ℕ)) (left : Database) (close : Close) → code ≡ code_of p → rels ≡ p.relations → close ≡ Ends Stuck → IsOver (ours code rels) before now left close → ⊥
  never_over_stuck code rels before now left close same its is said = never_stuck code rels before now left Stuck same its refl (subst (λ (x : Close). IsOver (ours code rels) before now left x) is said)

  -- a run that stops
  pub run_stop : (stop : Stopped) (v : Passage) → StopFaults stop v → ((n : ℕ) × Appends v.emitted_before v.emitted_now (take n (printed done)))
      → (v.told → ReadsAmong (IsCut done db v.emitted_before) v) → (stop ≡ Full → IsDone (outcome_from db place report) 10 v) → IsDone (outcome_from db place report) (number_of_stop stop) v ⊎ IsCutShort (outcome_from db place report) (number_of_stop stop) v
  run_stop (Refused refusal) v faults front reads whole = absurd faults
  run_stop Device v (rose, still) front reads whole = inr (record { cause = inl (refl, rose, still); front = front; files = reads })
  run_stop Output v (rose, still) front reads whole = inr (record { cause = inr (inl (refl, rose, still)); front = front; files = reads })
  run_stop Memory v (fine, sound) front reads whole = inr (record { cause = inr (inr (refl, fine, sound)); front = front; files = reads })
  run_stop Full v faults front reads whole = inl (whole refl)

-- no memory before anything was done
pub behind_none : {D : Type 0} (q : output.Ghosts D) (w : files.Ghosts D) (a : D) (db : Database) (events : List Event) (end : Ended) → (w.told → ReadsAmong (IsCut events db (q.emitted a)) (passage q w a a))
    → IsToldBehind (carried db events end) 9 (passage q w a a)
behind_none q w a db events end reads = record {
  ending = inr (record { cause = inr (inr (refl, refl, refl)); front = (0, Appends-nil (q.emitted a)); files = reads });
  moments = λ t. leaves-none w.moment w.left_since a _;
}

pub stop_is_fault : (stop : Stopped) (v : Passage) → StopFaults stop v → IsFault stop
stop_is_fault (Refused refusal) v faults = absurd faults
stop_is_fault Device v faults = tt
stop_is_fault Output v faults = tt
stop_is_fault Memory v faults = tt
stop_is_fault Full v faults = tt

pub faults_full : (stop : Stopped) (v : Passage) → stop ≡ Full → StopFaults stop v → (v.output_now ≡ v.output_before) × (v.device_now ≡ v.device_before)
faults_full stop v is faults = subst (λ (s : Stopped). StopFaults s v) is faults
