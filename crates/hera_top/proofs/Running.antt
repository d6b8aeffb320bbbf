-- A run of code over relations in memory comes to one report.
use Rattle.std.proofs.Common.{◌≡◌, ℕ, zero, suc, ◌+◌, ◌<◌, ◌≤◌, ⊎_elim, inl, inr, refl, List, [], ◌∷◌, ◌++◌, take, length, Option, None, Some, sym, ap, ◌∙◌, subst, arith}
use Rattle.std.proofs.lemmas.Bool.{cases_lt}
use Rattle.std.proofs.lemmas.List.{take_all, take-append-le}
use Rattle.std.proofs.Math.Seq.{take-append_seam, take-append-add}
use Rattle.std.specs.Io.KnownBytes.{Appends}
use Rattle.hera_meaning.specs.declared.schemas.RelDecl.{RelDecl}
use Rattle.hera_meaning.specs.Deltas.{State}
use Rattle.hera_meaning.specs.Hosts.{Hosts}
use Rattle.hera_meaning.specs.Worlds.{Event, out, store}
use Rattle.hera_meaning.specs.Run.{Report, Finish, printed}
use Rattle.hera_code.specs.declared.instrs.Code.{Code}
use Rattle.hera_code.specs.Machine.{Stop, ended, stuck}
use Rattle.hera_code.specs.Reached.{Reached, over, code_at, start_of}
use Rattle.hera_codegen.proofs.Bound.{IsOver as Is_over_now, one_end, over_stays}
use Rattle.hera_codegen.proofs.Fronts.{fronts}
use Rattle.hera_codegen.specs.Correct.{events_in, IsPrefix}
use Rattle.hera_steps.specs.declared.events.End.{End}
use Rattle.hera_steps.specs.declared.events.End.TheVariants.{Stuck}
use Rattle.hera_steps.specs.Telling.{stop_of}
use Rattle.hera_machine.proofs.Along.{printed-append}
use Rattle.hera_volume.specs.Disk.{Disk}
use Rattle.hera_volume.specs.Time.{Image, IsImageAmid}
use Rattle.hera_volume.specs.declared.file_id.FileId.{FileId}
use Rattle.hera_store.specs.Databases.{Database}
use Rattle.hera_outcome.specs.declared.answer.Stop.{Stop as Stopped}
use Rattle.hera_outcome.specs.declared.answer.Stop.TheVariants.{Refused, Device, Output, Memory, Full}
use Rattle.hera_outcome.specs.Answers.{number_of_stop, IsSpoken}
use Rattle.hera_outcome.specs.Cut.{text_of_next}
use Rattle.hera_outcome.specs.Outcomes.{ran, status_of_finish}
use Rattle.hera_outcome.specs.Passages.{Passage, KeepsFiles}
use Rattle.hera_outcome.specs.Told.{StopFaults, IsTold}
use Rattle.hera_outcome.proofs.Passing.{told_whole, reads_kept}
use Rattle.hera_run.specs.Keeping.{AreLeft}
use Rattle.hera_run.specs.declared.run.Close.{Close}
use Rattle.hera_run.specs.declared.run.Close.TheVariants.{Ends, Refused as Close_refused}
use Rattle.hera_run.specs.Running.{Job, IsAllDone, IsRefusedAt, IsOver, IsPartDone, IsCodeCut}
use Rattle.hera_run.proofs.Allowed.{unguarded, all_passed}

-- a prefix of the first of two lists is one of both
front_of_both : (n : ℕ) (xs ys : List ℕ) → (m : ℕ) × (take n xs ≡ take m (xs ++ ys))
front_of_both n xs ys =
    ⊎_elim
    (λ (past : length xs < n). (length xs, take_all n xs (omega arith) ∙ sym (take-append_seam xs ys)))
    (λ (within : n ≤ length xs). (n, sym (take-append-le n xs ys within)))
    (cases_lt (length xs) n)

-- a front of what the first events print is one of what all print
front_printed : (front events : List Event) (n : ℕ) → IsPrefix front events → (m : ℕ) × (take n (printed front) ≡ take m (printed events))
front_printed front events n p =
    let (m, is) = front_of_both n (printed front) (printed p.rest) in
    (m, is ∙ ap (λ (l : List ℕ). take m l) (sym (printed-append front p.rest) ∙ ap printed p.joined))

text_front : (rest : List Event) (n : ℕ) → (k : ℕ) × (take n (text_of_next rest) ≡ take k (printed rest))
text_front [] zero = (0, refl)
text_front [] (suc n) = (0, refl)
text_front (out bytes ∷ events) n = front_of_both n bytes (printed events)
text_front (store s d ∷ events) zero = (0, refl)
text_front (store s d ∷ events) (suc n) = (0, refl)

-- what some events print, and a front of what the next one does
cut_text : (done rest : List Event) (n : ℕ) → (m : ℕ) × (printed done ++ take n (text_of_next rest) ≡ take m (printed (done ++ rest)))
cut_text done rest n =
    let (k, is) = text_front rest n in
    let m = length (printed done) + k in
    (m, ap (λ (l : List ℕ). printed done ++ l) is ∙ sym (ap (λ (l : List ℕ). take m l) (printed-append done rest) ∙ take-append-add (printed done) (printed rest) k))

-- what is said of the code and its relations is said of the program's
own : (F : Code → List RelDecl → Type 0) (code own_code : Code) (rels own_rels : List RelDecl) → code ≡ own_code → rels ≡ own_rels → F code rels → F own_code own_rels
own F code own_code rels own_rels is its x = subst (λ (c : Code). F c own_rels) is (subst (λ (rs : List RelDecl). F code rs) its x)

-- code comes to this report, however many instructions it takes, and its first ones to a front of its events
pub record Comes (code : Code) (rels : List RelDecl) (hosts : Hosts) (s : State) (n : ℕ) (report : Report) : Type 0 where
  pub only : (k : ℕ) (events : List Event) (stop : Stop) → code_at code rels s hosts n k ≡ over events stop → (events ≡ report.events) × (stop ≡ ended report.finish)
  pub prefixes : (k : ℕ) → IsPrefix (events_in (code_at code rels s hosts n k)) report.events

-- where it is over after so many, it comes to what it is over with
pub comes_to : (code : Code) (rels : List RelDecl) (hosts : Hosts) (s : State) (n bound : ℕ) (report : Report) → code_at code rels s hosts n bound ≡ over report.events (ended report.finish) → Comes code rels hosts s n report
comes_to code rels hosts s n bound report is = record { only = only; prefixes = prefixes }
  where
    is_over : Is_over_now (code_at code rels s hosts n bound)
    is_over = subst Is_over_now (sym is) tt

    parts : (events : List Event) (stop : Stop) → over events stop ≡ over report.events (ended report.finish) → (events ≡ report.events) × (stop ≡ ended report.finish)
    parts events stop e = (cc (e), cc (e))

    only : (k : ℕ) (events : List Event) (stop : Stop) → code_at code rels s hosts n k ≡ over events stop → (events ≡ report.events) × (stop ≡ ended report.finish)
    only k events stop e = parts events stop (sym e ∙ one_end code rels hosts k bound s (start_of code n) [] (subst Is_over_now (sym e) tt) is_over ∙ is)

    later : (k : ℕ) → code_at code rels s hosts n (bound + k) ≡ over report.events (ended report.finish)
    later k = over_stays code rels hosts bound k s (start_of code n) [] is_over ∙ is

    prefixes : (k : ℕ) → IsPrefix (events_in (code_at code rels s hosts n k)) report.events
    prefixes k =
        subst (λ (r : Reached). IsPrefix (events_in (code_at code rels s hosts n k)) (events_in r)) (later k)
        (fronts code rels hosts k (bound + k) s (start_of code n) [] (omega arith))

module _ (own_code : Code) (own_rels : List RelDecl) (hosts : Hosts) (db : Database) (turns : ℕ) (report : Report) (comes : Comes own_code own_rels hosts db.state turns report) where
  -- code that is run so, with nothing that is refused
  abbrev pub ours : Code → List RelDecl → Job
  ours code rels = record { code = code; relations = rels; hosts = hosts; turns = turns; from = db; gate = None; refusal = λ s. None }

  -- the events of its first steps
  abbrev events_at : ℕ → List Event
  events_at k = events_in (code_at own_code own_rels db.state hosts turns k)

  run_whole : (code : Code) (rels : List RelDecl) (v : Passage) (left : Database) (end : End) (status : ℕ) → code ≡ own_code → rels ≡ own_rels
      → ((finish : Finish) → stop_of end ≡ ended finish → status ≡ status_of_finish finish) → v.output_now ≡ v.output_before → KeepsFiles v
      → (v.told → v.leaves_only (IsImageAmid v.disks_before v.emitted_before (printed report.events)))
      → IsAllDone (ours code rels) v.emitted_before v.emitted_now left end → IsTold (ran report) status v
  run_whole code rels v left end status is its own_status fine keeps moments said =
      let mine : IsAllDone (ours own_code own_rels) v.emitted_before v.emitted_now left end =
      own (λ (x : Code) (rs : List RelDecl). IsAllDone (ours x rs) v.emitted_before v.emitted_now left end) code own_code rels own_rels is its said in
      let (events, stop) = comes.only mine.steps mine.events (stop_of end) mine.ends in
      told_whole (ran report) v (printed report.events) status tt refl (own_status report.finish stop) (subst (λ (l : List ℕ). Appends v.emitted_before v.emitted_now l) (ap printed events) mine.said) fine keeps moments

  -- it stopped
  pub run_stopped : (stop : Stopped) (v : Passage) → StopFaults stop v → IsSpoken stop → ((n : ℕ) × Appends v.emitted_before v.emitted_now (take n (printed report.events))) → KeepsFiles v
      → (v.told → v.leaves_only (IsImageAmid v.disks_before v.emitted_before (printed report.events))) → IsTold (ran report) (number_of_stop stop) v
  run_stopped (Refused refusal) v faults spoken front keeps moments = absurd spoken
  run_stopped Device v faults spoken front keeps moments = absurd spoken
  run_stopped Output v faults spoken front keeps moments = record { ending = inr (record { cause = inr (inl (refl, faults.0, faults.1)); front = front; files = reads_kept v keeps }); moments = moments }
  run_stopped Memory v faults spoken front keeps moments = record { ending = inr (record { cause = inr (inr (refl, faults.0, faults.1)); front = front; files = reads_kept v keeps }); moments = moments }
  run_stopped Full v faults spoken front keeps moments = absurd spoken

  stuck_is_no_end : (finish : Finish) → stuck ≡ ended finish → ⊥
  stuck_is_no_end _ is = cc (is)

  never_stuck : (code : Code) (rels : List RelDecl) (before now : Option (List ℕ)) (left : Database) (end : End) → code ≡ own_code → rels ≡ own_rels → end ≡ Stuck
      → IsAllDone (ours code rels) before now left end → ⊥
  never_stuck code rels before now left end is its stops said =
      let mine : IsAllDone (ours own_code own_rels) before now left end = own (λ (x : Code) (rs : List RelDecl). IsAllDone (ours x rs) before now left end) code own_code rels own_rels is its said in
      stuck_is_no_end report.finish (sym (ap stop_of stops) ∙ (comes.only mine.steps mine.events (stop_of end) mine.ends).1)

  pub run_part : (code : Code) (rels : List RelDecl) (before now : Option (List ℕ)) → code ≡ own_code → rels ≡ own_rels
      → IsPartDone (ours code rels) before now → (n : ℕ) × Appends before now (take n (printed report.events))
  run_part code rels before now is its said =
      let mine : IsPartDone (ours own_code own_rels) before now = own (λ (x : Code) (rs : List RelDecl). IsPartDone (ours x rs) before now) code own_code rels own_rels is its said in
      let all = unguarded (events_at mine.steps) in
      let (m, same) = front_printed (events_at mine.steps) report.events mine.front (comes.prefixes mine.steps) in
      (m, subst (λ (l : List ℕ). Appends before now l) (ap (λ (es : List Event). take mine.front (printed es)) all ∙ same) mine.said)

  never_refused : (code : Code) (rels : List RelDecl) (before now : Option (List ℕ)) (left : Database) → IsRefusedAt (ours code rels) before now left → ⊥
  never_refused code rels before now left at = (let bad = sym (all_passed (events_in (code_at code rels db.state hosts turns at.steps))) ∙ at.refused in cc (bad))

  -- what a stop leaves of the code's run it leaves of the program's
  pub run_image : (code : Code) (rels : List RelDecl) (disks : FileId → Disk) (start : Option (List ℕ)) (c : Image) → code ≡ own_code → rels ≡ own_rels
      → IsCodeCut (λ files s. AreLeft disks files) (ours code rels) start c → IsImageAmid disks start (printed report.events) c
  run_image code rels disks start c is its cut =
      let mine : IsCodeCut (λ files s. AreLeft disks files) (ours own_code own_rels) start c =
      own (λ (x : Code) (rs : List RelDecl). IsCodeCut (λ files s. AreLeft disks files) (ours x rs) start c) code own_code rels own_rels is its cut in
      let (k, text) = cut_text mine.cut.done mine.cut.rest mine.cut.front in
      let (m, same) = front_printed (events_at mine.steps) report.events k (comes.prefixes mine.steps) in
      record {
        files = mine.cut.found;
        emitted = (m, subst (λ (l : List ℕ). Appends start (Some c.emitted) l) (text ∙ ap (λ (es : List Event). take k (printed es)) (mine.cut.split ∙ unguarded (events_at mine.steps)) ∙ same) mine.cut.bytes);
      }

  -- however it is over, it is as the meaning ends
  pub whole_over : (code : Code) (rels : List RelDecl) (v : Passage) (left : Database) (close : Close) (status : ℕ) → code ≡ own_code → rels ≡ own_rels
      → ((end : End) (finish : Finish) → close ≡ Ends end → stop_of end ≡ ended finish → status ≡ status_of_finish finish) → v.output_now ≡ v.output_before → KeepsFiles v
      → (v.told → v.leaves_only (IsImageAmid v.disks_before v.emitted_before (printed report.events))) → IsOver (ours code rels) v.emitted_before v.emitted_now left close → IsTold (ran report) status v
  whole_over code rels v left (Ends end) status is its own_status fine keeps moments said = run_whole code rels v left end status is its (λ finish stop. own_status end finish refl stop) fine keeps moments said
  whole_over code rels v left Close_refused status is its own_status fine keeps moments said = absurd (never_refused code rels _ _ _ said)

  pub never_over_refused : (code : Code) (rels : List RelDecl) (before now : Option (List ℕ)) (left : Database) (close : Close) → close ≡ Close_refused → IsOver (ours code rels) before now left close → ⊥
  never_over_refused code rels before now left close is said = never_refused code rels before now left (subst (λ (x : Close). IsOver (ours code rels) before now left x) is said)

  pub never_over_stuck : (code : Code) (rels : List RelDecl) (before now : Option (List ℕ)) (left : Database) (close : Close) → code ≡ own_code → rels ≡ own_rels → close ≡ Ends Stuck → IsOver (ours code rels) before now left close → ⊥
  never_over_stuck code rels before now left close same its is said = never_stuck code rels before now left Stuck same its refl (subst (λ (x : Close). IsOver (ours code rels) before now left x) is said)
