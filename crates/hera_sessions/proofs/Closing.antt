-- A session closes as its run ends, and until then it does nothing that is seen.
use Rattle.std.proofs.Common.{◌≡◌, ℕ, zero, suc, true, List, [], ◌∷◌, ◌++◌, take, drop, length, Option, Some, None, refl, ap, subst, ◌∙◌}
use Rattle.std.specs.Prelude.{slice_get}
use Rattle.std.proofs.lemmas.Bool.{false≢true}
use Rattle.hera_meaning.specs.declared.schemas.RelDecl.{RelDecl}
use Rattle.hera_meaning.specs.Deltas.{State, IsState}
use Rattle.hera_meaning.specs.Hosts.{Hosts}
use Rattle.hera_meaning.specs.Worlds.{Event}
use Rattle.hera_meaning.specs.Run.{output_of}
use Rattle.hera_code.specs.Reached.{Reached, still, over}
use Rattle.hera_sessions.specs.Reads.{reads_of}
use Rattle.hera_sessions.specs.Agreeing.{deltas_of}
use Rattle.hera_meaning.specs.Commits.{after_all}
use Rattle.hera_sessions.specs.Sessions.{Task, run_task}
use Rattle.hera_sessions.specs.Weaving.{Outcome, Closing, Stage, waiting, running, closed, Woven, set_stage, stage_by, closings_by, first_touch, outcome_by, outcome_of, told_by, reach, told_next, step_by, step_of, woven_start, woven_from, woven, AreTasks, is_open, AreClosed}
use Rattle.hera_sessions.proofs.Serially.{ran, Right}

module _ (tasks : List Task) (rels : List RelDecl) (s0 : State) (hosts : Hosts) (are : AreTasks hosts rels tasks) (valid : IsState rels s0) (w : Woven) (h : Right tasks rels s0 hosts are valid w) (i : ℕ) (t : Task) (there : slice_get tasks i ≡ Some t) where
  -- what the run comes to that began behind so many commits
  abbrev pub run_outcome : (begun : ℕ) → Outcome
  run_outcome begun =
      let report = run_task hosts t (after_all s0 (take begun w.commits)) in
      outcome_by (deltas_of report.events) (output_of report) (first_touch (reads_of t.program) (suc begun) (drop begun w.commits))

  closes_by : (begun steps : ℕ) (o : Outcome) (r : Reached) → reach tasks s0 hosts t w.commits begun steps ≡ r → told_by t w.commits begun r ≡ Some o → o ≡ run_outcome begun
  closes_by begun steps o (still s m es) e told = absurd cc
  closes_by begun steps o (over es stop) e told =
      let is : o ≡ outcome_of t w.commits begun es = cc in
      is ∙ ap (λ (es : List Event). outcome_of t w.commits begun es) (ran tasks rels s0 hosts are valid i t there w.commits begun steps es stop h.good e)

  pub closes_as : (begun steps : ℕ) (o : Outcome) → told_next tasks s0 hosts t w.commits begun steps ≡ Some o → o ≡ run_outcome begun
  closes_as begun steps o told = closes_by begun (suc steps) o (reach tasks s0 hosts t w.commits begun (suc steps)) refl told

-- ---- what has not closed

closed_kept : (stages : List Stage) (i j : ℕ) (g h : Stage) → slice_get stages i ≡ Some h → is_open (Some h) ≡ true → slice_get stages j ≡ Some closed → slice_get (set_stage stages i g) j ≡ Some closed
closed_kept [] i j g h at opens shut = shut
closed_kept (k ∷ stages) zero zero g h at opens shut = let e : h ≡ closed = cc in absurd (false≢true (subst (λ (x : Stage). is_open (Some x) ≡ true) e opens))
closed_kept (k ∷ stages) zero (suc j) g h at opens shut = shut
closed_kept (k ∷ stages) (suc i) zero g h at opens shut = shut
closed_kept (k ∷ stages) (suc i) (suc j) g h at opens shut = closed_kept stages i j g h at opens shut

closed_set : (stages : List Stage) (i : ℕ) (h : Stage) → slice_get stages i ≡ Some h → slice_get (set_stage stages i closed) i ≡ Some closed
closed_set [] i h at = absurd cc
closed_set (k ∷ stages) zero h at = refl
closed_set (k ∷ stages) (suc i) h at = closed_set stages i h at

closed_more : (stages : List Stage) (i : ℕ) (g h : Stage) (cs : List Closing) → slice_get stages i ≡ Some h → is_open (Some h) ≡ true → AreClosed stages cs → AreClosed (set_stage stages i g) cs
closed_more stages i g h [] at opens are = tt
closed_more stages i g h (c ∷ cs) at opens are = (closed_kept stages i c.session g h at opens are.0, closed_more stages i g h cs at opens are.1)

closed_push : (stages : List Stage) (cs : List Closing) (c : Closing) → AreClosed stages cs → slice_get stages c.session ≡ Some closed → AreClosed stages (cs ++ c ∷ [])
closed_push stages [] c are last = (last, tt)
closed_push stages (d ∷ cs) c are last = (are.0, closed_push stages cs c are.1 last)

module _ (tasks : List Task) (s0 : State) (hosts : Hosts) where
  closed_told : (i : ℕ) (begun steps : ℕ) (h : Stage) (o : Option Outcome) (w : Woven) → slice_get w.stages i ≡ Some h → is_open (Some h) ≡ true → AreClosed w.stages w.closings → AreClosed (set_stage w.stages i (stage_by begun steps o)) (closings_by w.closings i o)
  closed_told i begun steps h None w at opens are = closed_more w.stages i _ h w.closings at opens are
  closed_told i begun steps h (Some o) w at opens are = closed_push _ w.closings (record { session = i; outcome = o }) (closed_more w.stages i closed h w.closings at opens are) (closed_set w.stages i h at)

  pub closed_step : (w : Woven) (i : ℕ) (o : Option Task) (g : Option Stage) → slice_get w.stages i ≡ g → AreClosed w.stages w.closings → AreClosed (step_by tasks s0 hosts i o g w).stages (step_by tasks s0 hosts i o g w).closings
  closed_step w i None g at are = are
  closed_step w i (Some t) None at are = are
  closed_step w i (Some t) (Some waiting) at are = closed_told i (length w.commits) 1 waiting (told_next tasks s0 hosts t w.commits (length w.commits) 0) w at refl are
  closed_step w i (Some t) (Some (running begun steps)) at are = closed_told i begun (suc steps) (running begun steps) (told_next tasks s0 hosts t w.commits begun steps) w at refl are
  closed_step w i (Some t) (Some closed) at are = are

  closed_from : (schedule : List ℕ) (w : Woven) → AreClosed w.stages w.closings → AreClosed (woven_from tasks s0 hosts w schedule).stages (woven_from tasks s0 hosts w schedule).closings
  closed_from [] w are = are
  closed_from (i ∷ rest) w are = closed_from rest (step_of tasks s0 hosts i w) (closed_step w i (slice_get tasks i) (slice_get w.stages i) refl are)

  -- no event is of a session that has not closed
  pub are_closed : (schedule : List ℕ) → AreClosed (woven tasks s0 hosts schedule).stages (woven tasks s0 hosts schedule).closings
  are_closed schedule = closed_from schedule (woven_start tasks s0 hosts) tt
