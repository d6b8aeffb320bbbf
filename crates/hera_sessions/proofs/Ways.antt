-- The three ways in which a session closes.
use Rattle.std.proofs.Common.{◌≡◌, ℕ, suc, List, [], ◌∷◌, Option, Some, None, refl, sym, ap, subst, ◌∙◌}
use Rattle.std.specs.Prelude.{◌≢◌, ◌↔◌, slice_get}
use Rattle.hera_meaning.specs.declared.schemas.RelDecl.{RelDecl}
use Rattle.hera_meaning.specs.Deltas.{Delta, State, IsState}
use Rattle.hera_meaning.specs.Hosts.{Hosts}
use Rattle.hera_meaning.specs.Run.{output_of}
use Rattle.hera_sessions.specs.Reads.{reads_of}
use Rattle.hera_sessions.specs.Agreeing.{deltas_of}
use Rattle.hera_meaning.specs.Commits.{smash_all}
use Rattle.hera_sessions.specs.Sessions.{Task, delta_of}
use Rattle.hera_sessions.specs.Weaving.{Outcome, read, conflicted, committed, woven, closes_next, first_touch, outcome_by, AreTasks}
use Rattle.hera_sessions.specs.Beginnings.{begun_of, run_at, since}
use Rattle.hera_sessions.proofs.Serially.{right}
use Rattle.hera_sessions.proofs.Closing.{closes_as}
use Rattle.hera_sessions.proofs.Growing.{told_at}

conflict_by : (ds : List Delta) (text : List ℕ) (hit : Option ℕ) (k : ℕ) → ds ≢ [] → (outcome_by ds text hit ≡ conflicted k) ↔ (hit ≡ Some k)
conflict_by [] text hit k some = absurd (some refl)
conflict_by (d ∷ ds) text None k some = ((λ e. absurd cc), (λ e. absurd cc))
conflict_by (d ∷ ds) text (Some j) k some = ((λ e. cc), (λ e. cc))

commit_by : (ds : List Delta) (text : List ℕ) → ds ≢ [] → outcome_by ds text None ≡ committed text (smash_all ds)
commit_by [] text some = absurd (some refl)
commit_by (d ∷ ds) text some = refl

module _ (tasks : List Task) (rels : List RelDecl) (s : State) (hosts : Hosts) (schedule : List ℕ) (are : AreTasks hosts rels tasks) (valid : IsState rels s) (i : ℕ) (t : Task) (there : slice_get tasks i ≡ Some t) (o : Outcome) (closes : closes_next tasks s hosts i (woven tasks s hosts schedule) ≡ Some o) where
  -- the first commit since it began that touches what it reads
  abbrev hit : Option ℕ
  hit = first_touch (reads_of t.program) (suc (begun_of tasks s hosts i schedule)) (since tasks s hosts i schedule)

  closes_so : o ≡ outcome_by (deltas_of (run_at tasks s hosts t i schedule).events) (output_of (run_at tasks s hosts t i schedule)) hit
  closes_so =
      let told = told_at tasks s hosts schedule i t o there closes in
      closes_as tasks rels s hosts are valid (woven tasks s hosts schedule) (right tasks rels s hosts are valid schedule) i t there (begun_of tasks s hosts i schedule) told.0 o told.1

  pub reader_closes : deltas_of (run_at tasks s hosts t i schedule).events ≡ [] → o ≡ read (output_of (run_at tasks s hosts t i schedule))
  reader_closes none = closes_so ∙ ap (λ (ds : List Delta). outcome_by ds (output_of (run_at tasks s hosts t i schedule)) hit) none

  pub conflict_closes : deltas_of (run_at tasks s hosts t i schedule).events ≢ [] → (k : ℕ) → (o ≡ conflicted k) ↔ (hit ≡ Some k)
  conflict_closes some k =
      subst (λ (p : Outcome). (p ≡ conflicted k) ↔ (hit ≡ Some k)) (sym closes_so)
      (conflict_by (deltas_of (run_at tasks s hosts t i schedule).events) (output_of (run_at tasks s hosts t i schedule)) hit k some)

  pub commit_closes : deltas_of (run_at tasks s hosts t i schedule).events ≢ [] → hit ≡ None → o ≡ committed (output_of (run_at tasks s hosts t i schedule)) (delta_of (run_at tasks s hosts t i schedule))
  commit_closes some none =
      closes_so ∙ ap (outcome_by (deltas_of (run_at tasks s hosts t i schedule).events) (output_of (run_at tasks s hosts t i schedule))) none
      ∙ commit_by (deltas_of (run_at tasks s hosts t i schedule).events) (output_of (run_at tasks s hosts t i schedule)) some
