-- A guarded run without lines is the run.
use Rattle.std.proofs.Common.{◌≡◌, ℕ, List, [], sym, ap, subst}
use Rattle.hera_meaning.specs.Deltas.{State}
use Rattle.hera_meaning.specs.Trees.{Program_tree}
use Rattle.hera_meaning.specs.Run.{run_of}
use Rattle.hera_host.specs.Tables.{Host, specs_of}
use Rattle.hera_rules.specs.Bound.{bound}
use Rattle.hera_guard.specs.Guarded.{ends, guarded_of}
use Rattle.hera_guard_lines.specs.Naming.{none}
use Rattle.hera_outcome.specs.Outcomes.{Outcome}
use Rattle.hera_outcome.specs.Passages.{Start}
use Rattle.hera_run.specs.Folder.{RunsTo, closed as run_closed, differs as run_differs, overflows as run_overflows, runs as run_runs}
use Rattle.hera_guarded.specs.Guarding.{closed, unfit, differs, unknown, mismatched, guarded_outcome, GuardsTo, barred, overflows, runs}

-- without guards a guarded run is the run
abbrev pub Quiet : Type 0
Quiet = (p : Program_tree) (s : State) (hosts : List Host) (n : ℕ) → guarded_of p s hosts n [] ≡ record { events = (run_of p s (specs_of hosts) n).events; finish = ends (run_of p s (specs_of hosts) n).finish }

pub as_run : Quiet → (hosts : List Host) (turns : ℕ) (p : Program_tree) (v : Start) (o : Outcome) → GuardsTo hosts [] turns p v o → RunsTo hosts turns p v o
as_run quiet hosts turns p v _ (barred (closed shut)) = run_closed shut
as_run quiet hosts turns p v _ (barred (unfit there (differs other))) = run_differs there other
as_run quiet hosts turns p v _ (barred (unfit there (unknown has first))) = elim first [ ]
as_run quiet hosts turns p v _ (barred (unfit there (mismatched has first))) = elim first [ ]
as_run quiet hosts turns p v _ (overflows there past has mean) = run_overflows there past has
as_run quiet hosts turns p v _ (runs {db = db} {gate = gate} there starts has none) =
    subst (RunsTo hosts turns p v) (sym (ap (guarded_outcome db gate) (quiet (bound p db.catalogue) db.state hosts turns))) (run_runs there starts has)

pub as_guarded : Quiet → (hosts : List Host) (turns : ℕ) (p : Program_tree) (v : Start) (o : Outcome) → RunsTo hosts turns p v o → GuardsTo hosts [] turns p v o
as_guarded quiet hosts turns p v _ (run_closed shut) = barred (closed shut)
as_guarded quiet hosts turns p v _ (run_differs there other) = barred (unfit there (differs other))
as_guarded quiet hosts turns p v _ (run_overflows there past has) = overflows there past has none
as_guarded quiet hosts turns p v _ (run_runs {db = db} {gate = gate} there starts has) =
    subst (GuardsTo hosts [] turns p v) (ap (guarded_outcome db gate) (quiet (bound p db.catalogue) db.state hosts turns)) (runs there starts has none)
