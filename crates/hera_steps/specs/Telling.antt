-- What an instruction tells, from a committed state.
use Rattle.std.specs.Prelude.{◌≡◌, ℕ, true, List, Option, None, Some}
use Rattle.hera_meaning.specs.declared.schemas.RelDecl.{RelDecl}
use Rattle.hera_meaning.specs.Fits.{is_delta_of}
use Rattle.hera_meaning.specs.Deltas.{State, apply_of}
use Rattle.hera_meaning.specs.Run.{finished, stopped, out_of_turns}
use Rattle.hera_code.specs.Machine.{Machine, Stop, ended, stuck, Step, quiet, says, commits, ends}
use Rattle.hera_steps.specs.declared.events.End.{End}
use Rattle.hera_steps.specs.declared.events.End.TheVariants.{Done, Trap, Spent, Stuck}
use Rattle.hera_steps.specs.declared.events.Told.{Told}
use Rattle.hera_steps.specs.declared.events.Told.TheVariants.{Quiet, Out, Commit, Ended}
use Rattle.hera_steps.specs.Descends.{IsLower}
use Rattle.hera_steps.specs.Working.{Work, machine_at}

-- why a run is over
abbrev pub stop_of : End → Stop
stop_of Done = ended finished
stop_of (Trap name at) = ended (stopped name at)
stop_of Spent = ended out_of_turns
stop_of Stuck = stuck

-- the step that it and the machine behind it tell; behind a commit that stands over the state that was stored
abbrev pub step_at : State → Told → Work → Step
step_at s Quiet w = quiet (machine_at s w)
step_at s (Out line) w = says line (machine_at s w)
step_at s (Commit d) w = commits d (machine_at (apply_of s d) w)
step_at s (Ended end) w = ends (stop_of end)

-- the step of an instruction that tells nothing: how it ends the run, or none where that goes on
abbrev pub ending_at : State → Option End → Work → Step
ending_at s None w = quiet (machine_at s w)
ending_at s (Some end) w = ends (stop_of end)

-- unless the run ended, less is left of code of this length
abbrev pub TellsNearer : ℕ → Machine → Machine → Told → Type 0
TellsNearer l old new Quiet = IsLower l old new
TellsNearer l old new (Out line) = IsLower l old new
TellsNearer l old new (Commit d) = IsLower l old new
TellsNearer l old new (Ended end) = Unit {0}

-- a delta that is stored names relations of the program, and holds rows of them
abbrev pub TellsKnown : List RelDecl → Told → Type 0
TellsKnown rels Quiet = Unit {0}
TellsKnown rels (Out line) = Unit {0}
TellsKnown rels (Commit d) = is_delta_of rels d ≡ true
TellsKnown rels (Ended end) = Unit {0}
