-- How many rows relations have, as a machine sees them.
use Rattle.std.specs.Prelude.{ℕ, Bool, true, false, List, Option}
use Rattle.hera_meaning.specs.Deltas.{State, apply_of}
use Rattle.hera_code.specs.declared.instrs.Instr.{Instr}
use Rattle.hera_code.specs.declared.instrs.Instr.TheVariants.{Apply, Rollback}
use Rattle.hera_code.specs.Machine.{Step, quiet, says, commits, ends}
use Rattle.hera_reads.specs.Counted.{AreCounts}
use Rattle.hera_machine.specs.Standing.{Standing, machine_over}

-- after the pending delta of a machine that stands over a committed state
abbrev pub AreCountsOver : State → Standing → List (Option ℕ) → Type 0
AreCountsOver s m ns = AreCounts (apply_of s (machine_over s m).pending) ns

-- after the committed state that it leaves and the pending delta, unless the run is over
abbrev pub AreCountsBehind : State → List (Option ℕ) → Step → Type 0
AreCountsBehind s ns (quiet m) = AreCounts (apply_of s m.pending) ns
AreCountsBehind s ns (says line m) = AreCounts (apply_of s m.pending) ns
AreCountsBehind s ns (commits d m) = AreCounts (apply_of (apply_of s d) m.pending) ns
AreCountsBehind s ns (ends stop) = Unit {0}

abbrev pub is_apply : Instr → Bool
is_apply (Apply place) = true
is_apply _ = false

abbrev pub is_rollback : Instr → Bool
is_rollback Rollback = true
is_rollback _ = false
