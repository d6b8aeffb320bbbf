-- The exit statuses as numbers.
use Rattle.std.specs.Prelude.{ℕ, Result, Ok, Err}
use Rattle.hera_script.specs.declared.program.ScriptFault.{ScriptFault}
use Rattle.hera_script.specs.declared.program.ScriptFault.TheVariants as script_fault
use Rattle.hera_outcome.specs.declared.answer.Ending.{Ending}
use Rattle.hera_outcome.specs.declared.answer.Ending.TheVariants.{Done, Trapped, Spent, Broken}
use Rattle.hera_outcome.specs.declared.answer.Stop.{Stop}
use Rattle.hera_outcome.specs.declared.answer.Stop.TheVariants.{Refused, Device, Output, Memory, Full}
use Rattle.hera_outcome.specs.declared.refusal.Refusal.TheVariants.{Script}
use Rattle.hera_outcome.specs.Refusals.{status_of_refusal}

abbrev pub number_of_ending : Ending → ℕ
number_of_ending Done = 0
number_of_ending Trapped = 1
number_of_ending Spent = 4
number_of_ending Broken = 11

abbrev pub number_of_stop : Stop → ℕ
number_of_stop (Refused refusal) = status_of_refusal refusal
number_of_stop Device = 6
number_of_stop Output = 8
number_of_stop Memory = 9
number_of_stop Full = 10

-- the stop of a call whose script gives no program
abbrev pub stop_of_script : ScriptFault → Stop
stop_of_script (script_fault.Refused cause at) = Refused (Script cause at)
stop_of_script script_fault.Memory = Memory

-- a stop that is told already
abbrev pub IsFault : Stop → Type 0
IsFault (Refused refusal) = ⊥
IsFault Device = Unit {0}
IsFault Output = Unit {0}
IsFault Memory = Unit {0}
IsFault Full = Unit {0}

abbrev pub number_of : Result Ending Stop → ℕ
number_of (Ok ending) = number_of_ending ending
number_of (Err stop) = number_of_stop stop

-- an answer that is no refusal
abbrev pub IsConcluded : Result Ending Stop → Type 0
IsConcluded (Ok ending) = Unit {0}
IsConcluded (Err stop) = IsFault stop

-- a stop of a call that only speaks: the output failed, or there was no memory
abbrev pub IsSpoken : Stop → Type 0
IsSpoken (Refused refusal) = ⊥
IsSpoken Device = ⊥
IsSpoken Output = Unit {0}
IsSpoken Memory = Unit {0}
IsSpoken Full = ⊥
