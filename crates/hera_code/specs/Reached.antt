-- What code comes to after a number of instructions.
use Rattle.std.specs.Prelude.{ℕ, zero, suc, List, [], ◌∷◌, ◌++◌}
use Rattle.hera_meaning.specs.declared.schemas.RelDecl.{RelDecl}
use Rattle.hera_meaning.specs.Deltas.{State, apply_of, atoms}
use Rattle.hera_meaning.specs.Hosts.{Hosts}
use Rattle.hera_meaning.specs.Printed.{trap_line, spent_line, commit_text}
use Rattle.hera_meaning.specs.Worlds.{Event, out, store, locals_from}
use Rattle.hera_meaning.specs.Run.{finished, stopped, out_of_turns}
use Rattle.hera_code.specs.declared.instrs.BodyInfo.{BodyInfo}
use Rattle.hera_code.specs.declared.instrs.Code.{Code}
use Rattle.hera_code.specs.Machine.{Machine, Stop, ended, stuck, Step, quiet, says, commits, ends, code_step}

-- the run goes on, with the committed state, the machine and the events so far; or it is over
pub data Reached : Type 0 where
  still : State → Machine → List Event → Reached
  over : List Event → Stop → Reached

-- the line of a trap, or of a run that has no turn left, is the last event
abbrev pub with_line : List Event → Stop → List Event
with_line es (ended finished) = es
with_line es (ended (stopped name at)) = es ++ out (trap_line name at) ∷ []
with_line es (ended out_of_turns) = es ++ out spent_line ∷ []
with_line es stuck = es

-- how many states were stored
abbrev pub stores : List Event → ℕ
stores [] = 0
stores (out bytes ∷ es) = stores es
stores (store s d ∷ es) = suc (stores es)

-- goes on from a step; a commit stores the committed state after the delta, and then prints its line
abbrev pub after_step : Step → State → List Event → (State → Machine → List Event → Reached) → Reached
after_step (quiet m) s es go = go s m es
after_step (says bytes m) s es go = go s m (es ++ out bytes ∷ [])
after_step (commits d m) s es go = go (apply_of s d) m (es ++ store (apply_of s d) d ∷ out (commit_text (suc (stores es))) ∷ [])
after_step (ends stop) s es go = over (with_line es stop) stop

module _ (code : Code) (rels : List RelDecl) (hosts : Hosts) where
  -- at most this many instructions
  abbrev pub exec_code : ℕ → State → Machine → List Event → Reached
  exec_code zero s m es = still s m es
  exec_code (suc k) s m es = after_step (code_step code rels hosts s m) s es (λ s m es. exec_code k s m es)

-- the slots of main, none where there is no body
abbrev pub main_slots : List BodyInfo → ℕ
main_slots [] = 0
main_slots (b ∷ bodies) = b.slots

-- the machine at the start of main
abbrev pub start_of : Code → (turns : ℕ) → Machine
start_of code n = record {
  at = 0;
  operands = [];
  locals = locals_from (main_slots code.bodies) [];
  walks = [];
  layers = [];
  own = 0;
  callers = [];
  pending = atoms [];
  turns = n;
}

-- code of these relations from a state, with n turns, after k instructions
abbrev pub code_at : Code → List RelDecl → State → Hosts → (n k : ℕ) → Reached
code_at code rels s hosts n k = exec_code code rels hosts k s (start_of code n) []
