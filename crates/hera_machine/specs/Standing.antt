-- What contracts see of a machine, and what its events tell.
use Rattle.std.specs.Prelude.{◌≡◌, ◌≢◌, ◌+◌, ◌<◌, ◌≤◌, ℕ, List, length, Option, Some, None, Result, Ok, Err}
use Rattle.std.specs.declared.alloc.AllocError.{AllocError}
use Rattle.hera_meaning.specs.declared.schemas.RelDecl.{RelDecl}
use Rattle.hera_meaning.specs.Deltas.{Delta, State, apply_of}
use Rattle.hera_meaning.specs.Hosts.{Hosts}
use Rattle.hera_meaning.specs.Worlds as worlds
use Rattle.hera_code.specs.declared.instrs.Code.{Code}
use Rattle.hera_code.specs.Forward.{Forward}
use Rattle.hera_code.specs.Machine.{Machine, stuck, Step, quiet, says, commits, ends, code_step}
use Rattle.hera_code.specs.Reached.{exec_code}
use Rattle.hera_machine.specs.declared.events.Event.{Event}
use Rattle.hera_machine.specs.declared.events.Event.TheVariants.{Quiet, Out, Commit, Ended}
use Rattle.hera_machine.specs.declared.events.Status.{Status}
use Rattle.hera_machine.specs.declared.events.Status.TheVariants.{Working, Over, GaveUp}
use Rattle.hera_steps.specs.Descends.{left, IsLower}
use Rattle.hera_steps.specs.Telling.{stop_of}
use Rattle.hera_steps.specs.Working.{Work, machine_at}

-- the code and its relations, the machine at work, whether it works, and the delta of a commit that was not
-- taken yet; for how many further operands the place is there; and the machine for which it stands over the
-- state without relations, which has the same address, turns and number of frames as that over any other
pub record Standing : Type 0 where
  pub code : Code
  pub relations : List RelDecl
  pub work : Work
  pub state : Machine
  pub spare : ℕ
  pub status : Status
  pub waits : Option Delta

-- the machine of the code for which a machine stands over a committed state
abbrev pub machine_over : State → Standing → Machine
machine_over s m = machine_at s m.work

-- a commit of the delta that waits; the machine then stands over the state that it stored
abbrev pub commit_over : State → Option Delta → Standing → Step
commit_over s None m = ends stuck
commit_over s (Some d) m = commits d (machine_over (apply_of s d) m)

-- the step that an event and the machine behind it tell, from a committed state
abbrev pub event_over : State → Event → Standing → Step
event_over s Quiet m = quiet (machine_over s m)
event_over s (Out line) m = says line (machine_over s m)
event_over s Commit m = commit_over s m.waits m
event_over s (Ended end) m = ends (stop_of end)

-- an end stays, and so does want of memory
abbrev pub status_by : Event → Status
status_by Quiet = Working
status_by (Out line) = Working
status_by Commit = Working
status_by (Ended end) = Over end

abbrev pub status_after : Result Event AllocError → Status
status_after (Ok e) = status_by e
status_after (Err e) = GaveUp

-- a commit's delta waits behind a commit, and behind no other event
abbrev pub WaitsBy : Option Delta → Event → Type 0
WaitsBy w Quiet = w ≡ None
WaitsBy w (Out line) = w ≡ None
WaitsBy w Commit = w ≢ None
WaitsBy w (Ended end) = w ≡ None

-- unless the run ended, less is left of code of this length
abbrev pub IsNearer : ℕ → Machine → Machine → Event → Type 0
IsNearer l old new Quiet = IsLower l old new
IsNearer l old new (Out line) = IsLower l old new
IsNearer l old new Commit = IsLower l old new
IsNearer l old new (Ended end) = Unit {0}

-- from one machine some quiet instructions lead to the other one: what comes of the code goes on there
abbrev pub GoesQuietly : Code → List RelDecl → Hosts → State → Machine → Machine → Type 0
GoesQuietly code rels hosts s m n = (k : ℕ) × ((j : ℕ) → (es : List worlds.Event) → exec_code code rels hosts (k + j) s m es ≡ exec_code code rels hosts j s n es)

-- from one machine some quiet instructions lead to the other one; where the code goes forward, at least so much less is left
abbrev pub GoesOn : ℕ → Code → List RelDecl → Hosts → State → Machine → Machine → Type 0
GoesOn d code rels hosts s m n = GoesQuietly code rels hosts s m n × (Forward code → left (length code.instrs) n + d ≤ left (length code.instrs) m)

-- some quiet instructions, and then one that an event and the machine behind it tell
abbrev pub Tells : Code → List RelDecl → Hosts → State → Event → (old new : Standing) → Type 0
Tells code rels hosts s e old new = (m : Machine) × GoesQuietly code rels hosts s (machine_over s old) m × (event_over s e new ≡ code_step code rels hosts s m)

-- unless the run ended, less is left of code of this length, as one number
abbrev pub IsLess : ℕ → Machine → Machine → Event → Type 0
IsLess l old new Quiet = left l new < left l old
IsLess l old new (Out line) = left l new < left l old
IsLess l old new Commit = left l new < left l old
IsLess l old new (Ended end) = Unit {0}
