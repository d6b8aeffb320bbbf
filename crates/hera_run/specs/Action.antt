-- One action of a run, as an event of the meaning.
use Rattle.std.specs.Prelude.{◌≡◌, ℕ, Bool, true, false, Option, None, List, []}
use Rattle.hera_meaning.specs.declared.schemas.RelDecl.{RelDecl}
use Rattle.hera_meaning.specs.Deltas.{State, apply_of, is_fail, IsDeltaOf}
use Rattle.hera_meaning.specs.Worlds.{Event, out, store}
use Rattle.hera_run.specs.declared.carry.Action.{Action}
use Rattle.hera_run.specs.declared.carry.Action.TheVariants.{Say, Store}
use Rattle.hera_run.specs.Fitting.{fits, gate_behind}

-- the event that it is, in this state
abbrev pub event_of : Action → State → Event
event_of (Say line) s = out line
event_of (Store delta) s = store (apply_of s delta) delta

abbrev pub text_of : Action → List ℕ
text_of (Say line) = line
text_of (Store delta) = []

-- the state behind it
abbrev pub state_with : State → Action → State
state_with s (Say line) = s
state_with s (Store delta) = apply_of s delta

-- what it stores fits behind the gate; and where the next gate then stands
abbrev pub action_fits : (gate : Option ℕ) → Action → Bool
action_fits gate (Say line) = true
action_fits gate (Store delta) = fits gate delta

abbrev pub gate_with : (gate : Option ℕ) → Action → Option ℕ
gate_with gate (Say line) = gate
gate_with gate (Store delta) = gate_behind gate delta

-- what it stores is a delta of the catalogue
abbrev pub IsProper : List RelDecl → Action → Type 0
IsProper rels (Say line) = Unit {0}
IsProper rels (Store delta) = (is_fail delta ≡ false) × IsDeltaOf rels delta

-- what it stores is not refused
abbrev pub IsAllowed : (refusal : State → Option (List ℕ)) → State → Action → Type 0
IsAllowed refusal s (Say line) = Unit {0}
IsAllowed refusal s (Store delta) = refusal (apply_of s delta) ≡ None
