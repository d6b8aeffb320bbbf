-- The stores of a run that fit where their records go: behind the gate of a half at this place; or nowhere, and all fit.
use Rattle.std.specs.Prelude.{ℕ, ◌+◌, Bool, true, false, ◌&&◌, not, cond, Option, None, Some, List, [], ◌∷◌, length, nat_le}
use Rattle.hera_meaning.specs.Deltas.{Delta}
use Rattle.hera_meaning.specs.Worlds.{Event, out, store}
use Rattle.delta_atoms.specs.Atoms.{atoms_in}
use Rattle.rel_format.specs.Journal.{record_of, half_limit}
use Rattle.commit_journal.specs.Prepare.{need_of}

-- the gate may have the delta's record behind it
abbrev pub fits : (gate : Option ℕ) → Delta → Bool
fits None delta = true
fits (Some place) delta = nat_le (need_of (atoms_in delta) place) half_limit

-- where the next gate stands, once the record is there
abbrev pub gate_behind : (gate : Option ℕ) → Delta → Option ℕ
gate_behind None delta = None
gate_behind (Some place) delta = Some (place + length (record_of (atoms_in delta)) + 1)

-- where it stands behind the records of all stores
abbrev pub gate_after : (gate : Option ℕ) → List Event → Option ℕ
gate_after gate [] = gate
gate_after gate (out bytes ∷ events) = gate_after gate events
gate_after gate (store s delta ∷ events) = gate_after (gate_behind gate delta) events

-- each store fits, one behind the other
abbrev pub all_fit : (gate : Option ℕ) → List Event → Bool
all_fit gate [] = true
all_fit gate (out bytes ∷ events) = all_fit gate events
all_fit gate (store s delta ∷ events) = fits gate delta && all_fit (gate_behind gate delta) events

-- the events before the first store that does not fit
abbrev pub fitting : (gate : Option ℕ) → List Event → List Event
fitting gate [] = []
fitting gate (out bytes ∷ events) = out bytes ∷ fitting gate events
fitting gate (store s delta ∷ events) = cond (fits gate delta) (store s delta ∷ fitting (gate_behind gate delta) events) []

-- the first event is a store that does not fit
abbrev pub overfills : (gate : Option ℕ) → List Event → Bool
overfills gate [] = false
overfills gate (out bytes ∷ events) = false
overfills gate (store s delta ∷ events) = not (fits gate delta)
