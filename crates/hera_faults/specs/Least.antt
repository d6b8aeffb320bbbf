-- Which of several faults comes first.
use Rattle.std.specs.Prelude.{◌≡◌, ℕ, ◌<◌, ◌≤◌, ◌⊎◌, Result, Ok, Err}
use Rattle.hera_rules.specs.declared.fault.TypeFault.{TypeFault}
use Rattle.hera_rules.specs.declared.fault.TypeFault.TheVariants as faults

-- the place of a fault's kind in the order of kinds
abbrev pub rank : TypeFault → ℕ
rank (faults.Unknown at) = 0
rank (faults.Repeated at) = 1
rank (faults.Impure at) = 2
rank (faults.TooMany at) = 3
rank (faults.Mismatch at) = 4
rank (faults.NoReturn at) = 5
rank faults.Memory = 6

-- where it stands
abbrev pub offset : TypeFault → ℕ
offset (faults.Unknown at) = at
offset (faults.Repeated at) = at
offset (faults.Impure at) = at
offset (faults.TooMany at) = at
offset (faults.Mismatch at) = at
offset (faults.NoReturn at) = at
offset faults.Memory = 0

-- a fault is of a kind before the other's, or of its kind and not behind it
abbrev pub IsFirst : TypeFault → TypeFault → Type 0
IsFirst f g = (rank f < rank g) ⊎ ((rank f ≡ rank g) × (offset f ≤ offset g))

-- the answer is the first of all the faults that a phrase breaks, and the phrase is typed where it breaks none
pub data TellsTheLeast {A : Type 0} (Breaks : TypeFault → Type 0) : Result A TypeFault → Type 0 where
  typed : {a : A} → ((g : TypeFault) → Breaks g → ⊥) → TellsTheLeast Breaks (Ok a)
  refused : {f : TypeFault} → Breaks f → ((g : TypeFault) → Breaks g → IsFirst f g) → TellsTheLeast Breaks (Err f)
