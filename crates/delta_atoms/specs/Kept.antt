-- What a delta that is kept stands for.
use Rattle.std.specs.Prelude.{[], ◌≡◌}
use Rattle.hera_meaning.specs.Deltas.{Delta, fail, atoms}
use Rattle.delta_atoms.specs.declared.delta.Form.{Form}
use Rattle.delta_atoms.specs.declared.delta.Form.TheVariants.{Fail, Empty, Atoms}

abbrev pub delta_of : Form → Delta
delta_of (Fail nothing) = fail
delta_of (Empty nothing) = atoms []
delta_of (Atoms kept) = atoms kept.value

-- what is lent by a delta without atoms has no rows
abbrev pub LendsNothing : Form → Type 0
LendsNothing (Fail nothing) = nothing ≡ []
LendsNothing (Empty nothing) = nothing ≡ []
LendsNothing (Atoms kept) = Unit {0}
