-- Atoms whose rows lie elsewhere.
use Rattle.std.specs.Prelude.{Option}
use Rattle.std.specs.Option.{option_map}
use Rattle.hera_sets.specs.Rows.{Row}
use Rattle.hera_meaning.specs.Deltas.{Atom, key_of}
use Rattle.delta_atoms.specs.declared.atom.AtomRef.{AtomRef}

abbrev pub atom_in : AtomRef → Atom
atom_in a = record { sign = a.sign; rel = a.rel.0; row = a.row.now }

-- the key that a bound stands for
abbrev pub bound_of : Option AtomRef → Option Row
bound_of o = option_map (λ a. key_of (atom_in a)) o
