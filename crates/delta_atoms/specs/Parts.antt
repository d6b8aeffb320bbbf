-- A delta as it is kept: for each relation in order, the rows to put in and the rows to take out.
use Rattle.std.specs.Prelude.{ℕ, ◌≡◌, ◌<◌, false, cond, ◌&&◌, List, [], ◌∷◌, ◌++◌, nat_eq, Option, None, Some}
use Rattle.std.specs.List.{flat_map}
use Rattle.hera_sets.specs.Rows.{Row, is_below, holds, IsAscending}
use Rattle.hera_meaning.specs.declared.scalars.Sign.{Sign}
use Rattle.hera_meaning.specs.declared.scalars.Sign.TheVariants.{Plus, Minus}
use Rattle.hera_meaning.specs.Deltas.{Atom, in_order}
use Rattle.delta_atoms.specs.declared.parts.DeltaPart.{DeltaPart}
use Rattle.delta_atoms.specs.Atoms.{atom_of, bulk_of}

abbrev pub side : Sign → DeltaPart → List Row
side Plus p = p.plus
side Minus p = p.minus

-- the atoms of one relation, in order
abbrev pub atoms_at : DeltaPart → List Atom
atoms_at p = in_order (bulk_of Plus p.rel.0 p.plus ++ bulk_of Minus p.rel.0 p.minus)

abbrev pub atoms_of : List DeltaPart → List Atom
atoms_of ps = flat_map atoms_at ps

-- the rows of relation n with the sign
abbrev pub rows_at : Sign → ℕ → List DeltaPart → List Row
rows_at s n [] = []
rows_at s n (p ∷ ps) = cond (nat_eq p.rel.0 n) (side s p) (rows_at s n ps)

-- the relation stands before all of the others
abbrev pub IsBeforeAll : ℕ → List DeltaPart → Type 0
IsBeforeAll n [] = Unit {0}
IsBeforeAll n (p ∷ ps) = (n < p.rel.0) × IsBeforeAll n ps

-- the relation's two sets ascend
pub record IsPart (p : DeltaPart) : Type 0 where
  pub plus : IsAscending p.plus
  pub minus : IsAscending p.minus

pub record IsPackedPart (p : DeltaPart) : Type 0 where
  pub part : IsPart p
  pub apart : (r : Row) → (holds p.plus r && holds p.minus r) ≡ false

-- of the next row to put in and the next to take out, the lesser, as an atom
abbrev pub lesser : ℕ → Option Row → Option Row → Option Atom
lesser n None None = None
lesser n (Some p) None = Some (atom_of Plus n p)
lesser n None (Some m) = Some (atom_of Minus n m)
lesser n (Some p) (Some m) = cond (is_below m p) (Some (atom_of Minus n m)) (Some (atom_of Plus n p))

-- relations in order, each with sets that ascend
abbrev pub AreOrdered : List DeltaPart → Type 0
AreOrdered [] = Unit {0}
AreOrdered (p ∷ ps) = (IsPart p × IsBeforeAll p.rel.0 ps) × AreOrdered ps

-- no row of a relation is both put in and taken out
abbrev pub AreApart : List DeltaPart → Type 0
AreApart ps = (n : ℕ) (r : Row) → (holds (rows_at Plus n ps) r && holds (rows_at Minus n ps) r) ≡ false

pub record ArePacked (ps : List DeltaPart) : Type 0 where
  pub ordered : AreOrdered ps
  pub apart : AreApart ps
