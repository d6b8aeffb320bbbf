-- States, deltas, and what deltas do to states and to each other.
use Rattle.std.specs.Prelude.{◌<◌, ℕ, zero, suc, Bool, true, false, cond, not, ◌||◌, List, [], ◌∷◌, ◌++◌, map, filter, nat_eq, length, All}
use Rattle.std.specs.List.{list_any}
use Rattle.hera_sets.specs.Rows.{Row, is_below, holds, normal, IsAscending}
use Rattle.hera_meaning.specs.declared.scalars.Sign.{Sign}
use Rattle.hera_meaning.specs.declared.scalars.Sign.TheVariants.{Plus, Minus}
use Rattle.hera_meaning.specs.declared.schemas.Attr.{Attr}
use Rattle.hera_meaning.specs.declared.schemas.RelDecl.{RelDecl}
use Rattle.hera_meaning.specs.Rows.{IsRow}

-- for each relation its rows
abbrev pub State : Type 0
State = List (List Row)

-- each relation of the catalogue has an ascending list of rows of its schema
abbrev pub IsState : List RelDecl → State → Type 0
IsState [] [] = Unit {0}
IsState (d ∷ rels) (rows ∷ s) = (IsAscending rows × All (IsRow d.schema) rows) × IsState rels s
IsState _ _ = ⊥

-- the rows of a relation, none past the last
abbrev pub rows_at : State → ℕ → List Row
rows_at [] r = []
rows_at (rows ∷ s) zero = rows
rows_at (rows ∷ s) (suc r) = rows_at s r

-- a signed atom: +R(t) or -R(t), the relation by its number and the tuple as its row
pub record Atom : Type 0 where
  pub sign : Sign
  pub rel : ℕ
  pub row : Row

-- `fail`, or signed atoms
pub data Delta : Type 0 where
  fail : Delta
  atoms : List Atom → Delta

-- an atom's relation and row, by which atoms are in order
abbrev pub key_of : Atom → Row
key_of a = a.rel ∷ a.row

abbrev pub keys_of : List Atom → List Row
keys_of xs = map key_of xs

-- the atoms ascend by relation and then row, so no relation and row stand twice
abbrev pub IsDelta : Delta → Type 0
IsDelta fail = Unit {0}
IsDelta (atoms xs) = IsAscending (keys_of xs)

-- the schema of a relation, empty past the last
abbrev pub schema_of : List RelDecl → ℕ → List Attr
schema_of [] r = []
schema_of (d ∷ rels) zero = d.schema
schema_of (d ∷ rels) (suc r) = schema_of rels r

-- the atom names a relation of the catalogue and holds a row of it
pub record IsAtomOf (rels : List RelDecl) (a : Atom) : Type 0 where
  pub known : a.rel < length rels
  pub row : IsRow (schema_of rels a.rel) a.row

-- each atom is one of the catalogue
abbrev pub IsDeltaOf : List RelDecl → Delta → Type 0
IsDeltaOf rels fail = Unit {0}
IsDeltaOf rels (atoms xs) = All (IsAtomOf rels) xs

abbrev pub is_fail : Delta → Bool
is_fail fail = true
is_fail (atoms xs) = false

abbrev pub is_plus : Sign → Bool
is_plus Plus = true
is_plus Minus = false

abbrev pub plus_atoms : List Atom → List Atom
plus_atoms xs = filter (λ a. is_plus a.sign) xs

abbrev pub minus_atoms : List Atom → List Atom
minus_atoms xs = filter (λ a. not (is_plus a.sign)) xs

-- the atom in front of the first one that is not below it
abbrev pub put_atom : Atom → List Atom → List Atom
put_atom a [] = a ∷ []
put_atom a (b ∷ rest) = cond (is_below (key_of b) (key_of a)) (b ∷ put_atom a rest) (a ∷ b ∷ rest)

-- the atoms in order
abbrev pub in_order : List Atom → List Atom
in_order [] = []
in_order (a ∷ rest) = put_atom a (in_order rest)

-- the atoms whose relation and row the second list does not hold
abbrev pub unnamed : List Atom → List Atom → List Atom
unnamed xs ys = filter (λ a. not (holds (keys_of ys) (key_of a))) xs

-- the atoms of the second list, and those of the first whose relation and row it does not hold
abbrev pub joint_atoms : List Atom → List Atom → List Atom
joint_atoms xs ys = in_order (ys ++ unnamed xs ys)

-- the second delta wins: its atoms, and those of the first whose relation and row it does not hold
abbrev pub smash_of : Delta → Delta → Delta
smash_of (atoms xs) (atoms ys) = atoms (joint_atoms xs ys)
smash_of _ _ = fail

-- some relation and row stand in both lists
abbrev pub have_common : List Atom → List Atom → Bool
have_common xs ys = list_any (λ a. holds (keys_of ys) (key_of a)) xs

-- some relation and row stand in both with different signs
abbrev pub clash : List Atom → List Atom → Bool
clash xs ys = have_common (plus_atoms xs) (minus_atoms ys) || have_common (minus_atoms xs) (plus_atoms ys)

-- `fail` where they clash, else all atoms of both, each once
abbrev pub merge_of : Delta → Delta → Delta
merge_of (atoms xs) (atoms ys) = cond (clash xs ys) fail (atoms (joint_atoms xs ys))
merge_of _ _ = fail

-- the rows that atoms have of a relation
abbrev pub rows_named : ℕ → List Atom → List Row
rows_named r xs = map (λ a. a.row) (filter (λ a. nat_eq a.rel r) xs)

-- a relation's rows and the plus rows, without the minus rows
abbrev pub apply_to : ℕ → List Row → List Atom → List Row
apply_to r rows xs = filter (λ x. not (holds (rows_named r (minus_atoms xs)) x)) (normal (rows ++ rows_named r (plus_atoms xs)))

-- the relations from number r on, each after the delta
abbrev pub apply_from : ℕ → State → List Atom → State
apply_from r [] xs = []
apply_from r (rows ∷ s) xs = apply_to r rows xs ∷ apply_from (suc r) s xs

-- the state after a delta; it is used for deltas that are not `fail`
abbrev pub apply_of : State → Delta → State
apply_of s fail = s
apply_of s (atoms xs) = apply_from 0 s xs
