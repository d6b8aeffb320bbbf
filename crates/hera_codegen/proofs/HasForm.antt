-- Values that have their forms.
use Rattle.std.proofs.Common.{◌<◌, List, [], ◌∷◌, length}
use Rattle.hera_sets.specs.Rows.{Row, IsAscending}
use Rattle.hera_meaning.specs.declared.scalars.Kind.{Kind}
use Rattle.hera_meaning.specs.declared.schemas.RelDecl.{RelDecl}
use Rattle.hera_meaning.specs.Deltas.{Atom, Delta, fail, atoms, State, keys_of, schema_of}
use Rattle.hera_meaning.specs.Values.{Value, scalar, tuple, table, delta}
use Rattle.hera_meaning.specs.Forms.{Form, of_scalar, of_tuple, of_table, of_delta, kinds_of}
use Rattle.hera_codegen.proofs.Codec.{IsOfKind, IsRowOf}

-- each row is of these kinds
abbrev pub AreRowsOf : List Kind → List Row → Type 0
AreRowsOf ks [] = Unit {0}
AreRowsOf ks (r ∷ rows) = IsRowOf ks r × AreRowsOf ks rows

pub record IsTableOf (ks : List Kind) (rows : List Row) : Type 0 where
  pub ascending : IsAscending rows
  pub rows_are : AreRowsOf ks rows

-- the atom is of these relations
pub record IsAtomIn (rels : List RelDecl) (a : Atom) : Type 0 where
  pub known : a.rel < length rels
  pub row_is : IsRowOf (kinds_of (schema_of rels a.rel)) a.row

abbrev pub AreAtomsIn : List RelDecl → List Atom → Type 0
AreAtomsIn rels [] = Unit {0}
AreAtomsIn rels (a ∷ xs) = IsAtomIn rels a × AreAtomsIn rels xs

pub record IsChangeIn (rels : List RelDecl) (xs : List Atom) : Type 0 where
  pub ascending : IsAscending (keys_of xs)
  pub atoms_are : AreAtomsIn rels xs

abbrev pub IsDeltaIn : List RelDecl → Delta → Type 0
IsDeltaIn rels fail = Unit {0}
IsDeltaIn rels (atoms xs) = IsChangeIn rels xs

-- each relation has a table of its kinds
abbrev pub IsStateIn : List RelDecl → State → Type 0
IsStateIn [] [] = Unit {0}
IsStateIn [] (rows ∷ s) = ⊥
IsStateIn (d ∷ rels) [] = ⊥
IsStateIn (d ∷ rels) (rows ∷ s) = IsTableOf (kinds_of d.schema) rows × IsStateIn rels s

abbrev pub HasForm : List RelDecl → Form → Value → Type 0
HasForm rels (of_scalar k) (scalar s) = IsOfKind k s
HasForm rels (of_tuple ks) (tuple r) = IsRowOf ks r
HasForm rels (of_table ks) (table rows) = IsTableOf ks rows
HasForm rels of_delta (delta d) = IsDeltaIn rels d
HasForm rels _ _ = ⊥

abbrev pub AllHave : List RelDecl → List Form → List Value → Type 0
AllHave rels [] [] = Unit {0}
AllHave rels [] (v ∷ vs) = ⊥
AllHave rels (f ∷ fs) [] = ⊥
AllHave rels (f ∷ fs) (v ∷ vs) = HasForm rels f v × AllHave rels fs vs
