-- Values, and their parts.
use Rattle.std.specs.Prelude.{ℕ, zero, suc, Bool, true, false, ◌&&◌, List, [], ◌∷◌, ℤ, pos, nat_eq}
use Rattle.hera_sets.specs.Rows.{Row, is_same}
use Rattle.hera_meaning.specs.declared.scalars.Sign.{Sign}
use Rattle.hera_meaning.specs.declared.scalars.Sign.TheVariants.{Plus, Minus}
use Rattle.hera_meaning.specs.declared.scalars.Scalar.{Scalar}
use Rattle.hera_meaning.specs.declared.scalars.Scalar.TheVariants.{Int as int_scalar, Bool as bool_scalar}
use Rattle.hera_meaning.specs.Scalars.{same_scalar}
use Rattle.hera_meaning.specs.Deltas.{Atom, Delta, fail, atoms}
use Rattle.hera_meaning.specs.Aggregates.{int_of}

-- a scalar, a tuple as its row, a relation as its ascending rows, or a delta
pub data Value : Type 0 where
  scalar : Scalar → Value
  tuple : Row → Value
  table : List Row → Value
  delta : Delta → Value

abbrev pub int_value : ℤ → Value
int_value v = scalar (int_scalar v)

abbrev pub bool_value : Bool → Value
bool_value b = scalar (bool_scalar b)

-- the parts of a value; of another value each has a default

abbrev pub scalar_in : Value → Scalar
scalar_in (scalar s) = s
scalar_in _ = int_scalar (pos 0)

abbrev pub row_in : Value → Row
row_in (tuple r) = r
row_in _ = []

abbrev pub rows_in : Value → List Row
rows_in (table rows) = rows
rows_in _ = []

abbrev pub delta_in : Value → Delta
delta_in (delta d) = d
delta_in _ = fail

abbrev pub int_in : Value → ℤ
int_in v = int_of (scalar_in v)

abbrev pub truth_of : Scalar → Bool
truth_of (bool_scalar b) = b
truth_of _ = false

abbrev pub is_true : Value → Bool
is_true v = truth_of (scalar_in v)

-- the value at a place, the int 0 past the last
abbrev pub operand : List Value → ℕ → Value
operand [] i = int_value (pos 0)
operand (v ∷ rest) zero = v
operand (v ∷ rest) (suc i) = operand rest i

abbrev pub same_sign : Sign → Sign → Bool
same_sign Plus Plus = true
same_sign Minus Minus = true
same_sign _ _ = false

-- relations with the same rows
abbrev pub same_rows : List Row → List Row → Bool
same_rows [] [] = true
same_rows (x ∷ xs) (y ∷ ys) = is_same x y && same_rows xs ys
same_rows _ _ = false

abbrev pub same_atom : Atom → Atom → Bool
same_atom a b = same_sign a.sign b.sign && nat_eq a.rel b.rel && is_same a.row b.row

abbrev pub same_atoms : List Atom → List Atom → Bool
same_atoms [] [] = true
same_atoms (a ∷ xs) (b ∷ ys) = same_atom a b && same_atoms xs ys
same_atoms _ _ = false

-- `fail` equals only `fail`
abbrev pub same_delta : Delta → Delta → Bool
same_delta fail fail = true
same_delta (atoms xs) (atoms ys) = same_atoms xs ys
same_delta _ _ = false

abbrev pub same_value : Value → Value → Bool
same_value (scalar s) (scalar t) = same_scalar s t
same_value (tuple r) (tuple q) = is_same r q
same_value (table xs) (table ys) = same_rows xs ys
same_value (delta d) (delta e) = same_delta d e
same_value _ _ = false
