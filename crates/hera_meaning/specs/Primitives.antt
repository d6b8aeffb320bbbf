-- What an operation gives of its operands: a value or a trap.
use Rattle.std.specs.Prelude.{ℕ, ◌^◌, ◌-◌, Bool, cond, not, ◌&&◌, List, [], ◌∷◌, ℤ, pos, negsuc, ◌+ℤ◌, ◌-ℤ◌, ◌*ℤ◌, neg_ℤ, map, length, nat_eq, int_div, int_rem}
use Rattle.std.specs.Ordering.{int_eq}
use Rattle.hera_sets.specs.Rows.{Row, holds, normal}
use Rattle.hera_sets.specs.Sets.{union_of, minus_of, inter_of}
use Rattle.hera_meaning.specs.declared.scalars.Sign.{Sign}
use Rattle.hera_meaning.specs.declared.scalars.Scalar.{Scalar}
use Rattle.hera_meaning.specs.declared.trees.TrapName.{TrapName}
use Rattle.hera_meaning.specs.declared.trees.TrapName.TheVariants.{DivZero, Overflow, EmptyMin, ReadFail}
use Rattle.hera_meaning.specs.declared.trees.Op.{Op}
use Rattle.hera_meaning.specs.declared.trees.Op.TheVariants.{Neg, Not, Add, Sub, Mul, Div, Rem, Eq, Ne, Lt, Le, Gt, Ge, In, Field, MakeRow, MakeRel, Project, Union, Minus, Inter, Join, Group, Count, Empty, Sum, Min, Max, Atom as atom_op, Bulk, Ins, Del, IsFail, Smash, Merge}
use Rattle.hera_meaning.specs.Scalars.{fits_int, scalar_less}
use Rattle.hera_meaning.specs.Rows.{row_of, field_at}
use Rattle.hera_meaning.specs.Deltas.{Atom, Delta, fail, atoms, is_fail, smash_of, merge_of, rows_named, plus_atoms, minus_atoms}
use Rattle.hera_meaning.specs.Relations.{project_of, join_of}
use Rattle.hera_meaning.specs.Aggregates.{is_few, sum_of, column, least_scalar, greatest_scalar, group_of, are_sums_in_range}
use Rattle.hera_meaning.specs.Values.{Value, scalar, tuple, table, delta, int_value, bool_value, scalar_in, row_in, rows_in, delta_in, int_in, is_true, operand, same_value}
use Rattle.hera_meaning.specs.Fits.{fits_of}

pub data Answer : Type 0 where
  gives : Value → Answer
  refuses : TrapName → Answer

-- the exact result, where it is in range
abbrev pub in_range : ℤ → Answer
in_range z = cond (fits_int z) (gives (int_value z)) (refuses Overflow)

abbrev pub is_least_by_minus_one : ℤ → ℤ → Bool
is_least_by_minus_one a b = int_eq a (negsuc (2 ^ 63 - 1)) && int_eq b (negsuc 0)

-- quotient or remainder, toward zero
abbrev pub divided : (ℤ → ℤ → ℤ) → ℤ → ℤ → Answer
divided f a b = cond (int_eq b (pos 0)) (refuses DivZero) (cond (is_least_by_minus_one a b) (refuses Overflow) (gives (int_value (f a b))))

-- the atoms of one relation and sign that hold these rows
abbrev pub atoms_of_rows : Sign → ℕ → List Row → List Atom
atoms_of_rows sign r rows = map (λ x. record { sign = sign; rel = r; row = x }) rows

-- the tuples of a relation with plus, or with minus
abbrev pub read_delta : (List Atom → List Atom) → ℕ → Delta → Answer
read_delta part r fail = refuses ReadFail
read_delta part r (atoms xs) = gives (table (rows_named r (part xs)))

-- the least or the greatest of some fields
abbrev pub end_of_fields : (List Scalar → Scalar) → List Scalar → Answer
end_of_fields f [] = refuses EmptyMin
end_of_fields f (s ∷ rest) = gives (scalar (f (s ∷ rest)))

-- whether the first of two operands stands before the second, or the second before the first
abbrev pub is_less : List Value → Bool
is_less vs = scalar_less (scalar_in (operand vs 0)) (scalar_in (operand vs 1))

abbrev pub is_greater : List Value → Bool
is_greater vs = scalar_less (scalar_in (operand vs 1)) (scalar_in (operand vs 0))

-- what the operation gives of operands that fit
abbrev pub given : Op → List Value → Answer
given Neg vs = in_range (neg_ℤ (int_in (operand vs 0)))
given Not vs = gives (bool_value (not (is_true (operand vs 0))))
given Add vs = in_range (int_in (operand vs 0) +ℤ int_in (operand vs 1))
given Sub vs = in_range (int_in (operand vs 0) -ℤ int_in (operand vs 1))
given Mul vs = in_range (int_in (operand vs 0) *ℤ int_in (operand vs 1))
given Div vs = divided int_div (int_in (operand vs 0)) (int_in (operand vs 1))
given Rem vs = divided int_rem (int_in (operand vs 0)) (int_in (operand vs 1))
given Eq vs = gives (bool_value (same_value (operand vs 0) (operand vs 1)))
given Ne vs = gives (bool_value (not (same_value (operand vs 0) (operand vs 1))))
given Lt vs = gives (bool_value (is_less vs))
given Le vs = gives (bool_value (not (is_greater vs)))
given Gt vs = gives (bool_value (is_greater vs))
given Ge vs = gives (bool_value (not (is_less vs)))
given In vs = gives (bool_value (holds (rows_in (operand vs 1)) (row_in (operand vs 0))))
given (Field schema i) vs = gives (scalar (field_at schema (row_in (operand vs 0)) i))
given (MakeRow schema) vs = gives (tuple (row_of (map scalar_in vs)))
given (MakeRel n) vs = gives (table (normal (map row_in vs)))
given (Project schema places) vs = gives (table (project_of schema places (rows_in (operand vs 0))))
given Union vs = gives (table (union_of (rows_in (operand vs 0)) (rows_in (operand vs 1))))
given Minus vs = gives (table (minus_of (rows_in (operand vs 0)) (rows_in (operand vs 1))))
given Inter vs = gives (table (inter_of (rows_in (operand vs 0)) (rows_in (operand vs 1))))
given (Join left right) vs = gives (table (join_of left right (rows_in (operand vs 0)) (rows_in (operand vs 1))))
given (Group schema by aggs) vs =
    cond (is_few (rows_in (operand vs 0)) && are_sums_in_range schema by aggs (rows_in (operand vs 0)))
    (gives (table (group_of schema by aggs (rows_in (operand vs 0)))))
    (refuses Overflow)
given Count vs = in_range (pos (length (rows_in (operand vs 0))))
given Empty vs = gives (bool_value (nat_eq (length (rows_in (operand vs 0))) 0))
given (Sum schema i) vs = cond (is_few (rows_in (operand vs 0))) (in_range (sum_of schema i (rows_in (operand vs 0)))) (refuses Overflow)
given (Min schema i) vs = end_of_fields least_scalar (column schema i (rows_in (operand vs 0)))
given (Max schema i) vs = end_of_fields greatest_scalar (column schema i (rows_in (operand vs 0)))
given (atom_op sign r) vs = gives (delta (atoms (record { sign = sign; rel = r.0; row = row_in (operand vs 0) } ∷ [])))
given (Bulk sign r) vs = gives (delta (atoms (atoms_of_rows sign r.0 (rows_in (operand vs 0)))))
given (Ins r) vs = read_delta plus_atoms r.0 (delta_in (operand vs 0))
given (Del r) vs = read_delta minus_atoms r.0 (delta_in (operand vs 0))
given IsFail vs = gives (bool_value (is_fail (delta_in (operand vs 0))))
given Smash vs = gives (delta (smash_of (delta_in (operand vs 0)) (delta_in (operand vs 1))))
given Merge vs = gives (delta (merge_of (delta_in (operand vs 0)) (delta_in (operand vs 1))))

-- what the operation gives; the int 0 of operands that do not fit
abbrev pub prim_of : Op → List Value → Answer
prim_of op vs = cond (fits_of op vs) (given op vs) (gives (int_value (pos 0)))
