-- Which operands fit an operation, and which values have a shape.
use Rattle.std.specs.Prelude.{ℕ, zero, suc, Bool, true, false, cond, ◌&&◌, List, [], ◌∷◌, map, length, replicate, nat_lt}
use Rattle.std.specs.List.{list_all}
use Rattle.hera_meaning.specs.declared.scalars.Kind.{Kind}
use Rattle.hera_meaning.specs.declared.scalars.Kind.TheVariants.{Int as int_kind, Bool as bool_kind, Text as text_kind}
use Rattle.hera_meaning.specs.declared.schemas.Attr.{Attr}
use Rattle.hera_meaning.specs.declared.schemas.RelDecl.{RelDecl}
use Rattle.hera_meaning.specs.declared.schemas.Agg.{Agg}
use Rattle.hera_meaning.specs.declared.schemas.Agg.TheVariants.{Count as count_agg, Sum as sum_agg, Min as min_agg, Max as max_agg}
use Rattle.hera_meaning.specs.declared.trees.Op.{Op}
use Rattle.hera_meaning.specs.declared.trees.Op.TheVariants.{Neg, Not, Add, Sub, Mul, Div, Rem, Eq, Ne, Lt, Le, Gt, Ge, In, Field, MakeRow, MakeRel, Project, Union, Minus, Inter, Join, Group, Count, Empty, Sum, Min, Max, Atom as atom_op, Bulk, Ins, Del, IsFail, Smash, Merge}
use Rattle.hera_meaning.specs.declared.trees.Shape.{Shape}
use Rattle.hera_meaning.specs.declared.trees.Shape.TheVariants.{Int as int_shape, Bool as bool_shape, Text as text_shape, Tuple, Rel, Delta as delta_shape}
use Rattle.hera_meaning.specs.Scalars.{kind_of, is_kind, is_same_kind}
use Rattle.hera_meaning.specs.Rows.{is_row}
use Rattle.hera_meaning.specs.Deltas.{Atom, Delta, fail, atoms, schema_of}
use Rattle.hera_meaning.specs.Relations.{can_join}
use Rattle.hera_meaning.specs.Values.{Value, scalar, tuple, table, delta, scalar_in, operand}

-- ---- what an operand has to be

pub data Want : Type 0 where
  a_scalar : Kind → Want
  a_tuple : Want
  a_tuple_of : List Attr → Want
  a_table : Want
  a_table_of : List Attr → Want
  a_delta : Want

abbrev pub meets : Want → Value → Bool
meets (a_scalar k) (scalar s) = is_kind k s
meets a_tuple (tuple r) = true
meets (a_tuple_of schema) (tuple r) = is_row schema r
meets a_table (table rows) = true
meets (a_table_of schema) (table rows) = list_all (is_row schema) rows
meets a_delta (delta d) = true
meets _ _ = false

-- as many operands as wanted, each as wanted
abbrev pub all_meet : List Want → List Value → Bool
all_meet [] [] = true
all_meet (w ∷ ws) (v ∷ vs) = meets w v && all_meet ws vs
all_meet _ _ = false

-- what stands beside a value in `==`
abbrev pub like : Value → Want
like (scalar s) = a_scalar (kind_of s)
like (tuple r) = a_tuple
like (table rows) = a_table
like (delta d) = a_delta

-- what stands in an order: two texts where the first operand is a text, else two ints
abbrev pub in_kind_order : Value → Want
in_kind_order v = cond (is_kind text_kind (scalar_in v)) (a_scalar text_kind) (a_scalar int_kind)

abbrev pub two : Want → List Want
two w = w ∷ w ∷ []

-- the operands that the operation takes; the first one is looked at for `==`, `!=` and the orders alone
abbrev pub wants : Op → Value → List Want
wants Neg v = a_scalar int_kind ∷ []
wants Not v = a_scalar bool_kind ∷ []
wants Add v = two (a_scalar int_kind)
wants Sub v = two (a_scalar int_kind)
wants Mul v = two (a_scalar int_kind)
wants Div v = two (a_scalar int_kind)
wants Rem v = two (a_scalar int_kind)
wants Eq v = two (like v)
wants Ne v = two (like v)
wants Lt v = two (in_kind_order v)
wants Le v = two (in_kind_order v)
wants Gt v = two (in_kind_order v)
wants Ge v = two (in_kind_order v)
wants In v = a_tuple ∷ a_table ∷ []
wants (Field schema i) v = a_tuple_of schema ∷ []
wants (MakeRow schema) v = map (λ a. a_scalar a.kind) schema
wants (MakeRel n) v = replicate n a_tuple
wants (Project schema places) v = a_table_of schema ∷ []
wants Union v = two a_table
wants Minus v = two a_table
wants Inter v = two a_table
wants (Join left right) v = a_table_of left ∷ a_table_of right ∷ []
wants (Group schema by aggs) v = a_table_of schema ∷ []
wants Count v = a_table ∷ []
wants Empty v = a_table ∷ []
wants (Sum schema i) v = a_table_of schema ∷ []
wants (Min schema i) v = a_table_of schema ∷ []
wants (Max schema i) v = a_table_of schema ∷ []
wants (atom_op sign r) v = a_tuple ∷ []
wants (Bulk sign r) v = a_table ∷ []
wants (Ins r) v = a_delta ∷ []
wants (Del r) v = a_delta ∷ []
wants IsFail v = a_delta ∷ []
wants Smash v = two a_delta
wants Merge v = two a_delta

-- how many operands the operation takes
abbrev pub arity : Op → ℕ
arity Neg = 1
arity Not = 1
arity Add = 2
arity Sub = 2
arity Mul = 2
arity Div = 2
arity Rem = 2
arity Eq = 2
arity Ne = 2
arity Lt = 2
arity Le = 2
arity Gt = 2
arity Ge = 2
arity In = 2
arity (Field schema i) = 1
arity (MakeRow schema) = length schema
arity (MakeRel n) = n
arity (Project schema places) = 1
arity Union = 2
arity Minus = 2
arity Inter = 2
arity (Join left right) = 2
arity (Group schema by aggs) = 1
arity Count = 1
arity Empty = 1
arity (Sum schema i) = 1
arity (Min schema i) = 1
arity (Max schema i) = 1
arity (atom_op sign r) = 1
arity (Bulk sign r) = 1
arity (Ins r) = 1
arity (Del r) = 1
arity IsFail = 1
arity Smash = 2
arity Merge = 2

-- ---- the places of an operation

abbrev pub is_place : List Attr → ℕ → Bool
is_place schema i = nat_lt i (length schema)

-- an int stands at the place
abbrev pub is_int_at : List Attr → ℕ → Bool
is_int_at [] i = false
is_int_at (a ∷ attrs) zero = is_same_kind a.kind int_kind
is_int_at (a ∷ attrs) (suc i) = is_int_at attrs i

abbrev pub is_good_agg : List Attr → Agg → Bool
is_good_agg schema count_agg = true
is_good_agg schema (sum_agg i) = is_int_at schema i
is_good_agg schema (min_agg i) = is_place schema i
is_good_agg schema (max_agg i) = is_place schema i

-- places are in range, a place that is summed is an int, and the schemas of a join go together
abbrev pub is_good_op : Op → Bool
is_good_op (Field schema i) = is_place schema i
is_good_op (Project schema places) = list_all (is_place schema) places
is_good_op (Join left right) = can_join left right
is_good_op (Group schema by aggs) = list_all (is_place schema) by && list_all (is_good_agg schema) aggs
is_good_op (Sum schema i) = is_int_at schema i
is_good_op (Min schema i) = is_place schema i
is_good_op (Max schema i) = is_place schema i
is_good_op _ = true

-- the operands fit the operation
abbrev pub fits_of : Op → List Value → Bool
fits_of op vs = is_good_op op && all_meet (wants op (operand vs 0)) vs

-- ---- values that are printed, entered or applied

-- the atom names a relation of the catalogue and holds a row of it
abbrev pub is_atom_of : List RelDecl → Atom → Bool
is_atom_of rels a = nat_lt a.rel (length rels) && is_row (schema_of rels a.rel) a.row

abbrev pub is_delta_of : List RelDecl → Delta → Bool
is_delta_of rels fail = true
is_delta_of rels (atoms xs) = list_all (is_atom_of rels) xs

-- the value is of the shape's case, its rows are rows of the shape's schema, its atoms are of the catalogue
abbrev pub has_shape : List RelDecl → Shape → Value → Bool
has_shape rels int_shape (scalar s) = is_kind int_kind s
has_shape rels bool_shape (scalar s) = is_kind bool_kind s
has_shape rels text_shape (scalar s) = is_kind text_kind s
has_shape rels (Tuple schema) (tuple r) = is_row schema r
has_shape rels (Rel schema) (table rows) = list_all (is_row schema) rows
has_shape rels delta_shape (delta d) = is_delta_of rels d
has_shape _ _ _ = false
