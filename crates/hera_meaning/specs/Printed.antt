-- Printed texts.
use Rattle.std.specs.Prelude.{ℕ, zero, suc, Bool, true, false, cond, List, [], ◌∷◌, ◌++◌, ℤ, length, nat_eq, codes}
use Rattle.std.specs.List.{flat_map}
use Rattle.std.specs.Fmt.{decimal, signed_decimal}
use Rattle.hera_sets.specs.Rows.{Row}
use Rattle.hera_meaning.specs.declared.scalars.Kind.{Kind}
use Rattle.hera_meaning.specs.declared.scalars.Kind.TheVariants.{Int as int_kind, Bool as bool_kind, Text as text_kind}
use Rattle.hera_meaning.specs.declared.scalars.Sign.{Sign}
use Rattle.hera_meaning.specs.declared.scalars.Sign.TheVariants.{Plus, Minus}
use Rattle.hera_meaning.specs.declared.scalars.Scalar.{Scalar}
use Rattle.hera_meaning.specs.declared.scalars.Scalar.TheVariants.{Int as int_scalar, Bool as bool_scalar, Text as text_scalar}
use Rattle.hera_meaning.specs.declared.schemas.Attr.{Attr}
use Rattle.hera_meaning.specs.declared.schemas.RelDecl.{RelDecl}
use Rattle.hera_meaning.specs.declared.trees.Shape.{Shape}
use Rattle.hera_meaning.specs.declared.trees.Shape.TheVariants.{Int, Bool as bool_shape, Text, Tuple, Rel, Delta as delta_shape}
use Rattle.hera_meaning.specs.declared.trees.TrapName.{TrapName}
use Rattle.hera_meaning.specs.declared.trees.TrapName.TheVariants.{DivZero, Overflow, EmptyMin, ApplyFail, WhenFail, ReadFail, Assert}
use Rattle.hera_meaning.specs.Rows.{fields_of}
use Rattle.hera_meaning.specs.Deltas.{Atom, Delta, fail, atoms, schema_of}
use Rattle.hera_meaning.specs.Values.{Value, scalar_in, row_in, rows_in, delta_in}

-- a number in decimal
abbrev pub number_text : ℕ → List ℕ
number_text n = decimal n

-- an int in decimal, with `-` in front of a negative one
abbrev pub int_text : ℤ → List ℕ
int_text v = signed_decimal v

abbrev pub bool_text : Bool → List ℕ
bool_text true = codes "true"
bool_text false = codes "false"

-- a scalar by itself: a text as its bytes
abbrev pub scalar_text : Scalar → List ℕ
scalar_text (int_scalar v) = int_text v
scalar_text (bool_scalar b) = bool_text b
scalar_text (text_scalar t) = t

-- a byte of a text inside a tuple: `\"`, `\\`, `\n`, `\t`, and other bytes as they are
unfoldable pub quoted_byte : ℕ → List ℕ
quoted_byte b =
    cond (nat_eq b 34) (92 ∷ 34 ∷ []) (cond (nat_eq b 92) (92 ∷ 92 ∷ []) (cond (nat_eq b 10) (92 ∷ 110 ∷ []) (cond (nat_eq b 9) (92 ∷ 116 ∷ []) (b ∷ []))))

abbrev pub quoted : List ℕ → List ℕ
quoted bytes = flat_map quoted_byte bytes

-- a scalar inside a tuple: a text in quotes
abbrev pub inner_text : Scalar → List ℕ
inner_text (int_scalar v) = int_text v
inner_text (bool_scalar b) = bool_text b
inner_text (text_scalar t) = codes "\"" ++ quoted t ++ codes "\""

abbrev pub fields_text : List Scalar → List ℕ
fields_text [] = []
fields_text (s ∷ []) = inner_text s
fields_text (s ∷ t ∷ rest) = inner_text s ++ codes ", " ++ fields_text (t ∷ rest)

-- a tuple: `[`, its fields, `]`
unfoldable pub tuple_text : List Attr → Row → List ℕ
tuple_text schema row = codes "[" ++ fields_text (fields_of schema row) ++ codes "]"

-- each tuple on a line
abbrev pub rows_text : List Attr → List Row → List ℕ
rows_text schema rows = flat_map (λ x. tuple_text schema x ++ codes "\n") rows

-- a relation: `rows N`, then its tuples
unfoldable pub table_text : List Attr → List Row → List ℕ
table_text schema rows = codes "rows " ++ number_text (length rows) ++ codes "\n" ++ rows_text schema rows

abbrev pub sign_text : Sign → List ℕ
sign_text Plus = codes "+"
sign_text Minus = codes "-"

-- the name of a relation, empty past the last
abbrev pub name_of : List RelDecl → ℕ → List ℕ
name_of [] r = []
name_of (d ∷ rels) zero = d.name
name_of (d ∷ rels) (suc r) = name_of rels r

-- an atom on a line: the sign, the relation's name and the tuple
unfoldable pub atom_text : List RelDecl → Atom → List ℕ
atom_text rels a = sign_text a.sign ++ name_of rels a.rel ++ tuple_text (schema_of rels a.rel) a.row ++ codes "\n"

abbrev pub atoms_text : List RelDecl → List Atom → List ℕ
atoms_text rels xs = flat_map (atom_text rels) xs

-- a delta: `delta N`, then its atoms; or `fail`
unfoldable pub delta_text : List RelDecl → Delta → List ℕ
delta_text rels fail = codes "fail\n"
delta_text rels (atoms xs) = codes "delta " ++ number_text (length xs) ++ codes "\n" ++ atoms_text rels xs

-- a value of a shape, each line with its line feed
unfoldable pub text_of : Shape → Value → List RelDecl → List ℕ
text_of Int v rels = scalar_text (scalar_in v) ++ codes "\n"
text_of bool_shape v rels = scalar_text (scalar_in v) ++ codes "\n"
text_of Text v rels = scalar_text (scalar_in v) ++ codes "\n"
text_of (Tuple schema) v rels = tuple_text schema (row_in v) ++ codes "\n"
text_of (Rel schema) v rels = table_text schema (rows_in v)
text_of delta_shape v rels = delta_text rels (delta_in v)

-- the line after a commit, by its number
unfoldable pub commit_text : ℕ → List ℕ
commit_text n = codes "commit " ++ number_text n ++ codes "\n"

-- the line of a commit's label, which is printed as a text
abbrev pub label_text : List ℕ → List ℕ
label_text label = label ++ codes "\n"

-- a name, ` at ` and a number
unfoldable pub end_text : List ℕ → ℕ → List ℕ
end_text name at = name ++ codes " at " ++ number_text at ++ codes "\n"

abbrev pub trap_name : TrapName → List ℕ
trap_name DivZero = codes "DivZero"
trap_name Overflow = codes "Overflow"
trap_name EmptyMin = codes "EmptyMin"
trap_name ApplyFail = codes "ApplyFail"
trap_name WhenFail = codes "WhenFail"
trap_name ReadFail = codes "ReadFail"
trap_name Assert = codes "Assert"

-- the line of a trap
unfoldable pub trap_line : TrapName → ℕ → List ℕ
trap_line name at = end_text (codes "trap " ++ trap_name name) at

-- the line of a run that has no turn left
unfoldable pub spent_line : List ℕ
spent_line = codes "turns spent\n"

-- ---- declarations

abbrev pub kind_text : Kind → List ℕ
kind_text int_kind = codes "int"
kind_text bool_kind = codes "bool"
kind_text text_kind = codes "text"

abbrev pub attr_text : Attr → List ℕ
attr_text a = a.name ++ codes " " ++ kind_text a.kind

abbrev pub attrs_text : List Attr → List ℕ
attrs_text [] = []
attrs_text (a ∷ []) = attr_text a
attrs_text (a ∷ b ∷ rest) = attr_text a ++ codes ", " ++ attrs_text (b ∷ rest)

-- a relation's declaration
unfoldable pub decl_text : RelDecl → List ℕ
decl_text d = codes "relation " ++ d.name ++ codes "(" ++ attrs_text d.schema ++ codes ");\n"
