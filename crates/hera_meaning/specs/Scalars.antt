-- Scalars: their kinds, and their order.
use Rattle.std.specs.Prelude.{◌^◌, Bool, true, false, not, ◌&&◌, ◌||◌, List, [], ◌∷◌, ℤ, pos, negsuc, nat_lt, int_lt}
use Rattle.std.specs.Ordering.{int_eq}
use Rattle.hera_sets.specs.Rows.{is_same, is_below}
use Rattle.hera_meaning.specs.Texts.{is_text}
use Rattle.hera_meaning.specs.declared.scalars.Kind.{Kind}
use Rattle.hera_meaning.specs.declared.scalars.Kind.TheVariants.{Int as int_kind, Bool as bool_kind, Text as text_kind}
use Rattle.hera_meaning.specs.declared.scalars.Scalar.{Scalar}
use Rattle.hera_meaning.specs.declared.scalars.Scalar.TheVariants.{Int as int_scalar, Bool as bool_scalar, Text as text_scalar}
use Rattle.hera_meaning.specs.declared.schemas.Attr.{Attr}

-- from -2 ^ 63 to 2 ^ 63 - 1
abbrev pub fits_int : ℤ → Bool
fits_int (pos n) = nat_lt n (2 ^ 63)
fits_int (negsuc n) = nat_lt n (2 ^ 63)

abbrev pub kind_of : Scalar → Kind
kind_of (int_scalar v) = int_kind
kind_of (bool_scalar b) = bool_kind
kind_of (text_scalar t) = text_kind

abbrev pub is_same_kind : Kind → Kind → Bool
is_same_kind int_kind int_kind = true
is_same_kind bool_kind bool_kind = true
is_same_kind text_kind text_kind = true
is_same_kind _ _ = false

abbrev pub is_kind : Kind → Scalar → Bool
is_kind k s = is_same_kind k (kind_of s)

-- an int in range, a bool, or a text
abbrev pub is_scalar : Scalar → Bool
is_scalar (int_scalar v) = fits_int v
is_scalar (bool_scalar b) = true
is_scalar (text_scalar t) = is_text t

abbrev pub same_bool : Bool → Bool → Bool
same_bool true c = c
same_bool false c = not c

-- scalars of two kinds are never the same
abbrev pub same_scalar : Scalar → Scalar → Bool
same_scalar (int_scalar v) (int_scalar w) = int_eq v w
same_scalar (bool_scalar b) (bool_scalar c) = same_bool b c
same_scalar (text_scalar s) (text_scalar t) = is_same s t
same_scalar _ _ = false

-- ints by value, false before true, texts by their bytes
abbrev pub scalar_less : Scalar → Scalar → Bool
scalar_less (int_scalar v) (int_scalar w) = int_lt v w
scalar_less (bool_scalar b) (bool_scalar c) = not b && c
scalar_less (text_scalar s) (text_scalar t) = is_below s t
scalar_less _ _ = false

-- tuples of the schema, field by field from the left
abbrev pub tuple_less : List Attr → List Scalar → List Scalar → Bool
tuple_less (x ∷ attrs) (a ∷ rest) (b ∷ others) = scalar_less a b || (not (scalar_less b a) && tuple_less attrs rest others)
tuple_less _ _ _ = false

-- a tuple of the schema: one scalar for each attribute, of its kind
abbrev pub is_tuple : List Attr → List Scalar → Bool
is_tuple [] [] = true
is_tuple (a ∷ attrs) (s ∷ rest) = is_kind a.kind s && is_scalar s && is_tuple attrs rest
is_tuple _ _ = false
