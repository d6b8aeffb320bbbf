-- The rows of tuples.
use Rattle.std.specs.Prelude.{◌≡◌, ℕ, zero, suc, ◌+◌, ◌-◌, ◌*◌, ◌^◌, Bool, true, cond, ◌&&◌, List, [], ◌∷◌, ◌++◌, ℤ, pos, negsuc, ◌-ℤ◌, nat_lt, take, drop, length, slice_index}
use Rattle.std.specs.Int.{to_be_bytes, w64}
use Rattle.std.specs.List.{list_all}
use Rattle.hera_sets.specs.Rows.{Row, is_same}
use Rattle.hera_meaning.specs.declared.scalars.Kind.{Kind}
use Rattle.hera_meaning.specs.declared.scalars.Kind.TheVariants.{Int as int_kind, Bool as bool_kind, Text as text_kind}
use Rattle.hera_meaning.specs.declared.scalars.Scalar.{Scalar}
use Rattle.hera_meaning.specs.declared.scalars.Scalar.TheVariants.{Int as int_scalar, Bool as bool_scalar, Text as text_scalar}
use Rattle.hera_meaning.specs.declared.schemas.Attr.{Attr}
use Rattle.hera_meaning.specs.Scalars.{is_scalar, is_tuple}

-- an int with 2 ^ 63 added
abbrev pub shifted : ℤ → ℕ
shifted (pos n) = 2 ^ 63 + n
shifted (negsuc n) = 2 ^ 63 - 1 - n

-- an int is 8 bytes, the highest first; a bool is one byte; a text is its bytes and a zero byte
abbrev pub field_bytes : Scalar → List ℕ
field_bytes (int_scalar v) = to_be_bytes w64 (shifted v)
field_bytes (bool_scalar b) = cond b 1 0 ∷ []
field_bytes (text_scalar t) = t ++ 0 ∷ []

-- the row of a tuple: its fields' bytes, one behind another
abbrev pub row_of : List Scalar → Row
row_of [] = []
row_of (s ∷ rest) = field_bytes s ++ row_of rest

-- the bytes are the row of some tuple of the schema
abbrev pub IsRow : List Attr → Row → Type 0
IsRow schema bytes = (tuple : List Scalar) × (is_tuple schema tuple ≡ true) × (row_of tuple ≡ bytes)

-- ---- a row read back

-- the bytes up to the first zero byte, and with it
abbrev pub through_zero : List ℕ → List ℕ
through_zero [] = []
through_zero (zero ∷ bytes) = zero ∷ []
through_zero (suc b ∷ bytes) = suc b ∷ through_zero bytes

-- the bytes of a field of this kind, which stands first
abbrev pub first_piece : Kind → List ℕ → List ℕ
first_piece int_kind bytes = take 8 bytes
first_piece bool_kind bytes = take 1 bytes
first_piece text_kind bytes = through_zero bytes

-- the bytes of each field
abbrev pub pieces : List Attr → Row → List (List ℕ)
pieces [] bytes = []
pieces (a ∷ attrs) bytes = first_piece a.kind bytes ∷ pieces attrs (drop (length (first_piece a.kind bytes)) bytes)

-- the number that big-endian bytes write behind n
abbrev pub number_from : ℕ → List ℕ → ℕ
number_from n [] = n
number_from n (b ∷ bytes) = number_from (n * 256 + b) bytes

-- the field that has these bytes
abbrev pub scalar_of : Kind → List ℕ → Scalar
scalar_of int_kind bytes = int_scalar (pos (number_from 0 bytes) -ℤ pos (2 ^ 63))
scalar_of bool_kind bytes = bool_scalar (nat_lt 0 (slice_index bytes 0))
scalar_of text_kind bytes = text_scalar (take (length bytes - 1) bytes)

abbrev pub scalars_of : List Attr → List (List ℕ) → List Scalar
scalars_of (a ∷ attrs) (p ∷ rest) = scalar_of a.kind p ∷ scalars_of attrs rest
scalars_of _ _ = []

-- the tuple that a row reads as
abbrev pub fields_of : List Attr → Row → List Scalar
fields_of schema row = scalars_of schema (pieces schema row)

-- a field of a tuple, the int 0 past the last
abbrev pub scalar_at : List Scalar → ℕ → Scalar
scalar_at [] i = int_scalar (pos 0)
scalar_at (s ∷ rest) zero = s
scalar_at (s ∷ rest) (suc i) = scalar_at rest i

-- a field of a row
abbrev pub field_at : List Attr → Row → ℕ → Scalar
field_at schema row i = scalar_at (fields_of schema row) i

-- the same as `IsRow`, as a test: the bytes are the row of the tuple that they read as
abbrev pub is_row : List Attr → Row → Bool
is_row schema bytes = list_all is_scalar (fields_of schema bytes) && is_same (row_of (fields_of schema bytes)) bytes
