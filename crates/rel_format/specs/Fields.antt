-- The values of single fields of a half.
use Rattle.std.specs.Prelude.{ℕ, ◌+◌, Bool, true, cond, not, ◌==◌, ◌&&◌, nat_le, nat_lt, List, Option, None, Some, length, take, slice_get}
use Rattle.std.specs.Option.{option_and_then}
use Rattle.std.specs.List.{list_all}
use Rattle.std.specs.Int.{Width, w16, byte_len, from_be_bytes}
use Rattle.std.specs.Str.{is_utf8, chars}
use Rattle.hera_sets.specs.Rows.{Row, is_same, holds, is_past}
use Rattle.hera_meaning.specs.declared.scalars.Kind.{Kind}
use Rattle.hera_meaning.specs.declared.scalars.Kind.TheVariants.{Int as int_kind, Bool as bool_kind, Text as text_kind}
use Rattle.hera_meaning.specs.declared.schemas.Attr.{Attr}
use Rattle.hera_meaning.specs.declared.schemas.TheConstants.{ATTRS_LIMIT, RELATIONS_LIMIT}
use Rattle.rel_format.specs.declared.version.TheConstants.{MAGIC_LEN}
use Rattle.hera_meaning.specs.Identifiers.{is_word, identifier_limit}
use Rattle.hera_row.specs.Reading.{row_len_of}

-- what keeps a rule
abbrev pub kept : {A : Type 0} → (A → Bool) → Option A → Option A
kept rule None = None
kept rule (Some x) = cond (rule x) (Some x) None

abbrev pub piece : ℕ → List ℕ → Option (List ℕ)
piece n bytes = cond (nat_le n (length bytes)) (Some (take n bytes)) None

abbrev pub number : Width → List ℕ → Option ℕ
number w bytes = cond (nat_le (byte_len w) (length bytes)) (Some (from_be_bytes w (take (byte_len w) bytes))) None

abbrev pub first_byte : List ℕ → Option ℕ
first_byte bytes = slice_get bytes 0

-- the same as `IsIdentifier`, as a test
abbrev pub is_identifier : List ℕ → Bool
is_identifier name = nat_le (length name) identifier_limit && (is_utf8 name && is_word (chars name))

abbrev pub kind_of : ℕ → Option Kind
kind_of n = cond (n == 1) (Some int_kind) (cond (n == 2) (Some bool_kind) (cond (n == 3) (Some text_kind) None))

abbrev pub count_field : List ℕ → Option ℕ
count_field bytes = kept (λ n. nat_le n RELATIONS_LIMIT) (number w16 bytes)

abbrev pub length_field : List ℕ → Option ℕ
length_field bytes = kept (nat_lt 0) (first_byte bytes)

abbrev pub width_field : List ℕ → Option ℕ
width_field bytes = kept (λ n. nat_lt 0 n && nat_le n ATTRS_LIMIT) (first_byte bytes)

abbrev pub name_field : ℕ → List ℕ → Option (List ℕ)
name_field n bytes = kept is_identifier (piece n bytes)

-- a name that is none of these
abbrev pub new_name : List (List ℕ) → ℕ → List ℕ → Option (List ℕ)
new_name names n bytes = kept (λ name. not (holds names name)) (name_field n bytes)

abbrev pub kind_field : List ℕ → Option Kind
kind_field bytes = option_and_then kind_of (first_byte bytes)

abbrev pub magic_field : List ℕ → List ℕ → Option (List ℕ)
magic_field magic bytes = kept (λ m. is_same m magic) (piece MAGIC_LEN bytes)

-- ---- pages

-- the end of a page: its relation, the bytes used in it, and its last row
pub record PageEnd : Type 0 where
  pub rel : ℕ
  pub used : ℕ
  pub row : Row

-- a relation, not below the previous page's
abbrev pub follows : Option PageEnd → ℕ → Bool
follows None rel = true
follows (Some e) rel = nat_le e.rel rel

-- a page's relation, of so many
abbrev pub rel_field : ℕ → Option PageEnd → List ℕ → Option ℕ
rel_field count last bytes = kept (λ rel. nat_lt rel count && follows last rel) (number w16 bytes)

-- how many rows a page has
abbrev pub row_count_field : List ℕ → Option ℕ
row_count_field bytes = kept (nat_lt 0) (number w16 bytes)

-- the row did not fit behind the bytes used in the page before
abbrev pub had_no_room : ℕ → Option ℕ → ℕ → Bool
had_no_room page None len = true
had_no_room page (Some used) len = nat_lt page (used + len)

-- a row fits behind the bytes used in its page, lies past the row before it, and had no room in the
-- page before, of which the bytes used are told where it is the first of its page
abbrev pub row_keeps : ℕ → ℕ → Option Row → Option ℕ → Row → Bool
row_keeps page used before full r = nat_le (used + length r) page && (is_past before r && had_no_room page full (length r))

-- the row of the schema with which the bytes begin
abbrev pub first_row : List Attr → List ℕ → Option Row
first_row schema bytes = option_and_then (λ n. Some (take n bytes)) (row_len_of schema bytes)

abbrev pub row_field : ℕ → List Attr → ℕ → Option Row → Option ℕ → List ℕ → Option Row
row_field page schema used before full bytes = kept (row_keeps page used before full) (first_row schema bytes)

-- so many zero bytes
abbrev pub fill_field : ℕ → List ℕ → Option (List ℕ)
fill_field n bytes = kept (list_all (λ x. x == 0)) (piece n bytes)
