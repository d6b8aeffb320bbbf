-- How long the fields and the row are with which bytes begin.
use Rattle.std.specs.Prelude.{◌≡◌, ℕ, ◌+◌, cond, ◌&&◌, nat_lt, nat_le, nat_eq, List, [], ◌∷◌, length, take, drop, position, Option, None, Some, is_some, true}
use Rattle.std.specs.Option.{option_and_then}
use Rattle.std.specs.Str.{is_utf8}
use Rattle.hera_meaning.specs.declared.scalars.Kind.{Kind}
use Rattle.hera_meaning.specs.declared.scalars.Kind.TheVariants.{Int as int_kind, Bool as bool_kind, Text as text_kind}
use Rattle.hera_meaning.specs.declared.schemas.Attr.{Attr}
use Rattle.hera_meaning.specs.Texts.{text_limit}

-- the length of the field of this kind that stands first
abbrev pub field_len : Kind → List ℕ → Option ℕ
field_len int_kind bytes = cond (nat_lt (length bytes) 8) None (Some 8)
field_len bool_kind [] = None
field_len bool_kind (b ∷ bytes) = cond (nat_lt b 2) (Some 1) None
field_len text_kind bytes = option_and_then (λ n. cond (nat_le n text_limit && is_utf8 (take n bytes)) (Some (n + 1)) None) (position (λ b. nat_eq b 0) bytes)

-- the length of the row that stands first: field by field
abbrev pub row_len_of : List Attr → List ℕ → Option ℕ
row_len_of [] bytes = Some 0
row_len_of (a ∷ attrs) bytes = option_and_then (λ n. option_and_then (λ m. Some (n + m)) (row_len_of attrs (drop n bytes))) (field_len a.kind bytes)

-- the bytes begin with a field of this kind
abbrev pub BeginsField : Kind → List ℕ → Type 0
BeginsField kind bytes = is_some (field_len kind bytes) ≡ true
