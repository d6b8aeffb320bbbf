-- The lengths of fields that are there.
use Rattle.std.proofs.Common.{◌≡◌, ◌≤◌, ◌+◌, ℕ, Bool, true, false, cond, ◌&&◌, List, [], ◌∷◌, length, take, drop, Option, Some, None, refl, sym, ap, ◌∙◌, arith}
use Rattle.std.specs.Prelude.{slice_get, is_some, nat_lt, nat_le, nat_eq, position}
use Rattle.std.specs.Option.{option_and_then}
use Rattle.std.specs.Str.{is_utf8}
use Rattle.std.proofs.lemmas.Bool.{ltb-false}
use Rattle.hera_meaning.specs.declared.scalars.Kind.TheVariants.{Int as int_kind, Bool as bool_kind, Text as text_kind}
use Rattle.hera_meaning.specs.declared.schemas.Attr.{Attr}
use Rattle.hera_meaning.specs.Texts.{text_limit}
use Rattle.hera_row.specs.Reading.{field_len, row_len_of}
use Rattle.hera_row.proofs.RowLemmas.{length_from, length_from-stop}

pub is_there : (o : Option ℕ) → (o ≡ None → ⊥) → is_some o ≡ true
is_there None h = absurd (h refl)
is_there (Some n) h = refl

none_there : (o : Option ℕ) → is_some o ≡ true → o ≡ None → ⊥
none_there None h e = cc (h)
none_there (Some n) h e = cc (e)

-- the bytes of an int
pub record IntThere (bytes : List ℕ) : Type 0 where
  pub len : field_len int_kind bytes ≡ Some 8
  pub within : 8 ≤ length bytes

pub int_there : (bytes : List ℕ) → is_some (field_len int_kind bytes) ≡ true → IntThere bytes
int_there bytes h = by (nat_lt (length bytes) 8) refl h
  where
    by : (b : Bool) → nat_lt (length bytes) 8 ≡ b → is_some {T = ℕ} (cond b None (Some 8)) ≡ true → IntThere bytes
    by true e i = cc (i)
    by false e i = let over = ltb-false (length bytes) 8 e in record { len = ap (λ (b : Bool). cond b None (Some 8)) e; within = omega (arith, over) }

pub record BoolThere (bytes : List ℕ) : Type 0 where
  pub len : field_len bool_kind bytes ≡ Some 1
  pub within : 1 ≤ length bytes

pub bool_there : (bytes : List ℕ) → is_some (field_len bool_kind bytes) ≡ true → BoolThere bytes
bool_there [] h = cc (h)
bool_there (b ∷ bytes) h = by (nat_lt b 2) refl h
  where
    by : (v : Bool) → nat_lt b 2 ≡ v → is_some {T = ℕ} (cond v (Some 1) None) ≡ true → BoolThere (b ∷ bytes)
    by true e i = record { len = ap (λ (v : Bool). cond v (Some 1) None) e; within = omega arith }
    by false e i = cc (i)

abbrev text_end : List ℕ → ℕ → Option ℕ
text_end bytes n = cond (nat_le n text_limit && is_utf8 (take n bytes)) (Some (n + 1)) None

pub text_there : (bytes : List ℕ) (n : ℕ) → position (λ b. nat_eq b 0) bytes ≡ Some n → is_some (field_len text_kind bytes) ≡ true → field_len text_kind bytes ≡ Some (n + 1)
text_there bytes n e h = ap (option_and_then (text_end bytes)) e ∙ by (nat_le n text_limit && is_utf8 (take n bytes)) (sym (ap (λ (o : Option ℕ). is_some (option_and_then (text_end bytes) o)) e) ∙ h)
  where
    by : (v : Bool) → is_some {T = ℕ} (cond v (Some (n + 1)) None) ≡ true → cond v (Some (n + 1)) None ≡ Some (n + 1)
    by true i = refl
    by false i = cc (i)

pub no_end : (bytes : List ℕ) → position (λ b. nat_eq b 0) bytes ≡ None → is_some (field_len text_kind bytes) ≡ true → ⊥
no_end bytes e h = none_there (field_len text_kind bytes) h (ap (option_and_then (text_end bytes)) e)

-- a field begins where a row does
pub field_there : (schema : List Attr) (bytes rest : List ℕ) (i done : ℕ) (a : Attr) → slice_get schema i ≡ Some a → is_some (row_len_of schema bytes) ≡ true → length_from done (drop i schema) rest ≡ row_len_of schema bytes → is_some (field_len a.kind rest) ≡ true
field_there schema bytes rest i done a at there same =
    is_there (field_len a.kind rest) (λ none. none_there (row_len_of schema bytes) there (sym same ∙ length_from-stop schema i done a rest at none))
