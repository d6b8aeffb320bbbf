-- What operands that fit are.
use Rattle.std.proofs.Common.{◌≡◌, ℕ, zero, suc, true, List, [], ◌∷◌, length, map, refl, ◌<◌, arith}
use Rattle.std.specs.Prelude.{nat_lt, ◌≢◌, All, slice_index_or}
use Rattle.std.specs.List.{list_all}
use Rattle.std.proofs.lemmas.List.Sums.{AllPass-from_list_all}
use Rattle.std.proofs.lemmas.Str.{IsUtf8-from_is_utf8}
use Rattle.hera_meaning.specs.Texts.{IsText, is_text}
use Rattle.hera_row.proofs.FieldLemmas.{text_tests}
use Rattle.std.proofs.lemmas.Bool.{and_parts, and_from, ltb-true}
use Rattle.hera_sets.specs.Rows.{Row}
use Rattle.hera_meaning.specs.declared.scalars.Kind.{Kind}
use Rattle.hera_meaning.specs.declared.schemas.Attr.{Attr}
use Rattle.hera_meaning.specs.declared.trees.Op.TheVariants.{Field, MakeRow}
use Rattle.hera_meaning.specs.declared.scalars.Scalar.{Scalar}
use Rattle.hera_meaning.specs.Scalars.{is_kind, is_scalar}
use Rattle.hera_meaning.specs.Rows.{is_row, fields_of, scalar_at, field_at}
use Rattle.hera_meaning.specs.Values.{Value, scalar, tuple, scalar_in, row_in, operand}
use Rattle.hera_meaning.specs.Fits.{a_scalar, a_tuple_of, meets, all_meet, is_place, fits_of}
use Rattle.hera_row.specs.Fields.{have_kinds}

-- the operand of Field is a row of its schema, and its place is in range
field_met : (schema : List Attr) (vs : List Value) → all_meet (a_tuple_of schema ∷ []) vs ≡ true → is_row schema (row_in (operand vs 0)) ≡ true
field_met schema (tuple r ∷ []) h = (and_parts (is_row schema r) true h).0
field_met schema (tuple r ∷ v ∷ vs) h = (and_parts (is_row schema r) _ h).0
field_met schema vs h = cc

pub field_row : (schema : List Attr) (i : ℕ) (vs : List Value) → fits_of (Field schema i) vs ≡ true → is_row schema (row_in (operand vs 0)) ≡ true
field_row schema i vs h = field_met schema vs (and_parts (is_place schema i) _ h).1

pub field_place : (schema : List Attr) (i : ℕ) (vs : List Value) → fits_of (Field schema i) vs ≡ true → i < length schema
field_place schema i vs h = ltb-true i (length schema) (and_parts (is_place schema i) _ h).0

-- the operands of MakeRow are a scalar for each attribute, of its kind
kind_met : (k : Kind) (v : Value) → meets (a_scalar k) v ≡ true → is_kind k (scalar_in v) ≡ true
kind_met k (scalar s) h = h
kind_met k v h = cc

kinds_met : (schema : List Attr) (vs : List Value) → all_meet (map (λ a. a_scalar a.kind) schema) vs ≡ true → have_kinds schema (map scalar_in vs) ≡ true
kinds_met [] [] h = refl
kinds_met (a ∷ schema) (v ∷ vs) h =
    let parts = and_parts (meets (a_scalar a.kind) v) _ h in
    and_from (is_kind a.kind (scalar_in v)) (have_kinds schema (map scalar_in vs)) (kind_met a.kind v parts.0) (kinds_met schema vs parts.1)
kinds_met schema vs h = cc

pub row_kinds : (schema : List Attr) (vs : List Value) → fits_of (MakeRow schema) vs ≡ true → have_kinds schema (map scalar_in vs) ≡ true
row_kinds schema vs h = kinds_met schema vs h

pub ruleset fitting = (field_row, field_place, row_kinds)

-- ---- texts

nonzero : (t : List ℕ) → list_all (λ b. nat_lt 0 b) t ≡ true → All (λ b. b ≢ 0) t
nonzero t h k d within =
    let lt : 0 < slice_index_or t k d = ltb-true 0 (slice_index_or t k d) (AllPass-from_list_all (λ b. nat_lt 0 b) t h k d within) in
    λ e. absurd (omega (arith, lt, e))

pub text_stands : (t : List ℕ) → is_text t ≡ true → IsText t
text_stands t h =
    let tests = text_tests t h in
    record { utf8 = IsUtf8-from_is_utf8 t tests.utf8; nonzero = nonzero t tests.nonzero; short = tests.short }

-- ---- fields

scalars_pass : (xs : List Scalar) (i : ℕ) → list_all is_scalar xs ≡ true → is_scalar (scalar_at xs i) ≡ true
scalars_pass [] i h = refl
scalars_pass (s ∷ rest) zero h = (and_parts (is_scalar s) (list_all is_scalar rest) h).0
scalars_pass (s ∷ rest) (suc i) h = scalars_pass rest i (and_parts (is_scalar s) (list_all is_scalar rest) h).1

pub field_passes : (schema : List Attr) (row : Row) (i : ℕ) → is_row schema row ≡ true → is_scalar (field_at schema row i) ≡ true
field_passes schema row i h = scalars_pass (fields_of schema row) i (and_parts (list_all is_scalar (fields_of schema row)) _ h).0
