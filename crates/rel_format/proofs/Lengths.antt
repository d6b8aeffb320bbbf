-- The length of the row that stands first.
use Rattle.std.proofs.Common.{◌≡◌, ◌≤◌, ℕ, List, ◌++◌, length, take, drop, Option, Some, None, IfSome, IfNone, refl, sym, ap, ◌∙◌, arith}
use Rattle.std.proofs.lemmas.List.{length-take, take-append-drop}
use Rattle.hera_meaning.specs.declared.schemas.Attr.{Attr}
use Rattle.hera_meaning.specs.Rows.{IsRow, row_of}
use Rattle.hera_row.specs.Reading.{row_len_of}
use Rattle.hera_row.proofs.FieldLemmas.{AreBytes}
use Rattle.hera_row.proofs.RowLemmas.{row_len_of-row_of, row_len_some}

-- a row in front has the length that the schema tells
pub row_length : (schema : List Attr) (bytes : List ℕ) (n : ℕ) → n ≤ length bytes → IsRow schema (take n bytes) → row_len_of schema bytes ≡ Some n
row_length schema bytes n within row =
    let len : length (take n bytes) ≡ n = omega (arith, length-take n bytes, within) in
    let whole : row_of row.0 ++ drop n bytes ≡ bytes = ap (λ (x : List ℕ). x ++ drop n bytes) row.2 ∙ take-append-drop n bytes in
    ap (row_len_of schema) (sym whole) ∙ row_len_of-row_of schema row.0 (drop n bytes) row.1 ∙ ap (λ (x : List ℕ). Some (length x)) row.2 ∙ ap (λ (k : ℕ). Some k) len

-- a row with bytes behind it
pub row_in_front : (schema : List Attr) (r rest : List ℕ) → IsRow schema r → row_len_of schema (r ++ rest) ≡ Some (length r)
row_in_front schema r rest row =
    ap (λ (x : List ℕ). row_len_of schema (x ++ rest)) (sym row.2) ∙ row_len_of-row_of schema row.0 rest row.1 ∙ ap (λ (x : List ℕ). Some (length x)) row.2

pub len_of : (schema : List Attr) (bytes : List ℕ) (o : Option ℕ) → AreBytes bytes → IfSome o (λ n. (n ≤ length bytes) × IsRow schema (take n bytes)) → IfNone o ((n : ℕ) → n ≤ length bytes → IsRow schema (take n bytes) → ⊥) → o ≡ row_len_of schema bytes
len_of schema bytes (Some n) all some none = sym (row_length schema bytes n some.0 some.1)
len_of schema bytes None all some none = by (row_len_of schema bytes) refl
  where
    by : (o : Option ℕ) → o ≡ row_len_of schema bytes → None ≡ o
    by None e = refl
    by (Some n) e = let row = row_len_some schema bytes (Some n) all e in absurd (none n row.0 row.1)
