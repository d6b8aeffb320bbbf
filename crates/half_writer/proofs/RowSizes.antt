-- How many bytes a row has: at least one, and no more than its fields can.
use Rattle.std.proofs.Common.{◌≡◌, ◌≤◌, ℕ, ◌*◌, Bool, true, false, cond, List, [], ◌∷◌, length, subst, arith}
use Rattle.std.specs.Prelude.{All, Some}
use Rattle.std.specs.List.{find}
use Rattle.std.proofs.lemmas.Bool.{false≢true}
use Rattle.std.proofs.lemmas.Option.{none-some, same_Some}
use Rattle.std.proofs.lemmas.List.Elements.{All-head, All-tail}
use Rattle.half_writer.specs.Written.{AreRows}
use Rattle.std.proofs.lemmas.List.{length-append}
use Rattle.hera_meaning.specs.declared.scalars.Scalar.{Scalar}
use Rattle.hera_meaning.specs.declared.scalars.Scalar.TheVariants.{Int as int_scalar, Bool as bool_scalar, Text as text_scalar}
use Rattle.hera_meaning.specs.declared.schemas.Attr.{Attr}
use Rattle.hera_meaning.specs.Scalars.{is_scalar, is_tuple}
use Rattle.hera_meaning.specs.Schemas.{IsSchema}
use Rattle.hera_meaning.specs.Rows.{IsRow, row_of, field_bytes, shifted}
use Rattle.rel_format.specs.declared.version.TheConstants.{PAGE_TWO}
use Rattle.rel_format.specs.Pages.{FitsIn}
use Rattle.hera_row.proofs.FieldLemmas.{text_tests}
use Rattle.hera_row.proofs.Numbers.{length-to_be_bytes}
use Rattle.hera_row.proofs.RowLemmas.{first_field}

pub record FieldSize (s : Scalar) : Type 0 where
  pub some : 1 ≤ length (field_bytes s)
  pub few : length (field_bytes s) ≤ 1024

field_size : (s : Scalar) → is_scalar s ≡ true → FieldSize s
field_size (int_scalar v) h = let size = length-to_be_bytes (shifted v) in record { some = omega (arith, size); few = omega (arith, size) }
field_size (bool_scalar b) h = record { some = omega arith; few = omega arith }
field_size (text_scalar t) h = let short = (text_tests t h).short in record { some = omega (arith, length-append t (0 ∷ [])); few = omega (arith, length-append t (0 ∷ []), short) }

pub record RowSize (schema : List Attr) (row : List ℕ) : Type 0 where
  pub some : length schema ≤ length row
  pub few : length row ≤ 1024 * length schema

tuple_size : (schema : List Attr) (tuple : List Scalar) → is_tuple schema tuple ≡ true → RowSize schema (row_of tuple)
tuple_size [] [] h = record { some = omega arith; few = omega arith }
tuple_size [] (s ∷ rest) h = absurd (false≢true h)
tuple_size (a ∷ attrs) [] h = absurd (false≢true h)
tuple_size (a ∷ attrs) (s ∷ rest) h =
    let one = first_field a attrs s rest h in
    let size = field_size s one.valid in
    let more = tuple_size attrs rest one.others in
    record { some = omega (arith, length-append (field_bytes s) (row_of rest), size.some, more.some); few = omega (arith, length-append (field_bytes s) (row_of rest), size.few, more.few) }

-- a row of a schema has a byte at least, and fits into a page
pub record FitsPage (row : List ℕ) : Type 0 where
  pub some : 1 ≤ length row
  pub few : FitsIn PAGE_TWO row

pub fits_page : (schema : List Attr) (row : List ℕ) → IsSchema schema → IsRow schema row → FitsPage row
fits_page schema row valid h =
    let size = subst (RowSize schema) h.2 (tuple_size schema h.0 h.1) in
    record { some = omega (arith, size.some, valid.some); few = omega (arith, size.few, valid.few) }

found_is : (schema : List Attr) (p : List ℕ → Bool) (xs : List (List ℕ)) (r : List ℕ) → All (IsRow schema) xs → find p xs ≡ Some r → IsRow schema r
found_is schema p [] r all h = absurd (none-some r h)
found_is schema p (x ∷ xs) r all h =
    elim (p x) as (λ v. cond v (Some x) (find p xs) ≡ Some r → IsRow schema r) [
      | true ↦ λ g. subst (IsRow schema) (same_Some x r g) (All-head (IsRow schema) x xs all)
      | false ↦ λ g. found_is schema p xs r (All-tail (IsRow schema) x xs all) g
    ] h

-- a row found among rows fits into a page
pub found_fits : (p : List ℕ → Bool) (rows : List (List ℕ)) (r : List ℕ) → AreRows rows → find p rows ≡ Some r → FitsPage r
found_fits p rows r are h = fits_page are.schema r are.valid (found_is are.schema p rows r are.each h)
