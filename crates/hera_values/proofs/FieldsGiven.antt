-- A field of a row is what the operation gives.
use Rattle.std.proofs.Common.{◌≡◌, ℕ, ◌<◌, true, List, [], ◌∷◌, length, refl, sym, ap, ◌∙◌, Option, None, Some}
use Rattle.std.specs.Prelude.{IfSome}
use Rattle.std.proofs.lemmas.Bool.{and_from, lt-ltb}
use Rattle.hera_sets.specs.Rows.{Row}
use Rattle.hera_meaning.specs.declared.scalars.Scalar.{Scalar}
use Rattle.hera_meaning.specs.declared.schemas.Attr.{Attr}
use Rattle.hera_meaning.specs.declared.trees.Op.TheVariants.{Field}
use Rattle.hera_meaning.specs.Rows.{IsRow, is_row, field_at}
use Rattle.hera_meaning.specs.Values.{scalar, tuple}
use Rattle.hera_meaning.specs.Fits.{is_place}
use Rattle.hera_meaning.specs.Primitives.{gives}
use Rattle.hera_meaning.proofs.RowsRead.{is_row-from_IsRow}
use Rattle.hera_flat.specs.declared.flat.Flat.{Flat}
use Rattle.hera_flat.specs.Flats.{flat_value, IsGiven}

field_given : (schema : List Attr) (i : ℕ) (row : Row) (f : Flat) → i < length schema → IsRow schema row → scalar (field_at schema row i) ≡ flat_value f → IsGiven (Field schema i) (tuple row ∷ []) f
field_given schema i row f within is e =
    (refl, and_from (is_place schema i) _ (lt-ltb i (length schema) within) (and_from (is_row schema row) true (is_row-from_IsRow schema row is) refl), ap gives e)

pub field_given_some : (schema : List Attr) (i : ℕ) (row : Row) (r : Option Flat) (s : Scalar) → i < length schema → IsRow schema row → s ≡ field_at schema row i →
    IfSome r (λ f. scalar s ≡ flat_value f) → IfSome r (IsGiven (Field schema i) (tuple row ∷ []))
field_given_some schema i row None s within is e h = tt
field_given_some schema i row (Some f) s within is e h = field_given schema i row f within is (sym (ap scalar e) ∙ h)
