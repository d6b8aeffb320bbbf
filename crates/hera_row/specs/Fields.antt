-- The fields of a tuple, and a field read in place.
use Rattle.std.specs.Prelude.{Bool, true, false, ◌&&◌, List, [], ◌∷◌}
use Rattle.hera_meaning.specs.declared.scalars.Scalar.{Scalar}
use Rattle.hera_meaning.specs.declared.scalars.Scalar.TheVariants as scalars
use Rattle.hera_meaning.specs.declared.scalars.ScalarRef.{ScalarRef}
use Rattle.hera_meaning.specs.declared.scalars.ScalarRef.TheVariants as refs
use Rattle.hera_meaning.specs.declared.schemas.Attr.{Attr}
use Rattle.hera_meaning.specs.Scalars.{is_kind}

-- one field for each attribute, of its kind
abbrev pub have_kinds : List Attr → List Scalar → Bool
have_kinds [] [] = true
have_kinds (a ∷ attrs) (s ∷ rest) = is_kind a.kind s && have_kinds attrs rest
have_kinds _ _ = false

-- the scalar that a reference tells
abbrev pub told : ScalarRef → Scalar
told (refs.Int v) = scalars.Int v
told (refs.Bool b) = scalars.Bool b
told (refs.Text t) = scalars.Text t.now
