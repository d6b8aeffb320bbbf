-- Equality tests of types, attribute names included.
use Rattle.std.specs.Prelude.{Bool, true, false, List, [], ◌∷◌, ◌&&◌}
use Rattle.hera_sets.specs.Rows.{is_same}
use Rattle.hera_meaning.specs.Scalars.{is_same_kind}
use Rattle.hera_meaning.specs.declared.scalars.Kind.{Kind}
use Rattle.hera_meaning.specs.declared.schemas.Attr.{Attr}
use Rattle.hera_meaning.specs.declared.trees.Shape.{Shape}
use Rattle.hera_meaning.specs.declared.trees.Shape.TheVariants.{Int as int, Bool as bool, Text as text, Tuple as tuple, Rel as rel, Delta as delta}

abbrev pub same_attr : Attr → Attr → Bool
same_attr a b = is_same a.name b.name && is_same_kind a.kind b.kind

-- the same names and kinds in the same order
abbrev pub same_schema : List Attr → List Attr → Bool
same_schema [] [] = true
same_schema [] (b ∷ bs) = false
same_schema (a ∷ attrs) [] = false
same_schema (a ∷ attrs) (b ∷ bs) = same_attr a b && same_schema attrs bs

abbrev pub same_shape : Shape → Shape → Bool
same_shape int int = true
same_shape bool bool = true
same_shape text text = true
same_shape delta delta = true
same_shape (tuple a) (tuple b) = same_schema a b
same_shape (rel a) (rel b) = same_schema a b
same_shape _ _ = false

abbrev pub same_shapes : List Shape → List Shape → Bool
same_shapes [] [] = true
same_shapes [] (t ∷ ts) = false
same_shapes (s ∷ ss) [] = false
same_shapes (s ∷ ss) (t ∷ ts) = same_shape s t && same_shapes ss ts

abbrev pub same_kinds : List Kind → List Kind → Bool
same_kinds [] [] = true
same_kinds [] (t ∷ ts) = false
same_kinds (s ∷ ss) [] = false
same_kinds (s ∷ ss) (t ∷ ts) = is_same_kind s t && same_kinds ss ts
