-- Schemas of the same kinds.
use Rattle.std.specs.Prelude.{Bool, true, false, ◌&&◌, List, [], ◌∷◌}
use Rattle.hera_meaning.specs.declared.schemas.Attr.{Attr}
use Rattle.hera_meaning.specs.Scalars.{is_same_kind}

-- as many attributes, of the same kinds in order
abbrev pub have_same_kinds : List Attr → List Attr → Bool
have_same_kinds [] [] = true
have_same_kinds (a ∷ attrs) (b ∷ others) = is_same_kind a.kind b.kind && have_same_kinds attrs others
have_same_kinds _ _ = false
