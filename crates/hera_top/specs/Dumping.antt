-- What is printed of one relation.
use Rattle.std.specs.Prelude.{ℕ, zero, suc, List, [], ◌∷◌, ◌++◌}
use Rattle.hera_meaning.specs.declared.schemas.RelDecl.{RelDecl}
use Rattle.hera_meaning.specs.Deltas.{State}
use Rattle.hera_meaning.specs.Printed.{decl_text, table_text}

-- the declaration and the rows of a relation of a catalogue, nothing past the last
abbrev pub relation_text : List RelDecl → State → ℕ → List ℕ
relation_text [] s r = []
relation_text (d ∷ rels) [] r = []
relation_text (d ∷ rels) (rows ∷ s) zero = decl_text d ++ table_text d.schema rows
relation_text (d ∷ rels) (rows ∷ s) (suc r) = relation_text rels s r
