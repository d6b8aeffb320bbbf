-- Places in lists of declarations.
use Rattle.std.proofs.Common.{◌≡◌, ℕ, zero, suc, ◌<◌, List, [], ◌∷◌, length, get_or, ap, arith}
use Rattle.hera_meaning.specs.declared.schemas.RelDecl.{RelDecl}
use Rattle.hera_meaning.specs.Deltas.{schema_of}

pub schema_at : (rels : List RelDecl) (r : ℕ) (d : RelDecl) → r < length rels → d ≡ get_or rels r d → d.schema ≡ schema_of rels r
schema_at [] r d h e = absurd (omega arith)
schema_at (x ∷ rels) zero d h e = ap (λ (d : RelDecl). d.schema) e
schema_at (x ∷ rels) (suc r) d h e = schema_at rels r d (omega arith) e
