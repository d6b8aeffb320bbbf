-- The rows of a relation of a state are rows of its schema.
use Rattle.std.proofs.Common.{◌≡◌, ℕ, zero, suc, List, [], ◌∷◌, Some, subst}
use Rattle.std.specs.Prelude.{All}
use Rattle.std.specs.List.{slice_get}
use Rattle.std.proofs.lemmas.Option.{none-some, same_Some}
use Rattle.std.proofs.lemmas.List.Elements.{All-head, All-tail}
use Rattle.hera_sets.specs.Rows.{Row}
use Rattle.hera_meaning.specs.declared.schemas.RelDecl.{RelDecl}
use Rattle.hera_meaning.specs.Catalogues.{IsDecl}
use Rattle.hera_meaning.specs.Rows.{IsRow}
use Rattle.hera_meaning.specs.Deltas.{State, IsState}
use Rattle.half_writer.specs.Written.{AreRows}

pub state_rows : (rels : List RelDecl) (s : State) (r : ℕ) (rows : List Row) → All IsDecl rels → IsState rels s → slice_get s r ≡ Some rows → AreRows rows
state_rows [] [] r rows decls h e = absurd (none-some rows e)
state_rows [] (x ∷ s) r rows decls h e = absurd h
state_rows (d ∷ rels) [] r rows decls h e = absurd h
state_rows (d ∷ rels) (x ∷ s) zero rows decls h e = record { schema = d.schema; valid = (All-head IsDecl d rels decls).schema; each = subst (All (IsRow d.schema)) (same_Some x rows e) h.0.1 }
state_rows (d ∷ rels) (x ∷ s) (suc r) rows decls h e = state_rows rels s r rows (All-tail IsDecl d rels decls) h.1 e
