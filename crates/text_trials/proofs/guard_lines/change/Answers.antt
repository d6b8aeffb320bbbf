use Rattle.std.proofs.Common.{◌≡◌, ℕ, zero, suc, List, [], ◌∷◌, Some, refl, sym, ap, subst, slice_get}
use Rattle.std.proofs.lemmas.Option.{none-some, same_Some, slice_get_within}
use Rattle.std.proofs.lemmas.List.Elements.{All-nil, All-cons}
use Rattle.hera_meaning.specs.Commits.{IsCommitOf}
use Rattle.hera_meaning.specs.declared.schemas.RelDecl.{RelDecl}
use Rattle.hera_meaning.specs.Rows.{IsRow}
use Rattle.hera_meaning.specs.Deltas.{Atom, atoms, IsAtomOf, schema_of}
use Rattle.text_trials.proofs.guard_lines.change.Goals as goal

-- the schema of a declared relation
schema_found : (rels : List RelDecl) (r : ℕ) (d : RelDecl) → slice_get rels r ≡ Some d → schema_of rels r ≡ d.schema
schema_found [] r d e = absurd (none-some d e)
schema_found (x ∷ rels) zero d e = ap (λ (y : RelDecl). y.schema) (same_Some x d e)
schema_found (x ∷ rels) (suc r) d e = schema_found rels r d e

-- an atom of a row of its relation is a commit
one_atom : (rels : List RelDecl) (d : RelDecl) (a : Atom) → slice_get rels a.rel ≡ Some d → IsRow d.schema a.row → IsCommitOf rels (atoms (a ∷ []))
one_atom rels d a e row =
    let known : IsAtomOf rels a = record { known = slice_get_within rels a.rel d e; row = subst (λ s. IsRow s a.row) (sym (schema_found rels a.rel d e)) row } in
    record { proper = refl; known = All-cons (IsAtomOf rels) a [] known (All-nil (IsAtomOf rels)) }

pub returns : goal.returns
returns c =
    subst (IsCommitOf c.args.catalogue.now) (sym c.in_ok-delta.ensures) (one_atom c.args.catalogue.now c.decl.result.now _ c.decl.ensures.decl (c.if-not-check_row.ensures.0 refl))
