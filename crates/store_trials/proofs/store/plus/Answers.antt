use Rattle.std.proofs.Common.{◌≡◌, List, [], ◌∷◌, Some, None, refl, sym, ap, subst, ◌∙◌, arith}
use Rattle.std.specs.Prelude.{slice_get}
use Rattle.std.proofs.lemmas.List.Elements.{All-nil, All-cons}
use Rattle.hera_meaning.specs.Commits.{IsCommitOf}
use Rattle.hera_meaning.specs.declared.schemas.RelDecl.{RelDecl}
use Rattle.hera_meaning.specs.Rows.{IsRow}
use Rattle.hera_meaning.specs.Deltas.{Atom, atoms, IsAtomOf, schema_of}
use Rattle.store_trials.proofs.store.plus.Goals as goal

one_atom : (rels : List RelDecl) (d : RelDecl) (a : Atom) → slice_get rels 0 ≡ Some d → a.rel ≡ 0 → IsRow d.schema a.row → IsCommitOf rels (atoms (a ∷ []))
one_atom [] d a e z row = let no : None ≡ Some d = e in cc
one_atom (x ∷ rels) d a e z row =
    let same : x ≡ d = cc in
    let here : d.schema ≡ schema_of (x ∷ rels) a.rel = ap (λ (y : RelDecl). y.schema) (sym same) ∙ ap (schema_of (x ∷ rels)) (sym z) in
    record { proper = refl; known = All-cons (IsAtomOf (x ∷ rels)) a [] (record { known = omega (arith, z); row = subst (λ s. IsRow s a.row) here row }) (All-nil (IsAtomOf (x ∷ rels))) }

pub returns : goal.returns
returns c =
    subst (IsCommitOf c.args.rels.now) (sym c.in_ok-delta.ensures) (one_atom c.args.rels.now c.decl.result.now _ c.decl.ensures.decl refl (c.if-not-check_row.ensures.0 refl))
