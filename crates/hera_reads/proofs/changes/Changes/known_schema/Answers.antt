use Rattle.std.proofs.Common.{◌≡◌, true, ◌<◌, ◌∙◌, ap, sym, subst, length, List}
use Rattle.std.specs.Prelude.{slice_get}
use Rattle.std.specs.List.{list_all}
use Rattle.std.specs.Option.{option_copied}
use Rattle.hera_meaning.specs.Deltas.{State, Delta, rows_at}
use Rattle.hera_meaning.specs.Fits.{is_delta_of}
use Rattle.hera_meaning.specs.Rows.{is_row}
use Rattle.hera_meaning.specs.declared.schemas.RelDecl.{RelDecl}
use Rattle.when_overlay.specs.Changed.{after_all}
use Rattle.hera_reads.specs.Branched.{Branches, seen_at}
use Rattle.hera_reads.proofs.Known.{seen_known}
use Rattle.hera_reads.proofs.changes.Changes.known_schema.Goals as goal

pub returns-in-Some : goal.returns-in-Some
returns-in-Some c = λ tip within.
    let rels = c.base.result.now.catalogue in
    let own = c.self.inside.catalogue.now in
    let s = c.base.result.now.state in
    let ds = c.commits-commits.result.now in
    let ls = c.self.inside.layers.layers in
    let same = c.commits-commits.ensures.state ∙ ap (λ (x : State). after_all x c.args.stored.now.commits) (sym c.base.ensures.state) ∙ ap (after_all s) (sym c.commits-commits.ensures.commits) in
    let state = c.catalogue.ensures.valid in
    let known = subst (λ (rs : List RelDecl). list_all (is_delta_of rs) ds ≡ true) (sym c.base.ensures.catalogue)
    (subst (λ (xs : List Delta). list_all (is_delta_of c.args.stored.now.catalogue) xs ≡ true) (sym c.commits-commits.ensures.commits) c.commits-commits.ensures.known) in
    let there = ap (λ (rs : List RelDecl). slice_get rs c.args.rel.0) (sym c.catalogue.ensures.catalogue) ∙ c.decl.ensures.decl in
    let other = sym c.decl_at.ensures ∙ ap option_copied c.in-Some.is in
    let inside = subst (λ (r : Branches). tip < length r.layers) (sym c.self.view_is) within in
    let told = seen_known rels own s ds ls tip c.args.rel.0 c.decl.result.now c.in-Some.own.now state known c.self.invariant.0 c.len-count.ensures.valid c.self.invariant.3 inside there other (sym c.have_same_kinds.ensures ∙ c.if-have_same_kinds.true) in
    subst (λ (x : State). list_all (is_row c.decl.result.now.schema) (rows_at (seen_at x c.args.self.now.layers tip) c.args.rel.0) ≡ true) (sym same)
    (subst (λ (r : Branches). list_all (is_row c.decl.result.now.schema) (rows_at (seen_at (after_all s ds) r.layers tip) c.args.rel.0) ≡ true) c.self.view_is told)
