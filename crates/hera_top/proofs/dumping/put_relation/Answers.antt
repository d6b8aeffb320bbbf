use Rattle.std.proofs.Common.{◌≡◌, List, ℕ, ◌++◌, ◌∙◌, ap, subst, Some}
use Rattle.std.specs.Prelude.{slice_get}
use Rattle.hera_meaning.specs.declared.schemas.RelDecl.{RelDecl}
use Rattle.rel_pages.specs.Stored.{Stored}
use Rattle.hera_store.specs.Standing.{database_of}
use Rattle.hera_top.proofs.Dumped.{put_is, rows_fit}
use Rattle.hera_top.proofs.dumping.put_relation.Goals as goal

pub table_line-requires : goal.table_line-requires
table_line-requires c =
    let same = c.catalogue.ensures.catalogue ∙ ap (λ (b : Stored). b.catalogue) c.base.ensures.base in
    rows_fit c.args.store.now.base.catalogue (database_of c.args.store.now).state c.args.rel.0 c.decl-decl.result.now c.in_ok-rows.rows c.requires.state
    (subst (λ (rels : List RelDecl). slice_get rels c.args.rel.0 ≡ Some c.decl-decl.result.now) same c.decl-decl.ensures.decl) c.in_ok-rows.ensures

pub returns : goal.returns
returns c =
    let same = c.catalogue.ensures.catalogue ∙ ap (λ (b : Stored). b.catalogue) c.base.ensures.base in
    put_is c.args.store.now.base.catalogue (database_of c.args.store.now).state c.args.rel.0 c.decl-decl.result.now c.in_ok-rows.rows c.args.text.now.items c.put.new.out.items c.put-2.new.out.items
    (subst (λ (rels : List RelDecl). slice_get rels c.args.rel.0 ≡ Some c.decl-decl.result.now) same c.decl-decl.ensures.decl) c.in_ok-rows.ensures
    (c.in_ok-put.ensures ∙ ap (λ (l : List ℕ). c.args.text.now.items ++ l) (c.bytes.ensures ∙ c.in_ok-line.ensures))
    (c.in_ok-put-2.ensures ∙ ap (λ (l : List ℕ). c.put.new.out.items ++ l) (c.bytes-2.ensures ∙ c.in_ok-table.ensures))
