use Rattle.std.proofs.Common.{◌++◌, ◌≡◌, ◌∙◌, ℕ, List, [], None, Some, IfOk, sym, ap, subst, append-nil}
use Rattle.std.specs.Prelude.{slice_get, All}
use Rattle.hera_meaning.specs.declared.schemas.Attr.{Attr}
use Rattle.hera_meaning.specs.declared.schemas.RelDecl.{RelDecl}
use Rattle.hera_meaning.specs.Deltas.{Delta, schema_of}
use Rattle.hera_meaning.specs.Rows.{IsRow}
use Rattle.rel_pages.specs.Stored.{Stored}
use Rattle.hera_csv.specs.Writers.{csv_of}
use Rattle.hera_store.specs.Standing.{database_of}
use Rattle.when_overlay.specs.declared.layers.Layer.{Layer}
use Rattle.when_overlay.specs.Layered.{path}
use Rattle.hera_transfer.proofs.Named.{schema_found, rows_found, rows_are, seen_over}
use Rattle.hera_transfer.proofs.printing.text_of.Goals as goal

-- behind no layers stand the deltas below
bare : (ls : List Layer) (ds : List Delta) → ls ≡ [] → ds ++ path ls None ≡ ds
bare ls ds e = ap (λ (x : List Layer). ds ++ path x None) e ∙ append-nil ds

pub write_rows-requires : goal.write_rows-requires
write_rows-requires c =
    let s = c.args.store.now in
    let same = c.catalogue.ensures.catalogue ∙ ap (λ (b : Stored). b.catalogue) c.base-2.ensures.base in
    let there = schema_found s.base.catalogue c.args.rel.0 c.decl.result.now (subst (λ (rels : List RelDecl). slice_get rels c.args.rel.0 ≡ Some c.decl.result.now) same c.decl.ensures.decl) in
    let seen = seen_over s.base c.base.result.now s.commits (c.commits.result.now ++ path c.new-layers.result.layers None) c.args.rel.0 c.indexed-rows.result c.indexed-rows.ensures c.base.ensures.base (bare c.new-layers.result.layers c.commits.result.now c.new-layers.ensures ∙ c.commits.ensures.commits) in
    subst (λ (x : List Attr). All (IsRow x) c.indexed-rows.result) (sym there) (rows_are s.base.catalogue (database_of s).state c.args.rel.0 c.indexed-rows.result c.requires.state seen)

pub returns : goal.returns
returns c =
    let s = c.args.store.now in
    let same = c.catalogue.ensures.catalogue ∙ ap (λ (b : Stored). b.catalogue) c.base-2.ensures.base in
    let there = schema_found s.base.catalogue c.args.rel.0 c.decl.result.now (subst (λ (rels : List RelDecl). slice_get rels c.args.rel.0 ≡ Some c.decl.result.now) same c.decl.ensures.decl) in
    let seen = seen_over s.base c.base.result.now s.commits (c.commits.result.now ++ path c.new-layers.result.layers None) c.args.rel.0 c.indexed-rows.result c.indexed-rows.ensures c.base.ensures.base (bare c.new-layers.result.layers c.commits.result.now c.new-layers.ensures ∙ c.commits.ensures.commits) in
    subst (λ (l : List ℕ). IfOk c.write_rows.result (λ line. line ≡ l)) (ap (λ (x : List Attr). csv_of x c.indexed-rows.result) there ∙ ap (csv_of (schema_of s.base.catalogue c.args.rel.0)) (sym (rows_found (database_of s).state c.args.rel.0 c.indexed-rows.result seen))) c.write_rows.ensures
