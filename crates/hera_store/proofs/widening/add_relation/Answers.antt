use Rattle.std.proofs.Common.{◌≡◌, ◌∙◌, Some, None, List, length, map, sym, ap, subst}
use Rattle.std.specs.Prelude.{slice_get, OnOk, IfErr}
use Rattle.std.proofs.lemmas.Option.{slice_get_within}
use Rattle.hera_sets.specs.Rows.{Row}
use Rattle.hera_meaning.specs.Commits.{after_all}
use Rattle.hera_meaning.specs.Deltas.{IsState}
use Rattle.hera_meaning.specs.Wider.{widened_row}
use Rattle.hera_meaning.proofs.CommitLaws.{state_after_all}
use Rattle.hera_row.specs.Numbers.{number_named}
use Rattle.hera_row.proofs.Widened.{rows_found, no_rows_found}
use Rattle.rel_format.specs.declared.version.TheConstants.{PAGE_TWO}
use Rattle.rel_format.specs.Pages.{paged}
use Rattle.half_writer.specs.Written.{AreRows, IsFirstFull, with_rel, need_of}
use Rattle.hera_store.specs.Widened.{rows_under}
use Rattle.hera_store.proofs.Printings.{seen}
use Rattle.hera_store.proofs.Widenings.{is_named, rows_valid}
use Rattle.hera_store.proofs.widening.add_relation.Goals as goal

pub decl-requires : goal.decl-requires
decl-requires c =
    let rels = c.catalogue-catalogue.result.now in
    let found : number_named c.args.decl.now.name rels ≡ Some c.in-Some.rel.0 = ap (λ z. number_named z rels) (sym c.bytes.ensures.bytes) ∙ sym c.in-Some.ensures.number in
    let n = is_named c.args.decl.now.name rels c.in-Some.rel.0 found in
    slice_get_within rels c.in-Some.rel.0 n.decl n.here

pub indexed-requires-clause-there : goal.indexed-requires-clause-there
indexed-requires-clause-there c =
    let base = c.args.base.now in
    let decl = c.args.decl.now in
    let state = after_all base.state c.args.commits.now in
    let found : number_named decl.name base.catalogue ≡ Some c.in-Some.rel.0 =
    ap (λ z. number_named decl.name z) (sym c.catalogue-catalogue.ensures.catalogue) ∙ ap (λ z. number_named z c.catalogue-catalogue.result.now) (sym c.bytes.ensures.bytes) ∙ sym c.in-Some.ensures.number in
    let n = is_named decl.name base.catalogue c.in-Some.rel.0 found in
    slice_get_within base.catalogue c.in-Some.rel.0 n.decl n.here

pub add_rows-requires-clause-rows : goal.add_rows-requires-clause-rows
add_rows-requires-clause-rows c =
    let base = c.args.base.now in
    let decl = c.args.decl.now in
    let state = after_all base.state c.args.commits.now in
    let found : number_named decl.name base.catalogue ≡ Some c.in-Some.rel.0 =
    ap (λ z. number_named decl.name z) (sym c.catalogue-catalogue.ensures.catalogue) ∙ ap (λ z. number_named z c.catalogue-catalogue.result.now) (sym c.bytes.ensures.bytes) ∙ sym c.in-Some.ensures.number in
    let here : slice_get base.catalogue c.in-Some.rel.0 ≡ Some c.decl.result.now = ap (λ z. slice_get z c.in-Some.rel.0) (sym c.catalogue-catalogue.ensures.catalogue) ∙ c.decl.ensures.decl in
    let held : slice_get state c.in-Some.rel.0 ≡ Some c.indexed.result = seen base.state c.args.commits.now c.in-Some.rel.0 c.indexed.result (rw c.new-layers.ensures at c.indexed.ensures) in
    let valid : IsState base.catalogue state = state_after_all base.catalogue base.state c.args.commits.now c.requires.over.state c.requires.over.proper in
    rows_valid base.catalogue state c.in-Some.rel.0 c.decl.result.now c.indexed.result valid here held

pub add_rows-requires-clause-wide : goal.add_rows-requires-clause-wide
add_rows-requires-clause-wide c =
    let base = c.args.base.now in
    let decl = c.args.decl.now in
    let state = after_all base.state c.args.commits.now in
    let found : number_named decl.name base.catalogue ≡ Some c.in-Some.rel.0 =
    ap (λ z. number_named decl.name z) (sym c.catalogue-catalogue.ensures.catalogue) ∙ ap (λ z. number_named z c.catalogue-catalogue.result.now) (sym c.bytes.ensures.bytes) ∙ sym c.in-Some.ensures.number in
    let here : slice_get base.catalogue c.in-Some.rel.0 ≡ Some c.decl.result.now = ap (λ z. slice_get z c.in-Some.rel.0) (sym c.catalogue-catalogue.ensures.catalogue) ∙ c.decl.ensures.decl in
    let held : slice_get state c.in-Some.rel.0 ≡ Some c.indexed.result = seen base.state c.args.commits.now c.in-Some.rel.0 c.indexed.result (rw c.new-layers.ensures at c.indexed.ensures) in
    let are : rows_under base c.args.commits.now decl ≡ map (widened_row c.decl.result.now.schema decl.schema) c.indexed.result = rows_found decl.name decl.schema base.catalogue state c.in-Some.rel.0 c.decl.result.now c.indexed.result found here held in
    subst AreRows are c.requires.wide

pub returns-in-Some-clause-add : goal.returns-in-Some-clause-add
returns-in-Some-clause-add c =
    let base = c.args.base.now in
    let decl = c.args.decl.now in
    let state = after_all base.state c.args.commits.now in
    let found : number_named decl.name base.catalogue ≡ Some c.in-Some.rel.0 =
    ap (λ z. number_named decl.name z) (sym c.catalogue-catalogue.ensures.catalogue) ∙ ap (λ z. number_named z c.catalogue-catalogue.result.now) (sym c.bytes.ensures.bytes) ∙ sym c.in-Some.ensures.number in
    let here : slice_get base.catalogue c.in-Some.rel.0 ≡ Some c.decl.result.now = ap (λ z. slice_get z c.in-Some.rel.0) (sym c.catalogue-catalogue.ensures.catalogue) ∙ c.decl.ensures.decl in
    let held : slice_get state c.in-Some.rel.0 ≡ Some c.indexed.result = seen base.state c.args.commits.now c.in-Some.rel.0 c.indexed.result (rw c.new-layers.ensures at c.indexed.ensures) in
    let are : rows_under base c.args.commits.now decl ≡ map (widened_row c.decl.result.now.schema decl.schema) c.indexed.result = rows_found decl.name decl.schema base.catalogue state c.in-Some.rel.0 c.decl.result.now c.indexed.result found here held in
    subst (λ (rs : List Row). OnOk c.add_rows.result (c.add_rows.new.writer ≡ with_rel PAGE_TWO c.args.writer.now rs)) (sym are) c.add_rows.ensures.add

pub returns-in-Some-clause-full : goal.returns-in-Some-clause-full
returns-in-Some-clause-full c =
    let base = c.args.base.now in
    let decl = c.args.decl.now in
    let state = after_all base.state c.args.commits.now in
    let found : number_named decl.name base.catalogue ≡ Some c.in-Some.rel.0 =
    ap (λ z. number_named decl.name z) (sym c.catalogue-catalogue.ensures.catalogue) ∙ ap (λ z. number_named z c.catalogue-catalogue.result.now) (sym c.bytes.ensures.bytes) ∙ sym c.in-Some.ensures.number in
    let here : slice_get base.catalogue c.in-Some.rel.0 ≡ Some c.decl.result.now = ap (λ z. slice_get z c.in-Some.rel.0) (sym c.catalogue-catalogue.ensures.catalogue) ∙ c.decl.ensures.decl in
    let held : slice_get state c.in-Some.rel.0 ≡ Some c.indexed.result = seen base.state c.args.commits.now c.in-Some.rel.0 c.indexed.result (rw c.new-layers.ensures at c.indexed.ensures) in
    let are : rows_under base c.args.commits.now decl ≡ map (widened_row c.decl.result.now.schema decl.schema) c.indexed.result = rows_found decl.name decl.schema base.catalogue state c.in-Some.rel.0 c.decl.result.now c.indexed.result found here held in
    subst (λ (rs : List Row). IfErr c.add_rows.result (IsFirstFull PAGE_TWO (need_of c.args.writer.now) (length (paged PAGE_TWO rs)) c.args.writer.now.limit)) (sym are) c.add_rows.ensures.full

pub returns-clause-add : goal.returns-clause-add
returns-clause-add c =
    let base = c.args.base.now in
    let decl = c.args.decl.now in
    let state = after_all base.state c.args.commits.now in
    let found : number_named decl.name base.catalogue ≡ None =
    ap (λ z. number_named decl.name z) (sym c.catalogue-catalogue.ensures.catalogue) ∙ ap (λ z. number_named z c.catalogue-catalogue.result.now) (sym c.bytes.ensures.bytes) ∙ sym c.in-None.ensures.number in
    let none : c.new.result ≡ rows_under base c.args.commits.now decl = c.new.ensures ∙ sym (no_rows_found decl.name decl.schema base.catalogue state found) in
    subst (λ (rs : List Row). OnOk c.add.result (c.add.new.self ≡ with_rel PAGE_TWO c.args.writer.now rs)) none c.add.ensures.add
