use Rattle.std.proofs.Common.{◌≡◌, ◌∙◌, List, Some, sym, ap, subst}
use Rattle.std.specs.Prelude.{slice_get}
use Rattle.hera_meaning.specs.declared.schemas.Attr.{Attr}
use Rattle.hera_meaning.specs.declared.schemas.RelDecl.{RelDecl}
use Rattle.rel_pages.specs.Stored.{Stored}
use Rattle.hera_csv.specs.declared.reading.CsvFault.{CsvFault}
use Rattle.hera_csv.specs.Records.{records_of, bad_in, IsRefusal}
use Rattle.hera_outcome.specs.declared.answer.Stop.TheVariants.{Memory}
use Rattle.hera_run.proofs.Results.{err_is}
use Rattle.hera_transfer.specs.Reading.{IsUnread, has_none, has_bad, lacks_memory}
use Rattle.hera_transfer.proofs.Named.{schema_found}
use Rattle.hera_transfer.proofs.adding.read.Goals as goal

pub returns-in_err-schema-clause-unread : goal.returns-in_err-schema-clause-unread
returns-in_err-schema-clause-unread c = err_is (IsUnread c.args.store.now.base.catalogue c.args.name.now c.args.file.items) c.from_residual.result Memory c.from_residual.ensures.1 lacks_memory

pub returns-in-Ok-clause-read : goal.returns-in-Ok-clause-read
returns-in-Ok-clause-read c =
    let same = c.catalogue.ensures.catalogue ∙ ap (λ (b : Stored). b.catalogue) c.base.ensures.base in
    let there = schema_found c.args.store.now.base.catalogue c.in-Some.rel.0 c.decl.result.now (subst (λ (rels : List RelDecl). slice_get rels c.in-Some.rel.0 ≡ Some c.decl.result.now) same c.decl.ensures.decl) in
    record {
      rel = c.in-Some.rel.0;
      named = c.in-Some.ensures.some;
      schema_is = sym there ∙ sym c.in_ok-schema.ensures;
      good = c.in-Ok.ensures.good;
      rows_are = c.in-Ok.ensures.rows;
    }

pub returns-in-Err-Record-clause-unread : goal.returns-in-Err-Record-clause-unread
returns-in-Err-Record-clause-unread c =
    let same = c.catalogue.ensures.catalogue ∙ ap (λ (b : Stored). b.catalogue) c.base.ensures.base in
    let there = schema_found c.args.store.now.base.catalogue c.in-Some.rel.0 c.decl.result.now (subst (λ (rels : List RelDecl). slice_get rels c.in-Some.rel.0 ≡ Some c.decl.result.now) same c.decl.ensures.decl) in
    let bad = subst (λ (f : CsvFault). IsRefusal (bad_in c.in_ok-schema.schema (records_of c.args.file.items)) f) c.in-Err-Record.field-0-is c.in-Err-Record.ensures.refused in
    has_bad c.in-Some.ensures.some (subst (λ (x : List Attr). bad_in x (records_of c.args.file.items) ≡ Some c.in-Err-Record.number) (c.in_ok-schema.ensures ∙ there) bad)

pub returns-clause-unread : goal.returns-clause-unread
returns-clause-unread c = lacks_memory

pub returns-in_default-clause-unread : goal.returns-in_default-clause-unread
returns-in_default-clause-unread c = has_none (c.relation_named.ensures.none c.in_default.is)
