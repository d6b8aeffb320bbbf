use Rattle.std.proofs.Common.{◌≡◌, ◌∙◌, List, Some, true, false, sym, ap, subst}
use Rattle.std.specs.Prelude.{slice_get}
use Rattle.std.proofs.lemmas.Option.{none-some}
use Rattle.hera_meaning.specs.declared.schemas.RelDecl.{RelDecl}
use Rattle.hera_meaning.specs.Deltas.{schema_of}
use Rattle.rel_pages.specs.Stored.{Stored}
use Rattle.hera_outcome.specs.declared.answer.Stop.TheVariants.{Memory}
use Rattle.hera_run.proofs.Results.{err_is}
use Rattle.hera_transfer.specs.Reading.{IsUnadded, is_gone, is_short}
use Rattle.hera_transfer.proofs.Named.{schema_found, one_number}
use Rattle.hera_transfer.proofs.Proper.{addition_proper}
use Rattle.hera_transfer.proofs.adding.plan.Goals as goal

pub returns-clause-added : goal.returns-clause-added
returns-clause-added c =
    let same = c.catalogue.ensures.catalogue ∙ ap (λ (b : Stored). b.catalogue) c.base.ensures.base in
    let there = schema_found c.args.store.now.base.catalogue c.in-Some.rel.0 c.decl.result.now (subst (λ (rels : List RelDecl). slice_get rels c.in-Some.rel.0 ≡ Some c.decl.result.now) same c.decl.ensures.decl) in
    record {
      rel = c.in-Some.rel.0;
      named = c.in-Some.ensures.some;
      schema_is = sym there ∙ c.same.ensures.0 c.if-not-same.false;
      delta_is = c.in_ok-added.ensures.delta;
      line_is = c.in_ok-added.ensures.line;
    }

pub returns-clause-proper : goal.returns-clause-proper
returns-clause-proper c =
    let same = c.catalogue.ensures.catalogue ∙ ap (λ (b : Stored). b.catalogue) c.base.ensures.base in
    let there = schema_found c.args.store.now.base.catalogue c.in-Some.rel.0 c.decl.result.now (subst (λ (rels : List RelDecl). slice_get rels c.in-Some.rel.0 ≡ Some c.decl.result.now) same c.decl.ensures.decl) in
    addition_proper c.args.store.now.base.catalogue c.in-Some.rel.0 c.args.read.schema c.args.read.rows c.in_ok-added.field-0.delta c.in-Some.ensures.within (sym there ∙ c.same.ensures.0 c.if-not-same.false) c.requires.valid c.in_ok-added.ensures.delta

pub returns-in_err-added-clause-unadded : goal.returns-in_err-added-clause-unadded
returns-in_err-added-clause-unadded c = err_is (IsUnadded c.args.store.now.base.catalogue c.args.name.now c.args.read.schema) c.from_residual.result Memory c.from_residual.ensures.1 is_short

pub returns-then-not-same-clause-unadded : goal.returns-then-not-same-clause-unadded
returns-then-not-same-clause-unadded c =
    let same = c.catalogue.ensures.catalogue ∙ ap (λ (b : Stored). b.catalogue) c.base.ensures.base in
    let there = schema_found c.args.store.now.base.catalogue c.in-Some.rel.0 c.decl.result.now (subst (λ (rels : List RelDecl). slice_get rels c.in-Some.rel.0 ≡ Some c.decl.result.now) same c.decl.ensures.decl) in
    is_gone (λ r named schema_is.
    let here : r ≡ c.in-Some.rel.0 = one_number c.args.name.now c.args.store.now.base.catalogue r c.in-Some.rel.0 named c.in-Some.ensures.some in
    let equal : c.decl.result.now.schema ≡ c.args.read.schema = there ∙ sym (ap (schema_of c.args.store.now.base.catalogue) here) ∙ schema_is in
    let bad : true ≡ false = sym (c.same.ensures.1 equal) ∙ c.if-not-same.true in
    cc (bad))

pub returns-in_default-clause-unadded : goal.returns-in_default-clause-unadded
returns-in_default-clause-unadded c = is_gone (λ r named schema_is. none-some r (sym (c.relation_named.ensures.none c.in_default.is) ∙ named))
