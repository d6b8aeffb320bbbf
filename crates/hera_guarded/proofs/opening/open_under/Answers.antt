use Rattle.std.proofs.Common.{◌≡◌, List, sym, ap, ◌∙◌, subst}
use Rattle.hera_meaning.specs.declared.schemas.RelDecl.{RelDecl}
use Rattle.hera_bind.specs.Having.{AllHas}
use Rattle.rel_pages.specs.Stored.{Stored}
use Rattle.hera_outcome.specs.Passages.{passage}
use Rattle.hera_run.proofs.Results.{err_is}
use Rattle.hera_guarded.specs.Guarding.{AreRules, IsUnruled}
use Rattle.hera_guarded.specs.Opening.{IsUnreadyUnder}
use Rattle.hera_guarded.proofs.Readied.{unready_unopened, unready_unruled, ready_opened, renewed_ready, unrenewed_unready}
use Rattle.hera_guarded.proofs.opening.open_under.Goals as goal

pub returns-in_err-store-clause-unready : goal.returns-in_err-store-clause-unready
returns-in_err-store-clause-unready g c =
    let names = c.args.hosts.now.names in
    let lines = c.args.lines.now in
    let stop = c.in_err-store.field-0.0 in
    err_is (λ stop. IsUnreadyUnder names lines c.args.own.now stop (passage g.W.Output g.W.Outside c.args.outside.now c.open_folder.new.outside)) c.from_residual.result stop c.from_residual.ensures.1
    (unready_unopened g.W.Output g.W.Outside names lines c.args.outside.now c.open_folder.new.outside c.args.own.now stop c.in_err-store.ensures.unopened)

pub returns-in_err-table-clause-unready : goal.returns-in_err-table-clause-unready
returns-in_err-table-clause-unready g c =
    let own = c.args.own.now in
    let names = c.args.hosts.now.names in
    let lines = c.args.lines.now in
    let store = c.in_ok-store.store in
    let same : c.catalogue.result.now ≡ store.base.catalogue = c.catalogue.ensures.catalogue ∙ ap (λ (b : Stored). b.catalogue) c.base.ensures.base in
    let stop = c.in_err-table.field-0.0 in
    err_is (λ stop. IsUnreadyUnder names lines own stop (passage g.W.Output g.W.Outside c.args.outside.now c.open_folder.new.outside)) c.from_residual-in_err-table.result stop c.from_residual-in_err-table.ensures.1
    (unready_unruled g.W.Output g.W.Outside names lines c.args.outside.now c.open_folder.new.outside store c.in_ok-store.ensures.opened own stop (subst (λ (rs : List RelDecl). IsUnruled names lines own rs stop) same c.in_err-table.ensures.unruled))

pub returns-then-old_format-clause-ready : goal.returns-then-old_format-clause-ready
returns-then-old_format-clause-ready g c =
    let own = c.args.own.now in
    let names = c.args.hosts.now.names in
    let lines = c.args.lines.now in
    let store = c.in_ok-store.store in
    let same : c.catalogue.result.now ≡ store.base.catalogue = c.catalogue.ensures.catalogue ∙ ap (λ (b : Stored). b.catalogue) c.base.ensures.base in
    let has = subst (λ (rs : List RelDecl). AllHas rs own) same c.in_ok-table.ensures.has in
    let rules = subst (λ (rs : List RelDecl). AreRules rs names lines c.in_ok-table.table) same c.in_ok-table.ensures.rules in
    renewed_ready g.W.Output g.W.Outside names lines c.args.outside.now c.open_folder.new.outside store c.in_ok-store.ensures.opened own c.in_ok-table.table has rules (sym c.old_format.ensures ∙ c.if-old_format.true) c.renew_under.new.outside c.renew_under.result c.renew_under.ensures.renewed

pub returns-then-old_format-clause-unready : goal.returns-then-old_format-clause-unready
returns-then-old_format-clause-unready g c =
    let own = c.args.own.now in
    let names = c.args.hosts.now.names in
    let lines = c.args.lines.now in
    let store = c.in_ok-store.store in
    let same : c.catalogue.result.now ≡ store.base.catalogue = c.catalogue.ensures.catalogue ∙ ap (λ (b : Stored). b.catalogue) c.base.ensures.base in
    let has = subst (λ (rs : List RelDecl). AllHas rs own) same c.in_ok-table.ensures.has in
    let rules = subst (λ (rs : List RelDecl). AreRules rs names lines c.in_ok-table.table) same c.in_ok-table.ensures.rules in
    unrenewed_unready g.W.Output g.W.Outside names lines c.args.outside.now c.open_folder.new.outside store c.in_ok-store.ensures.opened own c.in_ok-table.table has rules (sym c.old_format.ensures ∙ c.if-old_format.true) c.renew_under.new.outside c.renew_under.result c.renew_under.ensures.unrenewed

pub returns-else-old_format-clause-ready : goal.returns-else-old_format-clause-ready
returns-else-old_format-clause-ready g c =
    let own = c.args.own.now in
    let names = c.args.hosts.now.names in
    let lines = c.args.lines.now in
    let store = c.in_ok-store.store in
    let same : c.catalogue.result.now ≡ store.base.catalogue = c.catalogue.ensures.catalogue ∙ ap (λ (b : Stored). b.catalogue) c.base.ensures.base in
    let has = subst (λ (rs : List RelDecl). AllHas rs own) same c.in_ok-table.ensures.has in
    let rules = subst (λ (rs : List RelDecl). AreRules rs names lines c.in_ok-table.table) same c.in_ok-table.ensures.rules in
    ready_opened g.W.Output g.W.Outside names lines c.args.outside.now c.open_folder.new.outside store c.in_ok-store.ensures.opened own c.in_ok-table.table has rules (sym c.old_format.ensures ∙ c.if-old_format.false)
