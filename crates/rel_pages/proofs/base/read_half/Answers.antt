use Rattle.std.proofs.Common.{All, List, ℕ, Err, sym, ap, subst, arith, ◌≡◌, ◌∙◌}
use Rattle.std.proofs.lemmas.Result.{err_from_is_err_and}
use Rattle.rel_format.specs.Versions.{format_of, version_in}
use Rattle.rel_format.specs.declared.version.Version.{Version}
use Rattle.rel_pages.specs.Parts.{IsBase}
use Rattle.rel_pages.specs.Halves.{HalfParts, EndsAt}
use Rattle.rel_pages.specs.declared.starts.ReadStart.{ReadStart}
use Rattle.rel_pages.specs.Starts.{IsRead}
use Rattle.rel_pages.proofs.Bases.{read_is, fault_is}
use Rattle.rel_pages.proofs.Beginnings.{parts_same, starts_same}
use Rattle.rel_pages.proofs.base.read_half.Goals as goal

pub returns-in_err-catalogue : goal.returns-in_err-catalogue
returns-in_err-catalogue c =
    let q = err_from_is_err_and c.from_residual.result c.from_residual.ensures.1 in
    let v : Version = c.of-version.result in
    let own : v ≡ version_in c.args.bytes.items = c.of-version.ensures ∙ ap version_in c.deref.ensures.value in
    rw (q.1, q.2) (fault_is v c.args.bytes.items c.in_err-catalogue.field-0.0 own (omega arith) (subst (λ (x : List ℕ). HalfParts (format_of v) x (Err c.in_err-catalogue.field-0.0)) c.deref-2.ensures.value (c.in_err-catalogue.ensures.read (format_of v) (sym c.magic.ensures) (sym c.page-page.ensures))))

pub all_starts-requires-clause-parts : goal.all_starts-requires-clause-parts
all_starts-requires-clause-parts c =
    let v : Version = c.of-version.result in
    let base = (c.in_ok-catalogue.ensures.read (format_of v) (sym c.magic.ensures) (sym c.page-page.ensures)).0 in
    parts_same (format_of v).page c.page-page.result c.in_ok-catalogue.catalogue c.in_ok-catalogue.parts.items c.deref-3.result.now c.deref-2.result.now c.deref-4.result.now (sym c.page-page.ensures) (sym c.deref-3.ensures.value) (c.deref-2.ensures.value ∙ sym c.deref-4.ensures.value) base.parts_are

pub all_starts-requires-clause-read : goal.all_starts-requires-clause-read
all_starts-requires-clause-read c =
    subst (λ (xs : List ReadStart). All (IsRead c.in_ok-catalogue.catalogue c.deref-4.result.now) xs) (sym c.deref-5.ensures.value)
    (subst (λ (x : List ℕ). All (IsRead c.in_ok-catalogue.catalogue x) c.parts_of.new.starts.items) (c.deref-2.ensures.value ∙ sym c.deref-4.ensures.value) c.in_ok-catalogue.ensures.starts)

pub invariant_of-result : goal.invariant_of-result
invariant_of-result c =
    let v : Version = c.of-version.result in (
      subst (λ (x : List ℕ). IsBase (format_of v) c.in_ok-catalogue.catalogue c.in_ok-catalogue.parts.items x c.in_ok-catalogue.journal) c.deref-2.ensures.value (c.in_ok-catalogue.ensures.read (format_of v) (sym c.magic.ensures) (sym c.page-page.ensures)).0,
      starts_same c.page-page.result (format_of v).page c.in_ok-catalogue.catalogue c.deref-3.result.now c.in_ok-catalogue.parts.items c.deref-4.result.now c.args.bytes.items c.in-Ok.starts.items c.page-page.ensures c.deref-3.ensures.value c.deref-4.ensures.value c.in-Ok.ensures,
    )

pub returns-in-Ok : goal.returns-in-Ok
returns-in-Ok c =
    let v : Version = c.of-version.result in
    let own : v ≡ version_in c.args.bytes.items = c.of-version.ensures ∙ ap version_in c.deref.ensures.value in
    let h = c.in_ok-catalogue.ensures.read (format_of v) (sym c.magic.ensures) (sym c.page-page.ensures) in
    read_is v c.in_ok-catalogue.catalogue c.in_ok-catalogue.parts.items c.args.bytes.items c.in_ok-catalogue.journal own (omega arith)
    (subst (λ (x : List ℕ). IsBase (format_of v) c.in_ok-catalogue.catalogue c.in_ok-catalogue.parts.items x c.in_ok-catalogue.journal) c.deref-2.ensures.value h.0) (subst (λ (x : List ℕ). EndsAt (format_of v) x c.in_ok-catalogue.catalogue c.in_ok-catalogue.journal) c.deref-2.ensures.value h.1)
