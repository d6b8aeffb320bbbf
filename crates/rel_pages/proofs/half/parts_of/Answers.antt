use Rattle.std.proofs.Common.{rules, ◌≡◌, ◌+◌, ◌∙◌, List, refl, sym, ap, subst, arith}
use Rattle.std.proofs.lemmas.Result.{err_from_is_err_and}
use Rattle.rel_format.specs.Pages.{Format}
use Rattle.rel_format.specs.Places.{Reaches}
use Rattle.rel_pages.specs.declared.parts.RelationPages.{RelationPages}
use Rattle.rel_pages.specs.Parts.{IsBase, parts_from, total}
use Rattle.rel_pages.proofs.Halves.{found_is, header_fault, pages_fault}
use Rattle.rel_pages.proofs.half.parts_of.Goals as goal

pub returns-in_err-rels-clause-read : goal.returns-in_err-rels-clause-read
returns-in_err-rels-clause-read c =
    let q = err_from_is_err_and c.from_residual.result c.from_residual.ensures.1 in
    rw (q.1, q.2) (λ f m p. header_fault f c.args.bytes.now c.in_err-rels.field-0.0 (c.in_err-rels.ensures.read f m))

pub returns-in_err-lens-clause-read : goal.returns-in_err-lens-clause-read
returns-in_err-lens-clause-read c =
    let q = err_from_is_err_and c.from_residual-in_err-lens.result c.from_residual-in_err-lens.ensures.1 in
    rw (q.1, q.2) (λ f m p. pages_fault f c.args.bytes.now c.args.page c.in_ok-rels.at c.in_ok-rels.rels c.in_err-lens.field-0.0 (c.in_ok-rels.ensures.read f m).reached (c.in_err-lens.ensures.read f p))

pub parts_from-requires : goal.parts_from-requires
parts_from-requires c =
    let f : Format = record { magic = c.args.magic.now; page = c.args.page } in
    let header = c.in_ok-rels.ensures.read f refl in
    let is = found_is f c.args.bytes.now c.args.page c.in_ok-rels.at c.in_ok-lens.end c.in_ok-rels.rels c.in_ok-lens.lens.items (λ i. search rules) refl (omega arith) header c.in_ok-rels.ensures.within c.in_ok-lens.ensures.within (c.in_ok-lens.ensures.read f refl header.reached) in
    let same : total c.deref.result.now ≡ total c.in_ok-lens.lens.items = ap total c.deref.ensures.value in
    omega (arith, is.fits, c.in_ok-lens.ensures.within, same)

pub returns-in-Ok-clause-read : goal.returns-in-Ok-clause-read
returns-in-Ok-clause-read c = λ f m p.
    let header = c.in_ok-rels.ensures.read f m in
    let found = c.in_ok-lens.ensures.read f p header.reached in
    let is = found_is f c.args.bytes.now c.args.page c.in_ok-rels.at c.in_ok-lens.end c.in_ok-rels.rels c.in_ok-lens.lens.items (λ i. search rules) p (omega arith) header c.in_ok-rels.ensures.within c.in_ok-lens.ensures.within found in
    let same : parts_from (c.in_ok-rels.at + 4) c.in_ok-lens.lens.items ≡ c.in-Ok.parts.items = ap (parts_from (c.in_ok-rels.at + 4)) (sym c.deref.ensures.value) ∙ sym c.in-Ok.ensures in
    (subst (λ (ps : List RelationPages). IsBase f c.in_ok-rels.rels ps c.args.bytes.now c.in_ok-lens.end) same is.base, (found.1.book, found.1.own, subst (Reaches f c.args.bytes.now c.in_ok-lens.end) found.1.stand found.2))
