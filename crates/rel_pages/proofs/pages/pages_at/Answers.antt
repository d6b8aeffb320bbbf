use Rattle.std.proofs.Common.{◌≤◌, ◌+◌, ◌-◌, ℕ, List, Vec, None, sym, ap, subst, ◌∙◌, length, get_or, arith}
use Rattle.std.specs.Global.{Global}
use Rattle.std.specs.Option.{option_map}
use Rattle.std.proofs.lemmas.Result.{err_from_is_err_and}
use Rattle.std.proofs.lemmas.List.{length-set, length-replicate}
use Rattle.rel_pages.specs.Reading.{told, PagesTo}
use Rattle.rel_pages.proofs.PageSteps.{PagesOn, fault_in_page, no_count, counted, page_on, left_one, all_read, get_none, small_set}
use Rattle.rel_pages.proofs.pages.pages_at.Goals as goal

pub returns-in_default-clause-read : goal.returns-in_default-clause-read
returns-in_default-clause-read c = rw c.damaged.ensures (λ f p r. no_count f c.args.bytes.now c.args.at c.args.rels.now c.in_default.ensures.value r)

pub loop-init : goal.loop-init
loop-init c = record {
  within = c.in-Some.ensures.within;
  few = λ i. let z : get_or c.in_ok-lens.lens.items i 0 ≤ 0 = subst (λ xs. get_or xs i 0 ≤ 0) (sym c.in_ok-lens.ensures.ok) (get_none c.len.result i) in omega (arith, z);
  size = ap length c.in_ok-lens.ensures.ok ∙ length-replicate c.len.result 0 ∙ c.len.ensures.count;
  last = tt;
  starts = c.requires.starts;
  read = λ f p r. subst (PagesOn f c.args.bytes.now c.args.page (c.args.at + 4) c.args.rels.now None c.in_ok-lens.lens.items) (omega arith) (counted f c.args.bytes.now c.args.page c.args.at c.args.rels.now c.in_ok-lens.lens.items c.in-Some.count c.len.result c.in-Some.ensures.value c.in_ok-lens.ensures.ok c.len.ensures.count r);
}

pub returns-in_err-end-clause-read : goal.returns-in_err-end-clause-read
returns-in_err-end-clause-read c =
    let q = err_from_is_err_and c.from_residual-in_err-end.result c.from_residual-in_err-end.ensures.1 in
    rw (q.1, q.2)
    (λ f p.
    fault_in_page {B = Vec ℕ Global} f c.args.bytes.now c.args.page c.args.at c.loop.at c.args.rels.now (option_map told c.loop.last) c.loop.lens.items (c.in-Some.count - (c.loop.counter + 1)) (λ lens. PagesTo c.args.page c.args.rels.now lens.items) c.in_err-end.field-0.0 p
    (λ r. left_one f c.args.bytes.now c.args.page c.loop.at c.args.rels.now (option_map told c.loop.last) c.loop.lens.items c.in-Some.count c.loop.counter c.loop-test.true (c.loop.invariant.read f p r))
    (λ b own ended. c.in_err-end.ensures.read f b (c.in-Some.count - (c.loop.counter + 1)) p own ended))

pub loop-preserved : goal.loop-preserved
loop-preserved c = record {
  within = c.in_ok-end.ensures.within;
  few = λ i.
      let old = c.loop.invariant.few c.in_ok-end.end.rel in
      let place = c.in_ok-end.ensures.place in
      subst (λ (xs : List ℕ). get_or xs i 0 ≤ c.in_ok-end.behind) (sym c.add_page.ensures)
      (small_set c.loop.lens.items c.in_ok-end.end.rel i (get_or c.loop.lens.items c.in_ok-end.end.rel 0 + c.args.page) c.in_ok-end.behind (λ k. let low = c.loop.invariant.few k in omega (arith, low, place)) (omega (arith, old, place)));
  size = ap length c.add_page.ensures ∙ length-set c.loop.lens.items c.in_ok-end.end.rel _ ∙ c.loop.invariant.size;
  last = c.in_ok-end.ensures.used;
  starts = c.in_ok-end.ensures.starts;
  read = λ f p r.
      let left = c.in-Some.count - (c.loop.counter + 1) in
      let on = left_one f c.args.bytes.now c.args.page c.loop.at c.args.rels.now (option_map told c.loop.last) c.loop.lens.items c.in-Some.count c.loop.counter c.loop-test.true (c.loop.invariant.read f p r) in
      page_on f c.args.bytes.now c.args.page c.loop.at c.in_ok-end.behind c.args.rels.now (option_map told c.loop.last) c.loop.lens.items _ left c.in_ok-end.end on
      (c.in_ok-end.ensures.read f on.book left p on.own on.ended on.reached) c.add_page.ensures;
}

pub returns-clause-read : goal.returns-clause-read
returns-clause-read c = λ f p r. all_read f c.args.bytes.now c.args.page c.loop.at c.args.rels.now (option_map told c.loop.last) c.loop.lens.items c.in-Some.count c.loop.counter (omega (arith, c.loop-test.false)) (c.loop.invariant.read f p r)
