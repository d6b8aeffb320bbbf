use Rattle.std.proofs.Common.{◌+◌, sym, subst, arith}
use Rattle.rel_pages.proofs.Evens.{AreEven, even_int, even_bool, attr_there}
use Rattle.rel_pages.proofs.page_rel.one_width.Goals.{in-Int, in-Bool}
use Rattle.rel_pages.proofs.page_rel.one_width.Goals as goal

pub loop-place-preserved : goal.loop-place-preserved
loop-place-preserved c =
    let schema = c.args.schema.now in
    let place = c.loop-place.place in
    let there = attr_there schema place c.attr.result.now c.attr.ensures.attr in
    elim c.match-attr.branch [
      | in-Int w ↦ record {
        even = subst (AreEven schema (place + 1)) (sym w.width-is) (even_int schema place c.loop-place.width c.attr.result.now w.in-Int.is there c.loop-place.invariant.even);
        small = omega (arith, w.width-is, c.loop-place.invariant.small);
      }
      | in-Bool w ↦ record {
        even = subst (AreEven schema (place + 1)) (sym w.width-is) (even_bool schema place c.loop-place.width c.attr.result.now w.in-Bool.is there c.loop-place.invariant.even);
        small = omega (arith, w.width-is, c.loop-place.invariant.small);
      }
    ]
