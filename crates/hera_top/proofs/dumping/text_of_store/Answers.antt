use Rattle.std.proofs.Common.{arith, length, ap, ◌∙◌}
use Rattle.rel_pages.specs.Stored.{Stored}
use Rattle.hera_top.proofs.Dumped.{one_more, all_of_them}
use Rattle.hera_top.proofs.dumping.text_of_store.Goals as goal

pub loop-rel-preserved : goal.loop-rel-preserved
loop-rel-preserved c =
    let same = c.catalogue.ensures.catalogue ∙ ap (λ (b : Stored). b.catalogue) c.base.ensures.base in
    one_more _ _ c.loop-rel.rel _ _ _ c.requires (omega (arith, c.loop-rel-test.true, c.len-count.ensures.count, ap length same)) c.in_ok-put_relation.ensures c.loop-rel.invariant

pub returns : goal.returns
returns c =
    let same = c.catalogue.ensures.catalogue ∙ ap (λ (b : Stored). b.catalogue) c.base.ensures.base in
    all_of_them _ _ c.loop-rel.rel _ _ c.requires (omega (arith, c.loop-rel-test.false, c.len-count.ensures.count, ap length same)) c.loop-rel.invariant
