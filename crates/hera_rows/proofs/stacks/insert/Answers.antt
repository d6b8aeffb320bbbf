use Rattle.std.proofs.Common.{not, List, length, arith, sym, ap, ◌∙◌, subst, refl, ◌<◌}
use Rattle.hera_sets.specs.Rows.{Row}
use Rattle.hera_rows.specs.Blocks.{joined, AreBelow}
use Rattle.hera_rows.proofs.BlockLemmas.{none_before}
use Rattle.hera_rows.proofs.EndLemmas.{some_block}
use Rattle.hera_rows.proofs.FromLemmas.{behind_all, put_last, some_rows}
use Rattle.hera_rows.proofs.stacks.insert.Goals as goal

pub push_last-requires-clause-last : goal.push_last-requires-clause-last
push_last-requires-clause-last c =
    behind_all (joined c.args.blocks.now.items) c.args.row.now c.requires.stacked.order.ascending (subst (λ (bs : List (List Row)). AreBelow (joined bs) c.args.row.now) c.deref.ensures.value (c.if-is_last.ensures.behind refl))

pub returns-then-is_last-clause-new : goal.returns-then-is_last-clause-new
returns-then-is_last-clause-new c =
    ap not (sym (none_before c.args.row.now (joined c.args.blocks.now.items) (subst (λ (bs : List (List Row)). AreBelow (joined bs) c.args.row.now) c.deref.ensures.value (c.if-is_last.ensures.behind refl))))

pub returns-then-is_last-clause-ok : goal.returns-then-is_last-clause-ok
returns-then-is_last-clause-ok c =
    c.in_ok-push_last.ensures.ok ∙ sym (put_last c.args.row.now (joined c.args.blocks.now.items) (subst (λ (bs : List (List Row)). AreBelow (joined bs) c.args.row.now) c.deref.ensures.value (c.if-is_last.ensures.behind refl)))

pub put_in-requires-clause-some : goal.put_in-requires-clause-some
put_in-requires-clause-some c =
    let some = some_rows c.args.blocks.now.items c.requires.stacked.order.filled (subst (λ (bs : List (List Row)). 0 < length bs) c.deref.ensures.value (c.if-is_last.ensures.some refl)) in
    some_block c.tighten.new.blocks.items 0 (omega (arith, some, ap length c.tighten.ensures.same))
