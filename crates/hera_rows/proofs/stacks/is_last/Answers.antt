use Rattle.std.proofs.Common.{◌-◌, suc, List, length, arith, sym, ap, ◌∙◌}
use Rattle.hera_sets.specs.Rows.{Row}
use Rattle.hera_rows.specs.Blocks.{joined, place_of}
use Rattle.hera_rows.proofs.BlockLemmas.{filled_at}
use Rattle.hera_rows.proofs.FromLemmas.{above_last, last_place, row_of_block}
use Rattle.hera_rows.proofs.stacks.is_last.Goals as goal

pub overflow_sub-len : goal.overflow_sub-len
overflow_sub-len c = omega (arith, c.len.ensures.count, filled_at c.args.blocks.now (length c.args.blocks.now - 1) c.index-blocks-n.result c.requires.filled (omega (arith, c.if-n-eq0.false)) c.index-blocks-n.is)

pub row-requires : goal.row-requires
row-requires c = omega (arith, c.len.ensures.count, filled_at c.args.blocks.now (length c.args.blocks.now - 1) c.index-blocks-n.result c.requires.filled (omega (arith, c.if-n-eq0.false)) c.index-blocks-n.is)

pub returns-clause-behind : goal.returns-clause-behind
returns-clause-behind c = λ h.
    let bs : List (List Row) = c.args.blocks.now in
    let b : List Row = c.index-blocks-n.result in
    let some = filled_at bs (length bs - 1) b c.requires.filled (omega (arith, c.if-n-eq0.false)) c.index-blocks-n.is in
    above_last (joined bs) (place_of bs (length bs - 1) (c.len.result - 1)) c.row.result.now c.args.row.now c.requires.ascending
    (last_place bs (length bs - 1) b (omega (arith, c.if-n-eq0.false)) c.index-blocks-n.is some ∙ ap (λ n. suc (place_of bs (length bs - 1) (n - 1))) (sym c.len.ensures.count))
    (row_of_block bs (length bs - 1) (c.len.result - 1) b c.row.result.now (omega (arith, c.if-n-eq0.false)) c.index-blocks-n.is c.row.ensures (omega (arith, c.len.ensures.count, some)))
    (sym c.is_below.ensures ∙ h)
