use Rattle.std.proofs.Common.{◌≡◌, suc, ◌-◌, ◌<◌, [], List, length, get_or, arith, sym, ap, ◌∙◌}
use Rattle.hera_sets.specs.Rows.{Row}
use Rattle.hera_rows.specs.Blocks.{joined, place_of}
use Rattle.hera_rows.specs.Froms.{passes}
use Rattle.hera_rows.proofs.BlockLemmas.{filled_at}
use Rattle.hera_rows.proofs.StackLemmas.{any_default, not_true}
use Rattle.hera_rows.proofs.FromLemmas.{ends_at, row_of_block, place_more, next_place}
use Rattle.hera_rows.proofs.stacks.ends_out.Goals as goal

pub returns-then-i-gt0 : goal.returns-then-i-gt0
returns-then-i-gt0 c = λ h.
    let none : List Row = [] in
    let b : List Row = c.index-blocks-k.result in
    let long : length (get_or c.args.blocks.now c.args.k none) ≡ length b = ap length (any_default c.args.blocks.now c.args.k b none c.requires.within c.index-blocks-k.is) in
    ends_at (passes c.args.bound) (joined c.args.blocks.now) (place_of c.args.blocks.now c.args.k (c.args.i - 1)) (place_of c.args.blocks.now c.args.k c.args.i) c.row.result.now
    (place_more c.args.blocks.now c.args.k c.args.i c.if-i-gt0.true)
    (row_of_block c.args.blocks.now c.args.k (c.args.i - 1) b c.row.result.now c.requires.within c.index-blocks-k.is c.row.ensures (omega (arith, c.requires.upto, long, c.if-i-gt0.true)))
    (sym c.passes.ensures ∙ not_true c.passes.result h)

pub overflow_sub-len : goal.overflow_sub-len
overflow_sub-len c = omega (arith, c.len.ensures.count, filled_at c.args.blocks.now (c.args.k - 1) c.index-blocks-k-then-k-gt0.result c.requires.filled (omega (arith, c.requires.within)) c.index-blocks-k-then-k-gt0.is)

pub row-requires-then-k-gt0 : goal.row-requires-then-k-gt0
row-requires-then-k-gt0 c = omega (arith, c.len.ensures.count, filled_at c.args.blocks.now (c.args.k - 1) c.index-blocks-k-then-k-gt0.result c.requires.filled (omega (arith, c.requires.within)) c.index-blocks-k-then-k-gt0.is)

pub returns-then-k-gt0 : goal.returns-then-k-gt0
returns-then-k-gt0 c = λ h.
    let bs : List (List Row) = c.args.blocks.now in
    let b : List Row = c.index-blocks-k-then-k-gt0.result in
    let k : c.args.k ≡ suc (c.args.k - 1) = omega (arith, c.if-k-gt0.true) in
    let i : c.args.i ≡ 0 = omega (arith, c.if-i-gt0.false) in
    let some = filled_at bs (c.args.k - 1) b c.requires.filled (omega (arith, c.requires.within)) c.index-blocks-k-then-k-gt0.is in
    let within : c.len.result - 1 < length b = omega (arith, c.len.ensures.count, some) in
    ends_at (passes c.args.bound) (joined bs) (place_of bs (c.args.k - 1) (c.len.result - 1)) (place_of bs c.args.k c.args.i) c.row-then-k-gt0.result.now
    ((λ j. place_of bs (k j) (i j)) ∙ next_place bs (c.args.k - 1) b (omega (arith, c.requires.within)) c.index-blocks-k-then-k-gt0.is some ∙ ap (λ n. suc (place_of bs (c.args.k - 1) (n - 1))) (sym c.len.ensures.count))
    (row_of_block bs (c.args.k - 1) (c.len.result - 1) b c.row-then-k-gt0.result.now (omega (arith, c.requires.within)) c.index-blocks-k-then-k-gt0.is c.row-then-k-gt0.ensures within)
    (sym c.passes-then-k-gt0.ensures ∙ not_true c.passes-then-k-gt0.result h)
