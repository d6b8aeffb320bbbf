use Rattle.std.proofs.Common.{◌≡◌, ◌+◌, Option, [], List, drop, get_or, arith, ap, ◌∙◌}
use Rattle.std.specs.List.{slice_get}
use Rattle.hera_rows.specs.Blocks.{joined, or_else, IsHome}
use Rattle.hera_sets.specs.Rows.{Row}
use Rattle.hera_rows.proofs.PlaceLemmas.{first_row}
use Rattle.hera_rows.proofs.StackLemmas.{any_place, home_here, home_past, past_in, block_ascending}
use Rattle.hera_rows.proofs.stacks.above_near.Goals as goal

pub returns-in_default : goal.returns-in_default
returns-in_default c = rw c.in_default.is (c.first_from.ensures ∙ first_row (joined c.args.blocks.now))

pub overflow_add-spot : goal.overflow_add-spot
overflow_add-spot c = omega (arith, c.stands_at.ensures.few c.if-stands_at.true)

pub returns-then-stands_at : goal.returns-then-stands_at
returns-then-stands_at c =
    let none : List Row = [] in
    let b : List Row = get_or c.args.blocks.now c.args.spot.block none in
    let within = c.stands_at.ensures.within c.if-stands_at.true in
    let here = c.stands_at.ensures.row c.if-stands_at.true in
    let at : b ≡ get_or c.args.blocks.now c.args.spot.block b = any_place c.args.blocks.now c.args.spot.block none b within in
    let home : IsHome c.args.blocks.now c.in-Some.low.now c.args.spot.block = home_here c.args.blocks.now c.args.spot.block c.args.spot.row b c.in-Some.low.now c.requires within at here in
    let rest : Option Row = slice_get (joined (drop (c.args.spot.block + 1) c.args.blocks.now)) 0 in
    rw c.in-Some.is
    (c.row_from.ensures
    ∙ ap (λ (o : Option Row). or_else o rest) (past_in b c.args.spot.row c.in-Some.low.now (block_ascending c.args.blocks.now c.args.spot.block b c.requires.ascending within at) here)
    ∙ home_past c.args.blocks.now c.in-Some.low.now c.args.spot.block b home at)

pub returns : goal.returns
returns c = rw c.in-Some.is c.first_near.ensures
