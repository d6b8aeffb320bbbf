use Rattle.std.proofs.Common.{◌+◌, [], List, Option, drop, ap, ◌∙◌, subst}
use Rattle.std.specs.List.{slice_get}
use Rattle.hera_sets.specs.Rows.{Row}
use Rattle.hera_rows.specs.Blocks.{joined, or_else, IsHome}
use Rattle.hera_rows.proofs.StackLemmas.{any_default}
use Rattle.hera_rows.proofs.FromLemmas.{home_passes}
use Rattle.hera_rows.proofs.stacks.sought.Goals as goal

pub returns : goal.returns
returns c =
    let none : List Row = [] in
    let bs : List (List Row) = c.args.blocks.now in
    let rest : Option Row = slice_get (joined (drop (c.home_near-k.result + 1) bs)) 0 in
    c.row_from.ensures
    ∙ ap (λ (t : List Row). or_else (slice_get t c.first.result) rest) (any_default bs c.home_near-k.result c.index-blocks-k.result none c.home_near-k.ensures.within c.index-blocks-k.is)
    ∙ ap (λ (o : Option Row). or_else o rest) c.first.ensures
    ∙ home_passes bs c.args.bound c.home_near-k.result c.index-blocks-k.result c.requires.order (subst (λ z. IsHome bs z c.home_near-k.result) c.low.ensures c.home_near-k.ensures) c.index-blocks-k.is
