use Rattle.std.proofs.Common.{◌≡◌, [], List, get_or, refl, ◌∙◌}
use Rattle.std.specs.List.{slice_get}
use Rattle.std.specs.Option.{option_copied}
use Rattle.hera_sets.specs.Rows.{Row}
use Rattle.hera_rows.specs.Blocks.{joined, place_of}
use Rattle.hera_rows.proofs.StackLemmas.{any_place}
use Rattle.hera_rows.proofs.FromLemmas.{from_row, first_at}
use Rattle.hera_rows.proofs.stacks.looked_at.Goals as goal

pub returns-then-starts_in : goal.returns-then-starts_in
returns-then-starts_in c =
    let none : List Row = [] in
    let bs : List (List Row) = c.args.blocks.now in
    let b : List Row = get_or bs c.args.k none in
    let at : b ≡ get_or bs c.args.k b = any_place bs c.args.k none b c.requires.within in
    let here : option_copied c.row_from-near.result.row ≡ slice_get (joined bs) (place_of bs c.args.k c.args.i) = c.row_from-near.ensures ∙ from_row bs c.args.k c.args.i b c.requires.within at c.requires.upto in
    here ∙ first_at c.args.bound (joined bs) (place_of bs c.args.k c.args.i) c.requires.order.ascending (c.if-not-ends_out.ensures refl) (λ r h. c.if-starts_in.ensures r refl (here ∙ h))
