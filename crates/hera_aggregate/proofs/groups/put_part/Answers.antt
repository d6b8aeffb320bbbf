use Rattle.std.proofs.Common.{[], ap, ◌∙◌}
use Rattle.std.specs.List.{slice_set}
use Rattle.hera_sets.specs.Rows.{put}
use Rattle.hera_aggregate.proofs.PartLemmas.{get_or_any}
use Rattle.hera_aggregate.proofs.groups.put_part.Goals as goal

pub returns : goal.returns
returns c =
    let items = c.args.parts.now.items in
    ap (slice_set items c.args.place) (c.in_ok-insert.ensures.ok ∙ ap (put c.args.row.now) (c.index_mut.ensures.value ∙ get_or_any items c.args.place c.index_mut.result.now [] c.requires))
