use Rattle.std.proofs.Common.{sym, subst, List, length}
use Rattle.std.specs.Prelude.{All}
use Rattle.hera_meaning.specs.declared.schemas.Agg.{Agg}
use Rattle.hera_aggregate.specs.Groups.{IsAggWithin}
use Rattle.hera_prims.proofs.Computed.{all_rows, all_within}
use Rattle.hera_prims.proofs.aggs.group.Goals as goal

pub group-requires-clause-rows : goal.group-requires-clause-rows
group-requires-clause-rows g c = all_rows c.args.schema.now (g.A.Sorted.rows c.args.a.now) c.requires.rows

pub group-requires-clause-within : goal.group-requires-clause-within
group-requires-clause-within g c =
    subst (λ (gs : List Agg). All (IsAggWithin (length c.args.schema.now)) gs) (sym c.items-2.ensures) (all_within c.args.schema.now c.args.aggs.now c.requires.aggs)
