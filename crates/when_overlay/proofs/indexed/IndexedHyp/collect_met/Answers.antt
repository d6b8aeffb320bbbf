use Rattle.std.proofs.Common.{◌∙◌, ap, sym}
use Rattle.std.specs.Option.{option_copied}
use Rattle.hera_sets.proofs.Lists.{filter_past_none, walk_step, walk_push, walk_end, walk_falls}
use Rattle.when_overlay.proofs.indexed.IndexedHyp.collect_met.Goals as goal

pub loop-row-init : goal.loop-row-init
loop-row-init c = rw c.new-set.ensures (filter_past_none c.args.self.now)

pub push_last-requires : goal.push_last-requires
push_last-requires c = walk_push c.loop-row.set c.args.self.now (option_copied c.loop-row.last) c.in-Some.row.now c.above_near-next.ensures.ordered (sym c.above_near-next.ensures.next ∙ ap option_copied c.in-Some.is) c.loop-row.invariant

pub loop-row-smaller : goal.loop-row-smaller
loop-row-smaller c = walk_falls c.args.self.now (option_copied c.loop-row.last) c.in-Some.row.now c.above_near-next.ensures.ordered (sym c.above_near-next.ensures.next ∙ ap option_copied c.in-Some.is)

pub loop-row-preserved : goal.loop-row-preserved
loop-row-preserved c = rw c.in_ok-push_last.ensures.ok (walk_step c.loop-row.set c.args.self.now (option_copied c.loop-row.last) c.in-Some.row.now c.above_near-next.ensures.ordered (sym c.above_near-next.ensures.next ∙ ap option_copied c.in-Some.is) c.loop-row.invariant)

pub returns-in_default : goal.returns-in_default
returns-in_default c = walk_end c.loop-row.set c.args.self.now (option_copied c.loop-row.last) (sym c.above_near-next.ensures.next ∙ ap option_copied c.in_default.is) c.loop-row.invariant
