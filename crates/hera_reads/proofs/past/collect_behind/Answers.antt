use Rattle.std.proofs.Common.{refl, ◌∙◌, ap, sym}
use Rattle.std.specs.Option.{option_copied}
use Rattle.hera_sets.proofs.Lists.{walk_falls}
use Rattle.hera_reads.proofs.Collecting.{past_step, past_push, past_end}
use Rattle.hera_reads.proofs.past.collect_behind.Goals as goal

pub loop-row-init : goal.loop-row-init
loop-row-init c = rw c.new-set.ensures refl

pub push_last-requires : goal.push_last-requires
push_last-requires c = past_push c.loop-row.set c.args.rows.now (option_copied c.args.bound) (option_copied c.loop-row.last) c.in-Some.row.now c.above_near-next.ensures.ordered (sym c.above_near-next.ensures.next ∙ ap option_copied c.in-Some.is) c.loop-row.invariant

pub loop-row-smaller : goal.loop-row-smaller
loop-row-smaller c = walk_falls c.args.rows.now (option_copied c.loop-row.last) c.in-Some.row.now c.above_near-next.ensures.ordered (sym c.above_near-next.ensures.next ∙ ap option_copied c.in-Some.is)

pub loop-row-preserved : goal.loop-row-preserved
loop-row-preserved c = rw c.in_ok-push_last.ensures.ok (past_step c.loop-row.set c.args.rows.now (option_copied c.args.bound) (option_copied c.loop-row.last) c.in-Some.row.now c.above_near-next.ensures.ordered (sym c.above_near-next.ensures.next ∙ ap option_copied c.in-Some.is) c.loop-row.invariant)

pub returns-in_default : goal.returns-in_default
returns-in_default c = past_end c.loop-row.set c.args.rows.now (option_copied c.args.bound) (option_copied c.loop-row.last) (sym c.above_near-next.ensures.next ∙ ap option_copied c.in_default.is) c.loop-row.invariant
