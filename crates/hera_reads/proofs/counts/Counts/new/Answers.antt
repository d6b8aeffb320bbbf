use Rattle.std.proofs.Common.{subst, sym}
use Rattle.hera_reads.proofs.Counting.{NoneKnown, none_at_first, none_pushed, none_counts}
use Rattle.hera_reads.proofs.counts.Counts.new.Goals as goal

pub loop-init : goal.loop-init
loop-init c = subst NoneKnown (sym c.new-numbers.ensures.items) none_at_first

pub loop-preserved : goal.loop-preserved
loop-preserved c = subst NoneKnown (sym c.in_ok-push.ensures.items) (none_pushed c.loop.numbers.items c.loop.invariant)

pub returns : goal.returns
returns c = λ s. none_counts s c.loop.numbers.items c.loop.invariant
