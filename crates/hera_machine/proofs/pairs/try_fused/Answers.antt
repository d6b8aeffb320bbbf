use Rattle.hera_machine.specs.Standing.{GoesOn}
use Rattle.hera_steps.specs.Working.{Work, machine_at}
use Rattle.std.proofs.Common.{subst}
use Rattle.hera_machine.proofs.pairs.try_fused.Goals as goal

pub returns-else-parted_next-clause-goes : goal.returns-else-parted_next-clause-goes
returns-else-parted_next-clause-goes c = λ rels hosts s h.
    subst (λ (w : Work). GoesOn 1 c.args.code.now rels hosts s (machine_at s w) (machine_at s c.pushed_next.new.work)) (c.parted_next.ensures.kept c.if-parted_next.false) (c.pushed_next.ensures.goes rels hosts s h)
