use Rattle.std.proofs.Common.{◌∙◌, ap, sym}
use Rattle.hera_flat.specs.Flats.{flat_value}
use Rattle.hera_machine.specs.Pairs.{ahead}
use Rattle.hera_steps.specs.Working.{Work, machine_at}
use Rattle.hera_machine.proofs.Quietly.{stays, fewer}
use Rattle.hera_machine.proofs.loads.go_on_with.Goals as goal

pub returns-then-compute_with-clause-goes : goal.returns-then-compute_with-clause-goes
returns-then-compute_with-clause-goes c = λ rels hosts s h. fewer c.args.code.now rels hosts s 1 _ _ (c.compute_with.ensures.goes rels hosts s c.if-compute_with.true)

pub returns-else-compute_with-clause-goes : goal.returns-else-compute_with-clause-goes
returns-else-compute_with-clause-goes c = λ rels hosts s h.
    stays c.args.code.now rels hosts s (ahead c.args.k (flat_value c.args.v) (machine_at s c.args.work.now)) (machine_at s c.put_up.new.work)
    (sym (c.put_up.ensures.done s h ∙ ap (λ (w : Work). ahead c.args.k (flat_value c.args.v) (machine_at s w)) (c.compute_with.ensures.kept c.if-compute_with.false)))
