use Rattle.std.proofs.Common.{◌∙◌, sym, refl, subst}
use Rattle.hera_machine.specs.Standing.{GoesOn}
use Rattle.hera_steps.specs.Working.{Work, machine_at}
use Rattle.hera_machine.proofs.Quietly.{stays, goes_on}
use Rattle.hera_machine.proofs.many.run_quick.Goals as goal

pub returns-then-not-try_some-clause-goes : goal.returns-then-not-try_some-clause-goes
returns-then-not-try_some-clause-goes c = λ rels hosts.
    let s = c.args.stored.now.state in
    subst (λ (w : Work). GoesOn 0 c.args.code.now rels hosts s (machine_at s c.args.work.now) (machine_at s w)) (sym (c.if-not-try_some.ensures.kept refl)) (c.loop.invariant.goes rels hosts)

pub loop-preserved : goal.loop-preserved
loop-preserved c = record {
  goes = λ rels hosts. goes_on c.args.code.now rels hosts c.args.stored.now.state 0 1 _ _ _ (c.loop.invariant.goes rels hosts) (c.if-not-try_some.ensures.goes rels hosts refl);
  layers = c.try_some.ensures.layers ∙ c.loop.invariant.layers;
  relations = c.try_some.ensures.relations ∙ c.loop.invariant.relations;
}

pub loop-init : goal.loop-init
loop-init c = record { goes = λ rels hosts. stays c.args.code.now rels hosts c.args.stored.now.state _ _ refl; layers = refl; relations = refl }

pub returns-then-not-try_some-clause-relations : goal.returns-then-not-try_some-clause-relations
returns-then-not-try_some-clause-relations c = c.try_some.ensures.relations ∙ c.loop.invariant.relations

pub returns-clause-relations : goal.returns-clause-relations
returns-clause-relations c = c.loop.invariant.relations

pub returns-then-not-try_some-clause-layers : goal.returns-then-not-try_some-clause-layers
returns-then-not-try_some-clause-layers c = c.try_some.ensures.layers ∙ c.loop.invariant.layers

pub returns-clause-layers : goal.returns-clause-layers
returns-clause-layers c = c.loop.invariant.layers
