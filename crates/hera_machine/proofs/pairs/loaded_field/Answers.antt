use Rattle.std.proofs.Common.{◌∙◌, ap, sym, slice_get}
use Rattle.hera_steps.specs.Working.{Work, machine_at}
use Rattle.hera_machine.proofs.Quietly.{goes_on, found_on}
use Rattle.hera_machine.proofs.pairs.loaded_field.Goals as goal

pub returns-in-Some-clause-goes : goal.returns-in-Some-clause-goes
returns-in-Some-clause-goes c = λ rels hosts s h.
    goes_on c.args.code.now rels hosts s 1 0 (machine_at s c.args.work.now) _ (machine_at s c.go_on_with.new.work)
    (found_on c.args.code.now rels hosts s (machine_at s c.args.work.now) c.args.i _ c.requires.here (sym (ap (λ (w : Work). slice_get w.locals c.args.i) c.work.view_is) ∙ c.in-Some.ensures.there) _ c.args.at _ c.requires.next c.in-Some.ensures.given) (c.go_on_with.ensures.goes rels hosts s h)
