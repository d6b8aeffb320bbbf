use Rattle.std.proofs.Common.{List, ◌∙◌, ap, pos}
use Rattle.hera_meaning.specs.Values.{Value, int_value}
use Rattle.hera_meaning.specs.Worlds.{set_local}
use Rattle.hera_steps.specs.Working.{Work}
use Rattle.hera_steps.proofs.Sights.{the_view}
use Rattle.hera_machine.proofs.Joined.{joined_told}
use Rattle.hera_machine.proofs.joins.join_into.Goals as goal

pub returns-clause-done : goal.returns-clause-done
returns-clause-done c =
    let zero = int_value (pos 0) in
    joined_told c.args.stored.now.state c.args.op.now c.args.at c.args.i zero c.args.work.now _ c.compute.new.self c.store.new.self c.in_ok-compute.field-0 c.in_ok-store.field-0
    (ap (λ (l : List Value). record (the_view c.work.inside) { locals = l }) c.put.ensures.put ∙ ap (λ (w : Work). record w { locals = set_local w.locals c.args.i zero }) c.work.view_is)
    c.in_ok-compute.ensures.step c.in_ok-store.ensures.step c.requires.op c.requires.deltas c.requires.slot
