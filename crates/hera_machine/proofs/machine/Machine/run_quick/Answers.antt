use Rattle.std.proofs.Common.{◌≤◌, [], length, sym, subst}
use Rattle.hera_code.specs.Forward.{Forward}
use Rattle.hera_steps.specs.Descends.{left}
use Rattle.hera_steps.specs.Working.{machine_at}
use Rattle.hera_machine.specs.Standing.{Standing}
use Rattle.hera_machine.proofs.Quietly.{quietly_of, goes_on, less_over}
use Rattle.hera_machine.proofs.machine.Machine.run_quick.Goals as goal

pub returns-in-Ok-clause-quietly : goal.returns-in-Ok-clause-quietly
returns-in-Ok-clause-quietly c = λ works hosts.
    let rels = c.self.inside.work.relations in
    let goes = goes_on _ rels hosts c.args.stored.now.state 0 0 _ _ _ (c.run_quick.ensures.goes rels hosts) (c.in-Ok.ensures.goes rels hosts) in
    quietly_of hosts c.args.stored.now.state _ c.args.self.now _ c.self.view_is (goes.0)

pub returns-in-Ok-clause-less : goal.returns-in-Ok-clause-less
returns-in-Ok-clause-less c = λ forward.
    let s = c.args.stored.now.state in
    let goes = goes_on _ [] [] s 0 0 _ _ _ (c.run_quick.ensures.goes [] []) (c.in-Ok.ensures.goes [] []) in
    let less = less_over _ [] [] s c.self.inside.work c.join.new.work goes (subst (λ (x : Standing). Forward x.code) (sym c.self.view_is) forward) in
    subst (λ (x : Standing). left (length x.code.instrs) (machine_at [] c.join.new.work) ≤ left (length x.code.instrs) x.state) c.self.view_is less
