use Rattle.std.proofs.Common.{◌≤◌, [], List, length, ap, sym, subst}
use Rattle.when_overlay.specs.declared.layers.Layer.{Layer}
use Rattle.hera_meaning.specs.Deltas.{apply_of}
use Rattle.hera_code.specs.Forward.{Forward}
use Rattle.hera_reads.specs.Branched.{pending_of}
use Rattle.hera_reads.specs.Counted.{AreCounts}
use Rattle.hera_steps.specs.Descends.{left}
use Rattle.hera_machine.specs.Standing.{Standing}
use Rattle.hera_steps.specs.Working.{machine_at}
use Rattle.hera_machine.proofs.Quietly.{quietly_of}
use Rattle.hera_machine.proofs.machine.Machine.count.Goals as goal

pub count-requires : goal.count-requires
count-requires c =
    subst (λ (ls : List Layer). AreCounts (apply_of c.args.stored.now.state (pending_of ls)) c.args.counts.now) (sym (ap (λ (x : Standing). x.work.layers) c.self.view_is)) c.requires

pub returns-in-Working-clause-quietly : goal.returns-in-Working-clause-quietly
returns-in-Working-clause-quietly c = λ works hosts.
    quietly_of hosts c.args.stored.now.state _ c.args.self.now _ c.self.view_is (c.count.ensures.quietly c.self.inside.work.relations hosts)

pub returns-in-Working-clause-less : goal.returns-in-Working-clause-less
returns-in-Working-clause-less c = λ forward.
    let less = c.count.ensures.less (subst (λ (x : Standing). Forward x.code) (sym c.self.view_is) forward) in
    subst (λ (x : Standing). left (length x.code.instrs) (machine_at [] c.count.new.work) ≤ left (length x.code.instrs) x.state) c.self.view_is less

pub returns-in-Working-clause-counted : goal.returns-in-Working-clause-counted
returns-in-Working-clause-counted c =
    subst (λ (ls : List Layer). AreCounts (apply_of c.args.stored.now.state (pending_of ls)) c.count.new.counts) (sym c.count.ensures.layers) c.count.ensures.counted
