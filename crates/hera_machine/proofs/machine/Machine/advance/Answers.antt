use Rattle.std.proofs.Common.{◌≡◌, ◌≤◌, ◌∙◌, List, length, sym, subst, arith}
use Rattle.std.proofs.lemmas.Result.{IfOk-weaker}
use Rattle.when_overlay.specs.declared.layers.Layer.{Layer}
use Rattle.hera_host.specs.Tables.{specs_of}
use Rattle.hera_code.specs.Forward.{Forward}
use Rattle.hera_code.specs.Machine.{Machine, Step, code_step}
use Rattle.hera_code.specs.declared.instrs.Code.{Code}
use Rattle.hera_steps.specs.Descends.{left}
use Rattle.hera_meaning.specs.Deltas.{State, apply_of}
use Rattle.hera_reads.specs.Branched.{pending_of}
use Rattle.hera_reads.specs.Counted.{AreCounts}
use Rattle.hera_machine.specs.Counted.{AreCountsOver, AreCountsBehind}
use Rattle.hera_machine.specs.Over.{state_over}
use Rattle.hera_machine.specs.Standing.{GoesQuietly, machine_over, event_over}
use Rattle.hera_machine.proofs.Quietly.{quietly_then}
use Rattle.hera_machine.proofs.Advancing.{advanced, advanced_less}
use Rattle.hera_machine.proofs.machine.Machine.advance.Goals as goal

pub count-requires : goal.count-requires
count-requires g c =
    subst (λ (x : State). AreCountsOver x c.run_quick.new.self c.args.counts.now) (sym c.new-stored.ensures.state)
    (subst (λ (ls : List Layer). AreCounts (apply_of (state_over c.args.base.now.state c.args.commits.now) (pending_of ls)) c.args.counts.now) (sym c.run_quick.ensures.layers) c.requires.counted)

pub foresee-requires : goal.foresee-requires
foresee-requires g c =
    let s = c.new-stored.result.state in
    subst (λ (m : Machine). AreCounts (apply_of s m.pending) c.count.new.counts) (sym (c.reserve.ensures.over s)) c.count.ensures.counted

pub returns-clause-tells : goal.returns-clause-tells
returns-clause-tells g c = λ works.
    let s = state_over c.args.base.now.state c.args.commits.now in
    let hosts = specs_of c.args.hosts.now.names in
    let quietly = quietly_then hosts c.new-stored.result.state c.args.self.now c.run_quick.new.self c.count.new.self c.run_quick.ensures.code c.run_quick.ensures.relations (c.in_ok-run_quick.ensures.quietly works hosts) (c.count.ensures.quietly (c.in_ok-run_quick.ensures.status ∙ works) hosts) in
    advanced c.step.result c.args.self.now c.count.new.self c.reserve.new.self c.step.new.self (c.count.ensures.code ∙ c.run_quick.ensures.code) c.reserve.ensures.code hosts s
    (subst (λ (z : State). GoesQuietly c.args.self.now.code c.args.self.now.relations hosts z (machine_over z c.args.self.now) (machine_over z c.count.new.self)) c.new-stored.ensures.state quietly)
    c.reserve.ensures.over (c.count.ensures.relations ∙ c.run_quick.ensures.relations) c.reserve.ensures.relations (c.step.ensures.steps (c.reserve.ensures.status ∙ c.count.ensures.status ∙ c.in_ok-run_quick.ensures.status ∙ works))

pub returns-clause-less : goal.returns-clause-less
returns-clause-less g c = λ forward.
    let code = c.count.ensures.code ∙ c.run_quick.ensures.code in
    let first = c.in_ok-run_quick.ensures.less forward in
    let second = subst (λ (k : Code). left (length k.instrs) c.count.new.self.state ≤ left (length k.instrs) c.run_quick.new.self.state) c.run_quick.ensures.code
    (c.count.ensures.less (subst (λ (k : Code). Forward k) (sym c.run_quick.ensures.code) forward)) in
    advanced_less c.step.result c.args.self.now c.count.new.self c.reserve.new.self c.step.new.self code c.reserve.ensures.code (omega (arith, first, second)) c.reserve.ensures.state
    (c.step.ensures.nearer (subst (λ (k : Code). Forward k) (sym (c.reserve.ensures.code ∙ code)) forward))

pub returns-clause-counted : goal.returns-clause-counted
returns-clause-counted g c = λ works.
    let s = state_over c.args.base.now.state c.args.commits.now in
    let ns = c.foresee.new.counts in
    let mid = c.reserve.new.self in
    let hosts = specs_of c.args.hosts.now.names in
    let behind = subst (λ (x : State). AreCountsBehind x ns (code_step mid.code mid.relations hosts x (machine_over x mid))) c.new-stored.ensures.state (c.foresee.ensures hosts) in
    IfOk-weaker c.step.result
    (λ e. event_over s e c.step.new.self ≡ code_step mid.code mid.relations hosts s (machine_over s mid))
    (λ e. AreCountsBehind s ns (event_over s e c.step.new.self))
    (λ e told. subst (λ (t : Step). AreCountsBehind s ns t) (sym told) behind) (c.step.ensures.steps (c.reserve.ensures.status ∙ c.count.ensures.status ∙ c.in_ok-run_quick.ensures.status ∙ works))
