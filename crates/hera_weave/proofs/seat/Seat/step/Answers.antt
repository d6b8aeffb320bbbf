use Rattle.std.proofs.Common.{refl, subst, sym, ap, ◌∙◌, ◌≡◌, ◌<◌, List, ℕ, length}
use Rattle.std.specs.List.{list_all}
use Rattle.hera_meaning.specs.declared.schemas.RelDecl.{RelDecl}
use Rattle.hera_meaning.specs.Fits.{is_delta_of}
use Rattle.hera_host.specs.Tables.{specs_of}
use Rattle.hera_machine.specs.Over.{state_over}
use Rattle.hera_code.specs.Machine.{Machine}
use Rattle.hera_steps.specs.Descends.{left}
use Rattle.hera_machine.specs.Standing.{Standing, IsLess, WaitsBy}
use Rattle.hera_machine.specs.declared.events.Event.TheVariants.{Out}
use Rattle.hera_weave.specs.Standing.{Commits, Executed, given_of}
use Rattle.hera_weave.proofs.Sitting.{some_waits, on_quiet, on_out, on_commit, on_end}
use Rattle.hera_weave.proofs.seat.Seat.step.Goals as goal

pub commit-requires : goal.commit-requires
commit-requires g c = subst (λ e. WaitsBy c.execute.new.self.machine.waits e) c.in-Commit.is c.in_ok-execute.ensures.waits

pub returns-in-Quiet-clause-steps : goal.returns-in-Quiet-clause-steps
returns-in-Quiet-clause-steps g c = λ t k at.
    let hosts = specs_of c.args.hosts.now.names in
    let base = c.args.base.now.state in
    on_quiet t hosts base (state_over base c.args.prefix.now) k c.args.prefix.now c.args.self.now c.execute.new.self at refl
    (subst (λ e. Executed hosts base c.args.prefix.now c.args.self.now c.execute.new.self e) c.in-Quiet.is (c.in_ok-execute.ensures.moved at.works))

pub returns-in_ok-say-in-Out-clause-steps : goal.returns-in_ok-say-in-Out-clause-steps
returns-in_ok-say-in-Out-clause-steps g c = λ t k at.
    let hosts = specs_of c.args.hosts.now.names in
    let base = c.args.base.now.state in
    let n = c.execute.new.self in
    on_out t hosts base (state_over base c.args.prefix.now) k c.args.prefix.now c.args.self.now n at refl c.bytes.result.now c.say.new.self
    (subst (λ (l : List ℕ). Executed hosts base c.args.prefix.now c.args.self.now n (Out l)) (sym c.bytes.ensures)
    (subst (λ e. Executed hosts base c.args.prefix.now c.args.self.now n e) c.in-Out.is (c.in_ok-execute.ensures.moved at.works)))
    c.in_ok-say-in-Out.ensures.said

pub returns-in_ok-commit-in-Commit-clause-steps : goal.returns-in_ok-commit-in-Commit-clause-steps
returns-in_ok-commit-in-Commit-clause-steps g c = λ t k at.
    let hosts = specs_of c.args.hosts.now.names in
    let base = c.args.base.now.state in
    let n = c.execute.new.self in
    let some = some_waits n.machine.waits (subst (λ e. WaitsBy n.machine.waits e) c.in-Commit.is c.in_ok-execute.ensures.waits) in
    on_commit t hosts base (state_over base c.args.prefix.now) k c.args.prefix.now c.args.self.now n at refl some.0 c.commit.new.self
    (subst (λ e. Executed hosts base c.args.prefix.now c.args.self.now n e) c.in-Commit.is (c.in_ok-execute.ensures.moved at.works))
    some.1 (c.in_ok-commit-in-Commit.ensures.kept some.0 some.1)
    (ap (λ (r : List RelDecl). list_all (is_delta_of r) (given_of c.args.prefix.now c.args.self.now)) c.requires.relations ∙ c.requires.known)

pub returns-in_ok-finish-in-Ended-clause-steps : goal.returns-in_ok-finish-in-Ended-clause-steps
returns-in_ok-finish-in-Ended-clause-steps g c = λ t k at.
    let hosts = specs_of c.args.hosts.now.names in
    let base = c.args.base.now.state in
    let n = c.execute.new.self in
    on_end t hosts base (state_over base c.args.prefix.now) k c.args.prefix.now c.args.self.now n at refl c.in-Ended.end c.finish.new.self
    (subst (λ e. Executed hosts base c.args.prefix.now c.args.self.now n e) c.in-Ended.is (c.in_ok-execute.ensures.moved at.works))
    c.in_ok-finish-in-Ended.ensures.said

pub returns-in_ok-commit-in-Commit-clause-less : goal.returns-in_ok-commit-in-Commit-clause-less
returns-in_ok-commit-in-Commit-clause-less g c = λ forward none.
    let n = c.execute.new.self in
    let l = length c.args.self.now.machine.code.instrs in
    let some = some_waits n.machine.waits (subst (λ e. WaitsBy n.machine.waits e) c.in-Commit.is c.in_ok-execute.ensures.waits) in
    let kept : Commits c.args.prefix.now some.0 n c.commit.new.self = c.in_ok-commit-in-Commit.ensures.kept some.0 some.1 in
    let same : c.commit.new.self.machine.state ≡ n.machine.state = ap (λ (m : Standing). m.state) kept.machine in
    subst (λ (m : Machine). left l m < left l c.args.self.now.machine.state) (sym same)
    (subst (λ e. IsLess l c.args.self.now.machine.state n.machine.state e) c.in-Commit.is (c.in_ok-execute.ensures.less forward))
