use Rattle.hera_host.specs.Tables.{specs_of}
use Rattle.hera_machine.specs.Over.{state_over}
use Rattle.hera_steps.specs.Telling.{step_at}
use Rattle.hera_steps.specs.declared.events.Told.TheVariants as tells
use Rattle.hera_machine.proofs.Advancing.{stepped}
use Rattle.hera_machine.proofs.machine.Machine.step.Goals as goal

pub returns-in-Ok-Quiet-clause-steps : goal.returns-in-Ok-Quiet-clause-steps
returns-in-Ok-Quiet-clause-steps g c = λ works.
    let hosts = specs_of c.args.hosts.now.names in
    let s = state_over c.args.base.now.state c.args.commits.now in
    let told = rw c.in-Ok-Quiet.field-0-is at c.in-Ok-Quiet.ensures.steps in
    stepped hosts c.new.result.state s _ c.args.self.now (λ z. step_at z tells.Quiet c.one.new.self) c.self.view_is c.new.ensures.state told

pub returns-in-Ok-Out-clause-steps : goal.returns-in-Ok-Out-clause-steps
returns-in-Ok-Out-clause-steps g c = λ works.
    let hosts = specs_of c.args.hosts.now.names in
    let s = state_over c.args.base.now.state c.args.commits.now in
    let told = rw c.in-Ok-Out.field-0-is at c.in-Ok-Out.ensures.steps in
    stepped hosts c.new.result.state s _ c.args.self.now (λ z. step_at z (tells.Out c.in-Ok-Out.line) c.one.new.self) c.self.view_is c.new.ensures.state told

pub returns-in-Ok-Commit-clause-steps : goal.returns-in-Ok-Commit-clause-steps
returns-in-Ok-Commit-clause-steps g c = λ works.
    let hosts = specs_of c.args.hosts.now.names in
    let s = state_over c.args.base.now.state c.args.commits.now in
    let told = rw c.in-Ok-Commit.field-0-is at c.in-Ok-Commit.ensures.steps in
    stepped hosts c.new.result.state s _ c.args.self.now (λ z. step_at z (tells.Commit c.in-Ok-Commit.delta) c.one.new.self) c.self.view_is c.new.ensures.state told

pub returns-in-Ok-Ended-clause-steps : goal.returns-in-Ok-Ended-clause-steps
returns-in-Ok-Ended-clause-steps g c = λ works.
    let hosts = specs_of c.args.hosts.now.names in
    let s = state_over c.args.base.now.state c.args.commits.now in
    let told = rw c.in-Ok-Ended.field-0-is at c.in-Ok-Ended.ensures.steps in
    stepped hosts c.new.result.state s _ c.args.self.now (λ z. step_at z (tells.Ended c.in-Ok-Ended.end) c.one.new.self) c.self.view_is c.new.ensures.state told
