use Rattle.std.proofs.Common.{IfOk, OnErr, refl, sym, subst}
use Rattle.hera_codegen.specs.Correct.{events_in, AreStoresOf}
use Rattle.hera_code.specs.Forward.{Forward}
use Rattle.hera_host.specs.Tables.{specs_of}
use Rattle.hera_volume.specs.Time.{LeavesOnly}
use Rattle.hera_volume.proofs.Moments.{leaves-none}
use Rattle.hera_outcome.specs.Passages.{passage}
use Rattle.hera_outcome.proofs.Passing.{memory_faults, memory_spoken, keeps_none}
use Rattle.hera_run.specs.Running.{Job, job, at_step, turns_of, IsOver, IsPartDone, IsDoneUpToFull, IsCodeCut}
use Rattle.hera_run.proofs.Results.{on_err, memory_not_full}
use Rattle.hera_run.proofs.Steps.{job_is, part_none}
use Rattle.hera_run.proofs.Stopped.{part_of, full_of, spoken_of, turns_are, fresh}
use Rattle.hera_run.proofs.run.run_code.Goals as goal

pub carry_all-requires-clause-start : goal.carry_all-requires-clause-start
carry_all-requires-clause-start g c =
    let made = c.in_ok-machine.ensures in
    fresh c.in_ok-machine.machine c.args.code.now c.args.turns made.start made.code made.works made.nothing_waits

pub carry_all-requires-clause-forward : goal.carry_all-requires-clause-forward
carry_all-requires-clause-forward g c =
    subst Forward (sym c.in_ok-machine.ensures.code) c.requires.forward

pub carry_all-requires-clause-counted : goal.carry_all-requires-clause-counted
carry_all-requires-clause-counted g c =
    c.in_ok-counts.ensures _

pub carry_all-requires-clause-proper : goal.carry_all-requires-clause-proper
carry_all-requires-clause-proper g c =
    let m = c.in_ok-machine.machine in
    let made = c.in_ok-machine.ensures in
    let hosts = specs_of c.args.hosts.now.names in
    let same = job_is g.K.Keeper c.args.keeper.now m.code c.args.code.now m.relations c.args.relations.now hosts (turns_of m) c.args.turns made.code made.relations (turns_are m c.args.code.now c.args.turns made.start) in
    λ k. subst (λ (j : Job). AreStoresOf (g.K.Keeper.database c.args.keeper.now).catalogue (events_in (at_step j k))) (sym same) (c.requires.proper k)

pub returns-clause-over : goal.returns-clause-over
returns-clause-over g c =
    let m = c.in_ok-machine.machine in
    let made = c.in_ok-machine.ensures in
    let hosts = specs_of c.args.hosts.now.names in
    let same = job_is g.K.Keeper c.args.keeper.now m.code c.args.code.now m.relations c.args.relations.now hosts (turns_of m) c.args.turns made.code made.relations (turns_are m c.args.code.now c.args.turns made.start) in
    let work = job g.K.Keeper c.args.keeper.now m.code m.relations hosts (turns_of m) in
    let before = g.W.Output.emitted c.args.outside.now in
    let now = g.W.Output.emitted c.carry_all.new.outside in
    let left = g.K.Keeper.database c.carry_all.new.keeper in
    let stands : Type 0 = g.W.Outside.told → g.K.Keeper.stands (g.W.Outside.disk c.carry_all.new.outside) c.carry_all.new.keeper in
    let stopped = c.carry_all.ensures.stopped in
    subst (λ (j : Job). IfOk c.carry_all.result (IsOver j before now left)) same c.carry_all.ensures.over

pub returns-clause-full : goal.returns-clause-full
returns-clause-full g c =
    let m = c.in_ok-machine.machine in
    let made = c.in_ok-machine.ensures in
    let hosts = specs_of c.args.hosts.now.names in
    let same = job_is g.K.Keeper c.args.keeper.now m.code c.args.code.now m.relations c.args.relations.now hosts (turns_of m) c.args.turns made.code made.relations (turns_are m c.args.code.now c.args.turns made.start) in
    let work = job g.K.Keeper c.args.keeper.now m.code m.relations hosts (turns_of m) in
    let before = g.W.Output.emitted c.args.outside.now in
    let now = g.W.Output.emitted c.carry_all.new.outside in
    let left = g.K.Keeper.database c.carry_all.new.keeper in
    let stands : Type 0 = g.W.Outside.told → g.K.Keeper.stands (g.W.Outside.disk c.carry_all.new.outside) c.carry_all.new.keeper in
    let stopped = c.carry_all.ensures.stopped in
    λ is. subst (λ (j : Job). IsDoneUpToFull j before now left) same (full_of work g.K.Keeper.apart before now left stands c.carry_all.result stopped is).0

pub returns-clause-cut : goal.returns-clause-cut
returns-clause-cut g c =
    let m = c.in_ok-machine.machine in
    let made = c.in_ok-machine.ensures in
    let hosts = specs_of c.args.hosts.now.names in
    let same = job_is g.K.Keeper c.args.keeper.now m.code c.args.code.now m.relations c.args.relations.now hosts (turns_of m) c.args.turns made.code made.relations (turns_are m c.args.code.now c.args.turns made.start) in
    let work = job g.K.Keeper c.args.keeper.now m.code m.relations hosts (turns_of m) in
    let before = g.W.Output.emitted c.args.outside.now in
    let now = g.W.Output.emitted c.carry_all.new.outside in
    let left = g.K.Keeper.database c.carry_all.new.keeper in
    let stands : Type 0 = g.W.Outside.told → g.K.Keeper.stands (g.W.Outside.disk c.carry_all.new.outside) c.carry_all.new.keeper in
    let stopped = c.carry_all.ensures.stopped in
    subst (λ (j : Job). OnErr c.carry_all.result (IsPartDone j before now)) same (part_of work g.K.Keeper.apart before now left stands c.carry_all.result stopped)

pub returns-clause-full_stands : goal.returns-clause-full_stands
returns-clause-full_stands g c =
    let m = c.in_ok-machine.machine in
    let made = c.in_ok-machine.ensures in
    let hosts = specs_of c.args.hosts.now.names in
    let same = job_is g.K.Keeper c.args.keeper.now m.code c.args.code.now m.relations c.args.relations.now hosts (turns_of m) c.args.turns made.code made.relations (turns_are m c.args.code.now c.args.turns made.start) in
    let work = job g.K.Keeper c.args.keeper.now m.code m.relations hosts (turns_of m) in
    let before = g.W.Output.emitted c.args.outside.now in
    let now = g.W.Output.emitted c.carry_all.new.outside in
    let left = g.K.Keeper.database c.carry_all.new.keeper in
    let stands : Type 0 = g.W.Outside.told → g.K.Keeper.stands (g.W.Outside.disk c.carry_all.new.outside) c.carry_all.new.keeper in
    let stopped = c.carry_all.ensures.stopped in
    λ told is. (full_of work g.K.Keeper.apart before now left stands c.carry_all.result stopped is).1 told

pub returns-clause-any_moment : goal.returns-clause-any_moment
returns-clause-any_moment g c =
    let m = c.in_ok-machine.machine in
    let made = c.in_ok-machine.ensures in
    let hosts = specs_of c.args.hosts.now.names in
    let same = job_is g.K.Keeper c.args.keeper.now m.code c.args.code.now m.relations c.args.relations.now hosts (turns_of m) c.args.turns made.code made.relations (turns_are m c.args.code.now c.args.turns made.start) in
    λ told. subst (λ (j : Job). LeavesOnly g.W.Outside.moment g.W.Outside.left_since c.args.outside.now c.carry_all.new.outside (IsCodeCut (g.K.Keeper.finds c.args.keeper.now (g.W.Outside.disk c.args.outside.now)) j (g.W.Output.emitted c.args.outside.now))) same (c.carry_all.ensures.any_moment told)

pub returns-clause-spoken : goal.returns-clause-spoken
returns-clause-spoken g c =
    let m = c.in_ok-machine.machine in
    let made = c.in_ok-machine.ensures in
    let hosts = specs_of c.args.hosts.now.names in
    let same = job_is g.K.Keeper c.args.keeper.now m.code c.args.code.now m.relations c.args.relations.now hosts (turns_of m) c.args.turns made.code made.relations (turns_are m c.args.code.now c.args.turns made.start) in
    let work = job g.K.Keeper c.args.keeper.now m.code m.relations hosts (turns_of m) in
    let before = g.W.Output.emitted c.args.outside.now in
    let now = g.W.Output.emitted c.carry_all.new.outside in
    let left = g.K.Keeper.database c.carry_all.new.keeper in
    let stands : Type 0 = g.W.Outside.told → g.K.Keeper.stands (g.W.Outside.disk c.carry_all.new.outside) c.carry_all.new.keeper in
    let stopped = c.carry_all.ensures.stopped in
    λ apart. spoken_of work g.K.Keeper.apart before now left stands c.carry_all.result stopped apart

pub returns-in_err-counts-clause-faults : goal.returns-in_err-counts-clause-faults
returns-in_err-counts-clause-faults g c =
    memory_faults c.from_residual.result (passage g.W.Output g.W.Outside c.args.outside.now c.args.outside.now) c.from_residual.ensures.1 refl refl

pub returns-in_err-counts-clause-cut : goal.returns-in_err-counts-clause-cut
returns-in_err-counts-clause-cut g c =
    let j = job g.K.Keeper c.args.keeper.now c.args.code.now c.args.relations.now (specs_of c.args.hosts.now.names) c.args.turns in
    on_err c.from_residual.result (part_none j (g.W.Output.emitted c.args.outside.now))

pub returns-in_err-counts-clause-keeps : goal.returns-in_err-counts-clause-keeps
returns-in_err-counts-clause-keeps g c =
    λ apart. keeps_none g.W.Output g.W.Outside c.args.outside.now

pub returns-in_err-counts-clause-full : goal.returns-in_err-counts-clause-full
returns-in_err-counts-clause-full g c =
    λ is. absurd (memory_not_full c.from_residual.result c.from_residual.ensures.1 is)

pub returns-in_err-counts-clause-full_stands : goal.returns-in_err-counts-clause-full_stands
returns-in_err-counts-clause-full_stands g c =
    λ told is. absurd (memory_not_full c.from_residual.result c.from_residual.ensures.1 is)

pub returns-in_err-counts-clause-spoken : goal.returns-in_err-counts-clause-spoken
returns-in_err-counts-clause-spoken g c =
    λ apart. memory_spoken c.from_residual.result c.from_residual.ensures.1

pub returns-in_err-counts-clause-any_moment : goal.returns-in_err-counts-clause-any_moment
returns-in_err-counts-clause-any_moment g c =
    λ told. leaves-none _ _ _ _

pub returns-in_err-machine-clause-faults : goal.returns-in_err-machine-clause-faults
returns-in_err-machine-clause-faults g c =
    memory_faults c.from_residual-in_err-machine.result (passage g.W.Output g.W.Outside c.args.outside.now c.args.outside.now) c.from_residual-in_err-machine.ensures.1 refl refl

pub returns-in_err-machine-clause-cut : goal.returns-in_err-machine-clause-cut
returns-in_err-machine-clause-cut g c =
    let j = job g.K.Keeper c.args.keeper.now c.args.code.now c.args.relations.now (specs_of c.args.hosts.now.names) c.args.turns in
    on_err c.from_residual-in_err-machine.result (part_none j (g.W.Output.emitted c.args.outside.now))

pub returns-in_err-machine-clause-keeps : goal.returns-in_err-machine-clause-keeps
returns-in_err-machine-clause-keeps g c =
    λ apart. keeps_none g.W.Output g.W.Outside c.args.outside.now

pub returns-in_err-machine-clause-full : goal.returns-in_err-machine-clause-full
returns-in_err-machine-clause-full g c =
    λ is. absurd (memory_not_full c.from_residual-in_err-machine.result c.from_residual-in_err-machine.ensures.1 is)

pub returns-in_err-machine-clause-full_stands : goal.returns-in_err-machine-clause-full_stands
returns-in_err-machine-clause-full_stands g c =
    λ told is. absurd (memory_not_full c.from_residual-in_err-machine.result c.from_residual-in_err-machine.ensures.1 is)

pub returns-in_err-machine-clause-spoken : goal.returns-in_err-machine-clause-spoken
returns-in_err-machine-clause-spoken g c =
    λ apart. memory_spoken c.from_residual-in_err-machine.result c.from_residual-in_err-machine.ensures.1

pub returns-in_err-machine-clause-any_moment : goal.returns-in_err-machine-clause-any_moment
returns-in_err-machine-clause-any_moment g c =
    λ told. leaves-none _ _ _ _
