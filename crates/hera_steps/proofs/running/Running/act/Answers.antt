use Rattle.std.proofs.Common.{◌∙◌}
use Rattle.std.specs.Prelude.{Ok}
use Rattle.hera_host.specs.Tables.{specs_of}
use Rattle.hera_steps.specs.Working.{machine_at}
use Rattle.hera_steps.proofs.Instructing.{told_by}
use Rattle.hera_steps.proofs.running.Running.act.Goals as goal

pub returns-in-Store-clause-act : goal.returns-in-Store-clause-act
returns-in-Store-clause-act g c =
    let s = c.args.stored.now.state in
    told_by c.store.result s c.args.code.now c.args.self.now.relations (specs_of c.args.hosts.now.names) (machine_at s c.args.self.now) c.store.new.self c.args.instr.now _ c.in-Store.is c.store.ensures.step

pub returns-in-Prim-clause-act : goal.returns-in-Prim-clause-act
returns-in-Prim-clause-act g c =
    let s = c.args.stored.now.state in
    told_by c.prim.result s c.args.code.now c.args.self.now.relations (specs_of c.args.hosts.now.names) (machine_at s c.args.self.now) c.prim.new.self c.args.instr.now _ c.in-Prim.is c.prim.ensures.step

pub returns-in-Host-clause-act : goal.returns-in-Host-clause-act
returns-in-Host-clause-act g c =
    let s = c.args.stored.now.state in
    told_by c.host.result s c.args.code.now c.args.self.now.relations (specs_of c.args.hosts.now.names) (machine_at s c.args.self.now) c.host.new.self c.args.instr.now _ c.in-Host.is (c.host.ensures.step s)

pub returns-in-Unless-clause-act : goal.returns-in-Unless-clause-act
returns-in-Unless-clause-act g c =
    let s = c.args.stored.now.state in
    told_by (Ok c.told-in-Unless.result) s c.args.code.now c.args.self.now.relations (specs_of c.args.hosts.now.names) (machine_at s c.args.self.now) c.unless.new.self c.args.instr.now _ c.in-Unless.is (c.told-in-Unless.ensures s c.unless.new.self ∙ c.unless.ensures.step s)

pub returns-in-Back-clause-act : goal.returns-in-Back-clause-act
returns-in-Back-clause-act g c =
    let s = c.args.stored.now.state in
    told_by (Ok c.told-in-Back.result) s c.args.code.now c.args.self.now.relations (specs_of c.args.hosts.now.names) (machine_at s c.args.self.now) c.back.new.self c.args.instr.now _ c.in-Back.is (c.told-in-Back.ensures s c.back.new.self ∙ c.back.ensures.step s)

pub returns-in-Walk-clause-act : goal.returns-in-Walk-clause-act
returns-in-Walk-clause-act g c =
    let s = c.args.stored.now.state in
    told_by c.open_walk.result s c.args.code.now c.args.self.now.relations (specs_of c.args.hosts.now.names) (machine_at s c.args.self.now) c.open_walk.new.self c.args.instr.now _ c.in-Walk.is c.open_walk.ensures.step

pub returns-in-Gather-clause-act : goal.returns-in-Gather-clause-act
returns-in-Gather-clause-act g c =
    let s = c.args.stored.now.state in
    told_by c.gather.result s c.args.code.now c.args.self.now.relations (specs_of c.args.hosts.now.names) (machine_at s c.args.self.now) c.gather.new.self c.args.instr.now _ c.in-Gather.is (c.gather.ensures.step s)

pub returns-in-Yield-clause-act : goal.returns-in-Yield-clause-act
returns-in-Yield-clause-act g c =
    let s = c.args.stored.now.state in
    told_by c.yield_set.result s c.args.code.now c.args.self.now.relations (specs_of c.args.hosts.now.names) (machine_at s c.args.self.now) c.yield_set.new.self c.args.instr.now _ c.in-Yield.is (c.yield_set.ensures.step s)

pub returns-in-Drop-clause-act : goal.returns-in-Drop-clause-act
returns-in-Drop-clause-act g c =
    let s = c.args.stored.now.state in
    told_by c.drop_walk.result s c.args.code.now c.args.self.now.relations (specs_of c.args.hosts.now.names) (machine_at s c.args.self.now) c.drop_walk.new.self c.args.instr.now _ c.in-Drop.is (c.drop_walk.ensures.step s)

pub returns-in-RetVal-clause-act : goal.returns-in-RetVal-clause-act
returns-in-RetVal-clause-act g c =
    let s = c.args.stored.now.state in
    told_by c.ret_val.result s c.args.code.now c.args.self.now.relations (specs_of c.args.hosts.now.names) (machine_at s c.args.self.now) c.ret_val.new.self c.args.instr.now _ c.in-RetVal.is c.ret_val.ensures.step

pub returns-in-Print-clause-act : goal.returns-in-Print-clause-act
returns-in-Print-clause-act g c =
    let s = c.args.stored.now.state in
    told_by c.print.result s c.args.code.now c.args.self.now.relations (specs_of c.args.hosts.now.names) (machine_at s c.args.self.now) c.print.new.self c.args.instr.now _ c.in-Print.is c.print.ensures.step

pub returns-in-Assert-clause-act : goal.returns-in-Assert-clause-act
returns-in-Assert-clause-act g c =
    let s = c.args.stored.now.state in
    told_by c.assert.result s c.args.code.now c.args.self.now.relations (specs_of c.args.hosts.now.names) (machine_at s c.args.self.now) c.assert.new.self c.args.instr.now _ c.in-Assert.is (c.assert.ensures.step s)

pub returns-in-Push-clause-act : goal.returns-in-Push-clause-act
returns-in-Push-clause-act g c =
    let s = c.args.stored.now.state in
    told_by c.push.result s c.args.code.now c.args.self.now.relations (specs_of c.args.hosts.now.names) (machine_at s c.args.self.now) c.push.new.self c.args.instr.now _ c.in-Push.is (c.push.ensures.step s)

pub returns-in-Load-clause-act : goal.returns-in-Load-clause-act
returns-in-Load-clause-act g c =
    let s = c.args.stored.now.state in
    told_by c.load.result s c.args.code.now c.args.self.now.relations (specs_of c.args.hosts.now.names) (machine_at s c.args.self.now) c.load.new.self c.args.instr.now _ c.in-Load.is (c.load.ensures.step s)

pub returns-in-Jump-clause-act : goal.returns-in-Jump-clause-act
returns-in-Jump-clause-act g c =
    let s = c.args.stored.now.state in
    told_by (Ok c.told.result) s c.args.code.now c.args.self.now.relations (specs_of c.args.hosts.now.names) (machine_at s c.args.self.now) c.jump.new.self c.args.instr.now _ c.in-Jump.is (c.told.ensures s c.jump.new.self ∙ c.jump.ensures.step s)

pub returns-in-Enter-clause-act : goal.returns-in-Enter-clause-act
returns-in-Enter-clause-act g c =
    let s = c.args.stored.now.state in
    told_by c.enter.result s c.args.code.now c.args.self.now.relations (specs_of c.args.hosts.now.names) (machine_at s c.args.self.now) c.enter.new.self c.args.instr.now _ c.in-Enter.is (c.enter.ensures.step s)

pub returns-in-Ret-clause-act : goal.returns-in-Ret-clause-act
returns-in-Ret-clause-act g c =
    let s = c.args.stored.now.state in
    told_by (Ok c.told-in-Ret.result) s c.args.code.now c.args.self.now.relations (specs_of c.args.hosts.now.names) (machine_at s c.args.self.now) c.ret.new.self c.args.instr.now _ c.in-Ret.is (c.told-in-Ret.ensures s c.ret.new.self ∙ c.ret.ensures.step s)

pub returns-in-Commit-clause-act : goal.returns-in-Commit-clause-act
returns-in-Commit-clause-act g c =
    let s = c.args.stored.now.state in
    told_by c.commit.result s c.args.code.now c.args.self.now.relations (specs_of c.args.hosts.now.names) (machine_at s c.args.self.now) c.commit.new.self c.args.instr.now _ c.in-Commit.is (c.commit.ensures.step s)
