use Rattle.hera_volume.proofs.Moments.{leaves-weaker}
use Rattle.hera_outcome.specs.Passages.{passage}
use Rattle.hera_outcome.proofs.Passing.{whole_said, part_said, faults_said}
use Rattle.hera_run.proofs.Images.{cut-said}
use Rattle.hera_run.proofs.carry.speak.Goals as goal

pub returns-clause-whole : goal.returns-clause-whole
returns-clause-whole g c = whole_said c.args.line.now c.say.result (passage g.W.Output g.W.Outside c.args.outside.now c.say.new.outside) c.say.ensures.said

pub returns-clause-part : goal.returns-clause-part
returns-clause-part g c = part_said c.args.line.now c.say.result (passage g.W.Output g.W.Outside c.args.outside.now c.say.new.outside) c.say.ensures.said

pub returns-clause-any_moment : goal.returns-clause-any_moment
returns-clause-any_moment g c = λ told.
    let k = c.args.keeper.now in
    let disks = g.W.Outside.disk c.args.outside.now in
    leaves-weaker _ _ (c.say.ensures.said.moments told)
    (λ image amid. cut-said (g.K.Keeper.finds k disks) disks (g.K.Keeper.database k).state (λ files left. g.met.K.Keeper.finds_own k disks files (c.requires told) left) (g.W.Output.emitted c.args.outside.now) image c.args.line.now amid)

pub returns-clause-keeps : goal.returns-clause-keeps
returns-clause-keeps g c = c.say.ensures.said.keeps

pub returns-clause-faults : goal.returns-clause-faults
returns-clause-faults g c = faults_said c.args.line.now c.say.result (passage g.W.Output g.W.Outside c.args.outside.now c.say.new.outside) c.say.ensures.said

pub returns-clause-fault : goal.returns-clause-fault
returns-clause-fault g c = c.say.ensures.said.fault
