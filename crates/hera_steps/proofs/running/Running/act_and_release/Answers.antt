use Rattle.std.proofs.Common.{◌∙◌}
use Rattle.hera_steps.proofs.Instructing.{told_same}
use Rattle.hera_steps.proofs.running.Running.act_and_release.Goals as goal

pub returns-clause-act : goal.returns-clause-act
returns-clause-act g c =
    told_same c.args.stored.now.state c.in_ok-told.told c.release.new.self c.act.new.self c.release.ensures.step ∙ c.in_ok-told.ensures.act
