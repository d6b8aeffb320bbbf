use Rattle.std.proofs.Common.{◌∙◌}
use Rattle.hera_weave.proofs.Turning.{one_more}
use Rattle.hera_weave.proofs.rota.Rota.new.Goals as goal

pub loop-session-preserved : goal.loop-session-preserved
loop-session-preserved c = c.in_ok-push.ensures.items ∙ one_more c.loop-session.session c.loop-session.opens.items c.loop-session.invariant
