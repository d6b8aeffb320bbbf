use Rattle.hera_woven.proofs.Carrying.{carries_said}
use Rattle.hera_woven.proofs.keeping.speak.Goals as goal

pub returns : goal.returns
returns g c = carries_said g.W.Output g.W.Outside c.args.store.now c.args.line.now c.args.outside.now c.say.new.outside c.requires.open c.requires.stands c.say.result c.say.ensures.said
