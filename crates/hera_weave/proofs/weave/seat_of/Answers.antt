use Rattle.hera_weave.proofs.Looming.{fresh_by}
use Rattle.hera_weave.proofs.weave.seat_of.Goals as goal

pub returns : goal.returns
returns c =
    fresh_by c.args.session.now c.new.result c.deref.result.now c.requires c.deref.ensures.value c.new.ensures.code c.new.ensures.machine_code c.new.ensures.relations c.new.ensures.start c.new.ensures.works c.new.ensures.nothing_waits c.new.ensures.begun
    c.new.ensures.own c.new.ensures.levels c.new.ensures.text
