use Rattle.std.proofs.Common.{◌∙◌, ap, Err, inr, sym}
use Rattle.hera_top.proofs.Making.{taken_answered, memory_answered, failed, made_answered}
use Rattle.hera_top.proofs.commands.make_from.Goals as goal

pub returns-in-Ok : goal.returns-in-Ok
returns-in-Ok g c =
    record {
      answered = made_answered g.W.Output g.W.Outside c.args.outside.now c.init_store.new.outside c.args.catalogue.now c.init_store.ensures.emitted c.init_store.ensures.output
          (c.in-Ok.ensures.device_still (λ h. cc (h))) c.in-Ok.ensures.settled c.in-Ok.ensures.holds c.in-Ok.ensures.vacant (λ told vacant. c.init_store.ensures.any_moment told vacant (λ h. cc (sym c.in-Ok.is ∙ h)))
          c.tell.new.outside c.tell.result c.tell.ensures.said c.tell.ensures.done;
    }

pub returns-in-Err-Exists : goal.returns-in-Err-Exists
returns-in-Err-Exists g c =
    let is = ap Err c.in-Err-Exists.field-0-is in
    record {
      answered = taken_answered g.W.Output g.W.Outside c.args.outside.now c.init_store.new.outside c.args.catalogue.now c.init_store.ensures.emitted c.init_store.ensures.output
          (c.in-Err-Exists.ensures.device_still (λ h. cc (sym is ∙ h))) (λ told. c.in-Err-Exists.ensures.exists told is) (λ told. c.init_store.ensures.occupied told (c.in-Err-Exists.ensures.exists told is));
    }

pub returns-in-Err-Device : goal.returns-in-Err-Device
returns-in-Err-Device g c =
    let is = ap Err c.in-Err-Device.field-0-is in
    record {
      answered = failed g.W.Output g.W.Outside c.args.outside.now c.init_store.new.outside c.args.catalogue.now c.init_store.ensures.emitted c.init_store.ensures.output
          (record { later = c.init_store.ensures.device_later; rose = c.in-Err-Device.ensures.device is }) (λ told vacant. c.init_store.ensures.failing told vacant (c.in-Err-Device.is ∙ is)) c.init_store.ensures.reads c.init_store.ensures.occupied (λ told some. c.init_store.ensures.stopped told some (c.in-Err-Device.is ∙ is));
    }

pub returns-in-Err-Memory : goal.returns-in-Err-Memory
returns-in-Err-Memory g c =
    let is = ap Err c.in-Err-Memory.field-0-is in
    record {
      answered = memory_answered g.W.Output g.W.Outside c.args.outside.now c.init_store.new.outside c.args.catalogue.now c.init_store.ensures.emitted c.init_store.ensures.output
          (c.in-Err-Memory.ensures.device_still (λ h. cc (sym is ∙ h))) (λ told. c.in-Err-Memory.ensures.memory told is) (λ told. c.init_store.ensures.named told (inr (c.in-Err-Memory.is ∙ is)));
    }
