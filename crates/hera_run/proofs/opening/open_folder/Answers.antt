use Rattle.std.proofs.Common.{◌∙◌, ap, Err, sym}
use Rattle.hera_run.specs.Folder.{finds_none, finds_damage}
use Rattle.hera_run.proofs.Readied.{opened_pending, given_up_device, given_up_memory}
use Rattle.hera_run.proofs.opening.open_folder.Goals as goal

pub returns-in-Ok-clause-opened : goal.returns-in-Ok-clause-opened
returns-in-Ok-clause-opened g c =
    let opening = c.open_store.ensures in
    record {
      there = c.in-Ok.ensures.held;
      opens = record { stands = c.in-Ok.ensures.stands; unclosed = c.in-Ok.ensures.open; state = c.in-Ok.ensures.state };
      pending = opened_pending g.W.Output g.W.Outside c.args.outside.now c.open_store.new.outside opening.reads opening.within opening.emitted opening.output (c.in-Ok.ensures.device_still (λ h. cc (h))) opening.any_moment;
      synced = λ t. opening.moments t (λ h. cc (sym c.in-Ok.is ∙ h));
    }

pub returns-in-Err-NoDatabase-clause-unopened : goal.returns-in-Err-NoDatabase-clause-unopened
returns-in-Err-NoDatabase-clause-unopened g c =
    let opening = c.open_store.ensures in
    let is = ap Err c.in-Err-NoDatabase.field-0-is in (
      finds_none (λ told. c.in-Err-NoDatabase.ensures.absent told is),
      opened_pending g.W.Output g.W.Outside c.args.outside.now c.open_store.new.outside opening.reads opening.within opening.emitted opening.output (c.in-Err-NoDatabase.ensures.device_still (λ h. cc (sym is ∙ h))) opening.any_moment,
    )

pub returns-in-Err-Damaged-clause-unopened : goal.returns-in-Err-Damaged-clause-unopened
returns-in-Err-Damaged-clause-unopened g c =
    let opening = c.open_store.ensures in
    let is = ap Err c.in-Err-Damaged.field-0-is in (
      finds_damage (λ told. c.in-Err-Damaged.ensures.damaged told c.in-Err-Damaged.file c.in-Err-Damaged.at is),
      opened_pending g.W.Output g.W.Outside c.args.outside.now c.open_store.new.outside opening.reads opening.within opening.emitted opening.output (c.in-Err-Damaged.ensures.device_still (λ h. cc (sym is ∙ h))) opening.any_moment,
    )

pub returns-in-Err-Device-clause-unopened : goal.returns-in-Err-Device-clause-unopened
returns-in-Err-Device-clause-unopened g c =
    let opening = c.open_store.ensures in
    let is = ap Err c.in-Err-Device.field-0-is in
    given_up_device g.W.Output g.W.Outside c.args.outside.now c.open_store.new.outside opening.reads opening.within opening.emitted opening.output (record { later = opening.device_later; rose = c.in-Err-Device.ensures.device is }) opening.any_moment (λ t. c.in-Err-Device.ensures.failing t is)

pub returns-in-Err-Memory-clause-unopened : goal.returns-in-Err-Memory-clause-unopened
returns-in-Err-Memory-clause-unopened g c =
    let opening = c.open_store.ensures in
    let is = ap Err c.in-Err-Memory.field-0-is in
    given_up_memory g.W.Output g.W.Outside c.args.outside.now c.open_store.new.outside opening.reads opening.within opening.emitted opening.output (c.in-Err-Memory.ensures.device_still (λ h. cc (sym is ∙ h))) opening.any_moment (λ t. c.in-Err-Memory.ensures.moments t (λ h. cc (sym is ∙ h)))
