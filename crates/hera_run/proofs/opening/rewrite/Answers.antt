use Rattle.std.proofs.Common.{◌∙◌, Err, ap, sym, subst}
use Rattle.rel_format.specs.Journal.{half_limit}
use Rattle.hera_store.specs.Standing.{database_of}
use Rattle.hera_store.specs.Faults.{IsCheckRefusal}
use Rattle.hera_store.specs.declared.faults.CheckFault.{CheckFault}
use Rattle.hera_run.proofs.Readied.{again_rewritten, again_unwritten, written_short, full_unwritten, memory_unwritten}
use Rattle.hera_run.proofs.opening.rewrite.Goals as goal

pub returns-in-Ok-clause-rewritten : goal.returns-in-Ok-clause-rewritten
returns-in-Ok-clause-rewritten g c =
    let done = c.in-Ok.ensures in
    again_rewritten g.W.Output g.W.Outside c.args.outside.now c.checkpoint.new.outside c.args.store c.requires.opens done.fits c.checkpoint.ensures.emitted c.checkpoint.ensures.output (done.device_still (λ h. cc (h))) done.settled done.holds done.selects done.renewed (λ t. c.checkpoint.ensures.any_moment t c.requires.opens.unclosed)
    c.open_folder.new.outside c.open_folder.result c.open_folder.ensures.opened

pub returns-in-Ok-clause-unwritten : goal.returns-in-Ok-clause-unwritten
returns-in-Ok-clause-unwritten g c =
    let done = c.in-Ok.ensures in
    again_unwritten g.W.Output g.W.Outside c.args.outside.now c.checkpoint.new.outside c.args.store c.requires.opens done.fits c.checkpoint.ensures.emitted c.checkpoint.ensures.output (done.device_still (λ h. cc (h))) done.settled done.holds done.selects done.renewed (λ t. c.checkpoint.ensures.any_moment t c.requires.opens.unclosed)
    c.open_folder.new.outside c.open_folder.result c.open_folder.ensures.unopened

pub returns-in-Err-Full-clause-unwritten : goal.returns-in-Err-Full-clause-unwritten
returns-in-Err-Full-clause-unwritten g c =
    let is = ap Err c.in-Err-Full.field-0-is in
    let refusal = subst (λ (f : CheckFault). IsCheckRefusal (database_of c.args.store) half_limit f) c.in-Err-Full.field-0-is c.in-Err-Full.ensures.refusal in
    full_unwritten g.W.Output g.W.Outside c.args.outside.now c.checkpoint.new.outside c.args.store refusal.2 (c.in-Err-Full.ensures.untouched (λ h. cc (sym is ∙ h)))

pub returns-in-Err-Device-clause-unwritten : goal.returns-in-Err-Device-clause-unwritten
returns-in-Err-Device-clause-unwritten g c =
    let is = ap Err c.in-Err-Device.field-0-is in
    let short = subst (λ (f : CheckFault). IsCheckRefusal (database_of c.args.store) half_limit f) c.in-Err-Device.field-0-is c.in-Err-Device.ensures.refusal in
    written_short g.W.Output g.W.Outside c.args.outside.now c.checkpoint.new.outside c.args.store short (record { later = c.checkpoint.ensures.device_later; rose = c.in-Err-Device.ensures.device is }) c.checkpoint.ensures.emitted c.checkpoint.ensures.output
    (λ t. c.checkpoint.ensures.any_moment t c.requires.opens.unclosed)

pub returns-in-Err-Memory-clause-unwritten : goal.returns-in-Err-Memory-clause-unwritten
returns-in-Err-Memory-clause-unwritten g c =
    let is = ap Err c.in-Err-Memory.field-0-is in
    memory_unwritten g.W.Output g.W.Outside c.args.outside.now c.checkpoint.new.outside c.args.store (c.in-Err-Memory.ensures.untouched (λ h. cc (sym is ∙ h)))
