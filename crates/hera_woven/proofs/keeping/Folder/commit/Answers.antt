use Rattle.std.proofs.Common.{Err, ap}
use Rattle.hera_woven.proofs.Carrying.{carries_unstored, carries_stored}
use Rattle.hera_woven.proofs.keeping.Folder.commit.Goals as goal

pub returns-in_err-keep_in-clause-carries : goal.returns-in_err-keep_in-clause-carries
returns-in_err-keep_in-clause-carries g c =
    let ens = c.keep_in.ensures in
    carries_unstored g.W.Output g.W.Outside c.args.self.now.store c.keep_in.new.store c.args.delta c.args.line.now c.args.outside.now c.keep_in.new.outside ens.base ens.said ens.any_moment ens.nothing_done
    c.from_residual-in_err-keep_in.result c.in_err-keep_in.field-0.0 c.from_residual-in_err-keep_in.ensures.1 c.in_err-keep_in.ensures.faults (λ is. c.in_err-keep_in.ensures.full (ap Err is)) (λ is. c.in_err-keep_in.ensures.nothing_full (ap Err is))

pub returns-clause-carries : goal.returns-clause-carries
returns-clause-carries g c =
    let ens = c.keep_in.ensures in
    let done = c.in_ok-keep_in.ensures in
    carries_stored g.W.Output g.W.Outside c.args.self.now.store c.keep_in.new.store c.args.delta c.args.line.now c.args.outside.now c.keep_in.new.outside ens.base ens.said ens.any_moment ens.nothing_done
    done.open done.stands done.commits done.gate done.fits done.faults c.speak.new.outside c.speak.result c.speak.ensures
