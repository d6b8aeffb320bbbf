use Rattle.std.proofs.Common.{refl}
use Rattle.hera_store.specs.Standing.{database_of}
use Rattle.hera_run.proofs.Images.{database_more}
use Rattle.hera_run.proofs.Levelled.{levelled_more}
use Rattle.hera_run.proofs.Results.{ok_always, ok_then, ok_both}
use Rattle.hera_run.proofs.keeper.InFolderKeeper.keep.Goals as goal

pub returns-clause-ready : goal.returns-clause-ready
returns-clause-ready g c =
    let old = c.args.self.now.store in
    let ens = c.keep_in.ensures in
    ok_both c.keep_in.result ens.open ens.commits (λ opens longer. record {
      unclosed = opens;
      levelled = levelled_more c.args.self.now.levels c.push.new.self old c.keep_in.new.store c.args.delta ens.base longer c.requires.ready.levelled (c.in_ok-push.ensures.does old.base.state) c.requires.proper.1 (c.in_ok-push.ensures.known old.base.catalogue);
    })

pub returns-clause-kept : goal.returns-clause-kept
returns-clause-kept g c =
    let old = c.args.self.now.store in
    ok_then c.keep_in.result c.keep_in.ensures.commits (λ longer. database_more old c.keep_in.new.store c.args.delta (database_of old) c.keep_in.ensures.base longer refl)

pub returns-clause-refusal : goal.returns-clause-refusal
returns-clause-refusal g c = ok_always c.keep_in.result refl
