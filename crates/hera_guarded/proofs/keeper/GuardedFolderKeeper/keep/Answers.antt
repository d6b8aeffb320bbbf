use Rattle.hera_run.proofs.Results.{ok_then, ok_both}
use Rattle.hera_guarded.proofs.Kept.{guarded_more, same_refusals}
use Rattle.hera_guarded.proofs.keeper.GuardedFolderKeeper.keep.Goals as goal

pub returns-clause-ready : goal.returns-clause-ready
returns-clause-ready g c =
    let rules = c.args.self.now.rules in
    ok_both c.keep.result c.keep.ensures.ready c.keep.ensures.kept
    (λ ready kept. guarded_more rules.hosts.now.names rules.lines.now rules.table c.args.self.now.kept.levels c.keep.new.self.levels c.args.self.now.kept.store c.keep.new.self.store c.args.delta c.requires.ready ready kept c.requires.proper.1 c.requires.allowed)

pub returns-clause-refusal : goal.returns-clause-refusal
returns-clause-refusal g c =
    let rules = c.args.self.now.rules in
    ok_then c.keep.result c.keep.ensures.kept (λ kept. same_refusals rules.hosts.now.names rules.table c.args.self.now.kept.store c.keep.new.self.store _ kept)
