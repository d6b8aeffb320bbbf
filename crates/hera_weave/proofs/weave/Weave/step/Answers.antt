use Rattle.std.proofs.Common.{◌≡◌, false, sym, ◌∙◌}
use Rattle.hera_host.specs.Tables.{specs_of}
use Rattle.hera_weave.proofs.Moving.{proper_in}
use Rattle.hera_weave.proofs.weave.Weave.step.Goals as goal

pub returns-in-Ok-clause-proper : goal.returns-in-Ok-clause-proper
returns-in-Ok-clause-proper g c =
    let works : c.args.self.now.failed ≡ false = sym c.has_failed.ensures ∙ c.if-has_failed.false in
    let some = c.requires.stands works in
    proper_in (specs_of c.args.hosts.now.names) c.args.base.now.catalogue c.args.base.now.state c.args.commits.now _ c.args.self.now c.move_on.new.self c.args.session some c.catalogue-relations.ensures.valid c.requires.proper c.in-Ok.ensures.start
    (c.in-Ok.ensures.stands some.tasks some.schedule some.stands)
