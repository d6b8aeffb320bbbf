use Rattle.std.proofs.Common.{ap, ◌∙◌, Some}
use Rattle.hera_verify.proofs.Tabling.{arrives_none, arrives_some}
use Rattle.hera_verify.proofs.tables.Table.arrive.Goals as goal

pub returns-in-None : goal.returns-in-None
returns-in-None c nodes len f q code rels hosts notes shared is spot =
    arrives_none nodes len code rels hosts notes c.args.self.now c.found.result c.found.new.self c.args.a c.args.to q f (c.spot_at.ensures ∙ ap (λ o. Some o) c.in-None.is) is (c.found.ensures nodes len f q code rels hosts notes is spot)

pub returns-in-Some : goal.returns-in-Some
returns-in-Some c nodes len f q code rels hosts notes shared is spot =
    arrives_some nodes len code rels hosts notes c.args.self.now c.meet.result c.meet.new.self c.in-Some.known c.args.a c.args.to q f (c.spot_at.ensures ∙ ap (λ o. Some o) c.in-Some.is) is
    (λ r k. c.meet.ensures nodes len f q r code rels hosts notes shared is spot k)
