use Rattle.std.proofs.Common.{refl}
use Rattle.std.proofs.lemmas.Bool.{false≢true}
use Rattle.hera_verify.proofs.Tabling.{meets_same, meets_other}
use Rattle.hera_verify.proofs.tables.Table.meet.Goals as goal

pub returns-then-same_spot : goal.returns-then-same_spot
returns-then-same_spot c nodes len f q r code rels hosts notes shared is spot known =
    meets_same nodes len code rels hosts notes c.args.self.now c.args.a c.args.to c.args.spot c.args.known q r f (c.if-same_spot.ensures.0 refl) spot known is

pub returns : goal.returns
returns c nodes len f q r code rels hosts notes shared is spot known =
    meets_other nodes len code rels hosts notes c.fail.new.self c.fail.result c.args.a c.args.to c.args.spot c.args.known q r f (λ e. false≢true (c.if-same_spot.ensures.1 e)) shared spot known (c.fail.ensures nodes len f code rels hosts notes is)
