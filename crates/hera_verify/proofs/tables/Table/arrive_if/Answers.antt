use Rattle.std.proofs.Common.{subst}
use Rattle.hera_effects.specs.Spots.{IsSpot}
use Rattle.hera_effects.specs.Ways.{Both}
use Rattle.hera_verify.proofs.Tabling.{arrives_not, arrives_so}
use Rattle.hera_verify.proofs.tables.Table.arrive_if.Goals as goal

pub returns-in-None : goal.returns-in-None
returns-in-None c nodes len f q code rels hosts notes shared is both =
    arrives_not nodes len code rels hosts notes c.fail.new.self c.fail.result c.args.a c.args.to q f (subst (λ o. Both (IsSpot nodes) o q) c.in-None.is both) (c.fail.ensures nodes len f code rels hosts notes is)

pub returns-in-Some : goal.returns-in-Some
returns-in-Some c nodes len f q code rels hosts notes shared is both =
    arrives_so nodes len code rels hosts notes c.arrive.new.self c.arrive.result c.in-Some.spot c.args.a c.args.to q f (subst (λ o. Both (IsSpot nodes) o q) c.in-Some.is both)
    (λ p k. c.arrive.ensures nodes len f p code rels hosts notes shared is k)
