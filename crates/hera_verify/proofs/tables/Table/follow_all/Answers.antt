use Rattle.hera_verify.proofs.Tabling.{follows_not, follows_both}
use Rattle.hera_verify.proofs.tables.Table.follow_all.Goals as goal

pub returns-then-not-follow_if : goal.returns-then-not-follow_if
returns-then-not-follow_if c nodes f gs code rels hosts notes shared is ways lt reach =
    follows_not code rels hosts notes nodes c.follow_if.new.self c.args.a c.args.ways gs f ways (λ q b. c.if-not-follow_if.ensures nodes f q code rels hosts notes shared is b lt reach)

pub returns : goal.returns
returns c nodes f gs code rels hosts notes shared is ways lt reach =
    follows_both code rels hosts notes nodes c.follow_if.new.self c.follow_if-2.new.self c.follow_if-2.result c.args.a c.args.ways gs f ways (λ q b. c.if-not-follow_if.ensures nodes f q code rels hosts notes shared is b lt reach)
    (λ q g b k. c.follow_if-2.ensures nodes g q code rels hosts notes shared k b lt reach)
