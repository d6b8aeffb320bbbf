use Rattle.std.proofs.Common.{arith}
use Rattle.hera_verify.proofs.Tabling.{finds_ahead}
use Rattle.hera_verify.proofs.tables.Table.found.Goals as goal

pub returns : goal.returns
returns c nodes len f q code rels hosts notes is spot =
    finds_ahead nodes len code rels hosts notes c.put.new.self c.args.a c.args.to q f (omega (arith, c.if-to-a.false)) (c.put.ensures nodes len f q is spot)
