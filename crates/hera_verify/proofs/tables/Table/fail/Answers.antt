use Rattle.std.proofs.Common.{arith}
use Rattle.hera_verify.proofs.Tabling.{fails_ahead}
use Rattle.hera_verify.proofs.tables.Table.fail.Goals as goal

pub returns : goal.returns
returns c nodes len f code rels hosts notes is =
    fails_ahead nodes len code rels hosts notes c.mark.new.self c.args.a c.args.to f (omega (arith, c.if-a-to.false)) (c.mark.ensures nodes len f is)
