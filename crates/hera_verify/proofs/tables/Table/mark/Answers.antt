use Rattle.std.proofs.Common.{refl, arith}
use Rattle.hera_verify.proofs.Tabling.{marks_behind}
use Rattle.hera_verify.proofs.tables.Table.mark.Goals as goal

pub returns-else-at-len : goal.returns-else-at-len
returns-else-at-len c nodes len f is =
    marks_behind nodes len c.args.self.now _ f c.args.to (omega (arith, c.if-at-len.false, c.len.ensures, c.args.self.now.broken.ok.0)) refl refl (λ le near. c.nearer-self.ensures len f le near) is
