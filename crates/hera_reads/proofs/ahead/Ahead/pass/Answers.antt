use Rattle.std.proofs.Common.{◌∙◌, ap, arith}
use Rattle.hera_reads.specs.Walking.{past_front}
use Rattle.hera_reads.proofs.Drops.{pass_left}
use Rattle.hera_reads.proofs.ahead.Ahead.pass.Goals as goal

pub returns-then-self-len-clause-past : goal.returns-then-self-len-clause-past
returns-then-self-len-clause-past c =
    pass_left c.self.inside.rows.items c.self.inside.passed (omega (arith, c.if-self-len.true, c.len.ensures)) ∙ ap past_front c.self.view_is
