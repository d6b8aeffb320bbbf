use Rattle.std.proofs.Common.{◌∙◌, ◌-◌, Some, ap, arith}
use Rattle.hera_reads.specs.Walking.{Front, row_before, last_or}
use Rattle.hera_reads.proofs.Drops.{last_left}
use Rattle.hera_reads.proofs.ahead.Ahead.last.Goals as goal

pub returns-then-self-count : goal.returns-then-self-count
returns-then-self-count c =
    ap (λ x. Some x) c.bytes.ensures
    ∙ last_left (row_before c.self.inside.passed c.self.inside.rows.items) c.self.inside.rows.items c.self.inside.passed (c.len-count.result - 1) c.index.result.now
    (omega (arith, c.if-self-count.true, c.len-count.ensures)) (omega (arith, c.if-self-count.true, c.len-count.ensures)) c.index.ensures
    ∙ ap (λ (a : Front). last_or a.passed a.left) c.self.view_is
