use Rattle.std.proofs.Common.{[], ◌∙◌, Some, ap, sym, arith}
use Rattle.hera_code.specs.Machine.{as_table}
use Rattle.hera_reads.specs.Branched.{pending_of, under, seen_at}
use Rattle.hera_frames.specs.Items.{item_of, value_at}
use Rattle.hera_reads.proofs.Naming.{rows_got, rows_none, read-length}
use Rattle.hera_frames.proofs.operands.Operand.seen.Goals as goal

pub returns-then-from-len : goal.returns-then-from-len
returns-then-from-len c =
    let s = c.args.stored.now.state in
    let ls = c.args.changes.now.layers in
    let long = read-length c.args.stored.now.state [] (pending_of ls) (under ls c.in-Named.tip) in
    ap Some (sym (rows_none (seen_at s ls c.in-Named.tip) c.in-Named.rel.0 (omega (arith, long, c.len.ensures.relations, c.len.ensures.count, c.from.ensures, c.if-from-len.true))))
    ∙ ap (λ o. as_table (value_at s ls (item_of o))) (sym c.in-Named.is)

pub returns-else-from-len : goal.returns-else-from-len
returns-else-from-len c =
    let s = c.args.stored.now.state in
    let ls = c.args.changes.now.layers in
    ap Some (sym (rows_got (seen_at s ls c.in-Named.tip) c.in-Named.rel.0 c.sight.result c.sight.ensures))
    ∙ ap (λ o. as_table (value_at s ls (item_of o))) (sym c.in-Named.is)
