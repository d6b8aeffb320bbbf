use Rattle.std.proofs.Common.{refl, arith}
use Rattle.hera_meaning.specs.Deltas.{apply_of}
use Rattle.hera_reads.specs.Branched.{pending_of}
use Rattle.hera_reads.proofs.Counting.{rows_before, rows_behind}
use Rattle.hera_reads.proofs.counts.Counts.next.Goals as goal

pub returns-then-next-le-ROWS_LIMIT : goal.returns-then-next-le-ROWS_LIMIT
returns-then-next-le-ROWS_LIMIT c =
    let s = apply_of c.args.stored.now.state (pending_of c.args.changes.now.layers) in
    let i = c.args.i in
    let before = rows_before s i c.pending_rel-rows.result c.pending_rel-rows.ensures in
    let behind = rows_behind s (apply_of s c.args.delta.now) i c.pending_rel-rows.result c.args.delta.now c.pending_rel-rows.ensures refl in
    let known = c.requires c.in_ok-count.count c.in_ok-count.ensures in
    let change = c.in_ok-change.ensures in
    let sum = c.in_ok-checked_add.ensures in
    let next = c.in_ok-next.ensures in
    (omega (arith, before, behind, known.0, change, sum, next), omega (arith, c.if-next-le-ROWS_LIMIT.true))
