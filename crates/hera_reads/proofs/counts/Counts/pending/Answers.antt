use Rattle.std.proofs.Common.{◌≡◌, ◌∙◌, Some, ap, sym, subst, arith}
use Rattle.std.specs.Prelude.{slice_set}
use Rattle.hera_meaning.specs.Deltas.{apply_of}
use Rattle.hera_reads.specs.Branched.{pending_of}
use Rattle.hera_reads.specs.Counted.{AreCounts}
use Rattle.hera_reads.proofs.Counting.{rows_before, counts_put}
use Rattle.hera_reads.proofs.counts.Counts.pending.Goals as goal

pub returns-then-i-len-clause-count : goal.returns-then-i-len-clause-count
returns-then-i-len-clause-count c =
    let before = rows_before (apply_of c.args.stored.now.state (pending_of c.args.changes.now.layers)) c.args.rel.0 c.pending_rel.result c.pending_rel.ensures in
    (omega (arith, before, c.in_ok-count.ensures.0), c.in_ok-count.ensures.1)

pub returns-then-i-len-clause-counted : goal.returns-then-i-len-clause-counted
returns-then-i-len-clause-counted c =
    let s = apply_of c.args.stored.now.state (pending_of c.args.changes.now.layers) in
    let before = rows_before s c.args.rel.0 c.pending_rel.result c.pending_rel.ensures in
    let same : c.put.new.self ≡ slice_set c.args.self.now c.args.rel.0 (Some c.in_ok-count.count) = c.put.ensures ∙ ap (λ k. slice_set c.args.self.now k (Some c.in_ok-count.count)) c.from-i.ensures in
    subst (AreCounts s) (sym same) (counts_put s c.args.self.now c.args.rel.0 c.in_ok-count.count c.requires.counted (omega (arith, before, c.in_ok-count.ensures.0), c.in_ok-count.ensures.1))

pub returns-else-i-len-clause-count : goal.returns-else-i-len-clause-count
returns-else-i-len-clause-count c =
    let before = rows_before (apply_of c.args.stored.now.state (pending_of c.args.changes.now.layers)) c.args.rel.0 c.pending_rel.result c.pending_rel.ensures in
    (omega (arith, before, c.in_ok-count.ensures.0), c.in_ok-count.ensures.1)
