use Rattle.std.proofs.Common.{◌≡◌, subst, arith, length, ◌≤◌}
use Rattle.hera_reads.specs.Branched.{Branches, seen_at}
use Rattle.hera_reads.proofs.Branching.{seen_past}
use Rattle.hera_reads.proofs.changes.Changes.there.Goals as goal

pub returns-else-tip-len-clause-seen : goal.returns-else-tip-len-clause-seen
returns-else-tip-len-clause-seen c = λ s.
    let ls = c.self.inside.layers.layers in
    let past : length ls ≤ c.args.tip = omega (arith, c.if-tip-len.false, c.len.ensures.count) in
    subst (λ (r : Branches). seen_at s r.layers 0 ≡ seen_at s r.layers c.args.tip) c.self.view_is (seen_past s ls c.args.tip c.self.invariant.0 past)
