use Rattle.std.proofs.Common.{◌<◌, ◌+◌, subst, length, arith}
use Rattle.hera_reads.specs.Branched.{Branches, under}
use Rattle.hera_reads.proofs.Branching.{under_short}
use Rattle.hera_reads.proofs.changes.Changes.tip.Goals as goal

pub returns-clause-fits : goal.returns-clause-fits
returns-clause-fits c =
    let ls = c.self.inside.layers.layers in
    let short = under_short ls c.self.inside.tip c.self.invariant.0 c.len-count.ensures.valid c.self.invariant.2 in
    subst (λ (r : Branches). length (under r.layers c.self.inside.tip) + 1 < 18446744073709551616) c.self.view_is (omega (arith, short, c.len-count.ensures.count))
