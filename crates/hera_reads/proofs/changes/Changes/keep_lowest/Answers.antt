use Rattle.std.proofs.Common.{◌≡◌, ◌-◌, ◌∙◌, suc, max, ap, drop, length, arith}
use Rattle.hera_reads.specs.Branched.{Branches}
use Rattle.hera_reads.proofs.Branching.{drop_next}
use Rattle.hera_reads.proofs.changes.Changes.keep_lowest.Goals as goal

pub loop-preserved : goal.loop-preserved
loop-preserved c = record {
  catalogue = ap (λ (r : Branches). r.catalogue) c.drop_newest.ensures ∙ c.loop.invariant.catalogue;
  left = drop_next c.max-needed.result c.loop.counter c.args.self.now.layers c.loop.self.layers c.drop_newest.new.self.layers (omega arith) (ap (λ (r : Branches). r.layers) c.drop_newest.ensures) c.loop.invariant.left;
  tip = ap (λ (r : Branches). r.tip) c.drop_newest.ensures ∙ c.loop.invariant.tip;
  within = omega arith;
}

pub returns : goal.returns
returns c =
    let ls = c.args.self.now.layers in
    let needed : c.max-needed.result ≡ max c.args.n (suc c.args.self.now.tip) = omega (arith, c.max-needed.ensures, c.tip-tip.ensures.tip) in
    let dropped : c.loop.counter - c.max-needed.result ≡ length ls - max c.args.n (suc c.args.self.now.tip) = omega (arith, needed, c.loop-test.false, c.len-count.ensures.count, c.loop.invariant.within) in
    λ i. record { catalogue = c.loop.invariant.catalogue i; layers = (c.loop.invariant.left ∙ ap (λ k. drop k ls) dropped) i; tip = c.loop.invariant.tip i }
