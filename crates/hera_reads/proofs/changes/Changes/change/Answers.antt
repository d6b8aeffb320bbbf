use Rattle.std.proofs.Common.{◌<◌, ◌∙◌, ap, sym, subst, length, arith}
use Rattle.when_overlay.specs.Layered.{delta_at}
use Rattle.hera_reads.specs.Branched.{Branches, IsTree, seen_at}
use Rattle.hera_reads.proofs.Counting.{positive, seen_upon, under_longer, some_of, rows_before, rows_behind}
use Rattle.hera_reads.proofs.changes.Changes.change.Goals as goal

pub delta-requires : goal.delta-requires
delta-requires c = subst (λ (r : Branches). c.args.i < length r.layers) (sym c.self.view_is) c.requires.within

pub returns-clause-lower : goal.returns-clause-lower
returns-clause-lower c =
    let ls = c.args.self.now.layers in
    let tree = subst (λ (r : Branches). IsTree r.layers) c.self.view_is c.self.invariant.0 in
    let there = ap (λ (r : Branches). delta_at r.layers c.args.i) (sym c.self.view_is) ∙ c.delta.ensures.delta in
    under_longer ls c.args.i c.args.below c.delta.result.now tree (positive c.args.i c.requires.upon) c.requires.within there c.requires.below

pub returns-clause-change : goal.returns-clause-change
returns-clause-change c =
    let s = c.args.stored.now.state in
    let ls = c.args.self.now.layers in
    let tree = subst (λ (r : Branches). IsTree r.layers) c.self.view_is c.self.invariant.0 in
    let there = ap (λ (r : Branches). delta_at r.layers c.args.i) (sym c.self.view_is) ∙ c.delta.ensures.delta in
    let upon = seen_upon ls c.args.i c.args.below c.delta.result.now tree (positive c.args.i c.requires.upon) c.requires.within there c.requires.below s in
    let before = rows_before (seen_at s ls c.args.below) c.args.rel.0 c.rel-rows.result c.rel-rows.ensures in
    let behind = rows_behind (seen_at s ls c.args.below) (seen_at s ls c.args.i) c.args.rel.0 c.rel-rows.result c.delta.result.now c.rel-rows.ensures upon in
    some_of c.change_of.result _ _ _ c.change_of.ensures (λ change sum. omega (arith, before, behind, sum))
