use Rattle.std.proofs.Common.{◌≡◌, ◌-◌, suc, refl, subst, None, arith}
use Rattle.commit_levels.specs.Merging.{IsJoined, AreFalling}
use Rattle.commit_levels.proofs.Mergings.{merged_more, falls_one}
use Rattle.commit_levels.proofs.levels.Levels.merged.Goals as goal

pub loop-keep-preserved : goal.loop-keep-preserved
loop-keep-preserved c =
    let less : c.loop-keep.keep ≡ suc (c.loop-keep.keep - 1) = omega (arith, c.loop-keep-test.true) in
    merged_more c.args.self.now c.args.delta.now c.loop-keep.newest c.in-Some.both c.loop-keep.keep (c.loop-keep.keep - 1) (c.loop-keep.keep - 1) c.loop-keep.invariant less refl
    (subst (λ o. IsJoined c.args.self.now (c.loop-keep.keep - 1) c.loop-keep.newest o) c.in-Some.is c.in_ok-joined.ensures)

pub returns-in-None-clause-falls : goal.returns-in-None-clause-falls
returns-in-None-clause-falls c =
    let less : c.loop-keep.keep ≡ suc (c.loop-keep.keep - 1) = omega (arith, c.loop-keep-test.true) in
    let told : IsJoined c.args.self.now (c.loop-keep.keep - 1) c.loop-keep.newest None = subst (λ o. IsJoined c.args.self.now (c.loop-keep.keep - 1) c.loop-keep.newest o) c.in-None.is c.in_ok-joined.ensures in
    falls_one c.args.self.now (c.loop-keep.keep - 1) c.loop-keep.keep told.0 c.loop-keep.newest less (subst AreFalling c.self.view_is c.self.invariant.1) told.1 told.2
