use Rattle.std.proofs.Common.{◌-◌, ◌∙◌, sym, take, arith}
use Rattle.when_overlay.proofs.Signing.{sign_here, sign_lower, take_less}
use Rattle.when_overlay.proofs.signs.sign_over.Goals as goal

pub returns-in-Some : goal.returns-in-Some
returns-in-Some c =
    let ds = c.args.deltas.now in
    let i = c.loop-i.i in
    let d = c.index-deltas-i.result in
    sign_here c.args.rel.0 (take i ds) (take (i - 1) ds) d c.args.row.now c.in-Some.sign (take_less ds i d c.loop-i-test.true c.loop-i.invariant.within c.index-deltas-i.is) (sym c.in-Some.ensures)
    ∙ c.loop-i.invariant.left

pub loop-i-preserved : goal.loop-i-preserved
loop-i-preserved c =
    let ds = c.args.deltas.now in
    let i = c.loop-i.i in
    let d = c.index-deltas-i.result in
    let within = c.loop-i.invariant.within in
    record {
      left = sign_lower c.args.rel.0 (take i ds) (take (i - 1) ds) d c.args.row.now (take_less ds i d c.loop-i-test.true within c.index-deltas-i.is) (sym c.in_default.ensures)
          ∙ c.loop-i.invariant.left;
      within = omega (arith, within);
    }
