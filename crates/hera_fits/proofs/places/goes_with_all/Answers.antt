use Rattle.std.proofs.Common.{sym, ◌∙◌, add-one}
use Rattle.hera_fits.specs.Joins.{goes_with}
use Rattle.hera_fits.proofs.Tested.{all_step, all_stop}
use Rattle.hera_fits.proofs.places.goes_with_all.Goals as goal

pub returns-then-not-goes_with : goal.returns-then-not-goes_with
returns-then-not-goes_with c = all_stop (goes_with c.args.a.now) c.args.right.now c.loop-i.i c.attr.result.now c.attr.ensures.attr (sym c.if-not-goes_with.ensures) ∙ c.loop-i.invariant

pub loop-i-preserved : goal.loop-i-preserved
loop-i-preserved c = all_step (goes_with c.args.a.now) c.args.right.now c.loop-i.i _ c.attr.result.now c.attr.ensures.attr (add-one c.loop-i.i) (sym c.if-not-goes_with.ensures) ∙ c.loop-i.invariant
