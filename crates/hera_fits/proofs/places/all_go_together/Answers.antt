use Rattle.std.proofs.Common.{sym, ◌∙◌, add-one}
use Rattle.std.specs.List.{list_all}
use Rattle.hera_fits.specs.Joins.{goes_with}
use Rattle.hera_fits.proofs.Tested.{all_step, all_stop}
use Rattle.hera_fits.proofs.places.all_go_together.Goals as goal

pub returns-then-not-goes_with_all : goal.returns-then-not-goes_with_all
returns-then-not-goes_with_all c = all_stop (λ a. list_all (goes_with a) c.args.right.now) c.args.left.now c.loop-i.i c.attr.result.now c.attr.ensures.attr (sym c.if-not-goes_with_all.ensures) ∙ c.loop-i.invariant

pub loop-i-preserved : goal.loop-i-preserved
loop-i-preserved c = all_step (λ a. list_all (goes_with a) c.args.right.now) c.args.left.now c.loop-i.i _ c.attr.result.now c.attr.ensures.attr (add-one c.loop-i.i) (sym c.if-not-goes_with_all.ensures) ∙ c.loop-i.invariant
