use Rattle.std.proofs.Common.{◌∙◌, ap, sym, subst}
use Rattle.when_overlay.specs.Layered.{Pile, AreLayers, newest_first}
use Rattle.when_overlay.proofs.Layering.{newest_first-push}
use Rattle.when_overlay.proofs.layers.Layers.pop.Goals as goal

pub invariant_of-self : goal.invariant_of-self
invariant_of-self c = (subst AreLayers (ap newest_first c.in-Some.ensures.items ∙ newest_first-push c.pop.new.self.items c.in-Some.layer) c.self.invariant).2

pub returns-clause-layers : goal.returns-clause-layers
returns-clause-layers c =
    (c.in-Some.layer.parent, ap (λ (p : Pile). p.layers) (sym c.self.view_is) ∙ ap newest_first c.in-Some.ensures.items ∙ newest_first-push c.pop.new.self.items c.in-Some.layer)
