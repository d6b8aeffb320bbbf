use Rattle.std.proofs.Common.{◌∷◌, ◌∙◌, ap}
use Rattle.hera_frames.specs.Items.{item_of}
use Rattle.hera_steps.proofs.Sights.{the_view}
use Rattle.hera_steps.proofs.Instructing.{opened}
use Rattle.hera_steps.proofs.running.Running.open_walk.Goals as goal

pub returns-in_ok-push-in-Some-Named-clause-step : goal.returns-in_ok-push-in-Some-Named-clause-step
returns-in_ok-push-in-Some-Named-clause-step c =
    let now = c.self.inside in
    opened c.args.stored.now.state (the_view now) c.args.self.now c.in-Some-Named.rel.0 c.in-Some-Named.tip c.pop.new.self.spare c.pop.new.self.items c.push.new.self
    c.self.view_is (c.in-Some-Named.ensures.items ∙ ap (λ o. item_of o ∷ c.pop.new.self.items) c.in-Some-Named.field-0-is)
    (c.in_ok-push-in-Some-Named.ensures.ok ∙ ap (λ x. x ∷ now.walks) c.over.ensures)
