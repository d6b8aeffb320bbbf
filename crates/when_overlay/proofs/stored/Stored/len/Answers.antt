use Rattle.std.proofs.Common.{length, ◌∙◌, ap, sym}
use Rattle.when_overlay.specs.Committed.{Committed}
use Rattle.when_overlay.proofs.Viewing.{length_after}
use Rattle.when_overlay.proofs.stored.Stored.len.Goals as goal

pub returns-clause-relations : goal.returns-clause-relations
returns-clause-relations c =
    ap (λ (s : Committed). length s.state) (sym c.self.view_is)
    ∙ length_after c.self.inside.base.now.state c.self.inside.commits.now
    ∙ c.catalogue.ensures.relations
    ∙ ap (λ (s : Committed). length s.catalogue) c.self.view_is
