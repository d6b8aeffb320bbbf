use Rattle.std.proofs.Common.{◌++◌, ◌∷◌, [], ◌∙◌, ap, refl}
use Rattle.when_overlay.proofs.Layering.{path_end}
use Rattle.when_overlay.proofs.seeks.first_commit.Goals as goal

pub returns-then-are_none : goal.returns-then-are_none
returns-then-are_none c =
    path_end c.args.layers.now.layers c.args.commits.now ∙ c.requires ∙ ap (λ ds. ds ++ c.args.last.now ∷ []) (c.if-are_none.ensures refl)
