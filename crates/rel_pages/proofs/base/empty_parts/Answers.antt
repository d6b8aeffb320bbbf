use Rattle.std.proofs.Common.{◌∙◌, ap, ◌++◌, ◌∷◌, []}
use Rattle.std.proofs.lemmas.List.{replicate_more}
use Rattle.rel_pages.proofs.base.empty_parts.Goals as goal

pub loop-preserved : goal.loop-preserved
loop-preserved c = c.in_ok-push.ensures.items ∙ ap (λ xs. xs ++ record { at = c.args.at; len = 0 } ∷ []) c.loop.invariant ∙ replicate_more c.loop.counter (record { at = c.args.at; len = 0 })
