use Rattle.std.proofs.Common.{◌∙◌, ap, ◌++◌, ◌∷◌, []}
use Rattle.std.proofs.lemmas.List.{replicate_more}
use Rattle.rel_pages.proofs.pages.zeros.Goals as goal

pub loop-preserved : goal.loop-preserved
loop-preserved c = c.in_ok-push.ensures.ok ∙ ap (λ xs. xs ++ 0 ∷ []) c.loop.invariant ∙ replicate_more c.loop.counter 0
