use Rattle.std.proofs.Common.{◌++◌, ◌∷◌, [], ◌∙◌, ap, append_assoc, length, arith}
use Rattle.std.proofs.lemmas.List.{length-append}
use Rattle.rel_format.specs.Pages.{zeros}
use Rattle.half_writer.proofs.Fills.{zeros_more, length-zeros}
use Rattle.half_writer.proofs.pages.push_zeros.Goals as goal

pub loop-preserved : goal.loop-preserved
loop-preserved c = c.in_ok-push.ensures.items ∙ ap (λ xs. xs ++ 0 ∷ []) c.loop.invariant ∙ append_assoc c.args.bytes.now.items (zeros c.loop.counter) (0 ∷ []) ∙ ap (λ xs. c.args.bytes.now.items ++ xs) (zeros_more c.loop.counter)

pub returns-clause-length : goal.returns-clause-length
returns-clause-length c = omega (arith, ap length c.loop.invariant, length-append c.args.bytes.now.items (zeros c.loop.counter), length-zeros c.loop.counter)
