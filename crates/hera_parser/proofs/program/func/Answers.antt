use Rattle.std.proofs.Common.{rules, arith, refl, ap, ◌∙◌, ◌∷◌, []}
use Rattle.hera_syntax.specs.Grammar.{phrase}
use Rattle.hera_syntax.specs.Grammar as phrases
use Rattle.hera_syntax.specs.Outline.{hold}
use Rattle.hera_syntax.specs.Programs.{block_outline, some_params_outline, type_outline}
use Rattle.hera_parser_exprs.proofs.Steps.{choose, next, stops, as_marks}
use Rattle.hera_parser_exprs.proofs.JoinedParts.{got, shortened, not_longer, stops_in}
use Rattle.hera_parser.proofs.program.func.Goals as goal

pub returns-in_err-word-clause-sticks : goal.returns-in_err-word-clause-sticks
returns-in_err-word-clause-sticks c h = stops (choose phrases.func 0 (record { number = refl })) (c.in_err-word.ensures.sticks (search rules))

pub returns-in_err-head-clause-sticks : goal.returns-in_err-head-clause-sticks
returns-in_err-head-clause-sticks c h = stops (next (choose phrases.func 0 (record { number = refl })) c.in_ok-word.ensures.reads) (c.type_tree-type_tree.ensures.sticks (c.in_err-head.ensures.stops (search rules)))

pub returns-in_err-head-2-clause-sticks : goal.returns-in_err-head-2-clause-sticks
returns-in_err-head-2-clause-sticks c h = stops (next (next (choose phrases.func 0 (record { number = refl })) c.in_ok-word.ensures.reads) (got type_outline (phrase phrases.type_tree ∷ []) c.in_ok-head.ensures.read c.type_tree-type_tree.ensures.reads)) (c.in_err-head-2.ensures.sticks (search rules))

pub returns-in_err-head-3-clause-sticks : goal.returns-in_err-head-3-clause-sticks
returns-in_err-head-3-clause-sticks c h = stops (next (next (next (choose phrases.func 0 (record { number = refl })) c.in_ok-word.ensures.reads) (got type_outline (phrase phrases.type_tree ∷ []) c.in_ok-head.ensures.read c.type_tree-type_tree.ensures.reads)) c.in_ok-head-2.ensures.reads) (c.in_err-head-3.ensures.sticks (search rules))

pub returns-in_err-part-clause-sticks : goal.returns-in_err-part-clause-sticks
returns-in_err-part-clause-sticks c h = stops_in some_params_outline (next (next (next (next (choose phrases.func 0 (record { number = refl })) c.in_ok-word.ensures.reads) (got type_outline (phrase phrases.type_tree ∷ []) c.in_ok-head.ensures.read c.type_tree-type_tree.ensures.reads)) c.in_ok-head-2.ensures.reads) c.in_ok-head-3.ensures.reads) c.some_params-params.ensures.reads c.some_params-params.ensures.sticks (c.in_err-part.ensures.sticks (search rules))

pub returns-in_err-part-2-clause-sticks : goal.returns-in_err-part-2-clause-sticks
returns-in_err-part-2-clause-sticks c h = stops (next (next (next (next (next (next (choose phrases.func 0 (record { number = refl })) c.in_ok-word.ensures.reads) (got type_outline (phrase phrases.type_tree ∷ []) c.in_ok-head.ensures.read c.type_tree-type_tree.ensures.reads)) c.in_ok-head-2.ensures.reads) c.in_ok-head-3.ensures.reads) (got some_params_outline (phrase phrases.some_params ∷ []) c.in_ok-part.ensures.read c.some_params-params.ensures.reads)) c.in_ok-part.ensures.reads) (c.block-block.ensures.sticks (c.in_err-part-2.ensures.stops (search rules)))

pub returns-clause-reads : goal.returns-clause-reads
returns-clause-reads c = as_marks c.new.ensures (next (next (next (next (next (next (next (choose phrases.func 0 (record { number = refl })) (as_marks (ap (λ b. hold b.0.0.0.0) c.in_ok-part-2.ensures.same ∙ (ap (λ b. hold b.0.0.0) c.in_ok-part.ensures.same ∙ (ap (λ b. hold b.0.0) c.in_ok-head-3.ensures.same ∙ (ap (λ b. hold b.0) c.in_ok-head-2.ensures.same ∙ ap hold c.in_ok-head.ensures.same)))) c.in_ok-word.ensures.reads)) (as_marks (ap (λ b. type_outline b.0.0.0.1) c.in_ok-part-2.ensures.same ∙ (ap (λ b. type_outline b.0.0.1) c.in_ok-part.ensures.same ∙ (ap (λ b. type_outline b.0.1) c.in_ok-head-3.ensures.same ∙ ap (λ b. type_outline b.1) c.in_ok-head-2.ensures.same))) (got type_outline (phrase phrases.type_tree ∷ []) c.in_ok-head.ensures.read c.type_tree-type_tree.ensures.reads))) (as_marks (ap (λ b. hold b.0.0.1) c.in_ok-part-2.ensures.same ∙ (ap (λ b. hold b.0.1) c.in_ok-part.ensures.same ∙ ap (λ b. hold b.1) c.in_ok-head-3.ensures.same)) c.in_ok-head-2.ensures.reads)) (as_marks (ap (λ b. hold b.0.1) c.in_ok-part-2.ensures.same ∙ ap (λ b. hold b.1) c.in_ok-part.ensures.same) c.in_ok-head-3.ensures.reads)) (as_marks (ap (λ b. some_params_outline b.1) c.in_ok-part-2.ensures.same) (got some_params_outline (phrase phrases.some_params ∷ []) c.in_ok-part.ensures.read c.some_params-params.ensures.reads))) c.in_ok-part.ensures.reads) (got block_outline (phrase phrases.block ∷ []) c.in_ok-part-2.ensures.read c.block-block.ensures.reads))

pub returns-clause-shorter : goal.returns-clause-shorter
returns-clause-shorter c = omega (arith, c.in_ok-word.ensures.shorter, shortened c.in_ok-head.ensures.read c.type_tree-type_tree.ensures.shorter, c.in_ok-head-2.ensures.shorter, c.in_ok-head-3.ensures.shorter, not_longer c.in_ok-part.ensures.read c.some_params-params.ensures.no_longer, c.in_ok-part.ensures.shorter, shortened c.in_ok-part-2.ensures.read c.block-block.ensures.shorter)
