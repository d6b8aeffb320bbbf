use Rattle.std.proofs.Common.{rules, arith, ap, ◌∙◌, ◌∷◌, []}
use Rattle.hera_syntax.specs.Grammar.{phrase}
use Rattle.hera_syntax.specs.Grammar as phrases
use Rattle.hera_syntax.specs.Outline.{expr_outline, hold}
use Rattle.hera_syntax.specs.Programs.{type_outline}
use Rattle.hera_parser_exprs.proofs.Steps.{choose, next, stops, as_marks}
use Rattle.hera_parser_exprs.proofs.JoinedParts.{got, shortened, stops_in}
use Rattle.hera_parser.proofs.simple.declare.Goals as goal

pub returns-in_err-type_tree-clause-sticks : goal.returns-in_err-type_tree-clause-sticks
returns-in_err-type_tree-clause-sticks c h = stops (choose phrases.stmt 0 c.requires) (c.in_err-type_tree.ensures.sticks (search rules))

pub returns-in_err-head-clause-sticks : goal.returns-in_err-head-clause-sticks
returns-in_err-head-clause-sticks c h = stops (next (choose phrases.stmt 0 c.requires) c.in_ok-type_tree.ensures.reads) (c.in_err-head.ensures.sticks (search rules))

pub returns-in_err-head-2-clause-sticks : goal.returns-in_err-head-2-clause-sticks
returns-in_err-head-2-clause-sticks c h = stops (next (next (choose phrases.stmt 0 c.requires) c.in_ok-type_tree.ensures.reads) c.in_ok-head.ensures.reads) (c.in_err-head-2.ensures.sticks (search rules))

pub returns-in_err-part-clause-sticks : goal.returns-in_err-part-clause-sticks
returns-in_err-part-clause-sticks c h = stops_in expr_outline (next (next (next (choose phrases.stmt 0 c.requires) c.in_ok-type_tree.ensures.reads) c.in_ok-head.ensures.reads) c.in_ok-head-2.ensures.reads) c.expr-value.ensures.reads c.expr-value.ensures.sticks (c.in_err-part.ensures.sticks (search rules))

pub returns-clause-reads : goal.returns-clause-reads
returns-clause-reads c = as_marks c.declare.ensures (next (next (next (next (next (choose phrases.stmt 0 c.requires) (as_marks (ap (λ b. type_outline b.0) c.in_ok-part.ensures.same ∙ (ap (λ b. type_outline b.0) c.in_ok-head-2.ensures.same ∙ ap (λ b. type_outline b) c.in_ok-head.ensures.same)) c.in_ok-type_tree.ensures.reads)) (as_marks (ap (λ b. hold b.1) c.in_ok-part.ensures.same ∙ ap (λ b. hold b.1) c.in_ok-head-2.ensures.same) c.in_ok-head.ensures.reads)) c.in_ok-head-2.ensures.reads) (got expr_outline (phrase phrases.expr ∷ []) c.in_ok-part.ensures.read c.expr-value.ensures.reads)) c.in_ok-part.ensures.reads)

pub returns-clause-shorter : goal.returns-clause-shorter
returns-clause-shorter c = omega (arith, c.in_ok-type_tree.ensures.shorter, c.in_ok-head.ensures.shorter, c.in_ok-head-2.ensures.shorter, shortened c.in_ok-part.ensures.read c.expr-value.ensures.shorter, c.in_ok-part.ensures.shorter)
