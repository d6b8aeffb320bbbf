use Rattle.std.proofs.Common.{rules, arith, ap, ◌∷◌, []}
use Rattle.hera_syntax.specs.Grammar.{phrase}
use Rattle.hera_syntax.specs.Grammar as phrases
use Rattle.hera_syntax.specs.Outline.{expr_outline, hold}
use Rattle.hera_parser_exprs.proofs.Steps.{choose, next, stops, as_marks}
use Rattle.hera_parser_exprs.proofs.JoinedParts.{got, shortened, stops_in}
use Rattle.hera_parser.proofs.simple.assert.Goals as goal

pub returns-in_err-word-clause-sticks : goal.returns-in_err-word-clause-sticks
returns-in_err-word-clause-sticks c h = stops (choose phrases.stmt 7 c.requires) (c.in_err-word.ensures.sticks (search rules))

pub returns-in_err-part-clause-sticks : goal.returns-in_err-part-clause-sticks
returns-in_err-part-clause-sticks c h = stops_in expr_outline (next (choose phrases.stmt 7 c.requires) c.in_ok-word.ensures.reads) c.expr-value.ensures.reads c.expr-value.ensures.sticks (c.in_err-part.ensures.sticks (search rules))

pub returns-clause-reads : goal.returns-clause-reads
returns-clause-reads c = as_marks c.assert.ensures (next (next (next (choose phrases.stmt 7 c.requires) (as_marks (ap hold c.in_ok-part.ensures.same) c.in_ok-word.ensures.reads)) (got expr_outline (phrase phrases.expr ∷ []) c.in_ok-part.ensures.read c.expr-value.ensures.reads)) c.in_ok-part.ensures.reads)

pub returns-clause-shorter : goal.returns-clause-shorter
returns-clause-shorter c = omega (arith, c.in_ok-word.ensures.shorter, shortened c.in_ok-part.ensures.read c.expr-value.ensures.shorter, c.in_ok-part.ensures.shorter)
