use Rattle.std.proofs.Common.{rules, arith, ap, ◌∷◌, []}
use Rattle.hera_syntax.specs.Grammar.{phrase}
use Rattle.hera_syntax.specs.Grammar as phrases
use Rattle.hera_syntax.specs.Outline.{hold}
use Rattle.hera_syntax.specs.Programs.{some_text_outline}
use Rattle.hera_parser_exprs.proofs.Steps.{choose, next, stops, as_marks}
use Rattle.hera_parser_exprs.proofs.JoinedParts.{got, not_longer, stops_in}
use Rattle.hera_parser.proofs.simple.commit.Goals as goal

pub returns-in_err-word-clause-sticks : goal.returns-in_err-word-clause-sticks
returns-in_err-word-clause-sticks c h = stops (choose phrases.stmt 8 c.requires) (c.in_err-word.ensures.sticks (search rules))

pub returns-in_err-part-clause-sticks : goal.returns-in_err-part-clause-sticks
returns-in_err-part-clause-sticks c h = stops_in some_text_outline (next (choose phrases.stmt 8 c.requires) c.in_ok-word.ensures.reads) c.some_text-label.ensures.reads c.some_text-label.ensures.sticks (c.in_err-part.ensures.sticks (search rules))

pub returns-clause-reads : goal.returns-clause-reads
returns-clause-reads c = as_marks c.commit.ensures (next (next (next (choose phrases.stmt 8 c.requires) (as_marks (ap hold c.in_ok-part.ensures.same) c.in_ok-word.ensures.reads)) (got some_text_outline (phrase phrases.some_text ∷ []) c.in_ok-part.ensures.read c.some_text-label.ensures.reads)) c.in_ok-part.ensures.reads)

pub returns-clause-shorter : goal.returns-clause-shorter
returns-clause-shorter c = omega (arith, c.in_ok-word.ensures.shorter, not_longer c.in_ok-part.ensures.read c.some_text-label.ensures.no_longer, c.in_ok-part.ensures.shorter)
