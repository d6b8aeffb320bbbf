use Rattle.std.proofs.Common.{rules}
use Rattle.hera_syntax.specs.Grammar as phrases
use Rattle.hera_parser_exprs.proofs.Steps.{choose, next, stops, as_marks}
use Rattle.hera_parser_exprs.proofs.parser.Parser.fail_word.Goals as goal

pub returns-in_err-token-clause-sticks : goal.returns-in_err-token-clause-sticks
returns-in_err-token-clause-sticks c h = stops (choose phrases.prime 4 c.requires) (c.in_err-token.ensures.sticks (search rules))

pub returns-clause-reads : goal.returns-clause-reads
returns-clause-reads c = as_marks c.fail_word.ensures (next (choose phrases.prime 4 c.requires) c.in_ok-token.ensures.reads)
