use Rattle.std.proofs.Common.{rules, refl}
use Rattle.hera_syntax.specs.Grammar as phrases
use Rattle.hera_parser_exprs.proofs.Steps.{choose, next, stops, as_marks}
use Rattle.hera_parser.proofs.program.main_block.Goals as goal

pub returns-in_err-word-clause-sticks : goal.returns-in_err-word-clause-sticks
returns-in_err-word-clause-sticks c h = stops (choose phrases.main 0 (record { number = refl })) (c.in_err-word.ensures.sticks (search rules))

pub returns-in_err-block-clause-sticks : goal.returns-in_err-block-clause-sticks
returns-in_err-block-clause-sticks c h = stops (next (choose phrases.main 0 (record { number = refl })) c.in_ok-word.ensures.reads) (c.in_err-block.ensures.sticks (search rules))

pub returns-clause-reads : goal.returns-clause-reads
returns-clause-reads c = as_marks c.new.ensures (next (next (choose phrases.main 0 (record { number = refl })) c.in_ok-word.ensures.reads) c.in_ok-block.ensures.reads)
