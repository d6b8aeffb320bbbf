use Rattle.std.proofs.Common.{rules, ap}
use Rattle.hera_syntax.specs.Outline.{hold}
use Rattle.hera_parser_exprs.proofs.Steps.{next, stops, idle, as_marks}
use Rattle.hera_parser_exprs.proofs.JoinedParts.{ok_both, on_less}
use Rattle.hera_parser_exprs.proofs.parser.Parser.bracketed.Goals as goal

pub returns-in_err-word-clause-sticks : goal.returns-in_err-word-clause-sticks
returns-in_err-word-clause-sticks c h = stops idle (c.in_err-word.ensures.sticks (search rules))

pub returns-clause-reads : goal.returns-clause-reads
returns-clause-reads c = ok_both _ c.kept_behind.ensures.same c.kept_behind.ensures.reads (λ head same reads. next (next idle (as_marks (ap hold same) c.in_ok-word.ensures.reads)) reads)

pub returns-clause-sticks : goal.returns-clause-sticks
returns-clause-sticks c h = stops (next idle c.in_ok-word.ensures.reads) (c.kept_behind.ensures.sticks h)

pub returns-clause-shorter : goal.returns-clause-shorter
returns-clause-shorter c = on_less _ _ _ _ c.kept_behind.ensures.shorter c.in_ok-word.ensures.shorter
