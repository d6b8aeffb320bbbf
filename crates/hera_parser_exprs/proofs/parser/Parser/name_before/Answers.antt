use Rattle.std.proofs.Common.{rules, ap}
use Rattle.hera_syntax.specs.Outline.{hold}
use Rattle.hera_parser_exprs.proofs.Steps.{next, stops, idle, as_marks}
use Rattle.hera_parser_exprs.proofs.JoinedParts.{ok_on, on_less}
use Rattle.hera_parser_exprs.proofs.parser.Parser.name_before.Goals as goal

pub returns-in_err-name-clause-sticks : goal.returns-in_err-name-clause-sticks
returns-in_err-name-clause-sticks c h = stops idle (c.in_err-name.ensures.sticks (search rules))

pub returns-clause-reads : goal.returns-clause-reads
returns-clause-reads c = ok_on _ c.ended_by.ensures.same c.ended_by.ensures.reads (λ name same reads. next (next idle (as_marks (ap hold same) c.in_ok-name.ensures.reads)) reads)

pub returns-clause-sticks : goal.returns-clause-sticks
returns-clause-sticks c h = stops (next idle c.in_ok-name.ensures.reads) (c.ended_by.ensures.sticks h)

pub returns-clause-shorter : goal.returns-clause-shorter
returns-clause-shorter c = on_less _ _ _ _ c.ended_by.ensures.shorter c.in_ok-name.ensures.shorter
