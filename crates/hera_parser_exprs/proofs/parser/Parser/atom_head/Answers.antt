use Rattle.std.proofs.Common.{rules, arith, ap, ◌∙◌}
use Rattle.hera_syntax.specs.declared.token.Token.{Token}
use Rattle.hera_syntax.specs.Outline.{hold}
use Rattle.hera_parser_exprs.proofs.Steps.{next, stops, idle, as_marks}
use Rattle.hera_parser_exprs.proofs.JoinedParts.{ok_both, on_less}
use Rattle.hera_parser_exprs.proofs.parser.Parser.atom_head.Goals as goal

pub returns-in_err-sign-clause-sticks : goal.returns-in_err-sign-clause-sticks
returns-in_err-sign-clause-sticks c h = stops idle (c.in_err-sign.ensures.sticks (search rules))

pub returns-in_err-head-clause-sticks : goal.returns-in_err-head-clause-sticks
returns-in_err-head-clause-sticks c h = stops (next idle c.in_ok-sign.ensures.reads) (c.in_err-head.ensures.sticks (search rules))

pub returns-clause-reads : goal.returns-clause-reads
returns-clause-reads c = ok_both _ c.kept_behind-2.ensures.same c.kept_behind-2.ensures.reads (λ head same reads. next (next (next idle (as_marks (ap (λ (b : Token × Token). hold b.0) same ∙ ap hold c.in_ok-head.ensures.same) c.in_ok-sign.ensures.reads)) (as_marks (ap (λ (b : Token × Token). hold b.1) same) c.in_ok-head.ensures.reads)) reads)

pub returns-clause-sticks : goal.returns-clause-sticks
returns-clause-sticks c h = stops (next (next idle c.in_ok-sign.ensures.reads) c.in_ok-head.ensures.reads) (c.kept_behind-2.ensures.sticks h)

pub returns-clause-shorter : goal.returns-clause-shorter
returns-clause-shorter c = on_less _ _ _ _ c.kept_behind-2.ensures.shorter (omega (arith, c.in_ok-sign.ensures.shorter, c.in_ok-head.ensures.shorter))
