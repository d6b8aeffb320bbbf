use Rattle.std.proofs.Common.{rules, arith, ap, ◌∙◌, ◌++◌, ◌∷◌, []}
use Rattle.hera_syntax.specs.declared.token.Token.{Token}
use Rattle.hera_syntax.specs.Grammar.{keep, leave}
use Rattle.hera_syntax.specs.Grammar as phrases
use Rattle.hera_syntax.specs.Outline.{hold}
use Rattle.hera_parser_exprs.proofs.Steps.{next, stops, stops_list, join, idle, before, as_marks}
use Rattle.hera_parser_exprs.proofs.JoinedParts.{ok_on, on_less}
use Rattle.hera_parser_exprs.proofs.parser.Parser.naming.Goals as goal

pub returns-in_err-head-clause-sticks : goal.returns-in_err-head-clause-sticks
returns-in_err-head-clause-sticks c h = stops_list (keep phrases.name ∷ leave c.args.end ∷ []) idle (c.in_err-head.ensures.sticks (search rules))

pub returns-in_err-head-2-clause-sticks : goal.returns-in_err-head-2-clause-sticks
returns-in_err-head-2-clause-sticks c h = stops (join idle (before (keep phrases.name ∷ leave c.args.end ∷ []) c.in_ok-head.ensures.reads)) (c.in_err-head-2.ensures.sticks (search rules))

pub returns-clause-reads : goal.returns-clause-reads
returns-clause-reads c = ok_on _ c.ended_by.ensures.same c.ended_by.ensures.reads (λ head same reads. next (next (join idle (before (keep phrases.name ∷ leave c.args.end ∷ []) (as_marks (ap (λ (b : (Token × Token) × Token). hold b.0.0 ++ hold b.0.1) same ∙ ap (λ b. hold b.0 ++ hold b.1) c.in_ok-head-2.ensures.same) c.in_ok-head.ensures.reads))) (as_marks (ap (λ (b : (Token × Token) × Token). hold b.1) same) c.in_ok-head-2.ensures.reads)) reads)

pub returns-clause-sticks : goal.returns-clause-sticks
returns-clause-sticks c h = stops (next (join idle (before (keep phrases.name ∷ leave c.args.end ∷ []) c.in_ok-head.ensures.reads)) c.in_ok-head-2.ensures.reads) (c.ended_by.ensures.sticks h)

pub returns-clause-shorter : goal.returns-clause-shorter
returns-clause-shorter c = on_less _ _ _ _ c.ended_by.ensures.shorter (omega (arith, c.in_ok-head.ensures.shorter, c.in_ok-head-2.ensures.shorter))
