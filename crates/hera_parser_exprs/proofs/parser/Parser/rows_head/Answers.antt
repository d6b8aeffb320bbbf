use Rattle.std.proofs.Common.{rules, ap, ◌++◌, ◌∷◌, []}
use Rattle.hera_syntax.specs.declared.token.Token.{Token}
use Rattle.hera_syntax.specs.Grammar.{keep}
use Rattle.hera_syntax.specs.Grammar as phrases
use Rattle.hera_syntax.specs.Outline.{hold, skip}
use Rattle.hera_parser_exprs.proofs.Steps.{next, stops, stops_list, join, idle, before, as_marks}
use Rattle.hera_parser_exprs.proofs.JoinedParts.{ok_both, on_less}
use Rattle.hera_parser_exprs.proofs.parser.Parser.rows_head.Goals as goal

pub returns-in_err-named-clause-sticks : goal.returns-in_err-named-clause-sticks
returns-in_err-named-clause-sticks c h = stops_list (keep phrases.brace ∷ []) idle (c.in_err-named.ensures.sticks (search rules))

pub returns-clause-reads : goal.returns-clause-reads
returns-clause-reads c = ok_both _ c.kept_behind.ensures.same c.kept_behind.ensures.reads (λ head same reads. next (join idle (before (keep phrases.brace ∷ []) (as_marks (ap (λ (b : (Token × Token) × Token). hold b.0.0 ++ hold b.0.1 ++ hold b.1 ++ skip phrases.close_paren) same) c.in_ok-named.ensures.reads))) reads)

pub returns-clause-sticks : goal.returns-clause-sticks
returns-clause-sticks c h = stops (join idle (before (keep phrases.brace ∷ []) c.in_ok-named.ensures.reads)) (c.kept_behind.ensures.sticks h)

pub returns-clause-shorter : goal.returns-clause-shorter
returns-clause-shorter c = on_less _ _ _ _ c.kept_behind.ensures.shorter c.in_ok-named.ensures.shorter
