use Rattle.std.proofs.Common.{rules, refl, sym, ◌∙◌}
use Rattle.hera_syntax.specs.Grammar as phrases
use Rattle.hera_parser_exprs.proofs.Steps.{choose, next, stops}
use Rattle.hera_parser_exprs.proofs.Choices.{told, other}
use Rattle.hera_parser.proofs.simple.some_text.Goals as goal

pub returns-then-not-next_is-clause-reads : goal.returns-then-not-next_is-clause-reads
returns-then-not-next_is-clause-reads c = choose phrases.some_text 1 (other phrases.some_text ((sym c.next_is.ensures ∙ c.if-not-next_is.true), tt))

pub returns-in_err-label-clause-sticks : goal.returns-in_err-label-clause-sticks
returns-in_err-label-clause-sticks c h = stops (choose phrases.some_text 0 (told phrases.some_text 0 refl (sym c.next_is.ensures ∙ c.if-not-next_is.false))) (c.in_err-label.ensures.sticks (search rules))

pub returns-clause-reads : goal.returns-clause-reads
returns-clause-reads c = next (choose phrases.some_text 0 (told phrases.some_text 0 refl (sym c.next_is.ensures ∙ c.if-not-next_is.false))) c.in_ok-label.ensures.reads
