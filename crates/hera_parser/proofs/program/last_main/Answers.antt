use Rattle.std.proofs.Common.{rules, refl, sym, ◌∙◌}
use Rattle.hera_syntax.specs.Grammar as phrases
use Rattle.hera_parser_exprs.proofs.Steps.{choose, next, stops}
use Rattle.hera_parser_exprs.proofs.Choices.{told, other}
use Rattle.hera_parser.proofs.program.last_main.Goals as goal

pub returns-then-not-next_is-clause-reads : goal.returns-then-not-next_is-clause-reads
returns-then-not-next_is-clause-reads c = choose phrases.last_main 1 (other phrases.last_main ((sym c.next_is.ensures ∙ c.if-not-next_is.true), tt))

pub returns-in_err-inner-clause-sticks : goal.returns-in_err-inner-clause-sticks
returns-in_err-inner-clause-sticks c h = stops (choose phrases.last_main 0 (told phrases.last_main 0 refl (sym c.next_is.ensures ∙ c.if-not-next_is.false))) (c.in_err-inner.ensures.sticks (search rules))

pub returns-clause-reads : goal.returns-clause-reads
returns-clause-reads c = next (choose phrases.last_main 0 (told phrases.last_main 0 refl (sym c.next_is.ensures ∙ c.if-not-next_is.false))) c.in_ok-inner.ensures.reads
