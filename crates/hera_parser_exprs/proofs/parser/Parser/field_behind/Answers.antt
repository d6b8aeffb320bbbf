use Rattle.std.proofs.Common.{rules, refl, sym, ◌∙◌}
use Rattle.hera_syntax.specs.Grammar as phrases
use Rattle.hera_parser_exprs.proofs.Steps.{choose, next, stops}
use Rattle.hera_parser_exprs.proofs.Choices.{told, other}
use Rattle.hera_parser_exprs.proofs.parser.Parser.field_behind.Goals as goal

pub returns-then-not-next_is-clause-reads : goal.returns-then-not-next_is-clause-reads
returns-then-not-next_is-clause-reads g c = choose phrases.field 1 (other phrases.field ((sym c.next_is.ensures ∙ c.if-not-next_is.true), tt))

pub returns-in_err-skip-clause-sticks : goal.returns-in_err-skip-clause-sticks
returns-in_err-skip-clause-sticks g c h = stops (choose phrases.field 0 (told phrases.field 0 refl (sym c.next_is.ensures ∙ c.if-not-next_is.false))) (c.in_err-skip.ensures.sticks (search rules))

pub returns-in_err-name-clause-sticks : goal.returns-in_err-name-clause-sticks
returns-in_err-name-clause-sticks g c h = stops (next (choose phrases.field 0 (told phrases.field 0 refl (sym c.next_is.ensures ∙ c.if-not-next_is.false))) c.in_ok-skip.ensures.reads) (c.in_err-name.ensures.sticks (search rules))

pub returns-clause-reads : goal.returns-clause-reads
returns-clause-reads g c = next (next (choose phrases.field 0 (told phrases.field 0 refl (sym c.next_is.ensures ∙ c.if-not-next_is.false))) c.in_ok-skip.ensures.reads) c.in_ok-name.ensures.reads
