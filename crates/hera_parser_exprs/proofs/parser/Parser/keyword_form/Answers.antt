use Rattle.std.proofs.Common.{refl, sym, ◌∙◌}
use Rattle.hera_syntax.specs.Grammar as phrases
use Rattle.hera_parser_exprs.proofs.Choices.{told, other}
use Rattle.hera_parser_exprs.proofs.parser.Parser.keyword_form.Goals as goal

pub returns-then-next_is : goal.returns-then-next_is
returns-then-next_is c = told phrases.prime 9 refl (sym c.next_is.ensures ∙ c.if-next_is.true)

pub returns-then-next_is-2 : goal.returns-then-next_is-2
returns-then-next_is-2 c = told phrases.prime 10 refl (sym c.next_is-2.ensures ∙ c.if-next_is-2.true)

pub returns-then-next_is-3 : goal.returns-then-next_is-3
returns-then-next_is-3 c = told phrases.prime 11 refl (sym c.next_is-3.ensures ∙ c.if-next_is-3.true)

pub returns-then-next_is-4 : goal.returns-then-next_is-4
returns-then-next_is-4 c = told phrases.prime 12 refl (sym c.next_is-4.ensures ∙ c.if-next_is-4.true)

pub returns-then-next_is-5 : goal.returns-then-next_is-5
returns-then-next_is-5 c = told phrases.prime 13 refl (sym c.next_is-5.ensures ∙ c.if-next_is-5.true)

pub returns-then-next_is-6 : goal.returns-then-next_is-6
returns-then-next_is-6 c = told phrases.prime 14 refl (sym c.next_is-6.ensures ∙ c.if-next_is-6.true)

pub returns-then-next_is-7 : goal.returns-then-next_is-7
returns-then-next_is-7 c = told phrases.prime 15 refl (sym c.next_is-7.ensures ∙ c.if-next_is-7.true)

pub returns-then-next_is-8 : goal.returns-then-next_is-8
returns-then-next_is-8 c = told phrases.prime 16 refl (sym c.next_is-8.ensures ∙ c.if-next_is-8.true)

pub returns-then-next_is-9 : goal.returns-then-next_is-9
returns-then-next_is-9 c = told phrases.prime 17 refl (sym c.next_is-9.ensures ∙ c.if-next_is-9.true)

pub returns : goal.returns
returns c = other phrases.prime (c.requires.0, (c.requires.1.0, (c.requires.1.1.0, (c.requires.1.1.1.0, (c.requires.1.1.1.1.0, (c.requires.1.1.1.1.1.0, (c.requires.1.1.1.1.1.1.0, (c.requires.1.1.1.1.1.1.1.0, (c.requires.1.1.1.1.1.1.1.1.0, (sym c.next_is.ensures ∙ c.if-next_is.false, (sym c.next_is-2.ensures ∙ c.if-next_is-2.false, (sym c.next_is-3.ensures ∙ c.if-next_is-3.false, (sym c.next_is-4.ensures ∙ c.if-next_is-4.false, (sym c.next_is-5.ensures ∙ c.if-next_is-5.false, (sym c.next_is-6.ensures ∙ c.if-next_is-6.false, (sym c.next_is-7.ensures ∙ c.if-next_is-7.false, (sym c.next_is-8.ensures ∙ c.if-next_is-8.false, (sym c.next_is-9.ensures ∙ c.if-next_is-9.false, tt))))))))))))))))))
