use Rattle.std.proofs.Common.{refl, sym, ◌∙◌}
use Rattle.hera_syntax.specs.Grammar as phrases
use Rattle.hera_parser_exprs.proofs.Choices.{told}
use Rattle.hera_parser_exprs.proofs.parser.Parser.prime_form.Goals as goal

pub returns-then-next_is : goal.returns-then-next_is
returns-then-next_is c = told phrases.prime 0 refl (sym c.next_is.ensures ∙ c.if-next_is.true)

pub returns-then-next_is-2 : goal.returns-then-next_is-2
returns-then-next_is-2 c = told phrases.prime 1 refl (sym c.next_is-2.ensures ∙ c.if-next_is-2.true)

pub returns-then-next_is-3 : goal.returns-then-next_is-3
returns-then-next_is-3 c = told phrases.prime 2 refl (sym c.next_is-3.ensures ∙ c.if-next_is-3.true)

pub returns-then-next_is-4 : goal.returns-then-next_is-4
returns-then-next_is-4 c = told phrases.prime 3 refl (sym c.next_is-4.ensures ∙ c.if-next_is-4.true)

pub returns-then-next_is-5 : goal.returns-then-next_is-5
returns-then-next_is-5 c = told phrases.prime 4 refl (sym c.next_is-5.ensures ∙ c.if-next_is-5.true)

pub returns-then-next_is-6 : goal.returns-then-next_is-6
returns-then-next_is-6 c = told phrases.prime 5 refl (sym c.next_is-6.ensures ∙ c.if-next_is-6.true)

pub returns-then-next_is-7 : goal.returns-then-next_is-7
returns-then-next_is-7 c = told phrases.prime 6 refl (sym c.next_is-7.ensures ∙ c.if-next_is-7.true)

pub returns-then-next_is-8 : goal.returns-then-next_is-8
returns-then-next_is-8 c = told phrases.prime 7 refl (sym c.next_is-8.ensures ∙ c.if-next_is-8.true)

pub returns-then-next_is-9 : goal.returns-then-next_is-9
returns-then-next_is-9 c = told phrases.prime 8 refl (sym c.next_is-9.ensures ∙ c.if-next_is-9.true)

pub keyword_form-requires : goal.keyword_form-requires
keyword_form-requires c = (sym c.next_is.ensures ∙ c.if-next_is.false, (sym c.next_is-2.ensures ∙ c.if-next_is-2.false, (sym c.next_is-3.ensures ∙ c.if-next_is-3.false, (sym c.next_is-4.ensures ∙ c.if-next_is-4.false, (sym c.next_is-5.ensures ∙ c.if-next_is-5.false, (sym c.next_is-6.ensures ∙ c.if-next_is-6.false, (sym c.next_is-7.ensures ∙ c.if-next_is-7.false, (sym c.next_is-8.ensures ∙ c.if-next_is-8.false, (sym c.next_is-9.ensures ∙ c.if-next_is-9.false, tt)))))))))
