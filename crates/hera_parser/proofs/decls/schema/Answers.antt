use Rattle.std.proofs.Common.{rules, arith, refl, sym, ap, ◌∙◌, ◌∷◌, []}
use Rattle.hera_syntax.specs.Grammar.{phrase}
use Rattle.hera_syntax.specs.Grammar as phrases
use Rattle.hera_syntax.specs.Outline.{hold}
use Rattle.hera_syntax.specs.Programs.{attrs_outline}
use Rattle.hera_parser_exprs.proofs.Steps.{choose, next, stops, as_marks}
use Rattle.hera_parser_exprs.proofs.JoinedParts.{got, shortened, stops_in}
use Rattle.hera_parser_exprs.proofs.Choices.{told, other}
use Rattle.hera_parser.proofs.decls.schema.Goals as goal

pub returns-in_err-name-clause-sticks : goal.returns-in_err-name-clause-sticks
returns-in_err-name-clause-sticks c h = stops (choose phrases.schema 0 (told phrases.schema 0 refl (sym c.next_is.ensures ∙ c.if-next_is.true))) (c.in_err-name.ensures.sticks (search rules))

pub returns-then-next_is-clause-reads : goal.returns-then-next_is-clause-reads
returns-then-next_is-clause-reads c = as_marks c.name.ensures (next (choose phrases.schema 0 (told phrases.schema 0 refl (sym c.next_is.ensures ∙ c.if-next_is.true))) c.in_ok-name.ensures.reads)

pub returns-in_err-bracket-clause-sticks : goal.returns-in_err-bracket-clause-sticks
returns-in_err-bracket-clause-sticks c h = stops (choose phrases.schema 1 (other phrases.schema ((sym c.next_is.ensures ∙ c.if-next_is.false), tt))) (c.in_err-bracket.ensures.sticks (search rules))

pub returns-in_err-part-clause-sticks : goal.returns-in_err-part-clause-sticks
returns-in_err-part-clause-sticks c h = stops_in attrs_outline (next (choose phrases.schema 1 (other phrases.schema ((sym c.next_is.ensures ∙ c.if-next_is.false), tt))) c.in_ok-bracket.ensures.reads) c.attrs-attrs.ensures.reads c.attrs-attrs.ensures.sticks (c.in_err-part.ensures.sticks (search rules))

pub returns-clause-reads : goal.returns-clause-reads
returns-clause-reads c = as_marks c.written.ensures (next (next (next (choose phrases.schema 1 (other phrases.schema ((sym c.next_is.ensures ∙ c.if-next_is.false), tt))) (as_marks (ap hold c.in_ok-part.ensures.same) c.in_ok-bracket.ensures.reads)) (got attrs_outline (phrase phrases.attrs ∷ []) c.in_ok-part.ensures.read c.attrs-attrs.ensures.reads)) c.in_ok-part.ensures.reads)

pub returns-clause-shorter : goal.returns-clause-shorter
returns-clause-shorter c = omega (arith, c.in_ok-bracket.ensures.shorter, shortened c.in_ok-part.ensures.read c.attrs-attrs.ensures.shorter, c.in_ok-part.ensures.shorter)
