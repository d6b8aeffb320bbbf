use Rattle.std.proofs.Common.{◌≡◌, ◌+◌, refl, sym, ◌∙◌, subst, [], ◌∷◌, true, drop, get_or}
use Rattle.hera_syntax.specs.Grammar.{keep}
use Rattle.hera_syntax.specs.Outline.{hold}
use Rattle.hera_parser_exprs.specs.Reading.{Gives, stands, next_terminal}
use Rattle.hera_parser_exprs.proofs.Steps.{sticks_kept, expect_reads}
use Rattle.hera_parser_exprs.proofs.parser.Parser.expect.Goals as goal

pub returns-then-not-next_is-clause-sticks : goal.returns-then-not-next_is-clause-sticks
returns-then-not-next_is-clause-sticks c h = sticks_kept c.args.terminals.now refl (sym c.next_is.ensures ∙ c.if-not-next_is.true)

pub returns-clause-reads : goal.returns-clause-reads
returns-clause-reads c =
    subst (λ x. Gives (keep c.args.terminals.now ∷ []) x (hold (get_or c.self.inside.tokens.now c.self.inside.at c.index-self-self.result)) [] (drop (c.self.inside.at + 1) c.self.inside.tokens.now)) c.self.view_is
    (expect_reads c.args.terminals.now c.self.inside.tokens.now c.self.inside.at c.index-self-self.result (subst (λ x. stands c.args.terminals.now (next_terminal x) ≡ true) (sym c.self.view_is) (sym c.next_is.ensures ∙ c.if-not-next_is.false)))
