use Rattle.std.proofs.Common.{sym, ◌∙◌, ◌∷◌, []}
use Rattle.hera_syntax.specs.Grammar.{leave}
use Rattle.hera_syntax.specs.Outline.{skip}
use Rattle.std.proofs.Common.{◌≡◌, ◌+◌, subst, true, drop}
use Rattle.hera_parser_exprs.specs.Reading.{Gives, stands, next_terminal}
use Rattle.hera_parser_exprs.proofs.Steps.{skip_reads}
use Rattle.hera_parser_exprs.proofs.parser.Parser.takes.Goals as goal

pub returns-clause-reads : goal.returns-clause-reads
returns-clause-reads c h =
    subst (λ x. Gives (leave c.args.terminal ∷ []) x (skip c.args.terminal) [] (drop (c.self.inside.at + 1) c.self.inside.tokens.now)) c.self.view_is
    (skip_reads c.args.terminal c.self.inside.tokens.now c.self.inside.at (subst (λ x. stands (c.args.terminal ∷ []) (next_terminal x) ≡ true) (sym c.self.view_is) (sym c.next_is.ensures ∙ c.if-not-next_is.false)))
