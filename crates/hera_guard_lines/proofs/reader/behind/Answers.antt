use Rattle.std.proofs.Common.{◌≡◌, ◌∙◌, ◌∷◌, true, false, sym, ap}
use Rattle.hera_syntax.specs.declared.token.Terminal.TheVariants.{Punct}
use Rattle.hera_syntax.specs.Grammar.{terminal_of, same_terminal}
use Rattle.hera_guard_lines.proofs.Steps.{none_left, other_stands, mark_read}
use Rattle.hera_guard_lines.proofs.reader.behind.Goals as goal

pub returns-in_default-clause-stops : goal.returns-in_default-clause-stops
returns-in_default-clause-stops c = λ wanted. none_left (Punct c.args.mark) wanted c.args.tokens.now c.in_default.ensures.cases

pub returns-then-stands-clause-reads : goal.returns-then-stands-clause-reads
returns-then-stands-clause-reads c =
    let t = c.in-Some.cut.0.now in
    let same : same_terminal (Punct c.args.mark) (terminal_of t.kind) ≡ true = ap (same_terminal (Punct c.args.mark)) (sym c.terminal.ensures) ∙ sym c.is-stands.ensures ∙ c.if-stands.true in
    (t.at, c.in-Some.ensures.cases.0 ∙ ap (λ u. u ∷ c.in-Some.cut.1.now) (mark_read c.args.mark t same))

pub returns-clause-stops : goal.returns-clause-stops
returns-clause-stops c = λ wanted.
    let t = c.in-Some.cut.0.now in
    let other : same_terminal (Punct c.args.mark) (terminal_of t.kind) ≡ false = ap (same_terminal (Punct c.args.mark)) (sym c.terminal.ensures) ∙ sym c.is-stands.ensures ∙ c.if-stands.false in
    other_stands (Punct c.args.mark) wanted c.args.tokens.now c.in-Some.cut.1.now t c.in-Some.ensures.cases.0 other
