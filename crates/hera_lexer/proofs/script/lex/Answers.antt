use Rattle.std.proofs.Common.{◌≡◌, ◌∙◌, ap, sym, subst, None}
use Rattle.hera_syntax.specs.Lex.{Lex}
use Rattle.hera_syntax.specs.Tokens.{deep_at}
use Rattle.hera_lexer.proofs.Kept.{are_tokens}
use Rattle.hera_lexer.proofs.script.lex.Goals as goal

pub new-requires : goal.new-requires
new-requires c =
    let text : c.in_ok-text.text.now ≡ c.args.bytes.now = c.in_ok-text.ensures.ok.0 in
    let shallow : deep_at 0 c.in_ok-tokens.tokens.items ≡ None = ap (deep_at 0) (sym c.as_slice.ensures.value) ∙ sym c.in_default.ensures in
    are_tokens c.args.bytes.now c.in_ok-tokens.tokens.items (subst (λ bs. Lex bs c.in_ok-tokens.tokens.items) text c.in_ok-tokens.ensures.ok) c.requires shallow
