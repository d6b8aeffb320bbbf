use Rattle.std.proofs.Common.{◌≡◌, ◌∙◌, sym, subst}
use Rattle.hera_syntax.specs.Lexemes.{IsToken}
use Rattle.hera_syntax.specs.declared.token.PieceShape.TheVariants as shapes
use Rattle.hera_syntax.specs.declared.token.TokenKind.TheVariants as kinds
use Rattle.hera_meaning.specs.Texts.{IsText}
use Rattle.std.specs.Str.{chars}
use Rattle.hera_lexer.proofs.Values.{word_key, word_ident, word_refused, word_no_between}
use Rattle.hera_lexer.proofs.Texts.{word_text}
use Rattle.hera_lexer.proofs.read.read_word.Goals as goal

pub returns-in-Some : goal.returns-in-Some
returns-in-Some c = word_key c.args.word.now _ (sym c.in-Some.ensures)

pub returns-then-word-gt-NAME_LIMIT : goal.returns-then-word-gt-NAME_LIMIT
returns-then-word-gt-NAME_LIMIT c = (word_no_between, word_refused c.args.word.now c.utf8.word (sym c.in_default.ensures) c.if-word-gt-NAME_LIMIT.true)

pub text_of-requires : goal.text_of-requires
text_of-requires c =
    subst IsText (sym c.as_bytes.ensures.value) (word_text c.args.word.now c.utf8.word c.requires c.if-word-gt-NAME_LIMIT.false)

pub returns : goal.returns
returns c =
    let same : c.in_ok-name.name ≡ c.args.word.now = c.in_ok-name.ensures ∙ c.as_bytes.ensures.value in
    subst (λ v. IsToken shapes.Word (chars c.args.word.now) (kinds.Ident v)) (sym same) (word_ident c.args.word.now c.utf8.word (sym c.in_default.ensures) c.if-word-gt-NAME_LIMIT.false)
