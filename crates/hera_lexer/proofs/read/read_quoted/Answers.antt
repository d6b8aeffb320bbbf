use Rattle.std.proofs.Common.{◌∙◌, sym, ap, arith, length, subst, take, drop, ◌-◌, false}
use Rattle.hera_syntax.specs.Lexemes.{IsToken}
use Rattle.hera_syntax.specs.declared.token.PieceShape.TheVariants as shapes
use Rattle.hera_syntax.specs.declared.token.TokenKind.TheVariants as kinds
use Rattle.std.specs.Str.{chars}
use Rattle.hera_lexer.proofs.Values.{inside, quoted_token, quoted_refused, quoted_no_between}
use Rattle.hera_lexer.specs.Read.{value_of}
use Rattle.hera_meaning.specs.Texts.{IsText}
use Rattle.hera_lexer.proofs.Texts.{quoted_value}
use Rattle.hera_lexer.proofs.read.read_quoted.Goals as goal

pub overflow_sub-bytes : goal.overflow_sub-bytes
overflow_sub-bytes c = omega (arith, ap length c.as_bytes-bytes.ensures.value, (inside c.args.quoted.now c.utf8.quoted c.requires).0)

pub slice_bounds-value-count : goal.slice_bounds-value-count
slice_bounds-value-count c = omega (arith, ap length c.as_bytes-bytes.ensures.value, (inside c.args.quoted.now c.utf8.quoted c.requires).0)

pub slice_bounds-value-start : goal.slice_bounds-value-start
slice_bounds-value-start c = omega (arith, ap length c.as_bytes-bytes.ensures.value, (inside c.args.quoted.now c.utf8.quoted c.requires).0)

pub returns-in_default : goal.returns-in_default
returns-in_default c =
    let h = rw c.in_default.is at c.in_ok-value.ensures in
    let cut = (inside c.args.quoted.now c.utf8.quoted c.requires).1 in
    let body = ap (λ bs. length (value_of false (take (length bs - 1 - 1) (drop 1 bs)))) c.as_bytes-bytes.ensures.value ∙ ap (λ bs. length (value_of false bs)) cut in
    (quoted_no_between, quoted_refused c.args.quoted.now c.utf8.quoted c.requires (omega (arith, h, body)))

pub text_of-requires : goal.text_of-requires
text_of-requires c =
    let h = rw c.in-Some.is at c.in_ok-value.ensures in
    let cut = (inside c.args.quoted.now c.utf8.quoted c.requires).1 in
    let body = ap (λ bs. value_of false (take (length bs - 1 - 1) (drop 1 bs))) c.as_bytes-bytes.ensures.value ∙ ap (value_of false) cut in
    subst IsText (sym c.as_slice.ensures.value) (quoted_value c.args.quoted.now _ c.utf8.quoted c.requires (h.0 ∙ body) h.1)

pub returns : goal.returns
returns c =
    let h = rw c.in-Some.is at c.in_ok-value.ensures in
    let cut = (inside c.args.quoted.now c.utf8.quoted c.requires).1 in
    let body = ap (λ bs. value_of false (take (length bs - 1 - 1) (drop 1 bs))) c.as_bytes-bytes.ensures.value ∙ ap (value_of false) cut in
    subst (λ v. IsToken shapes.Quoted (chars c.args.quoted.now) (kinds.Text v)) (sym (c.in_ok-text.ensures ∙ c.as_slice.ensures.value))
    (quoted_token c.args.quoted.now _ c.utf8.quoted c.requires (h.0 ∙ body) h.1)
