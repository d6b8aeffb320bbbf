use Rattle.std.proofs.Common.{sym, subst, ⊎_elim}
use Rattle.std.specs.Str.{chars}
use Rattle.hera_syntax.specs.declared.token.TokenKind.TheVariants as kinds
use Rattle.hera_syntax.specs.Lexemes.{blank, line_comment, comment, punct, IsBetween, IsToken}
use Rattle.hera_lexer.proofs.Values.{open_refused, open_no_between}
use Rattle.hera_lexer.proofs.read.read.Goals as goal

pub returns-in-Blank : goal.returns-in-Blank
returns-in-Blank c = ⊎_elim
    (λ e. subst IsBetween (sym e) blank)
    (λ other. ⊎_elim (λ e. subst IsBetween (sym e) line_comment) (λ e. subst IsBetween (sym e) comment) other)
    c.in-Blank.is

pub returns-in-OpenComment : goal.returns-in-OpenComment
returns-in-OpenComment c = (
  λ h. open_no_between (subst IsBetween c.in-OpenComment.is h),
  λ kind h. open_refused (chars c.args.piece.now) kind (subst (λ k. IsToken k (chars c.args.piece.now) kind) c.in-OpenComment.is h),
)

pub returns-in-Punct : goal.returns-in-Punct
returns-in-Punct c = subst (λ k. IsToken k (chars c.args.piece.now) (kinds.Punct c.in-Punct.mark)) (sym c.in-Punct.is) punct
