-- A piece has one shape.
use Rattle.std.proofs.Common.{◌≡◌, ℕ, List, [], ◌∷◌, false, cond, Option, Some, None, sym, refl, ap, ◌∙◌}
use Rattle.std.specs.Prelude.{◌==◌}
use Rattle.hera_syntax.specs.declared.words.Mark.{Mark}
use Rattle.hera_syntax.specs.declared.words.Mark.TheVariants as puncts
use Rattle.hera_syntax.specs.Words.{mark_text}
use Rattle.hera_syntax.specs.declared.token.PieceShape.{PieceShape}
use Rattle.hera_syntax.specs.declared.token.PieceShape.TheVariants as shapes
use Rattle.std.proofs.lemmas.Bool.{and_parts}
use Rattle.std.specs.List.{list_all}
use Rattle.unicode_ident.specs.Ident.{is_xid_continue}
use Rattle.hera_meaning.specs.Identifiers.{begins_word}
use Rattle.hera_syntax.specs.Lexemes.{IsPiece, blank, line_comment, comment, open_comment, word, digits, quoted, punct, HasNoEnd}
use Rattle.hera_lexer.specs.Scan.{comment_len, one_mark, two_mark}
use Rattle.hera_lexer.proofs.Classes.{Class, blanks, slashes, numerals, quotes, marks, letters, others, class_of, class_blank, class_numeral, class_letter}
use Rattle.hera_lexer.proofs.Comments.{comment_found, comment_ends}

abbrev pub mark_shape : Option Mark → PieceShape
mark_shape None = shapes.Blank
mark_shape (Some i) = shapes.Punct i

abbrev pub comment_shape : Option ℕ → PieceShape
comment_shape None = shapes.OpenComment
comment_shape (Some m) = shapes.Comment

abbrev pub class_shape : Class → ℕ → List ℕ → PieceShape
class_shape blanks c cs = shapes.Blank
class_shape slashes c [] = shapes.Punct puncts.Slash
class_shape slashes c (d ∷ ds) = cond (d == 47) shapes.LineComment (comment_shape (comment_len false ds))
class_shape numerals c cs = shapes.Digits
class_shape quotes c cs = shapes.Quoted
class_shape marks c [] = mark_shape (one_mark c)
class_shape marks c (d ∷ ds) = mark_shape (two_mark c d)
class_shape letters c cs = shapes.Word
class_shape others c cs = shapes.Blank

unfoldable pub shape_of : List ℕ → PieceShape
shape_of [] = shapes.Blank
shape_of (c ∷ cs) = class_shape (class_of c) c cs

mark_shaped : (m : Mark) → shape_of (mark_text m) ≡ shapes.Punct m
unfolding shape_of class_of
mark_shaped puncts.OpenParen = refl
mark_shaped puncts.CloseParen = refl
mark_shaped puncts.OpenSquare = refl
mark_shaped puncts.CloseSquare = refl
mark_shaped puncts.OpenBrace = refl
mark_shaped puncts.CloseBrace = refl
mark_shaped puncts.Comma = refl
mark_shaped puncts.Semicolon = refl
mark_shaped puncts.Colon = refl
mark_shaped puncts.Dot = refl
mark_shaped puncts.Equals = refl
mark_shaped puncts.EqualEqual = refl
mark_shaped puncts.NotEqual = refl
mark_shaped puncts.Less = refl
mark_shaped puncts.LessEqual = refl
mark_shaped puncts.Greater = refl
mark_shaped puncts.GreaterEqual = refl
mark_shaped puncts.Plus = refl
mark_shaped puncts.Minus = refl
mark_shaped puncts.Star = refl
mark_shaped puncts.Slash = refl
mark_shaped puncts.Percent = refl
mark_shaped puncts.Bang = refl
mark_shaped puncts.And = refl
mark_shaped puncts.AndAnd = refl
mark_shaped puncts.OrOr = refl

no_end_none : (body : List ℕ) → HasNoEnd body → (o : Option ℕ) → comment_len false body ≡ o → comment_shape o ≡ shapes.OpenComment
no_end_none body h None e = refl
no_end_none body h (Some m) e = let at = comment_found body m e in absurd (h at.body at.more at.cut)

pub shape_is : (k : PieceShape) (q : List ℕ) → IsPiece k q → shape_of q ≡ k
unfolding shape_of class_of
shape_is _ _ (blank {c} h) = ap (λ k. class_shape k c []) (class_blank c h)
shape_is _ _ (line_comment {body} h) = refl
shape_is _ _ (comment {body} h) = ap comment_shape (comment_ends body [] false h)
shape_is _ _ (open_comment {body} h) = no_end_none body h _ refl
shape_is _ _ (word {c} {cs} w) = ap (λ k. class_shape k c cs) (class_letter c (and_parts (begins_word c) (list_all is_xid_continue cs) w).0)
shape_is _ _ (digits {c} {cs} h r) = ap (λ k. class_shape k c cs) (class_numeral c h)
shape_is _ _ (quoted {body} {value} h) = refl
shape_is _ _ (punct {m} {cs} h) = ap shape_of (sym h) ∙ mark_shaped m

-- two shapes of one piece are one
pub one_shape : (k j : PieceShape) (q : List ℕ) → IsPiece k q → IsPiece j q → k ≡ j
one_shape k j q h g = sym (shape_is k q h) ∙ shape_is j q g
