-- What the scans of the bytes in front give.
use Rattle.std.specs.Prelude.{ℕ, ◌+◌, List, [], ◌∷◌, Option, Some, None, Bool, true, false, cond, not, ◌&&◌, ◌||◌, ◌==◌, length, drop, slice_index, slice_get}
use Rattle.std.specs.List.{prefix_len, take_while}
use Rattle.std.specs.Char.{is_ascii_digit}
use Rattle.std.specs.Str.{encode_utf8_all, chars}
use Rattle.unicode_ident.specs.Ident.{is_xid_continue}
use Rattle.hera_syntax.specs.declared.words.Mark.{Mark}
use Rattle.hera_syntax.specs.declared.words.Mark.TheVariants as puncts
use Rattle.hera_syntax.specs.declared.token.PieceShape.{PieceShape}
use Rattle.hera_syntax.specs.declared.token.PieceShape.TheVariants as shapes
use Rattle.hera_meaning.specs.Identifiers.{begins_word}
use Rattle.hera_syntax.specs.Lexemes.{is_blank, is_plain}

abbrev pub line_len : List ℕ → ℕ
line_len bs = prefix_len (λ b. not (b == 10)) bs

abbrev pub farther : ℕ → Option ℕ → Option ℕ
farther n None = None
farther n (Some m) = Some (n + m)

-- behind a star or not, the bytes before the `/` of the first `*/`
abbrev pub comment_len : Bool → List ℕ → Option ℕ
comment_len star [] = None
comment_len star (b ∷ bs) = cond (star && (b == 47)) (Some 0) (farther 1 (comment_len (b == 42) bs))

abbrev pub is_escape : ℕ → Bool
is_escape b = (b == 34) || (b == 92) || (b == 110) || (b == 116)

abbrev pub quoted_len : Bool → List ℕ → Option ℕ
quoted_len escaped [] = None
quoted_len true (b ∷ bs) = cond (is_escape b) (farther 1 (quoted_len false bs)) None
quoted_len false (b ∷ bs) = cond (b == 34) (Some 0) (cond (b == 92) (farther 1 (quoted_len true bs)) (cond (is_plain b) (farther 1 (quoted_len false bs)) None))

abbrev pub word_len : List ℕ → ℕ
word_len bs = length (encode_utf8_all (take_while is_xid_continue (chars bs)))

-- the word in front of the bytes, whose first character this is
abbrev pub word_of : Option ℕ → List ℕ → Option (PieceShape × ℕ)
word_of None bs = None
word_of (Some c) bs = cond (begins_word c) (Some (shapes.Word, word_len bs)) None

abbrev pub two_mark : ℕ → ℕ → Option Mark
two_mark a b =
    cond ((a == 61) && (b == 61)) (Some puncts.EqualEqual)
    (cond ((a == 33) && (b == 61)) (Some puncts.NotEqual)
    (cond ((a == 60) && (b == 61)) (Some puncts.LessEqual)
    (cond ((a == 62) && (b == 61)) (Some puncts.GreaterEqual)
    (cond ((a == 38) && (b == 38)) (Some puncts.AndAnd)
    (cond ((a == 124) && (b == 124)) (Some puncts.OrOr) None)))))

abbrev pub one_mark : ℕ → Option Mark
one_mark a =
    cond (a == 40) (Some puncts.OpenParen) (cond (a == 41) (Some puncts.CloseParen) (cond (a == 91) (Some puncts.OpenSquare) (cond (a == 93) (Some puncts.CloseSquare) (cond (a == 123) (Some puncts.OpenBrace) (cond (a == 125) (Some puncts.CloseBrace)
    (cond (a == 44) (Some puncts.Comma) (cond (a == 59) (Some puncts.Semicolon) (cond (a == 58) (Some puncts.Colon) (cond (a == 46) (Some puncts.Dot) (cond (a == 61) (Some puncts.Equals) (cond (a == 60) (Some puncts.Less)
    (cond (a == 62) (Some puncts.Greater) (cond (a == 43) (Some puncts.Plus) (cond (a == 45) (Some puncts.Minus) (cond (a == 42) (Some puncts.Star) (cond (a == 47) (Some puncts.Slash) (cond (a == 37) (Some puncts.Percent)
    (cond (a == 33) (Some puncts.Bang) (cond (a == 38) (Some puncts.And) None)))))))))))))))))))

abbrev pub mark_of : Option Mark → Option Mark → Option (PieceShape × ℕ) → Option (PieceShape × ℕ)
mark_of (Some m) one otherwise = Some (shapes.Punct m, 2)
mark_of None (Some m) otherwise = Some (shapes.Punct m, 1)
mark_of None None otherwise = otherwise

abbrev pub comment_of : Option ℕ → ℕ → Option (PieceShape × ℕ)
comment_of None len = Some (shapes.OpenComment, len)
comment_of (Some n) len = Some (shapes.Comment, n + 3)

abbrev pub quoted_of : Option ℕ → Option (PieceShape × ℕ)
quoted_of None = None
quoted_of (Some n) = Some (shapes.Quoted, n + 2)

abbrev pub scan_of : List ℕ → Option (PieceShape × ℕ)
scan_of [] = None
scan_of (a ∷ bs) =
    cond (is_blank a) (Some (shapes.Blank, 1))
    (cond ((a == 47) && (slice_index bs 0 == 47)) (Some (shapes.LineComment, 2 + line_len (drop 1 bs)))
    (cond ((a == 47) && (slice_index bs 0 == 42)) (comment_of (comment_len false (drop 1 bs)) (1 + length bs))
    (cond (is_ascii_digit a) (Some (shapes.Digits, prefix_len is_ascii_digit (a ∷ bs)))
    (cond (a == 34) (quoted_of (quoted_len false bs))
    (mark_of (two_mark a (slice_index bs 0)) (one_mark a) (word_of (slice_get (chars (a ∷ bs)) 0) (a ∷ bs)))))))
