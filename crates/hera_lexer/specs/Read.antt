-- What the readings of a piece's bytes give.
use Rattle.std.specs.Prelude.{ℕ, List, [], ◌∷◌, Option, Bool, true, false, cond, ◌==◌, find}
use Rattle.std.specs.Str.{bytes_eq}
use Rattle.hera_syntax.specs.declared.words.Keyword.{Keyword}
use Rattle.hera_syntax.specs.Words.{keyword_text, all_keywords}

-- the keyword that is written so
abbrev pub keyword_of : List ℕ → Option Keyword
keyword_of word = find (λ k. bytes_eq (keyword_text k) word) all_keywords

-- what a byte behind a `\` stands for
abbrev pub escaped_byte : ℕ → ℕ
escaped_byte b = cond (b == 110) 10 (cond (b == 116) 9 b)

-- the value that the bytes of a text spell, behind a `\` or not
abbrev pub value_of : Bool → List ℕ → List ℕ
value_of escaped [] = []
value_of true (b ∷ bs) = escaped_byte b ∷ value_of false bs
value_of false (b ∷ bs) = cond (b == 92) (value_of true bs) (b ∷ value_of false bs)
