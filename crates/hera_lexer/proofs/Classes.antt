-- Which shapes may begin with a character.
use Rattle.std.proofs.Common.{◌≡◌, ℕ, ◌<◌, ◌≤◌, List, [], ◌∷◌, ◌++◌, length, Bool, true, cond, not, sym, refl, ap, ◌∙◌, subst, inl, inr, ⊎_elim, arith}
use Rattle.std.specs.Prelude.{◌||◌, ◌==◌, ◌⊎◌, is_some, nat_lt, nat_le}
use Rattle.std.proofs.lemmas.Bool.{cases_lt, ne_eqb, cond-true, cond-false, or_cases, eqb-true, agree_below_at, lt-ltb, le-ltb, leb-true, and_parts, and_from}
use Rattle.std.specs.List.{list_all}
use Rattle.std.specs.Char.{is_ascii_digit, is_ascii_alphabetic}
use Rattle.unicode_ident.specs.Ident.{is_xid_start, is_xid_continue}
use Rattle.unicode_ident.proofs.IdentLemmas.{is_xid_start-ascii, is_xid_continue-ascii, is_xid_start-is_xid_continue}
use Rattle.hera_syntax.specs.declared.words.Mark.{Mark}
use Rattle.hera_syntax.specs.declared.words.Mark.TheVariants as puncts
use Rattle.hera_syntax.specs.Words.{mark_text}
use Rattle.hera_syntax.specs.declared.token.PieceShape.{PieceShape}
use Rattle.hera_meaning.specs.Identifiers.{begins_word}
use Rattle.hera_syntax.specs.Lexemes.{IsPiece, blank, line_comment, comment, open_comment, word, digits, quoted, punct, HasNoEnd, Spells, is_blank}
use Rattle.hera_lexer.specs.Scan.{one_mark, two_mark}

pub data Class : Type 0 where
  blanks slashes numerals quotes marks letters others : Class

-- whether a mark begins so; `|` alone is none
abbrev pub is_mark : ℕ → Bool
is_mark c = (c == 124) || is_some (one_mark c)

abbrev pub ascii_class : Bool → ℕ → Class
ascii_class letter c = cond (is_blank c) blanks (cond (c == 47) slashes (cond (is_ascii_digit c) numerals (cond (c == 34) quotes (cond (is_mark c) marks (cond letter letters others)))))

unfoldable pub class_of : ℕ → Class
class_of c = cond (nat_lt c 128) (ascii_class ((c == 95) || is_ascii_alphabetic c) c) (cond (is_xid_start c) letters others)

-- what a piece of the class looks like
abbrev pub Looks : Class → List ℕ → Type 0
Looks blanks q = length q ≡ 1
Looks slashes q = (q ≡ 47 ∷ [])
    ⊎ (((body : List ℕ) × (q ≡ 47 ∷ 47 ∷ body) × (list_all (λ c. not (c == 10)) body ≡ true))
    ⊎ (((body : List ℕ) × (q ≡ 47 ∷ 42 ∷ (body ++ 42 ∷ 47 ∷ [])) × HasNoEnd body)
    ⊎ ((body : List ℕ) × (q ≡ 47 ∷ 42 ∷ body) × HasNoEnd body)))
Looks numerals q = list_all is_ascii_digit q ≡ true
Looks quotes q = (body : List ℕ) × (value : List ℕ) × (q ≡ 34 ∷ (body ++ 34 ∷ [])) × Spells body value
Looks marks q = ((a : ℕ) × (q ≡ a ∷ []) × (is_some (one_mark a) ≡ true)) ⊎ ((a : ℕ) × (b : ℕ) × (q ≡ a ∷ b ∷ []) × (is_some (two_mark a b) ≡ true))
Looks letters q = list_all is_xid_continue q ≡ true
Looks others q = ⊥

abbrev number_of_class : Class → ℕ
number_of_class blanks = 0
number_of_class slashes = 1
number_of_class numerals = 2
number_of_class quotes = 3
number_of_class marks = 4
number_of_class letters = 5
number_of_class others = 6

letters_only : (x : Class) → (number_of_class x == 5) ≡ true → x ≡ letters
letters_only letters h = refl
letters_only _ h = cc

numerals_only : (x : Class) → (number_of_class x == 2) ≡ true → x ≡ numerals
numerals_only numerals h = refl
numerals_only _ h = cc

blanks_only : (x : Class) → (number_of_class x == 0) ≡ true → x ≡ blanks
blanks_only blanks h = refl
blanks_only _ h = cc

abbrev pub is_letter : ℕ → Bool
is_letter c = (c == 95) || is_ascii_alphabetic c

abbrev pub ascii : ℕ → Class
ascii c = ascii_class (is_letter c) c

-- each of the first 128 numbers, looked at one by one
abbrev letter_agrees : ℕ → Bool
letter_agrees c = not (is_letter c) || (number_of_class (ascii c) == 5)

abbrev numeral_agrees : ℕ → Bool
numeral_agrees c = not (is_ascii_digit c) || (number_of_class (ascii c) == 2)

abbrev blank_agrees : ℕ → Bool
blank_agrees c = not (is_blank c) || (number_of_class (ascii c) == 0)

ascii_letter : (c : ℕ) → c < 128 → is_letter c ≡ true → ascii c ≡ letters
ascii_letter c low h = letters_only (ascii c) (sym (ap (λ v. not v || (number_of_class (ascii c) == 5)) h) ∙ agree_below_at letter_agrees (λ _. true) 128 c refl low)

ascii_numeral : (c : ℕ) → c < 128 → is_ascii_digit c ≡ true → ascii c ≡ numerals
ascii_numeral c low h = numerals_only (ascii c) (sym (ap (λ v. not v || (number_of_class (ascii c) == 2)) h) ∙ agree_below_at numeral_agrees (λ _. true) 128 c refl low)

ascii_blank : (c : ℕ) → c < 128 → is_blank c ≡ true → ascii c ≡ blanks
ascii_blank c low h = blanks_only (ascii c) (sym (ap (λ v. not v || (number_of_class (ascii c) == 0)) h) ∙ agree_below_at blank_agrees (λ _. true) 128 c refl low)

pub class_low : (c : ℕ) → c < 128 → class_of c ≡ ascii c
unfolding class_of
class_low c low = cond-true (nat_lt c 128) (ascii c) _ (lt-ltb c 128 low)

pub class_high : (c : ℕ) → 128 ≤ c → class_of c ≡ cond (is_xid_start c) letters others
unfolding class_of
class_high c high = cond-false (nat_lt c 128) (ascii c) _ (le-ltb c 128 high)

pub class_letter : (c : ℕ) → begins_word c ≡ true → class_of c ≡ letters
class_letter c h = ⊎_elim
    (λ low. class_low c low ∙ ascii_letter c low (ap (λ v. (c == 95) || v) (sym (is_xid_start-ascii c low)) ∙ h))
    (λ high. class_high c high ∙ cond-true (is_xid_start c) letters others (sym (ap (λ v. v || is_xid_start c) (ne_eqb c 95 (λ e. absurd (omega arith)))) ∙ h))
    (cases_lt c 128)

pub digit_low : (c : ℕ) → is_ascii_digit c ≡ true → c < 128
digit_low c h = let upper = leb-true c 57 (and_parts (nat_le 48 c) (nat_le c 57) h).1 in omega arith

pub class_numeral : (c : ℕ) → is_ascii_digit c ≡ true → class_of c ≡ numerals
class_numeral c h = class_low c (digit_low c h) ∙ ascii_numeral c (digit_low c h) h

pub blank_low : (c : ℕ) → is_blank c ≡ true → c < 128
blank_low c h = ⊎_elim (λ l. ⊎_elim (λ l. ⊎_elim
    (λ e. omega (arith, eqb-true c 32 e)) (λ e. omega (arith, eqb-true c 9 e)) (or_cases (c == 32) (c == 9) l))
    (λ e. omega (arith, eqb-true c 10 e)) (or_cases ((c == 32) || (c == 9)) (c == 10) l))
    (λ e. omega (arith, eqb-true c 13 e)) (or_cases ((c == 32) || (c == 9) || (c == 10)) (c == 13) h)

pub class_blank : (c : ℕ) → is_blank c ≡ true → class_of c ≡ blanks
class_blank c h = class_low c (blank_low c h) ∙ ascii_blank c (blank_low c h) h

-- a word goes on as it begins
pub word_continues : (c : ℕ) → begins_word c ≡ true → is_xid_continue c ≡ true
word_continues c h = ⊎_elim (λ e. ap is_xid_continue (eqb-true c 95 e) ∙ is_xid_continue-ascii 95 (omega arith)) (λ s. is_xid_start-is_xid_continue c s) (or_cases (c == 95) (is_xid_start c) h)

-- what a piece that begins with c looks like
record LooksAs (q : List ℕ) : Type 0 where
  here : (back cs : List ℕ) (c : ℕ) → q ++ back ≡ c ∷ cs → Looks (class_of c) q

looks_as : (d : ℕ) (ds : List ℕ) → Looks (class_of d) (d ∷ ds) → LooksAs (d ∷ ds)
looks_as d ds l = record { here = λ back cs c e. let same : d ≡ c = cc in subst (λ z. Looks (class_of z) (d ∷ ds)) same l }

one : (a : ℕ) → Looks (class_of a) (a ∷ []) → LooksAs (a ∷ [])
one a l = looks_as a [] l

two : (a b : ℕ) → Looks (class_of a) (a ∷ b ∷ []) → LooksAs (a ∷ b ∷ [])
two a b l = looks_as a (b ∷ []) l

mark_looks : (m : Mark) → LooksAs (mark_text m)
unfolding class_of
mark_looks puncts.OpenParen = one 40 (inl (40, refl, refl))
mark_looks puncts.CloseParen = one 41 (inl (41, refl, refl))
mark_looks puncts.OpenSquare = one 91 (inl (91, refl, refl))
mark_looks puncts.CloseSquare = one 93 (inl (93, refl, refl))
mark_looks puncts.OpenBrace = one 123 (inl (123, refl, refl))
mark_looks puncts.CloseBrace = one 125 (inl (125, refl, refl))
mark_looks puncts.Comma = one 44 (inl (44, refl, refl))
mark_looks puncts.Semicolon = one 59 (inl (59, refl, refl))
mark_looks puncts.Colon = one 58 (inl (58, refl, refl))
mark_looks puncts.Dot = one 46 (inl (46, refl, refl))
mark_looks puncts.Equals = one 61 (inl (61, refl, refl))
mark_looks puncts.EqualEqual = two 61 61 (inr (61, 61, refl, refl))
mark_looks puncts.NotEqual = two 33 61 (inr (33, 61, refl, refl))
mark_looks puncts.Less = one 60 (inl (60, refl, refl))
mark_looks puncts.LessEqual = two 60 61 (inr (60, 61, refl, refl))
mark_looks puncts.Greater = one 62 (inl (62, refl, refl))
mark_looks puncts.GreaterEqual = two 62 61 (inr (62, 61, refl, refl))
mark_looks puncts.Plus = one 43 (inl (43, refl, refl))
mark_looks puncts.Minus = one 45 (inl (45, refl, refl))
mark_looks puncts.Star = one 42 (inl (42, refl, refl))
mark_looks puncts.Slash = one 47 (inl refl)
mark_looks puncts.Percent = one 37 (inl (37, refl, refl))
mark_looks puncts.Bang = one 33 (inl (33, refl, refl))
mark_looks puncts.And = one 38 (inl (38, refl, refl))
mark_looks puncts.AndAnd = two 38 38 (inr (38, 38, refl, refl))
mark_looks puncts.OrOr = two 124 124 (inr (124, 124, refl, refl))

-- a piece that begins with c looks as its class says
pub looks : (k : PieceShape) (q back cs : List ℕ) (c : ℕ) → IsPiece k q → q ++ back ≡ c ∷ cs → Looks (class_of c) q
unfolding class_of
looks _ _ back cs c (blank {c = d} h) e = (looks_as d [] (subst (λ k. Looks k (d ∷ [])) (sym (class_blank d h)) refl)).here back cs c e
looks _ _ back cs c (line_comment {body} h) e = (looks_as 47 (47 ∷ body) (inr (inl (body, refl, h)))).here back cs c e
looks _ _ back cs c (comment {body} h) e = (looks_as 47 (42 ∷ (body ++ 42 ∷ 47 ∷ [])) (inr (inr (inl (body, refl, h))))).here back cs c e
looks _ _ back cs c (open_comment {body} h) e = (looks_as 47 (42 ∷ body) (inr (inr (inr (body, refl, h))))).here back cs c e
looks _ _ back cs c (word {c = d} {cs = ds} w) e =
    let both = and_parts (begins_word d) (list_all is_xid_continue ds) w in
    (looks_as d ds (subst (λ k. Looks k (d ∷ ds)) (sym (class_letter d both.0)) (and_from (is_xid_continue d) _ (word_continues d both.0) both.1))).here back cs c e
looks _ _ back cs c (digits {c = d} {cs = ds} h r) e =
    (looks_as d ds (subst (λ k. Looks k (d ∷ ds)) (sym (class_numeral d h)) (and_from (is_ascii_digit d) _ h r))).here back cs c e
looks _ _ back cs c (quoted {body} {value} h) e = (looks_as 34 (body ++ 34 ∷ []) (body, value, refl, h)).here back cs c e
looks _ _ back cs c (punct {m} {cs = q} h) e = subst (λ z. Looks (class_of c) z) h ((mark_looks m).here back cs c (ap (λ z. z ++ back) h ∙ e))
