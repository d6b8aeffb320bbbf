-- What a piece's bytes say of its characters.
use Rattle.std.proofs.Common.{◌≡◌, ℕ, suc, ◌<◌, ◌≤◌, List, [], ◌∷◌, ◌++◌, length, take, drop, Bool, true, false, Some, None, sym, refl, ap, ◌∙◌, subst, inl, inr, ⊎_elim, arith, IsUtf8}
use Rattle.std.specs.Prelude.{ℤ, pos, ◌-◌, ◌^◌, ◌==◌, ◌⊎◌, nat_lt, cond, find}
use Rattle.std.specs.List.{list_all}
use Rattle.std.specs.Str.{bytes_eq, chars, all_ascii_digits}
use Rattle.std.specs.Char.{is_ascii_digit}
use Rattle.std.proofs.Math.Utf8.{encode, encodes, scalars, scalar}
use Rattle.std.proofs.lemmas.Str.{encode_ascii, chars-encodes, encodes-chars, encodes-append}
use Rattle.std.proofs.lemmas.List.{length-append, take_at, append_cancel_right}
use Rattle.std.proofs.lemmas.Option.{same_Some}
use Rattle.std.proofs.lemmas.Bool.{cases_lt, cases_Bool, cond-true, cond-false, and_parts, and_from, eqb-true, ltb-true, lt-ltb}
use Rattle.std.proofs.lemmas.Bool.Decides.{nat_tests}
use Rattle.hera_syntax.specs.declared.words.Keyword.{Keyword}
use Rattle.hera_syntax.specs.declared.words.Keyword.TheVariants as keys
use Rattle.hera_syntax.specs.Words.{keyword_text, all_keywords}
use Rattle.hera_meaning.specs.Texts.{text_limit}
use Rattle.hera_meaning.specs.Identifiers.{identifier_limit}
use Rattle.hera_syntax.specs.declared.token.PieceShape.TheVariants as shapes
use Rattle.hera_syntax.specs.declared.token.TokenKind.TheVariants as kinds
use Rattle.hera_syntax.specs.declared.token.TokenKind.{TokenKind}
use Rattle.hera_syntax.specs.Lexemes.{IsPiece, IsToken, IsBetween, ident, key, int, text, digits, quoted, Spells, nothing, plain, escaped, escape_of, number_of}
use Rattle.hera_syntax.specs.Lex.{size}
use Rattle.hera_lexer.specs.Read.{value_of, escaped_byte, keyword_of}
use Rattle.hera_lexer.proofs.Bytes.{AllHigh, encode_high, encodes_ascii, not_at}
use Rattle.hera_lexer.proofs.Classes.{digit_low}
use Rattle.hera_lexer.proofs.Quotes.{plain_tests}

-- ASCII characters are their bytes
abbrev pub all_low : List ℕ → Bool
all_low cs = list_all (λ c. nat_lt c 128) cs

pub encodes_low : (cs : List ℕ) → all_low cs ≡ true → encodes cs ≡ cs
encodes_low [] h = refl
encodes_low (c ∷ cs) h = let both = and_parts (nat_lt c 128) (all_low cs) h in encodes_ascii c cs (ltb-true c 128 both.0) ∙ ap (λ xs. c ∷ xs) (encodes_low cs both.1)

pub scalar_low : (c : ℕ) → c < 128 → scalar c ≡ true
scalar_low c low = grind (arith, nat_tests)

scalars_low : (cs : List ℕ) → all_low cs ≡ true → scalars cs ≡ true
scalars_low [] h = refl
scalars_low (c ∷ cs) h =
    let both = and_parts (nat_lt c 128) (all_low cs) h in
    let low = ltb-true c 128 both.0 in
    and_from (scalar c) (scalars cs) (scalar_low c low) (scalars_low cs both.1)

pub chars_low : (cs : List ℕ) → all_low cs ≡ true → chars cs ≡ cs
chars_low cs h = ap chars (sym (encodes_low cs h)) ∙ chars-encodes cs (scalars_low cs h)

-- each keyword is ASCII
key_low : (k : Keyword) → all_low (keyword_text k) ≡ true
key_low keys.Relation = refl
key_low keys.Func = refl
key_low keys.Proc = refl
key_low keys.Main = refl
key_low keys.Int = refl
key_low keys.Bool = refl
key_low keys.Text = refl
key_low keys.Delta = refl
key_low keys.Rel = refl
key_low keys.Tuple = refl
key_low keys.If = refl
key_low keys.Else = refl
key_low keys.While = refl
key_low keys.Foreach = refl
key_low keys.In = refl
key_low keys.Print = refl
key_low keys.Apply = refl
key_low keys.Commit = refl
key_low keys.Rollback = refl
key_low keys.Assert = refl
key_low keys.Return = refl
key_low keys.True = refl
key_low keys.False = refl
key_low keys.Fail = refl
key_low keys.When = refl
key_low keys.Rows = refl
key_low keys.Select = refl
key_low keys.Map = refl
key_low keys.Project = refl
key_low keys.Rename = refl
key_low keys.Union = refl
key_low keys.Minus = refl
key_low keys.Inter = refl
key_low keys.Join = refl
key_low keys.Group = refl
key_low keys.By = refl
key_low keys.Count = refl
key_low keys.Empty = refl
key_low keys.Sum = refl
key_low keys.Min = refl
key_low keys.Max = refl
key_low keys.IsFail = refl
key_low keys.Bulk = refl
key_low keys.Ins = refl
key_low keys.Del = refl

keyword_low : (k : Keyword) (w : List ℕ) → keyword_text k ≡ w → all_low w ≡ true
keyword_low k w e = ap all_low (sym e) ∙ key_low k

-- each keyword is the one of its text
pub keyword_known : (k : Keyword) → keyword_of (keyword_text k) ≡ Some k
keyword_known keys.Relation = refl
keyword_known keys.Func = refl
keyword_known keys.Proc = refl
keyword_known keys.Main = refl
keyword_known keys.Int = refl
keyword_known keys.Bool = refl
keyword_known keys.Text = refl
keyword_known keys.Delta = refl
keyword_known keys.Rel = refl
keyword_known keys.Tuple = refl
keyword_known keys.If = refl
keyword_known keys.Else = refl
keyword_known keys.While = refl
keyword_known keys.Foreach = refl
keyword_known keys.In = refl
keyword_known keys.Print = refl
keyword_known keys.Apply = refl
keyword_known keys.Commit = refl
keyword_known keys.Rollback = refl
keyword_known keys.Assert = refl
keyword_known keys.Return = refl
keyword_known keys.True = refl
keyword_known keys.False = refl
keyword_known keys.Fail = refl
keyword_known keys.When = refl
keyword_known keys.Rows = refl
keyword_known keys.Select = refl
keyword_known keys.Map = refl
keyword_known keys.Project = refl
keyword_known keys.Rename = refl
keyword_known keys.Union = refl
keyword_known keys.Minus = refl
keyword_known keys.Inter = refl
keyword_known keys.Join = refl
keyword_known keys.Group = refl
keyword_known keys.By = refl
keyword_known keys.Count = refl
keyword_known keys.Empty = refl
keyword_known keys.Sum = refl
keyword_known keys.Min = refl
keyword_known keys.Max = refl
keyword_known keys.IsFail = refl
keyword_known keys.Bulk = refl
keyword_known keys.Ins = refl
keyword_known keys.Del = refl

same_bytes : (x w : List ℕ) → bytes_eq x w ≡ true → x ≡ w
same_bytes [] [] h = refl
same_bytes [] (b ∷ w) h = cc
same_bytes (a ∷ x) [] h = cc
same_bytes (a ∷ x) (b ∷ w) h = let both = and_parts (a == b) (bytes_eq x w) h in ap (λ z. z ∷ x) (eqb-true a b both.0) ∙ ap (λ z. b ∷ z) (same_bytes x w both.1)

-- the first of some keywords with this text has it
found_first : (ks : List Keyword) (w : List ℕ) (j k : Keyword) (b : Bool) → bytes_eq (keyword_text j) w ≡ b → (find (λ k. bytes_eq (keyword_text k) w) ks ≡ Some k → keyword_text k ≡ w)
    → cond b (Some j) (find (λ k. bytes_eq (keyword_text k) w) ks) ≡ Some k → keyword_text k ≡ w
found_first ks w j k true h later e = ap keyword_text (sym (same_Some j k e)) ∙ same_bytes (keyword_text j) w h
found_first ks w j k false h later e = later e

found_text : (ks : List Keyword) (w : List ℕ) (k : Keyword) → find (λ k. bytes_eq (keyword_text k) w) ks ≡ Some k → keyword_text k ≡ w
found_text [] w k e = cc
found_text (j ∷ ks) w k e = found_first ks w j k (bytes_eq (keyword_text j) w) refl (found_text ks w k) e

-- a word
pub word_key : (w : List ℕ) (k : Keyword) → keyword_of w ≡ Some k → IsToken shapes.Word (chars w) (kinds.Key k)
word_key w k e =
    let at = found_text all_keywords w k e in
    key (at ∙ sym (chars_low w (keyword_low k w at)))

no_key : (w : List ℕ) → IsUtf8 w → keyword_of w ≡ None → (k : Keyword) → keyword_text k ≡ chars w → ⊥
no_key w u none k e =
    let same : w ≡ keyword_text k = sym (encodes-chars w u) ∙ encodes_low (chars w) (keyword_low k (chars w) e) ∙ sym e in
    let some : Some k ≡ None = sym (keyword_known k) ∙ ap keyword_of (sym same) ∙ none in cc

pub word_ident : (w : List ℕ) → IsUtf8 w → keyword_of w ≡ None → length w ≤ identifier_limit → IsToken shapes.Word (chars w) (kinds.Ident w)
word_ident w u none short =
    let same = encodes-chars w u in
    let fits : size (chars w) ≤ identifier_limit = omega (arith, ap length same) in
    subst (λ v. IsToken shapes.Word (chars w) (kinds.Ident v)) same (ident (no_key w u none) fits)

word_refused_at : (cs : List ℕ) (kind : TokenKind) → ((k : Keyword) → keyword_text k ≡ cs → ⊥) → identifier_limit < size cs → IsToken shapes.Word cs kind → ⊥
word_refused_at cs _ none long (ident h l) = omega arith
word_refused_at cs _ none long (key {k} h) = none k h

pub word_refused : (w : List ℕ) → IsUtf8 w → keyword_of w ≡ None → identifier_limit < length w → (kind : TokenKind) → IsToken shapes.Word (chars w) kind → ⊥
word_refused w u none long kind h = word_refused_at (chars w) kind (no_key w u none) (let same = ap length (encodes-chars w u) in omega arith) h

-- digits
digits_all : (cs : List ℕ) → list_all is_ascii_digit cs ≡ true → all_ascii_digits cs ≡ true
digits_all [] h = refl
digits_all (c ∷ cs) h = let both = and_parts (is_ascii_digit c) (list_all is_ascii_digit cs) h in and_from (is_ascii_digit c) _ both.0 (digits_all cs both.1)

digits_low : (cs : List ℕ) → list_all is_ascii_digit cs ≡ true → all_low cs ≡ true
digits_low [] h = refl
digits_low (c ∷ cs) h = let both = and_parts (is_ascii_digit c) (list_all is_ascii_digit cs) h in and_from (nat_lt c 128) (all_low cs) (lt-ltb c 128 (digit_low c both.0)) (digits_low cs both.1)

pub record IsDigits (cs : List ℕ) : Type 0 where
  pub some : 0 < length cs
  pub each : list_all is_ascii_digit cs ≡ true

pub is_digits : (cs : List ℕ) → IsPiece shapes.Digits cs → IsDigits cs
is_digits _ (digits {c = d} {cs = ds} h r) = record { some = omega arith; each = and_from (is_ascii_digit d) _ h r }

-- the digits of the text
pub digits_text : (bs : List ℕ) → IsUtf8 bs → IsPiece shapes.Digits (chars bs) → (bs ≡ chars bs) × (all_ascii_digits bs ≡ true) × (0 < length bs)
digits_text bs u h =
    let is = is_digits (chars bs) h in
    let same : bs ≡ chars bs = sym (encodes-chars bs u) ∙ encodes_low (chars bs) (digits_low (chars bs) is.each) in
    (same, ap all_ascii_digits same ∙ digits_all (chars bs) is.each, omega (arith, ap length same, is.some))

pub digits_int : (bs : List ℕ) (n : ℤ) → IsUtf8 bs → IsPiece shapes.Digits (chars bs) → n ≡ pos (number_of bs) → number_of bs < 2 ^ 63 → IsToken shapes.Digits (chars bs) (kinds.Int n)
digits_int bs n u h is small =
    let same = (digits_text bs u h).0 in
    let value : pos (number_of (chars bs)) ≡ n = ap (λ z. pos (number_of z)) (sym same) ∙ sym is in
    subst (λ v. IsToken shapes.Digits (chars bs) (kinds.Int v)) value (int (subst (λ z. number_of z < 2 ^ 63) same small))

digits_refused_at : (cs : List ℕ) (kind : TokenKind) → 2 ^ 63 ≤ number_of cs → IsToken shapes.Digits cs kind → ⊥
digits_refused_at cs _ great (int l) = omega arith

pub digits_refused : (bs : List ℕ) → IsUtf8 bs → IsPiece shapes.Digits (chars bs) → 2 ^ 63 ≤ number_of bs → (kind : TokenKind) → IsToken shapes.Digits (chars bs) kind → ⊥
digits_refused bs u h great kind t = digits_refused_at (chars bs) kind (subst (λ z. 2 ^ 63 ≤ number_of z) ((digits_text bs u h).0) great) t

-- a text
value_high : (bs hs : List ℕ) → AllHigh hs → value_of false (hs ++ bs) ≡ hs ++ value_of false bs
value_high bs [] high = refl
value_high bs (b ∷ hs) high = cond-false (b == 92) _ _ (not_at b 92 high.0 (omega arith)) ∙ ap (λ xs. b ∷ xs) (value_high bs hs high.1)

value_char : (c : ℕ) (bs : List ℕ) → (c == 92) ≡ false → value_of false (encode c ++ bs) ≡ encode c ++ value_of false bs
value_char c bs other = ⊎_elim
    (λ low. ap (λ x. value_of false (x ++ bs)) (encode_ascii c low) ∙ cond-false (c == 92) _ _ other ∙ ap (λ x. x ++ value_of false bs) (sym (encode_ascii c low)))
    (λ high. value_high bs (encode c) (encode_high c high))
    (cases_lt c 128)

pub record Escapes (c d : ℕ) : Type 0 where
  pub byte : escaped_byte c ≡ d
  pub code_low : c < 128
  pub low : d < 128
  pub some : 0 < d

pub escapes : (c d : ℕ) → escape_of c ≡ Some d → Escapes c d
escapes c d h = by (cases_Bool (c == 34)) (cases_Bool (c == 92)) (cases_Bool (c == 110)) (cases_Bool (c == 116)) where
  at : (n m : ℕ) → (c == n) ≡ true → Escapes n m → Some m ≡ Some d → Escapes c d
  at n m t e s = subst (λ z. Escapes z d) (sym (eqb-true c n t)) (subst (Escapes n) (same_Some m d s) e)

  by : (((c == 34) ≡ true) ⊎ ((c == 34) ≡ false)) → (((c == 92) ≡ true) ⊎ ((c == 92) ≡ false)) → (((c == 110) ≡ true) ⊎ ((c == 110) ≡ false)) → (((c == 116) ≡ true) ⊎ ((c == 116) ≡ false)) → Escapes c d
  by (inl p) q r s = at 34 34 p (record { byte = refl; code_low = omega arith; low = omega arith; some = omega arith }) (sym (cond-true (c == 34) _ _ p) ∙ h)
  by (inr p) (inl q) r s = at 92 92 q (record { byte = refl; code_low = omega arith; low = omega arith; some = omega arith }) (sym (cond-false (c == 34) _ _ p ∙ cond-true (c == 92) _ _ q) ∙ h)
  by (inr p) (inr q) (inl r) s = at 110 10 r (record { byte = refl; code_low = omega arith; low = omega arith; some = omega arith }) (sym (cond-false (c == 34) _ _ p ∙ cond-false (c == 92) _ _ q ∙ cond-true (c == 110) _ _ r) ∙ h)
  by (inr p) (inr q) (inr r) (inl s) =
      at 116 9 s (record { byte = refl; code_low = omega arith; low = omega arith; some = omega arith }) (sym (cond-false (c == 34) _ _ p ∙ cond-false (c == 92) _ _ q ∙ cond-false (c == 110) _ _ r ∙ cond-true (c == 116) _ _ s) ∙ h)
  by (inr p) (inr q) (inr r) (inr s) =
      let none : None ≡ Some d = sym (cond-false (c == 34) (Some 34) _ p ∙ cond-false (c == 92) (Some 92) _ q ∙ cond-false (c == 110) (Some 10) _ r ∙ cond-false (c == 116) (Some 9) None s) ∙ h in cc

-- the value of the bytes is the bytes of the value
pub value_spells : (body value : List ℕ) → Spells body value → value_of false (encodes body) ≡ encodes value
value_spells _ _ nothing = refl
value_spells _ _ (plain {c} {body} {value} h s) = value_char c (encodes body) (plain_tests c h).1 ∙ ap (λ xs. encode c ++ xs) (value_spells body value s)
value_spells _ _ (escaped {c} {d} {body} {value} h s) =
    let is = escapes c d h in
    let bytes : encodes (92 ∷ c ∷ body) ≡ 92 ∷ c ∷ encodes body = encodes_ascii 92 (c ∷ body) (omega arith) ∙ ap (λ xs. 92 ∷ xs) (encodes_ascii c body is.code_low) in
    ap (value_of false) bytes ∙ ap (λ z. z ∷ value_of false (encodes body)) is.byte ∙ ap (λ xs. d ∷ xs) (value_spells body value s) ∙ sym (encodes_ascii d value is.low)

-- the text between the quotes
pub record IsQuoted (cs : List ℕ) : Type 0 where
  pub body : List ℕ
  pub value : List ℕ
  pub whole : cs ≡ 34 ∷ (body ++ 34 ∷ [])
  pub spells : Spells body value

pub is_quoted : (cs : List ℕ) → IsPiece shapes.Quoted cs → IsQuoted cs
is_quoted _ (quoted {body} {value} h) = record { body = body; value = value; whole = refl; spells = h }

-- a text's bytes between the quotes
pub quoted_text : (bs : List ℕ) → IsUtf8 bs → (h : IsPiece shapes.Quoted (chars bs)) → bs ≡ 34 ∷ (encodes (is_quoted (chars bs) h).body ++ 34 ∷ [])
quoted_text bs u h =
    let is = is_quoted (chars bs) h in
    sym (encodes-chars bs u) ∙ ap encodes is.whole ∙ encodes_ascii 34 (is.body ++ 34 ∷ []) (omega arith) ∙ ap (λ xs. 34 ∷ xs) (encodes-append is.body (34 ∷ []) ∙ ap (λ xs. encodes is.body ++ xs) (encodes_ascii 34 [] (omega arith)))

pub inside : (bs : List ℕ) → IsUtf8 bs → (h : IsPiece shapes.Quoted (chars bs)) → (2 ≤ length bs) × (take (length bs - 1 - 1) (drop 1 bs) ≡ encodes (is_quoted (chars bs) h).body)
inside bs u h =
    let body : List ℕ = encodes (is_quoted (chars bs) h).body in
    let whole = quoted_text bs u h in
    let long : length bs ≡ suc (length (body ++ 34 ∷ [])) = ap length whole in
    let inner = length-append body (34 ∷ []) in
    let count : length body ≡ length bs - 1 - 1 = omega arith in
    (omega arith, ap (λ xs. take (length bs - 1 - 1) (drop 1 xs)) whole ∙ take_at body (34 ∷ []) (length bs - 1 - 1) count)

pub quoted_token : (bs v : List ℕ) → IsUtf8 bs → (h : IsPiece shapes.Quoted (chars bs)) → v ≡ value_of false (encodes (is_quoted (chars bs) h).body) → length v ≤ text_limit → IsToken shapes.Quoted (chars bs) (kinds.Text v)
quoted_token bs v u h e short =
    let is = is_quoted (chars bs) h in
    let same : encodes is.value ≡ v = sym (e ∙ value_spells is.body is.value is.spells) in
    subst (λ z. IsToken shapes.Quoted z (kinds.Text v)) (sym is.whole)
    (subst (λ z. IsToken shapes.Quoted (34 ∷ (is.body ++ 34 ∷ [])) (kinds.Text z)) same (text is.spells (omega (arith, ap length same))))

pub one_value : (body value : List ℕ) (other_body other : List ℕ) → Spells body value → Spells other_body other → body ++ 34 ∷ [] ≡ other_body ++ 34 ∷ [] → encodes value ≡ encodes other
one_value body value other_body other s t e =
    sym (value_spells body value s) ∙ ap (λ z. value_of false (encodes z)) (append_cancel_right body other_body (34 ∷ []) e) ∙ value_spells other_body other t

quoted_refused_at : (body value cs : List ℕ) (kind : TokenKind) → Spells body value → text_limit < size value → 34 ∷ (body ++ 34 ∷ []) ≡ cs → IsToken shapes.Quoted cs kind → ⊥
quoted_refused_at body value _ _ s long e (text {body = b} {value = v} t l) =
    let tails : body ++ 34 ∷ [] ≡ b ++ 34 ∷ [] = cc in
    let same = ap length (one_value body value b v s t tails) in omega arith

pub quoted_refused : (bs : List ℕ) → IsUtf8 bs → (h : IsPiece shapes.Quoted (chars bs)) → text_limit < length (value_of false (encodes (is_quoted (chars bs) h).body)) → (kind : TokenKind) → IsToken shapes.Quoted (chars bs) kind → ⊥
quoted_refused bs u h long kind t =
    let is = is_quoted (chars bs) h in
    let same = ap length (value_spells is.body is.value is.spells) in
    quoted_refused_at is.body is.value (chars bs) kind is.spells (omega arith) (sym is.whole) t

-- what no token is
pub open_refused : (cs : List ℕ) (kind : TokenKind) → IsToken shapes.OpenComment cs kind → ⊥
open_refused cs kind h = elim h [ ]

pub word_no_between : IsBetween shapes.Word → ⊥
word_no_between h = elim h [ ]

pub digits_no_between : IsBetween shapes.Digits → ⊥
digits_no_between h = elim h [ ]

pub quoted_no_between : IsBetween shapes.Quoted → ⊥
quoted_no_between h = elim h [ ]

pub open_no_between : IsBetween shapes.OpenComment → ⊥
open_no_between h = elim h [ ]
