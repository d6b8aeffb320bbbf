-- The scan of a text finds the longest piece in front, and none only where there is none.
use Rattle.std.proofs.Common.{◌≡◌, ℕ, ◌+◌, ◌<◌, ◌≤◌, List, [], ◌∷◌, ◌++◌, length, get_or, drop, true, false, Option, Some, None, sym, refl, ap, ◌∙◌, subst, inl, inr, ⊎_elim, arith}
use Rattle.std.specs.Prelude.{◌&&◌, ◌||◌, ◌==◌, ◌⊎◌, MatchOption, slice_get, is_some}
use Rattle.std.proofs.lemmas.Bool.{cases_lt, cases_Bool, cond-false, cond_both, eqb-true, eq-eqb, and_parts, and_from, and_left, or_parts, or_from, false≢true, ne_eqb}
use Rattle.std.proofs.lemmas.Str.{chars-encodes, char_from_byte}
use Rattle.std.specs.List.{prefix_len}
use Rattle.std.specs.Str.{chars}
use Rattle.std.specs.Char.{is_ascii_digit}
use Rattle.std.proofs.Math.Utf8.{encode, encodes, scalars}
use Rattle.unicode_ident.specs.Ident.{is_xid_start}
use Rattle.unicode_ident.proofs.IdentLemmas.{is_xid_start-ascii}
use Rattle.hera_syntax.specs.declared.words.Mark.{Mark}
use Rattle.hera_syntax.specs.declared.token.PieceShape.{PieceShape}
use Rattle.hera_syntax.specs.declared.token.PieceShape.TheVariants as shapes
use Rattle.hera_meaning.specs.Identifiers.{begins_word}
use Rattle.hera_syntax.specs.Lexemes.{punct, is_blank}
use Rattle.hera_syntax.specs.Lex.{size}
use Rattle.hera_lexer.specs.Scan.{line_len, comment_len, quoted_len, word_len, one_mark, two_mark, word_of, mark_of, comment_of, quoted_of, scan_of}
use Rattle.hera_lexer.proofs.Bytes.{AllHigh, encode_high, encode_some, not_at, encodes_ascii, sized, comment_bytes, quoted_bytes}
use Rattle.hera_lexer.proofs.Classes.{slashes, marks, letters, others, class_of, is_letter, is_mark, Looks, looks, class_low, class_high}
use Rattle.hera_lexer.proofs.Marks.{one_found, two_found}
use Rattle.hera_lexer.proofs.Longest.{Found, NoPiece, found, size_low, digit_high, class_slash, found_blank, found_digits, found_word, found_line, found_comment, found_open, found_quoted, no_quoted}

-- what the scan of a text says of its characters
abbrev pub Says : List ℕ → Option (PieceShape × ℕ) → Type 0
Says cs o = MatchOption o (NoPiece cs) (λ r. Found cs r.0 r.1)

-- the byte behind the first
second_is : (d : ℕ) (ds : List ℕ) → d < 128 → get_or (encodes (d ∷ ds)) 0 0 ≡ d
second_is d ds low = ap (λ bs. get_or bs 0 0) (encodes_ascii d ds low)

second_of : (cs : List ℕ) (n : ℕ) → get_or (encodes cs) 0 0 ≡ n → 0 < n → n < 128 → (ds : List ℕ) × (cs ≡ n ∷ ds)
second_of [] n e some low = absurd (omega arith)
second_of (d ∷ ds) n e some low = ⊎_elim
    (λ dlow. (ds, ap (λ z. z ∷ ds) (sym (second_is d ds dlow) ∙ e)))
    (λ high. absurd (let is = char_from_byte (encodes (d ∷ ds)) (encodes ds) d refl (omega arith) (nonempty (encodes (d ∷ ds)) (omega arith)) in omega arith))
    (cases_lt d 128) where
      nonempty : (bs : List ℕ) → 0 < get_or bs 0 0 → 0 < length bs
      nonempty [] h = h
      nonempty (b ∷ bs) h = omega arith

-- a punctuation
found_two : (c : ℕ) (cs : List ℕ) (i : Mark) → two_mark c (get_or (encodes cs) 0 0) ≡ Some i → Found (c ∷ cs) (shapes.Punct i) 2
found_two c cs i e =
    let b : ℕ = get_or (encodes cs) 0 0 in
    let is = two_found c b i e in
    let rest = second_of cs b refl is.next_some is.next_low in
    found c cs (shapes.Punct i) 2 (c ∷ b ∷ []) rest.0 (ap (λ xs. c ∷ xs) rest.1)
    (let x = size_low c (b ∷ []) is.low in let y = size_low b [] is.next_low in let nil : size [] ≡ 0 = refl in omega arith)
    (punct is.at)
    (λ q back whole l. short q (subst (λ k. Looks k q) is.class l)) where
      short : (q : List ℕ) → Looks marks q → length q ≤ 2
      short q (inl (a, is, h)) = omega (arith, ap length is)
      short q (inr (a, b, is, h)) = omega (arith, ap length is)

heads : (a c : ℕ) (xs ys : List ℕ) → a ∷ xs ≡ c ∷ ys → (a ≡ c) × (xs ≡ ys)
heads a c xs ys e = (cc, cc)

some_two : (a b : ℕ) → is_some (two_mark a b) ≡ true → (i : Mark) × (two_mark a b ≡ Some i)
some_two a b h = by (two_mark a b) h where
  by : (o : Option Mark) → is_some o ≡ true → (i : Mark) × (o ≡ Some i)
  by None h = cc
  by (Some i) h = (i, refl)

-- where no two characters make one, no two stand in front
no_two : (c a b : ℕ) (cs q back : List ℕ) → two_mark c (get_or (encodes cs) 0 0) ≡ None → q ++ back ≡ c ∷ cs → q ≡ a ∷ b ∷ [] → is_some (two_mark a b) ≡ true → ⊥
no_two c a b cs q back none e is h =
    let i = some_two a b h in
    let low = (two_found a b i.0 i.1).next_low in
    let parts = heads a c (b ∷ back) cs (ap (λ z. z ++ back) (sym is) ∙ e) in
    let next : get_or (encodes cs) 0 0 ≡ b = ap (λ xs. get_or (encodes xs) 0 0) (sym parts.1) ∙ second_is b back low in
    let two : two_mark a b ≡ None = ap (λ z. two_mark z b) parts.0 ∙ ap (two_mark c) (sym next) ∙ none in
    cc

-- what the two tests of the byte behind a slash say where they fail
not_behind : (c n x : ℕ) → ((c == 47) && (x == n)) ≡ false → c ≡ 47 → x ≡ n → ⊥
not_behind c n x h slash next = false≢true (sym h ∙ and_from (c == 47) (x == n) (eq-eqb c 47 slash) (eq-eqb x n next))

slash_alone : (cs q back : List ℕ) → q ++ back ≡ 47 ∷ cs → (get_or (encodes cs) 0 0 ≡ 47 → ⊥) → (get_or (encodes cs) 0 0 ≡ 42 → ⊥) → Looks slashes q → length q ≤ 1
slash_alone cs q back whole line star (inl is) = omega (arith, ap length is)
slash_alone cs q back whole line star (inr (inl (body, is, h))) =
    let rest = (heads 47 47 (47 ∷ (body ++ back)) cs (ap (λ z. z ++ back) (sym is) ∙ whole)).1 in
    absurd (line (ap (λ xs. get_or (encodes xs) 0 0) (sym rest) ∙ second_is 47 (body ++ back) (omega arith)))
slash_alone cs q back whole line star (inr (inr (inl (body, is, h)))) =
    let rest = (heads 47 47 (42 ∷ ((body ++ 42 ∷ 47 ∷ []) ++ back)) cs (ap (λ z. z ++ back) (sym is) ∙ whole)).1 in
    absurd (star (ap (λ xs. get_or (encodes xs) 0 0) (sym rest) ∙ second_is 42 ((body ++ 42 ∷ 47 ∷ []) ++ back) (omega arith)))
slash_alone cs q back whole line star (inr (inr (inr (body, is, h)))) =
    let rest = (heads 47 47 (42 ∷ (body ++ back)) cs (ap (λ z. z ++ back) (sym is) ∙ whole)).1 in
    absurd (star (ap (λ xs. get_or (encodes xs) 0 0) (sym rest) ∙ second_is 42 (body ++ back) (omega arith)))

mark_alone : (c : ℕ) (cs q back : List ℕ) → two_mark c (get_or (encodes cs) 0 0) ≡ None → q ++ back ≡ c ∷ cs → Looks marks q → length q ≤ 1
mark_alone c cs q back none whole (inl (a, is, h)) = omega (arith, ap length is)
mark_alone c cs q back none whole (inr (a, b, is, h)) = absurd (no_two c a b cs q back none whole is h)

found_one : (c : ℕ) (cs : List ℕ) (i : Mark) → ((c == 47) && (get_or (encodes cs) 0 0 == 47)) ≡ false → ((c == 47) && (get_or (encodes cs) 0 0 == 42)) ≡ false
    → two_mark c (get_or (encodes cs) 0 0) ≡ None → one_mark c ≡ Some i → Found (c ∷ cs) (shapes.Punct i) 1
found_one c cs i line comment none e =
    let is = one_found c i e in
    found c cs (shapes.Punct i) 1 (c ∷ []) cs refl (sym (size_low c [] is.low)) (punct is.at)
    (λ q back whole l. ⊎_elim
    (λ mark. mark_alone c cs q back none whole (subst (λ k. Looks k q) mark l))
    (λ slash. slash_alone cs q back (whole ∙ ap (λ z. z ∷ cs) slash) (not_behind c 47 _ line slash) (not_behind c 42 _ comment slash) (subst (λ k. Looks k q) (ap class_of slash ∙ class_slash) l))
    is.class)

-- nothing
class_none : (c : ℕ) → is_blank c ≡ false → is_ascii_digit c ≡ false → (c == 34) ≡ false → one_mark c ≡ None → begins_word c ≡ false → (class_of c ≡ others) ⊎ (c ≡ 124)
class_none c blank digit quote mark word = ⊎_elim
    (λ low. ⊎_elim
    (λ bar. inr (eqb-true c 124 bar))
    (λ no_bar. inl (
    let slash : (c == 47) ≡ false = ne_eqb c 47 (λ e. let some : one_mark 47 ≡ None = ap one_mark (sym e) ∙ mark in cc) in
    let no_mark : is_mark c ≡ false = ap (λ v. v || is_some (one_mark c)) no_bar ∙ ap is_some mark in
    let no_letter : is_letter c ≡ false = ap (λ v. (c == 95) || v) (sym (is_xid_start-ascii c low)) ∙ word in
    class_low c low ∙ cond-false (is_blank c) _ _ blank ∙ cond-false (c == 47) _ _ slash ∙ cond-false (is_ascii_digit c) _ _ digit ∙ cond-false (c == 34) _ _ quote
    ∙ cond-false (is_mark c) _ _ no_mark ∙ cond-false (is_letter c) _ _ no_letter))
    (cases_Bool (c == 124)))
    (λ high. inl (class_high c high ∙ cond-false (is_xid_start c) _ _ (or_parts (c == 95) (is_xid_start c) word).1))
    (cases_lt c 128)

no_bar_piece : (c : ℕ) (cs q back : List ℕ) → c ≡ 124 → one_mark c ≡ None → two_mark c (get_or (encodes cs) 0 0) ≡ None → q ++ back ≡ c ∷ cs → Looks marks q → ⊥
no_bar_piece c cs q back bar mark none whole (inl (a, is, h)) =
    let same = (heads a c back cs (ap (λ z. z ++ back) (sym is) ∙ whole)).0 in
    false≢true (ap is_some (sym mark ∙ ap one_mark (sym same)) ∙ h)
no_bar_piece c cs q back bar mark none whole (inr (a, b, is, h)) = no_two c a b cs q back none whole is h

class_bar : class_of 124 ≡ marks
unfolding class_of
class_bar = refl

no_piece : (c : ℕ) (cs : List ℕ) → is_blank c ≡ false → is_ascii_digit c ≡ false → (c == 34) ≡ false → two_mark c (get_or (encodes cs) 0 0) ≡ None → one_mark c ≡ None → begins_word c ≡ false → NoPiece (c ∷ cs)
no_piece c cs blank digit quote none mark word k q back is whole =
    let l = looks k q back cs c is whole in
    ⊎_elim
    (λ other. subst (λ k. Looks k q) other l)
    (λ bar. no_bar_piece c cs q back bar mark none whole (subst (λ k. Looks k q) (ap class_of bar ∙ class_bar) l))
    (class_none c blank digit quote mark word)

-- the choices of the scan
by_mark : (P : Option (PieceShape × ℕ) → Type 0) (t o : Option Mark) (w : Option (PieceShape × ℕ)) → ((i : Mark) → t ≡ Some i → P (Some (shapes.Punct i, 2)))
    → (t ≡ None → (i : Mark) → o ≡ Some i → P (Some (shapes.Punct i, 1))) → (t ≡ None → o ≡ None → P w) → P (mark_of t o w)
by_mark P (Some i) o w f g h = f i refl
by_mark P None (Some i) w f g h = g refl i refl
by_mark P None None w f g h = h refl refl

by_option : (P : Option (PieceShape × ℕ) → Type 0) (f : Option ℕ → Option (PieceShape × ℕ)) (o : Option ℕ) → (o ≡ None → P (f None)) → ((m : ℕ) → o ≡ Some m → P (f (Some m))) → P (f o)
by_option P f None g h = g refl
by_option P f (Some m) g h = h m refl

-- the word in front, or nothing
says_word : (c : ℕ) (cs bs : List ℕ) → scalars (c ∷ cs) ≡ true → bs ≡ encodes (c ∷ cs) → (begins_word c ≡ false → NoPiece (c ∷ cs)) → Says (c ∷ cs) (word_of (slice_get (chars bs) 0) bs)
says_word c cs bs s same none =
    let first : slice_get (chars bs) 0 ≡ Some c = ap (λ xs. slice_get (chars xs) 0) same ∙ ap (λ xs. slice_get xs 0) (chars-encodes (c ∷ cs) s) in
    subst (λ o. Says (c ∷ cs) (word_of o bs)) (sym first)
    (cond_both (begins_word c) (Some (shapes.Word, word_len bs)) None (Says (c ∷ cs))
    (λ h. subst (λ xs. Found (c ∷ cs) shapes.Word (word_len xs)) (sym same) (found_word c cs s h))
    none)

-- behind a slash
says_comment : (c : ℕ) (cs : List ℕ) → c ≡ 47 → get_or (encodes cs) 0 0 ≡ 42 → Says (c ∷ cs) (comment_of (comment_len false (drop 1 (encodes cs))) (1 + length (encodes cs)))
says_comment c cs slash next =
    let at = second_of cs 42 next (omega arith) (omega arith) in
    let ds : List ℕ = at.0 in
    let whole : 47 ∷ 42 ∷ ds ≡ c ∷ cs = ap (λ z. z ∷ 42 ∷ ds) (sym slash) ∙ ap (λ xs. c ∷ xs) (sym at.1) in
    let bytes : encodes cs ≡ 42 ∷ encodes ds = ap encodes at.1 ∙ encodes_ascii 42 ds (omega arith) in
    let rest : comment_len false (drop 1 (encodes cs)) ≡ sized ds (comment_len false ds) = ap (λ xs. comment_len false (drop 1 xs)) bytes ∙ comment_bytes ds false in
    let long : 1 + length (encodes cs) ≡ size (47 ∷ 42 ∷ ds) = (let a = size_low 47 (42 ∷ ds) (omega arith) in let b = ap size at.1 in omega arith) in
    subst (λ xs. Says xs (comment_of (comment_len false (drop 1 (encodes cs))) (1 + length (encodes cs)))) whole
    (subst (λ o. Says (47 ∷ 42 ∷ ds) (comment_of o (1 + length (encodes cs)))) (sym rest)
    (by_option (Says (47 ∷ 42 ∷ ds)) (λ o. comment_of (sized ds o) (1 + length (encodes cs))) (comment_len false ds)
    (λ none. subst (λ n. Found (47 ∷ 42 ∷ ds) shapes.OpenComment n) (sym long) (found_open ds none))
    (λ m some. found_comment ds m some)))

says_line : (c : ℕ) (cs : List ℕ) → c ≡ 47 → get_or (encodes cs) 0 0 ≡ 47 → Found (c ∷ cs) shapes.LineComment (2 + line_len (drop 1 (encodes cs)))
says_line c cs slash next =
    let at = second_of cs 47 next (omega arith) (omega arith) in
    let ds : List ℕ = at.0 in
    let whole : 47 ∷ 47 ∷ ds ≡ c ∷ cs = ap (λ z. z ∷ 47 ∷ ds) (sym slash) ∙ ap (λ xs. c ∷ xs) (sym at.1) in
    let bytes : encodes cs ≡ 47 ∷ encodes ds = ap encodes at.1 ∙ encodes_ascii 47 ds (omega arith) in
    subst (λ xs. Found xs shapes.LineComment (2 + line_len (drop 1 (encodes cs)))) whole
    (subst (λ bs. Found (47 ∷ 47 ∷ ds) shapes.LineComment (2 + line_len (drop 1 bs))) (sym bytes) (found_line ds))

says_quoted : (c : ℕ) (cs : List ℕ) → c ≡ 34 → Says (c ∷ cs) (quoted_of (quoted_len false (encodes cs)))
says_quoted c cs quote =
    subst (λ z. Says (z ∷ cs) (quoted_of (quoted_len false (encodes cs)))) (sym quote)
    (subst (λ o. Says (34 ∷ cs) (quoted_of o)) (sym (quoted_bytes cs false))
    (by_option (Says (34 ∷ cs)) (λ o. quoted_of (sized cs o)) (quoted_len false cs)
    (λ none. no_quoted cs none)
    (λ m some. found_quoted cs m some)))

-- an ASCII character in front
says_low : (c : ℕ) (cs : List ℕ) → scalars (c ∷ cs) ≡ true → c < 128 → Says (c ∷ cs) (scan_of (c ∷ encodes cs))
says_low c cs s low =
    let bs : List ℕ = encodes cs in
    let b : ℕ = get_or bs 0 0 in
    let P : Option (PieceShape × ℕ) → Type 0 = Says (c ∷ cs) in
    cond_both (is_blank c) _ _ P (λ h. found_blank c cs h) (λ blank.
    cond_both ((c == 47) && (b == 47)) _ _ P (λ h. let both = and_parts (c == 47) (b == 47) h in says_line c cs (eqb-true c 47 both.0) (eqb-true b 47 both.1)) (λ line.
    cond_both ((c == 47) && (b == 42)) _ _ P (λ h. let both = and_parts (c == 47) (b == 42) h in says_comment c cs (eqb-true c 47 both.0) (eqb-true b 42 both.1)) (λ star.
    cond_both (is_ascii_digit c) _ _ P (λ h. subst (λ xs. Found (c ∷ cs) shapes.Digits (prefix_len is_ascii_digit xs)) (encodes_ascii c cs low) (found_digits c cs h)) (λ digit.
    cond_both (c == 34) _ _ P (λ h. says_quoted c cs (eqb-true c 34 h)) (λ quote.
    by_mark P (two_mark c b) (one_mark c) (word_of (slice_get (chars (c ∷ bs)) 0) (c ∷ bs))
    (λ i e. found_two c cs i e)
    (λ none i e. found_one c cs i line star none e)
    (λ none mark. says_word c cs (c ∷ bs) s (sym (encodes_ascii c cs low)) (λ word. no_piece c cs blank digit quote none mark word)))))))

-- a character past ASCII in front
none_of : (o : Option Mark) → ((i : Mark) → o ≡ Some i → ⊥) → o ≡ None
none_of None h = refl
none_of (Some i) h = absurd (h i refl)

blank_high : (b : ℕ) → 128 ≤ b → is_blank b ≡ false
blank_high b h = or_from _ _ (or_from _ _ (or_from _ _ (not_at b 32 h (omega arith)) (not_at b 9 h (omega arith))) (not_at b 10 h (omega arith))) (not_at b 13 h (omega arith))

high_scan : (bs hs : List ℕ) → AllHigh hs → 0 < length hs → scan_of (hs ++ bs) ≡ word_of (slice_get (chars (hs ++ bs)) 0) (hs ++ bs)
high_scan bs [] high some = absurd (omega arith)
high_scan bs (b ∷ hs) high some =
    let slash = not_at b 47 high.0 (omega arith) in
    let x : ℕ = get_or (hs ++ bs) 0 0 in
    let two : two_mark b x ≡ None = none_of (two_mark b x) (λ i e. let low = (two_found b x i e).low in absurd (omega (arith, high.0))) in
    let one : one_mark b ≡ None = none_of (one_mark b) (λ i e. let low = (one_found b i e).low in absurd (omega (arith, high.0))) in
    cond-false (is_blank b) _ _ (blank_high b high.0)
    ∙ cond-false ((b == 47) && (x == 47)) _ _ (and_left (b == 47) _ slash)
    ∙ cond-false ((b == 47) && (x == 42)) _ _ (and_left (b == 47) _ slash)
    ∙ cond-false (is_ascii_digit b) _ _ (digit_high b high.0)
    ∙ cond-false (b == 34) _ _ (not_at b 34 high.0 (omega arith))
    ∙ ap (λ t. mark_of t (one_mark b) (word_of (slice_get (chars (b ∷ (hs ++ bs))) 0) (b ∷ (hs ++ bs)))) two
    ∙ ap (λ o. mark_of None o (word_of (slice_get (chars (b ∷ (hs ++ bs))) 0) (b ∷ (hs ++ bs)))) one

says_high : (c : ℕ) (cs : List ℕ) → scalars (c ∷ cs) ≡ true → 128 ≤ c → Says (c ∷ cs) (scan_of (encodes (c ∷ cs)))
says_high c cs s high =
    subst (Says (c ∷ cs)) (sym (high_scan (encodes cs) (encode c) (encode_high c high) (encode_some c)))
    (says_word c cs (encodes (c ∷ cs)) s refl (λ word k q back is whole.
    subst (λ k. Looks k q) (class_high c high ∙ cond-false (is_xid_start c) letters others (or_parts (c == 95) (is_xid_start c) word).1) (looks k q back cs c is whole)))

-- the scan of a text's bytes finds the longest piece in front of its characters, and none only where there is none
pub scan_says : (c : ℕ) (cs : List ℕ) → scalars (c ∷ cs) ≡ true → Says (c ∷ cs) (scan_of (encodes (c ∷ cs)))
scan_says c cs s = ⊎_elim
    (λ low. subst (λ bs. Says (c ∷ cs) (scan_of bs)) (sym (encodes_ascii c cs low)) (says_low c cs s low))
    (λ high. says_high c cs s high)
    (cases_lt c 128)
