-- The scan finds the longest piece, and none only where there is none.
use Rattle.std.proofs.Common.{◌≡◌, ℕ, suc, ◌+◌, ◌<◌, ◌≤◌, List, [], ◌∷◌, ◌++◌, length, take, drop, Bool, true, false, not, Some, None, sym, refl, ap, ◌∙◌, subst, inl, inr, ⊎_elim, append_assoc, take-append-drop, arith}
use Rattle.std.specs.Prelude.{◌==◌}
use Rattle.std.proofs.lemmas.Bool.{cases_Bool, cond-true, cond_both, and_parts, and_from, ne_eqb}
use Rattle.std.proofs.lemmas.List.{length-append, append-nil, take_at}
use Rattle.std.proofs.lemmas.List.Sums.{take_while-cons}
use Rattle.std.proofs.lemmas.Option.{same_Some}
use Rattle.std.proofs.lemmas.Str.{chars-encodes}
use Rattle.std.specs.List.{list_all, prefix_len, take_while}
use Rattle.std.specs.Char.{is_ascii_digit}
use Rattle.std.proofs.Math.Utf8.{encodes, scalars}
use Rattle.unicode_ident.specs.Ident.{is_xid_continue}
use Rattle.hera_syntax.specs.declared.token.PieceShape.{PieceShape}
use Rattle.hera_syntax.specs.declared.token.PieceShape.TheVariants as shapes
use Rattle.hera_meaning.specs.Identifiers.{begins_word}
use Rattle.hera_syntax.specs.Lexemes.{IsPiece, IsLongest, blank, line_comment, comment, open_comment, word, digits, quoted, HasNoEnd, Spells, is_blank}
use Rattle.hera_syntax.specs.Lex.{size}
use Rattle.hera_lexer.specs.Scan.{line_len, comment_len, quoted_len, word_len}
use Rattle.hera_lexer.proofs.Bytes.{encodes_ascii, run_high, run_low, size-append}
use Rattle.hera_lexer.proofs.Classes.{slashes, quotes, class_of, Looks, looks, class_blank, class_numeral, class_letter, blank_low, digit_low, word_continues}
use Rattle.hera_lexer.proofs.Comments.{comment_found, comment_ends, before_end, no_end}
use Rattle.hera_lexer.proofs.Quotes.{quoted_spells, quoted_found}

-- n bytes in front of the characters are the longest piece
pub record Found (cs : List ℕ) (k : PieceShape) (n : ℕ) : Type 0 where
  pub piece : List ℕ
  pub more : List ℕ
  pub cut : cs ≡ piece ++ more
  pub bytes : n ≡ size piece
  pub longest : IsLongest k piece more

abbrev pub NoPiece : List ℕ → Type 0
NoPiece cs = (k : PieceShape) (q back : List ℕ) → IsPiece k q → q ++ back ≡ cs → ⊥

pub found : (c : ℕ) (cs : List ℕ) (k : PieceShape) (n : ℕ) (piece more : List ℕ) → c ∷ cs ≡ piece ++ more → n ≡ size piece → IsPiece k piece
    → ((q back : List ℕ) → q ++ back ≡ c ∷ cs → Looks (class_of c) q → length q ≤ length piece) → Found (c ∷ cs) k n
found c cs k n piece more cut bytes is limit = record {
  piece = piece;
  more = more;
  cut = cut;
  bytes = bytes;
  longest = record { looks = is; longest = λ other q back h e. limit q back (e ∙ sym cut) (looks other q back cs c h (e ∙ sym cut)) };
}

pub found_blank : (c : ℕ) (cs : List ℕ) → is_blank c ≡ true → Found (c ∷ cs) shapes.Blank 1
found_blank c cs h = found c cs shapes.Blank 1 (c ∷ []) cs refl (sym (ap length (encodes_ascii c [] (blank_low c h)))) (blank h)
    (λ q back e l. let is : length q ≡ 1 = subst (λ k. Looks k q) (class_blank c h) l in omega arith)

-- a run is the longest front that passes a test
run_limit : (p : ℕ → Bool) (q back : List ℕ) → list_all p q ≡ true → length q ≤ length (take_while p (q ++ back))
run_limit p [] back h = omega arith
run_limit p (c ∷ q) back h =
    let both = and_parts (p c) (list_all p q) h in
    let rest = run_limit p q back both.1 in
    let here = ap length (take_while-cons p c (q ++ back) ∙ cond-true (p c) _ _ both.0) in
    omega arith

run_all : (p : ℕ → Bool) (cs : List ℕ) → list_all p (take_while p cs) ≡ true
run_all p [] = refl
run_all p (c ∷ cs) = ap (list_all p) (take_while-cons p c cs) ∙ cond_both (p c) (c ∷ take_while p cs) [] (λ xs. list_all p xs ≡ true) (λ h. and_from (p c) _ h (run_all p cs)) (λ _. refl)

run_cut : (p : ℕ → Bool) (cs : List ℕ) → cs ≡ take_while p cs ++ drop (prefix_len p cs) cs
run_cut p cs = sym (take-append-drop (prefix_len p cs) cs)

run_head : (p : ℕ → Bool) (c : ℕ) (cs : List ℕ) → p c ≡ true → take_while p (c ∷ cs) ≡ c ∷ take_while p cs
run_head p c cs h = take_while-cons p c cs ∙ cond-true (p c) _ _ h

run_most : (p : ℕ → Bool) (c : ℕ) (cs q back : List ℕ) → p c ≡ true → q ++ back ≡ c ∷ cs → list_all p q ≡ true → length q ≤ length (c ∷ take_while p cs)
run_most p c cs q back h e all = let most = run_limit p q back all in let same = ap (λ xs. length (take_while p xs)) e ∙ ap length (run_head p c cs h) in omega arith

pub digit_high : (b : ℕ) → 128 ≤ b → is_ascii_digit b ≡ false
digit_high b h = ⊎_elim (λ t. let low = digit_low b t in absurd (omega arith)) (λ f. f) (cases_Bool (is_ascii_digit b))

pub found_digits : (c : ℕ) (cs : List ℕ) → is_ascii_digit c ≡ true → Found (c ∷ cs) shapes.Digits (prefix_len is_ascii_digit (encodes (c ∷ cs)))
found_digits c cs h = found c cs shapes.Digits _ (c ∷ take_while is_ascii_digit cs) (drop (prefix_len is_ascii_digit cs) cs)
    (ap (λ xs. c ∷ xs) (run_cut is_ascii_digit cs))
    (run_low is_ascii_digit digit_high (c ∷ cs) ∙ ap size (run_head is_ascii_digit c cs h))
    (digits h (run_all is_ascii_digit cs))
    (λ q back e l. run_most is_ascii_digit c cs q back h e (subst (λ k. Looks k q) (class_numeral c h) l))

pub found_word : (c : ℕ) (cs : List ℕ) → scalars (c ∷ cs) ≡ true → begins_word c ≡ true → Found (c ∷ cs) shapes.Word (word_len (encodes (c ∷ cs)))
found_word c cs s h = found c cs shapes.Word _ (c ∷ take_while is_xid_continue cs) (drop (prefix_len is_xid_continue cs) cs)
    (ap (λ xs. c ∷ xs) (run_cut is_xid_continue cs))
    (ap (λ xs. size (take_while is_xid_continue xs)) (chars-encodes (c ∷ cs) s) ∙ ap size (run_head is_xid_continue c cs (word_continues c h)))
    (word (and_from (begins_word c) (list_all is_xid_continue (take_while is_xid_continue cs)) h (run_all is_xid_continue cs)))
    (λ q back e l. run_most is_xid_continue c cs q back (word_continues c h) e (subst (λ k. Looks k q) (class_letter c h) l))

-- what begins with a slash
pub class_slash : class_of 47 ≡ slashes
unfolding class_of
class_slash = refl

pub size_low : (c : ℕ) (cs : List ℕ) → c < 128 → size (c ∷ cs) ≡ suc (size cs)
size_low c cs low = ap length (encodes_ascii c cs low)

line_high : (b : ℕ) → 128 ≤ b → not (b == 10) ≡ true
line_high b h = ap not (ne_eqb b 10 (λ e. absurd (omega arith)))

abbrev in_line : ℕ → Bool
in_line c = not (c == 10)

after_two : (a b c d : ℕ) (xs ys : List ℕ) → a ∷ b ∷ xs ≡ c ∷ d ∷ ys → (b ≡ d) × (xs ≡ ys)
after_two a b c d xs ys e = (cc, cc)

line_limit : (ds q back : List ℕ) → q ++ back ≡ 47 ∷ 47 ∷ ds → Looks slashes q → length q ≤ length (47 ∷ 47 ∷ take_while in_line ds)
line_limit ds q back e (inl one) = omega (arith, ap length one)
line_limit ds q back e (inr (inl (body, is, all))) =
    let rest : body ++ back ≡ ds = (after_two 47 47 47 47 (body ++ back) ds (ap (λ z. z ++ back) (sym is) ∙ e)).1 in
    let most = run_limit in_line body back all in
    omega (arith, ap length is, ap (λ z. length (take_while in_line z)) rest)
line_limit ds q back e (inr (inr (inl (body, is, all)))) =
    let bad = (after_two 47 42 47 47 ((body ++ 42 ∷ 47 ∷ []) ++ back) ds (ap (λ z. z ++ back) (sym is) ∙ e)).0 in absurd (omega (arith, bad))
line_limit ds q back e (inr (inr (inr (body, is, all)))) =
    let bad = (after_two 47 42 47 47 (body ++ back) ds (ap (λ z. z ++ back) (sym is) ∙ e)).0 in absurd (omega (arith, bad))

pub found_line : (ds : List ℕ) → Found (47 ∷ 47 ∷ ds) shapes.LineComment (2 + line_len (encodes ds))
found_line ds = found 47 (47 ∷ ds) shapes.LineComment _ (47 ∷ 47 ∷ take_while in_line ds) (drop (prefix_len in_line ds) ds)
    (ap (λ xs. 47 ∷ 47 ∷ xs) (run_cut in_line ds))
    (let run = run_high in_line line_high ds in let a = size_low 47 (47 ∷ take_while in_line ds) (omega arith) in let b = size_low 47 (take_while in_line ds) (omega arith) in omega arith)
    (line_comment (run_all in_line ds))
    (λ q back e l. line_limit ds q back e (subst (λ k. Looks k q) class_slash l))

comment_limit : (inside more ds q back : List ℕ) (m : ℕ) → ds ≡ inside ++ 42 ∷ 47 ∷ more → m ≡ suc (length inside) → HasNoEnd inside → q ++ back ≡ 47 ∷ 42 ∷ ds → Looks slashes q
    → length q ≤ length (47 ∷ 42 ∷ (inside ++ 42 ∷ 47 ∷ []))
comment_limit inside more ds q back m whole long none e (inl one) = omega (arith, ap length one)
comment_limit inside more ds q back m whole long none e (inr (inl (body, is, all))) =
    let bad = (after_two 47 47 47 42 (body ++ back) ds (ap (λ z. z ++ back) (sym is) ∙ e)).0 in absurd (omega (arith, bad))
comment_limit inside more ds q back m whole long none e (inr (inr (inl (body, is, free)))) =
    let rest : (body ++ 42 ∷ 47 ∷ []) ++ back ≡ ds = (after_two 47 42 47 42 ((body ++ 42 ∷ 47 ∷ []) ++ back) ds (ap (λ z. z ++ back) (sym is) ∙ e)).1 in
    let here : comment_len false ds ≡ Some (suc (length body)) =
    ap (comment_len false) (sym rest ∙ append_assoc body (42 ∷ 47 ∷ []) back) ∙ comment_ends body back false free in
    let there : comment_len false ds ≡ Some (suc (length inside)) = ap (comment_len false) whole ∙ comment_ends inside more false none in
    let same : suc (length body) ≡ suc (length inside) = same_Some _ _ (sym here ∙ there) in
    omega (arith, ap length is, length-append body (42 ∷ 47 ∷ []), length-append inside (42 ∷ 47 ∷ []))
comment_limit inside more ds q back m whole long none e (inr (inr (inr (body, is, free)))) =
    let rest : body ++ back ≡ ds = (after_two 47 42 47 42 (body ++ back) ds (ap (λ z. z ++ back) (sym is) ∙ e)).1 in
    let there : comment_len false ds ≡ Some (suc (length inside)) = ap (comment_len false) whole ∙ comment_ends inside more false none in
    let most = before_end body back false _ free (ap (comment_len false) rest ∙ there) in
    omega (arith, ap length is, length-append inside (42 ∷ 47 ∷ []))

pub found_comment : (ds : List ℕ) (m : ℕ) → comment_len false ds ≡ Some m → Found (47 ∷ 42 ∷ ds) shapes.Comment (size (take m ds) + 3)
found_comment ds m e =
    let at = comment_found ds m e in
    let piece : List ℕ = 47 ∷ 42 ∷ (at.body ++ 42 ∷ 47 ∷ []) in
    found 47 (42 ∷ ds) shapes.Comment _ piece at.more
    (ap (λ xs. 47 ∷ 42 ∷ xs) (at.cut ∙ sym (append_assoc at.body (42 ∷ 47 ∷ []) at.more)))
    (let front = ap size at.front ∙ size-append at.body (42 ∷ []) in
    let star = size_low 42 [] (omega arith) in
    let a = size_low 47 (42 ∷ (at.body ++ 42 ∷ 47 ∷ [])) (omega arith) in
    let b = size_low 42 (at.body ++ 42 ∷ 47 ∷ []) (omega arith) in
    let d = size-append at.body (42 ∷ 47 ∷ []) in
    let f = size_low 42 (47 ∷ []) (omega arith) in
    let g = size_low 47 [] (omega arith) in
    let nil : size [] ≡ 0 = refl in
    omega arith)
    (comment at.none)
    (λ q back e l. comment_limit at.body at.more ds q back m at.cut at.long at.none e (subst (λ k. Looks k q) class_slash l))

pub found_open : (ds : List ℕ) → comment_len false ds ≡ None → Found (47 ∷ 42 ∷ ds) shapes.OpenComment (size (47 ∷ 42 ∷ ds))
found_open ds none = found 47 (42 ∷ ds) shapes.OpenComment _ (47 ∷ 42 ∷ ds) [] (sym (append-nil (47 ∷ 42 ∷ ds))) refl (open_comment (no_end false ds none))
    (λ q back e l. let all = sym (length-append q back) ∙ ap length e in omega arith)

-- what begins with a quote
pub class_quote : class_of 34 ≡ quotes
unfolding class_of
class_quote = refl

quoted_at : (cs q back body value : List ℕ) → q ≡ 34 ∷ (body ++ 34 ∷ []) → Spells body value → q ++ back ≡ 34 ∷ cs → quoted_len false cs ≡ Some (length body)
quoted_at cs q back body value is spells e =
    let cut : 34 ∷ ((body ++ 34 ∷ []) ++ back) ≡ 34 ∷ cs = ap (λ z. z ++ back) (sym is) ∙ e in
    let rest : (body ++ 34 ∷ []) ++ back ≡ cs = cc in
    ap (quoted_len false) (sym rest ∙ append_assoc body (34 ∷ []) back) ∙ quoted_spells body value back spells

quoted_limit : (cs q back : List ℕ) (m : ℕ) → quoted_len false cs ≡ Some m → (piece : List ℕ) → length piece ≡ m + 2 → q ++ back ≡ 34 ∷ cs → Looks quotes q → length q ≤ length piece
quoted_limit cs q back m found_at piece long e (body, value, is, spells) =
    let at = quoted_at cs q back body value is spells e in
    let same : length body ≡ m = same_Some _ _ (sym at ∙ found_at) in
    omega (arith, ap length is, length-append body (34 ∷ []))

pub found_quoted : (cs : List ℕ) (m : ℕ) → quoted_len false cs ≡ Some m → Found (34 ∷ cs) shapes.Quoted (size (take m cs) + 2)
found_quoted cs m e =
    let at = quoted_found false cs m e in
    let body : List ℕ = at.0 in
    let more : List ℕ = at.2 in
    let cut : cs ≡ body ++ 34 ∷ more = at.3 in
    let long : m ≡ length body = at.4 in
    found 34 cs shapes.Quoted _ (34 ∷ (body ++ 34 ∷ [])) more
    (ap (λ xs. 34 ∷ xs) (cut ∙ sym (append_assoc body (34 ∷ []) more)))
    (let front : take m cs ≡ body = ap (λ n. take n cs) long ∙ ap (take (length body)) cut ∙ take_at body (34 ∷ more) (length body) refl in
    let inner = ap size front in
    let a = size_low 34 (body ++ 34 ∷ []) (omega arith) in
    let b = size-append body (34 ∷ []) in
    let d = size_low 34 [] (omega arith) in
    let nil : size [] ≡ 0 = refl in
    omega arith)
    (quoted at.5)
    (λ q back whole l. quoted_limit cs q back m e (34 ∷ (body ++ 34 ∷ [])) (let b = length-append body (34 ∷ []) in omega arith) whole (subst (λ k. Looks k q) class_quote l))

pub no_quoted : (cs : List ℕ) → quoted_len false cs ≡ None → NoPiece (34 ∷ cs)
no_quoted cs none k q back h e = by (subst (λ k. Looks k q) class_quote (looks k q back cs 34 h e)) where
  by : Looks quotes q → ⊥
  by (body, value, is, spells) = let at = quoted_at cs q back body value is spells e in cc
