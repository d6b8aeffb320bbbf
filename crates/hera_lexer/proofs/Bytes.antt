-- A scan of the bytes of characters is the scan of the characters, counted in bytes.
use Rattle.std.proofs.Common.{◌≡◌, ℕ, suc, ◌+◌, ◌<◌, ◌≤◌, List, [], ◌∷◌, ◌++◌, length, get_or, take, Bool, true, false, cond, Option, Some, None, sym, refl, ap, ◌∙◌, ⊎_elim, arith}
use Rattle.std.specs.Prelude.{◌&&◌, ◌==◌}
use Rattle.std.proofs.lemmas.Str.{encode_ascii, inside_one, encodes-append, length-encode, len_utf8_bounds}
use Rattle.std.proofs.lemmas.List.{append-nil, length-append}
use Rattle.std.proofs.lemmas.Bool.{cases_lt, ne_eqb, cond-true, cond-false, and_right}
use Rattle.std.proofs.lemmas.List.Sums.{take_while-cons}
use Rattle.std.specs.List.{prefix_len, take_while}
use Rattle.std.proofs.Math.Utf8.{encode, encodes}
use Rattle.hera_syntax.specs.Lex.{size}
use Rattle.hera_syntax.specs.Lexemes.{is_plain}
use Rattle.hera_lexer.specs.Scan.{farther, comment_len, quoted_len, is_escape}

-- each byte is part of a character that is not ASCII
abbrev pub AllHigh : List ℕ → Type 0
AllHigh [] = Unit {0}
AllHigh (b ∷ bs) = (128 ≤ b) × AllHigh bs

all_high : (bs : List ℕ) → ((k : ℕ) → k < length bs → 128 ≤ get_or bs k 0) → AllHigh bs
all_high [] each = tt
all_high (b ∷ bs) each = (each 0 (omega arith), all_high bs (λ k h. each (suc k) (omega arith)))

pub encode_high : (c : ℕ) → 128 ≤ c → AllHigh (encode c)
encode_high c h = all_high (encode c) (λ k l. ⊎_elim (λ low. let same = inside_one c [] (encode c) k (sym (append-nil (encode c))) l low in absurd (omega arith)) (λ high. high) (cases_lt (get_or (encode c) k 0) 128))

pub encodes_ascii : (c : ℕ) (cs : List ℕ) → c < 128 → encodes (c ∷ cs) ≡ c ∷ encodes cs
encodes_ascii c cs h = ap (λ x. x ++ encodes cs) (encode_ascii c h)

pub encode_some : (c : ℕ) → 0 < length (encode c)
encode_some c = omega (arith, length-encode c, (len_utf8_bounds c).0)

none_high : (p : ℕ → Bool) → ((b : ℕ) → 128 ≤ b → p b ≡ false) → (bs hs : List ℕ) → AllHigh hs → 0 < length hs → prefix_len p (hs ++ bs) ≡ 0
none_high p fails bs [] high some = absurd (omega arith)
none_high p fails bs (b ∷ hs) high some = cond-false (p b) _ _ (fails b high.0)

-- a run of what passes a test that each byte from 128 on passes
prefix_high : (p : ℕ → Bool) → ((b : ℕ) → 128 ≤ b → p b ≡ true) → (hs bs : List ℕ) → AllHigh hs → prefix_len p (hs ++ bs) ≡ length hs + prefix_len p bs
prefix_high p passes [] bs high = omega arith
prefix_high p passes (b ∷ hs) bs high =
    let one = cond-true (p b) (1 + prefix_len p (hs ++ bs)) 0 (passes b high.0) in
    let more = prefix_high p passes hs bs high.1 in
    one ∙ omega arith

-- size by characters
pub size_cons : (c : ℕ) (cs : List ℕ) → size (c ∷ cs) ≡ length (encode c) + size cs
size_cons c cs = length-append (encode c) (encodes cs)

pub size-append : (xs ys : List ℕ) → size (xs ++ ys) ≡ size xs + size ys
size-append xs ys = ap length (encodes-append xs ys) ∙ length-append (encodes xs) (encodes ys)

pub run_high : (p : ℕ → Bool) → ((b : ℕ) → 128 ≤ b → p b ≡ true) → (cs : List ℕ) → prefix_len p (encodes cs) ≡ size (take_while p cs)
run_high p passes [] = refl
run_high p passes (c ∷ cs) =
    let more = run_high p passes cs in
    let here : prefix_len p (encode c ++ encodes cs) ≡ cond (p c) (length (encode c) + prefix_len p (encodes cs)) 0 =
    ⊎_elim
    (λ low. ap (λ x. prefix_len p (x ++ encodes cs)) (encode_ascii c low) ∙ ap (λ x. cond (p c) (length x + prefix_len p (encodes cs)) 0) (sym (encode_ascii c low)))
    (λ high. prefix_high p passes (encode c) (encodes cs) (encode_high c high) ∙ sym (cond-true (p c) _ 0 (passes c high))) (cases_lt c 128) in
    let by : (b : Bool) → cond b (length (encode c) + prefix_len p (encodes cs)) 0 ≡ size (cond b (c ∷ take_while p cs) []) =
    λ b. elim b as (λ v. cond v (length (encode c) + prefix_len p (encodes cs)) 0 ≡ size (cond v (c ∷ take_while p cs) [])) [
      | true ↦ ap (λ n. length (encode c) + n) more ∙ sym (size_cons c (take_while p cs))
      | false ↦ refl
    ] in
    here ∙ by (p c) ∙ ap size (sym (take_while-cons p c cs))

-- a run of what passes a test that no byte from 128 on passes
pub run_low : (p : ℕ → Bool) → ((b : ℕ) → 128 ≤ b → p b ≡ false) → (cs : List ℕ) → prefix_len p (encodes cs) ≡ size (take_while p cs)
run_low p fails [] = refl
run_low p fails (c ∷ cs) =
    let more = run_low p fails cs in
    let none : (hs : List ℕ) → AllHigh hs → 0 < length hs → prefix_len p (hs ++ encodes cs) ≡ 0 = none_high p fails (encodes cs) in
    let here : prefix_len p (encode c ++ encodes cs) ≡ cond (p c) (length (encode c) + prefix_len p (encodes cs)) 0 =
    ⊎_elim
    (λ low. ap (λ x. prefix_len p (x ++ encodes cs)) (encode_ascii c low) ∙ ap (λ x. cond (p c) (length x + prefix_len p (encodes cs)) 0) (sym (encode_ascii c low)))
    (λ high. none (encode c) (encode_high c high) (encode_some c) ∙ sym (cond-false (p c) _ 0 (fails c high))) (cases_lt c 128) in
    let by : (b : Bool) → cond b (length (encode c) + prefix_len p (encodes cs)) 0 ≡ size (cond b (c ∷ take_while p cs) []) =
    λ b. elim b as (λ v. cond v (length (encode c) + prefix_len p (encodes cs)) 0 ≡ size (cond v (c ∷ take_while p cs) [])) [
      | true ↦ ap (λ n. length (encode c) + n) more ∙ sym (size_cons c (take_while p cs))
      | false ↦ refl
    ] in
    here ∙ by (p c) ∙ ap size (sym (take_while-cons p c cs))

-- places, by characters and by bytes
abbrev pub sized : List ℕ → Option ℕ → Option ℕ
sized cs None = None
sized cs (Some n) = Some (size (take n cs))

sized_step : (c : ℕ) (cs : List ℕ) (r : Option ℕ) → sized (c ∷ cs) (farther 1 r) ≡ farther (length (encode c)) (sized cs r)
sized_step c cs None = refl
sized_step c cs (Some n) = let e : 1 + n ≡ suc n = omega arith in ap (λ m. Some (size (take m (c ∷ cs)))) e ∙ ap Some (size_cons c (take n cs))

farther_zero : (r : Option ℕ) → farther 0 r ≡ r
farther_zero None = refl
farther_zero (Some n) = ap Some (omega arith)

farther_more : (m : ℕ) (r : Option ℕ) → farther 1 (farther m r) ≡ farther (suc m) r
farther_more m None = refl
farther_more m (Some n) = ap Some (omega arith)

-- the tests at a byte from 128 on
pub not_at : (b n : ℕ) → 128 ≤ b → n < 128 → (b == n) ≡ false
not_at b n h l = ne_eqb b n (λ e. absurd (omega arith))

pub plain_high : (b : ℕ) → 128 ≤ b → is_plain b ≡ true
plain_high b h = simp (not_at b 34 h (omega arith), not_at b 92 h (omega arith), not_at b 10 h (omega arith), not_at b 13 h (omega arith), not_at b 0 h (omega arith))

pub escape_high : (b : ℕ) → 128 ≤ b → is_escape b ≡ false
escape_high b h = simp (not_at b 34 h (omega arith), not_at b 92 h (omega arith), not_at b 110 h (omega arith), not_at b 116 h (omega arith))

-- a comment's end
comment_high : (bs hs : List ℕ) → AllHigh hs → comment_len false (hs ++ bs) ≡ farther (length hs) (comment_len false bs)
comment_high bs [] high = sym (farther_zero _)
comment_high bs (b ∷ hs) high =
    ap (λ v. farther 1 (comment_len v (hs ++ bs))) (not_at b 42 high.0 (omega arith)) ∙ ap (farther 1) (comment_high bs hs high.1) ∙ farther_more _ _

comment_first : (star : Bool) (bs hs : List ℕ) → AllHigh hs → 0 < length hs → comment_len star (hs ++ bs) ≡ farther (length hs) (comment_len false bs)
comment_first false bs hs high some = comment_high bs hs high
comment_first true bs [] high some = absurd (omega arith)
comment_first true bs (b ∷ hs) high some = cond-false (b == 47) _ _ (not_at b 47 high.0 (omega arith)) ∙ comment_high bs (b ∷ hs) high

pub comment_bytes : (cs : List ℕ) (star : Bool) → comment_len star (encodes cs) ≡ sized cs (comment_len star cs)
comment_bytes [] star = refl
comment_bytes (c ∷ cs) star =
    let by : (v : Bool) (r s : Option ℕ) → r ≡ sized cs s → cond v (Some 0) (farther (length (encode c)) r) ≡ sized (c ∷ cs) (cond v (Some 0) (farther 1 s)) =
    λ v r s e. elim v as (λ w. cond w (Some 0) (farther (length (encode c)) r) ≡ sized (c ∷ cs) (cond w (Some 0) (farther 1 s))) [
      | true ↦ refl
      | false ↦ ap (farther (length (encode c))) e ∙ sym (sized_step c cs s)
    ] in
    let here : comment_len star (encode c ++ encodes cs) ≡ cond (star && (c == 47)) (Some 0) (farther (length (encode c)) (comment_len (c == 42) (encodes cs))) =
    ⊎_elim
    (λ low. ap (λ x. comment_len star (x ++ encodes cs)) (encode_ascii c low) ∙ ap (λ x. cond (star && (c == 47)) (Some 0) (farther (length x) (comment_len (c == 42) (encodes cs)))) (sym (encode_ascii c low)))
    (λ high. comment_first star (encodes cs) (encode c) (encode_high c high) (encode_some c)
    ∙ sym (cond-false (star && (c == 47)) _ _ (and_right star (c == 47) (not_at c 47 high (omega arith))))
    ∙ ap (λ v. cond (star && (c == 47)) (Some 0) (farther (length (encode c)) (comment_len v (encodes cs)))) (sym (not_at c 42 high (omega arith))))
    (cases_lt c 128) in
    here ∙ by (star && (c == 47)) _ _ (comment_bytes cs (c == 42))

-- a text's end
sized_conds : (c : ℕ) (cs : List ℕ) (u v w : Bool) (r s t z : Option ℕ) → r ≡ sized cs s → t ≡ sized cs z
    → cond u (Some 0) (cond v (farther (length (encode c)) r) (cond w (farther (length (encode c)) t) None)) ≡ sized (c ∷ cs) (cond u (Some 0) (cond v (farther 1 s) (cond w (farther 1 z) None)))
sized_conds c cs true v w r s t z e f = refl
sized_conds c cs false true w r s t z e f = ap (farther (length (encode c))) e ∙ sym (sized_step c cs s)
sized_conds c cs false false true r s t z e f = ap (farther (length (encode c))) f ∙ sym (sized_step c cs z)
sized_conds c cs false false false r s t z e f = refl

quoted_high : (bs hs : List ℕ) → AllHigh hs → quoted_len false (hs ++ bs) ≡ farther (length hs) (quoted_len false bs)
quoted_high bs [] high = sym (farther_zero _)
quoted_high bs (b ∷ hs) high =
    cond-false (b == 34) _ _ (not_at b 34 high.0 (omega arith)) ∙ cond-false (b == 92) _ _ (not_at b 92 high.0 (omega arith)) ∙ cond-true (is_plain b) _ _ (plain_high b high.0)
    ∙ ap (farther 1) (quoted_high bs hs high.1) ∙ farther_more _ _

escaped_high : (bs hs : List ℕ) → AllHigh hs → 0 < length hs → quoted_len true (hs ++ bs) ≡ None
escaped_high bs [] high some = absurd (omega arith)
escaped_high bs (b ∷ hs) high some = cond-false (is_escape b) _ _ (escape_high b high.0)

pub quoted_bytes : (cs : List ℕ) (escaped : Bool) → quoted_len escaped (encodes cs) ≡ sized cs (quoted_len escaped cs)
quoted_bytes [] escaped = refl
quoted_bytes (c ∷ cs) true =
    let by : (v : Bool) (r s : Option ℕ) → r ≡ sized cs s → cond v (farther (length (encode c)) r) None ≡ sized (c ∷ cs) (cond v (farther 1 s) None) =
    λ v r s e. elim v as (λ w. cond w (farther (length (encode c)) r) None ≡ sized (c ∷ cs) (cond w (farther 1 s) None)) [
      | true ↦ ap (farther (length (encode c))) e ∙ sym (sized_step c cs s)
      | false ↦ refl
    ] in
    let here : quoted_len true (encode c ++ encodes cs) ≡ cond (is_escape c) (farther (length (encode c)) (quoted_len false (encodes cs))) None =
    ⊎_elim
    (λ low. ap (λ x. quoted_len true (x ++ encodes cs)) (encode_ascii c low) ∙ ap (λ x. cond (is_escape c) (farther (length x) (quoted_len false (encodes cs))) None) (sym (encode_ascii c low)))
    (λ high. escaped_high (encodes cs) (encode c) (encode_high c high) (encode_some c) ∙ sym (cond-false (is_escape c) _ _ (escape_high c high)))
    (cases_lt c 128) in
    here ∙ by (is_escape c) _ _ (quoted_bytes cs false)
quoted_bytes (c ∷ cs) false =
    let by : (u v w : Bool) (r s t z : Option ℕ) → r ≡ sized cs s → t ≡ sized cs z
    → cond u (Some 0) (cond v (farther (length (encode c)) r) (cond w (farther (length (encode c)) t) None)) ≡ sized (c ∷ cs) (cond u (Some 0) (cond v (farther 1 s) (cond w (farther 1 z) None))) =
    sized_conds c cs in
    let here : quoted_len false (encode c ++ encodes cs) ≡ cond (c == 34) (Some 0) (cond (c == 92) (farther (length (encode c)) (quoted_len true (encodes cs))) (cond (is_plain c) (farther (length (encode c)) (quoted_len false (encodes cs))) None)) =
    ⊎_elim
    (λ low. ap (λ x. quoted_len false (x ++ encodes cs)) (encode_ascii c low)
    ∙ ap (λ x. cond (c == 34) (Some 0) (cond (c == 92) (farther (length x) (quoted_len true (encodes cs))) (cond (is_plain c) (farther (length x) (quoted_len false (encodes cs))) None))) (sym (encode_ascii c low)))
    (λ high. quoted_high (encodes cs) (encode c) (encode_high c high)
    ∙ sym (cond-false (c == 34) _ _ (not_at c 34 high (omega arith)) ∙ cond-false (c == 92) _ _ (not_at c 92 high (omega arith)) ∙ cond-true (is_plain c) _ _ (plain_high c high)))
    (cases_lt c 128) in
    here ∙ by (c == 34) (c == 92) (is_plain c) _ _ _ _ (quoted_bytes cs true) (quoted_bytes cs false)
