-- The script of a drill: how it is put together, and that it is short.
use Rattle.std.proofs.Common.{◌≡◌, ◌∙◌, ap, [], ◌+◌, ◌<◌, ◌≤◌, ◌++◌, ℕ, List, length, length-append, arith, lit≤, lit<, ◌^◌}
use Rattle.std.proofs.lemmas.Fmt.{length-decimal-le}
use Rattle.hera_meaning.specs.Printed.{number_text}
use Rattle.hera_syntax.specs.Tokens.{script_limit}
use Rattle.hera_top.specs.Drill.{drill_start, drill_changes, drill_prints, drill_end, drill_text}

seven : (a b c d e f g : List ℕ) → length (a ++ b ++ c ++ d ++ e ++ f ++ g) ≡ length a + length b + length c + length d + length e + length f + length g
seven a b c d e f g =
    omega (arith, length-append (a ++ b ++ c ++ d ++ e ++ f) g, length-append (a ++ b ++ c ++ d ++ e) f, length-append (a ++ b ++ c ++ d) e, length-append (a ++ b ++ c) d, length-append (a ++ b) c, length-append a b)

few : (a c e g n : List ℕ) → length a ≤ 300 → length c ≤ 300 → length e ≤ 300 → length g ≤ 300 → length n ≤ 20 → length (a ++ n ++ c ++ n ++ e ++ n ++ g) ≤ 1048576
few a c e g n la lc le lg ln = omega (arith, seven a n c n e n g, la, lc, le, lg, ln)

pub drill_short : (n : ℕ) → n < 2 ^ 64 → length (drill_text n) ≤ script_limit
drill_short n low =
    few drill_start drill_changes drill_prints drill_end (number_text n) (lit≤ tt) (lit≤ tt) (lit≤ tt) (lit≤ tt) (length-decimal-le 20 n (lit< tt) (omega (arith, low)) low)

pub put_together : (t0 t1 t2 t3 t4 t5 t6 t7 a c e g n : List ℕ) → t0 ≡ [] → t1 ≡ t0 ++ a → t2 ≡ t1 ++ n → t3 ≡ t2 ++ c → t4 ≡ t3 ++ n → t5 ≡ t4 ++ e → t6 ≡ t5 ++ n → t7 ≡ t6 ++ g → t7 ≡ a ++ n ++ c ++ n ++ e ++ n ++ g
put_together t0 t1 t2 t3 t4 t5 t6 t7 a c e g n e0 e1 e2 e3 e4 e5 e6 e7 =
    let p1 : t1 ≡ a = e1 ∙ ap (λ (l : List ℕ). l ++ a) e0 in
    let p2 : t2 ≡ a ++ n = e2 ∙ ap (λ (l : List ℕ). l ++ n) p1 in
    let p3 : t3 ≡ a ++ n ++ c = e3 ∙ ap (λ (l : List ℕ). l ++ c) p2 in
    let p4 : t4 ≡ a ++ n ++ c ++ n = e4 ∙ ap (λ (l : List ℕ). l ++ n) p3 in
    let p5 : t5 ≡ a ++ n ++ c ++ n ++ e = e5 ∙ ap (λ (l : List ℕ). l ++ e) p4 in
    let p6 : t6 ≡ a ++ n ++ c ++ n ++ e ++ n = e6 ∙ ap (λ (l : List ℕ). l ++ n) p5 in
    e7 ∙ ap (λ (l : List ℕ). l ++ g) p6
