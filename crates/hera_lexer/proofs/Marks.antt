-- The punctuation that the tables name.
use Rattle.std.proofs.Common.{◌≡◌, ℕ, ◌<◌, [], ◌∷◌, Bool, true, false, cond, Option, Some, sym, refl, subst, inl, inr, arith}
use Rattle.std.specs.Prelude.{◌&&◌, ◌==◌, ◌⊎◌}
use Rattle.std.proofs.lemmas.Bool.{eqb-true, and_parts}
use Rattle.hera_syntax.specs.declared.words.Mark.{Mark}
use Rattle.hera_syntax.specs.declared.words.Mark.TheVariants as puncts
use Rattle.hera_syntax.specs.Words.{mark_text}
use Rattle.hera_lexer.specs.Scan.{one_mark, two_mark}
use Rattle.hera_lexer.proofs.Classes.{class_of, marks}

pick : (P : Type 0) (b : Bool) (x y z : Option Mark) → cond b x y ≡ z → (b ≡ true → x ≡ z → P) → (b ≡ false → y ≡ z → P) → P
pick P true x y z e f g = f refl e
pick P false x y z e f g = g refl e

-- a punctuation of one character
pub record IsOne (a : ℕ) (i : Mark) : Type 0 where
  pub at : mark_text i ≡ a ∷ []
  pub class : (class_of a ≡ marks) ⊎ (a ≡ 47)
  pub low : a < 128

pub record IsTwo (a b : ℕ) (i : Mark) : Type 0 where
  pub at : mark_text i ≡ a ∷ b ∷ []
  pub class : class_of a ≡ marks
  pub low : a < 128
  pub next_some : 0 < b
  pub next_low : b < 128

one_at : (a n : ℕ) (i m : Mark) → (a == n) ≡ true → Some m ≡ Some i → IsOne n m → IsOne a i
one_at a n i m t e h = let here : m ≡ i = cc in subst (λ z. IsOne z i) (sym (eqb-true a n t)) (subst (λ j. IsOne n j) here h)

two_at : (a b n k : ℕ) (i m : Mark) → ((a == n) && (b == k)) ≡ true → Some m ≡ Some i → IsTwo n k m → IsTwo a b i
two_at a b n k i m t e h =
    let here : m ≡ i = cc in
    let both = and_parts (a == n) (b == k) t in
    subst (λ z. IsTwo z b i) (sym (eqb-true a n both.0)) (subst (λ z. IsTwo n z i) (sym (eqb-true b k both.1)) (subst (λ j. IsTwo n k j) here h))

pub two_found : (a b : ℕ) (i : Mark) → two_mark a b ≡ Some i → IsTwo a b i
unfolding class_of
two_found a b i e =
    pick (IsTwo a b i) ((a == 61) && (b == 61)) _ _ _ e (λ t f. two_at a b 61 61 i puncts.EqualEqual t f (record { at = refl; class = refl; low = omega arith; next_some = omega arith; next_low = omega arith })) (λ _ e.
    pick (IsTwo a b i) ((a == 33) && (b == 61)) _ _ _ e (λ t f. two_at a b 33 61 i puncts.NotEqual t f (record { at = refl; class = refl; low = omega arith; next_some = omega arith; next_low = omega arith })) (λ _ e.
    pick (IsTwo a b i) ((a == 60) && (b == 61)) _ _ _ e (λ t f. two_at a b 60 61 i puncts.LessEqual t f (record { at = refl; class = refl; low = omega arith; next_some = omega arith; next_low = omega arith })) (λ _ e.
    pick (IsTwo a b i) ((a == 62) && (b == 61)) _ _ _ e (λ t f. two_at a b 62 61 i puncts.GreaterEqual t f (record { at = refl; class = refl; low = omega arith; next_some = omega arith; next_low = omega arith })) (λ _ e.
    pick (IsTwo a b i) ((a == 38) && (b == 38)) _ _ _ e (λ t f. two_at a b 38 38 i puncts.AndAnd t f (record { at = refl; class = refl; low = omega arith; next_some = omega arith; next_low = omega arith })) (λ _ e.
    pick (IsTwo a b i) ((a == 124) && (b == 124)) _ _ _ e (λ t f. two_at a b 124 124 i puncts.OrOr t f (record { at = refl; class = refl; low = omega arith; next_some = omega arith; next_low = omega arith })) (λ _ e.
    cc))))))

pub one_found : (a : ℕ) (i : Mark) → one_mark a ≡ Some i → IsOne a i
unfolding class_of
one_found a i e =
    pick (IsOne a i) (a == 40) _ _ _ e (λ t f. one_at a 40 i puncts.OpenParen t f (record { at = refl; class = inl refl; low = omega arith })) (λ _ e.
    pick (IsOne a i) (a == 41) _ _ _ e (λ t f. one_at a 41 i puncts.CloseParen t f (record { at = refl; class = inl refl; low = omega arith })) (λ _ e.
    pick (IsOne a i) (a == 91) _ _ _ e (λ t f. one_at a 91 i puncts.OpenSquare t f (record { at = refl; class = inl refl; low = omega arith })) (λ _ e.
    pick (IsOne a i) (a == 93) _ _ _ e (λ t f. one_at a 93 i puncts.CloseSquare t f (record { at = refl; class = inl refl; low = omega arith })) (λ _ e.
    pick (IsOne a i) (a == 123) _ _ _ e (λ t f. one_at a 123 i puncts.OpenBrace t f (record { at = refl; class = inl refl; low = omega arith })) (λ _ e.
    pick (IsOne a i) (a == 125) _ _ _ e (λ t f. one_at a 125 i puncts.CloseBrace t f (record { at = refl; class = inl refl; low = omega arith })) (λ _ e.
    pick (IsOne a i) (a == 44) _ _ _ e (λ t f. one_at a 44 i puncts.Comma t f (record { at = refl; class = inl refl; low = omega arith })) (λ _ e.
    pick (IsOne a i) (a == 59) _ _ _ e (λ t f. one_at a 59 i puncts.Semicolon t f (record { at = refl; class = inl refl; low = omega arith })) (λ _ e.
    pick (IsOne a i) (a == 58) _ _ _ e (λ t f. one_at a 58 i puncts.Colon t f (record { at = refl; class = inl refl; low = omega arith })) (λ _ e.
    pick (IsOne a i) (a == 46) _ _ _ e (λ t f. one_at a 46 i puncts.Dot t f (record { at = refl; class = inl refl; low = omega arith })) (λ _ e.
    pick (IsOne a i) (a == 61) _ _ _ e (λ t f. one_at a 61 i puncts.Equals t f (record { at = refl; class = inl refl; low = omega arith })) (λ _ e.
    pick (IsOne a i) (a == 60) _ _ _ e (λ t f. one_at a 60 i puncts.Less t f (record { at = refl; class = inl refl; low = omega arith })) (λ _ e.
    pick (IsOne a i) (a == 62) _ _ _ e (λ t f. one_at a 62 i puncts.Greater t f (record { at = refl; class = inl refl; low = omega arith })) (λ _ e.
    pick (IsOne a i) (a == 43) _ _ _ e (λ t f. one_at a 43 i puncts.Plus t f (record { at = refl; class = inl refl; low = omega arith })) (λ _ e.
    pick (IsOne a i) (a == 45) _ _ _ e (λ t f. one_at a 45 i puncts.Minus t f (record { at = refl; class = inl refl; low = omega arith })) (λ _ e.
    pick (IsOne a i) (a == 42) _ _ _ e (λ t f. one_at a 42 i puncts.Star t f (record { at = refl; class = inl refl; low = omega arith })) (λ _ e.
    pick (IsOne a i) (a == 47) _ _ _ e (λ t f. one_at a 47 i puncts.Slash t f (record { at = refl; class = inr refl; low = omega arith })) (λ _ e.
    pick (IsOne a i) (a == 37) _ _ _ e (λ t f. one_at a 37 i puncts.Percent t f (record { at = refl; class = inl refl; low = omega arith })) (λ _ e.
    pick (IsOne a i) (a == 33) _ _ _ e (λ t f. one_at a 33 i puncts.Bang t f (record { at = refl; class = inl refl; low = omega arith })) (λ _ e.
    pick (IsOne a i) (a == 38) _ _ _ e (λ t f. one_at a 38 i puncts.And t f (record { at = refl; class = inl refl; low = omega arith })) (λ _ e.
    cc))))))))))))))))))))
