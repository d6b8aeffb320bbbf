-- Where a text ends.
use Rattle.std.proofs.Common.{◌≡◌, ℕ, List, [], ◌∷◌, ◌++◌, length, Bool, true, false, cond, Some, None, sym, refl, ap, ◌∙◌, subst, ⊎_elim, arith}
use Rattle.std.specs.Prelude.{◌||◌, ◌==◌}
use Rattle.std.proofs.lemmas.Bool.{cases_Bool, cond-true, cond-false, eqb-true, or_parts, not-true}
use Rattle.hera_syntax.specs.Lexemes.{Spells, nothing, plain, escaped, is_plain, escape_of}
use Rattle.hera_lexer.specs.Scan.{farther, quoted_len, is_escape}
use Rattle.hera_lexer.proofs.Comments.{farther_some}

-- what is plain is no quote and no escape
pub plain_tests : (c : ℕ) → is_plain c ≡ true → ((c == 34) ≡ false) × ((c == 92) ≡ false)
plain_tests c h =
    let a = or_parts _ _ (not-true _ h) in
    let b = or_parts _ _ a.0 in
    let d = or_parts _ _ b.0 in
    or_parts (c == 34) (c == 92) d.0

escape_test : (c d : ℕ) → escape_of c ≡ Some d → is_escape c ≡ true
escape_test c d h = by (c == 34) (c == 92) (c == 110) (c == 116) h where
  by : (p q r s : Bool) → cond p (Some 34) (cond q (Some 92) (cond r (Some 10) (cond s (Some 9) None))) ≡ Some d → (p || q || r || s) ≡ true
  by true q r s h = refl
  by false true r s h = refl
  by false false true s h = refl
  by false false false true h = refl
  by false false false false h = cc

-- what spells a value ends at its quote
pub quoted_spells : (body value more : List ℕ) → Spells body value → quoted_len false (body ++ 34 ∷ more) ≡ Some (length body)
quoted_spells _ _ more nothing = refl
quoted_spells _ _ more (plain {c} {body} {value} h s) =
    let tests = plain_tests c h in
    cond-false (c == 34) _ _ tests.0 ∙ cond-false (c == 92) _ _ tests.1 ∙ cond-true (is_plain c) _ _ h ∙ ap (farther 1) (quoted_spells body value more s) ∙ ap Some (omega arith)
quoted_spells _ _ more (escaped {c} {d} {body} {value} h s) =
    ap (farther 1) (cond-true (is_escape c) _ _ (escape_test c d h) ∙ ap (farther 1) (quoted_spells body value more s)) ∙ ap Some (omega arith)

escape_some : (c : ℕ) → is_escape c ≡ true → (d : ℕ) × (escape_of c ≡ Some d)
escape_some c h = by (c == 34) (c == 92) (c == 110) (c == 116) h where
  by : (p q r s : Bool) → (p || q || r || s) ≡ true → (d : ℕ) × (cond p (Some 34) (cond q (Some 92) (cond r (Some 10) (cond s (Some 9) None))) ≡ Some d)
  by true q r s h = (34, refl)
  by false true r s h = (92, refl)
  by false false true s h = (10, refl)
  by false false false true h = (9, refl)
  by false false false false h = cc

-- the body up to the quote, behind a `\` or not
abbrev pub Quoted : Bool → List ℕ → ℕ → Type 0
Quoted false cs n = (body : List ℕ) × (value : List ℕ) × (more : List ℕ) × (cs ≡ body ++ 34 ∷ more) × (n ≡ length body) × Spells body value
Quoted true cs n = (body : List ℕ) × (value : List ℕ) × (more : List ℕ) × (cs ≡ body ++ 34 ∷ more) × (n ≡ length body) × Spells (92 ∷ body) value

pub quoted_found : (escaped_here : Bool) (cs : List ℕ) (n : ℕ) → quoted_len escaped_here cs ≡ Some n → Quoted escaped_here cs n
quoted_found true [] n e = cc
quoted_found false [] n e = cc
quoted_found true (c ∷ cs) n e = ⊎_elim
    (λ h.
    let far = farther_some 1 _ n (sym (cond-true (is_escape c) _ _ h) ∙ e) in
    let rest = quoted_found false cs far.0 far.1 in
    let d = escape_some c h in
    (c ∷ rest.0, d.0 ∷ rest.1, rest.2, ap (λ xs. c ∷ xs) rest.3, omega (arith, far.2, rest.4), escaped d.1 rest.5))
    (λ h. let none = sym (cond-false (is_escape c) (farther 1 (quoted_len false cs)) None h) ∙ e in cc)
    (cases_Bool (is_escape c))
quoted_found false (c ∷ cs) n e = ⊎_elim
    (λ quote.
    let none : Some 0 ≡ Some n = sym (cond-true (c == 34) _ _ quote) ∙ e in
    let zero_is : 0 ≡ n = cc in
    ([], [], cs, ap (λ z. z ∷ cs) (eqb-true c 34 quote), sym zero_is, nothing))
    (λ no_quote. let e = sym (cond-false (c == 34) _ _ no_quote) ∙ e in ⊎_elim
    (λ slash.
    let far = farther_some 1 _ n (sym (cond-true (c == 92) _ _ slash) ∙ e) in
    let rest = quoted_found true cs far.0 far.1 in
    let is : c ≡ 92 = eqb-true c 92 slash in
    (c ∷ rest.0, rest.1, rest.2, ap (λ xs. c ∷ xs) rest.3, omega (arith, far.2, rest.4), subst (λ z. Spells (z ∷ rest.0) rest.1) (sym is) rest.5))
    (λ no_slash. let e = sym (cond-false (c == 92) _ _ no_slash) ∙ e in ⊎_elim
    (λ h.
    let far = farther_some 1 _ n (sym (cond-true (is_plain c) _ _ h) ∙ e) in
    let rest = quoted_found false cs far.0 far.1 in
    (c ∷ rest.0, c ∷ rest.1, rest.2, ap (λ xs. c ∷ xs) rest.3, omega (arith, far.2, rest.4), plain h rest.5))
    (λ h. let none = sym (cond-false (is_plain c) (farther 1 (quoted_len false cs)) None h) ∙ e in cc)
    (cases_Bool (is_plain c)))
    (cases_Bool (c == 92)))
    (cases_Bool (c == 34))
