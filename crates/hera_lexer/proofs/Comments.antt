-- Where a comment ends.
use Rattle.std.proofs.Common.{◌≡◌, ℕ, suc, ◌+◌, ◌≤◌, List, [], ◌∷◌, ◌++◌, length, take, Bool, true, false, cond, Option, Some, None, sym, refl, ap, ◌∙◌, subst, inl, inr, ⊎_elim, append_assoc, arith}
use Rattle.std.specs.Prelude.{◌&&◌, ◌==◌, ◌⊎◌}
use Rattle.std.proofs.lemmas.Bool.{cases_Bool, cond-true, cond-false, eqb-true, eq-eqb, and_parts, false≢true}
use Rattle.std.proofs.lemmas.List.{length-append}
use Rattle.hera_syntax.specs.Lexemes.{HasNoEnd}
use Rattle.hera_lexer.specs.Scan.{farther, comment_len}

-- no end stands in the characters, behind a star or not
abbrev pub NoEndAfter : Bool → List ℕ → Type 0
NoEndAfter false cs = HasNoEnd cs
NoEndAfter true cs = HasNoEnd (42 ∷ cs)

no_end_tail : (b : ℕ) (bs : List ℕ) → HasNoEnd (b ∷ bs) → HasNoEnd bs
no_end_tail b bs h front back e = h (b ∷ front) back (ap (λ xs. b ∷ xs) e)

no_end_plain : (star : Bool) (cs : List ℕ) → NoEndAfter star cs → HasNoEnd cs
no_end_plain false cs h = h
no_end_plain true cs h = no_end_tail 42 cs h

no_end_next : (b : ℕ) (bs : List ℕ) → HasNoEnd (b ∷ bs) → NoEndAfter (b == 42) bs
no_end_next b bs h = ⊎_elim
    (λ e. subst (λ v. NoEndAfter v bs) (sym e) (subst (λ z. HasNoEnd (z ∷ bs)) (eqb-true b 42 e) h))
    (λ e. subst (λ v. NoEndAfter v bs) (sym e) (no_end_tail b bs h))
    (cases_Bool (b == 42))

-- behind a star, the next is no slash
no_end_slash : (star : Bool) (b : ℕ) (bs : List ℕ) → NoEndAfter star (b ∷ bs) → (star && (b == 47)) ≡ false
no_end_slash false b bs h = refl
no_end_slash true b bs h = ⊎_elim (λ e. absurd (h [] bs (ap (λ z. 42 ∷ z ∷ bs) (eqb-true b 47 e)))) (λ e. e) (cases_Bool (b == 47))

pub farther_none : (n : ℕ) (r : Option ℕ) → farther n r ≡ None → r ≡ None
farther_none n None e = refl
farther_none n (Some m) e = cc

pub farther_some : (n : ℕ) (r : Option ℕ) (m : ℕ) → farther n r ≡ Some m → (k : ℕ) × (r ≡ Some k) × (n + k ≡ m)
farther_some n None m e = cc
farther_some n (Some k) m e = (k, refl, cc)

-- how a step goes: the end is here, or farther on
step : (v : Bool) (r s : Option ℕ) → cond v (Some 0) (farther 1 r) ≡ s → ((v ≡ true) × (s ≡ Some 0)) ⊎ ((v ≡ false) × (farther 1 r ≡ s))
step true r s e = inl (refl, sym e)
step false r s e = inr (refl, e)

no_end_cons : (b : ℕ) (bs : List ℕ) → comment_len (b == 42) bs ≡ None → NoEndAfter (b == 42) bs → HasNoEnd (b ∷ bs)
no_end_cons b bs none h [] back e =
    let star : b ≡ 42 = cc in
    let rest : bs ≡ 47 ∷ back = cc in
    let found : comment_len (b == 42) bs ≡ Some 0 = ap (λ z. comment_len z bs) (eq-eqb b 42 star) ∙ ap (comment_len true) rest in
    cc
no_end_cons b bs none h (f ∷ fs) back e = let rest : bs ≡ fs ++ 42 ∷ 47 ∷ back = cc in no_end_plain (b == 42) bs h fs back rest

no_end_nil : HasNoEnd []
no_end_nil [] back e = cc
no_end_nil (f ∷ fs) back e = cc

no_end_star : HasNoEnd (42 ∷ [])
no_end_star [] back e = cc
no_end_star (f ∷ []) back e = cc
no_end_star (f ∷ g ∷ fs) back e = cc

no_end_behind : (b : ℕ) (bs : List ℕ) → (b == 47) ≡ false → HasNoEnd (b ∷ bs) → HasNoEnd (42 ∷ b ∷ bs)
no_end_behind b bs other h [] back e = let slash : b ≡ 47 = cc in false≢true (sym other ∙ eq-eqb b 47 slash)
no_end_behind b bs other h (f ∷ fs) back e = let rest : b ∷ bs ≡ fs ++ 42 ∷ 47 ∷ back = cc in h fs back rest

-- where no end is found there is none
pub no_end : (star : Bool) (cs : List ℕ) → comment_len star cs ≡ None → NoEndAfter star cs
no_end false [] none = no_end_nil
no_end true [] none = no_end_star
no_end false (b ∷ bs) none = let rest = farther_none 1 _ none in no_end_cons b bs rest (no_end (b == 42) bs rest)
no_end true (b ∷ bs) none = ⊎_elim
    (λ slash. let found = sym (cond-true (b == 47) (Some 0) (farther 1 (comment_len (b == 42) bs)) slash) ∙ none in cc)
    (λ other.
    let rest = farther_none 1 _ (sym (cond-false (b == 47) (Some 0) (farther 1 (comment_len (b == 42) bs)) other) ∙ none) in
    no_end_behind b bs other (no_end_cons b bs rest (no_end (b == 42) bs rest)))
    (cases_Bool (b == 47))

-- the first end is found
pub comment_ends : (body more : List ℕ) (star : Bool) → NoEndAfter star body → comment_len star (body ++ 42 ∷ 47 ∷ more) ≡ Some (suc (length body))
comment_ends [] more false h = refl
comment_ends [] more true h = refl
comment_ends (b ∷ bs) more star h =
    cond-false (star && (b == 47)) _ _ (no_end_slash star b bs h) ∙ ap (farther 1) (comment_ends bs more (b == 42) (no_end_next b bs (no_end_plain star (b ∷ bs) h))) ∙ ap Some (omega arith)

-- what has no end stands before the first end
pub before_end : (body back : List ℕ) (star : Bool) (m : ℕ) → NoEndAfter star body → comment_len star (body ++ back) ≡ Some m → length body ≤ m
before_end [] back star m h e = omega arith
before_end (b ∷ bs) back star m h e =
    let far = farther_some 1 _ m (sym (cond-false (star && (b == 47)) _ _ (no_end_slash star b bs h)) ∙ e) in
    let rest = before_end bs back (b == 42) far.0 (no_end_next b bs (no_end_plain star (b ∷ bs) h)) far.1 in
    omega (arith, far.2)

-- the characters, behind a star or not, end with a star
abbrev ends_star : Bool → List ℕ → Bool
ends_star star [] = star
ends_star star (b ∷ bs) = ends_star (b == 42) bs

record Ends (star : Bool) (cs : List ℕ) (m : ℕ) : Type 0 where
  front : List ℕ
  more : List ℕ
  cut : cs ≡ front ++ 47 ∷ more
  long : m ≡ length front
  none : comment_len star front ≡ None
  last : ends_star star front ≡ true

ends : (star : Bool) (cs : List ℕ) (m : ℕ) → comment_len star cs ≡ Some m → Ends star cs m
ends star [] m e = cc
ends star (b ∷ bs) m e = ⊎_elim
    (λ t. let both = and_parts star (b == 47) t.0 in let zero_is : 0 ≡ m = (let same : Some m ≡ Some 0 = t.1 in cc) in
    record { front = []; more = bs; cut = ap (λ z. z ∷ bs) (eqb-true b 47 both.1); long = sym zero_is; none = refl; last = both.0 })
    (λ f. let far = farther_some 1 _ m f.1 in let rest = ends (b == 42) bs far.0 far.1 in
    record {
      front = b ∷ rest.front;
      more = rest.more;
      cut = ap (λ xs. b ∷ xs) rest.cut;
      long = omega (arith, far.2, rest.long);
      none = cond-false (star && (b == 47)) _ _ f.0 ∙ ap (farther 1) rest.none;
      last = rest.last;
    })
    (step (star && (b == 47)) (comment_len (b == 42) bs) (Some m) e)

last_star : (star : Bool) (cs : List ℕ) → ends_star star cs ≡ true → ((star ≡ true) × (cs ≡ [])) ⊎ ((body : List ℕ) × (cs ≡ body ++ 42 ∷ []))
last_star star [] e = inl (e, refl)
last_star star (b ∷ bs) e = ⊎_elim
    (λ t. inr ([], ap (λ z. z ∷ bs) (eqb-true b 42 t.0) ∙ ap (λ xs. 42 ∷ xs) t.1))
    (λ t. inr (b ∷ t.0, ap (λ xs. b ∷ xs) t.1))
    (last_star (b == 42) bs e)

no_end_front : (body more : List ℕ) → HasNoEnd (body ++ more) → HasNoEnd body
no_end_front body more h front back e = h front (back ++ more) (ap (λ xs. xs ++ more) e ∙ append_assoc front (42 ∷ 47 ∷ back) more)

take_front : (xs ys : List ℕ) → take (length xs) (xs ++ ys) ≡ xs
take_front [] ys = refl
take_front (x ∷ xs) ys = ap (λ zs. x ∷ zs) (take_front xs ys)

-- where an end is found, a body that has none stands before it
pub record IsBody (cs : List ℕ) (m : ℕ) : Type 0 where
  pub body : List ℕ
  pub more : List ℕ
  pub cut : cs ≡ body ++ 42 ∷ 47 ∷ more
  pub long : m ≡ suc (length body)
  pub front : take m cs ≡ body ++ 42 ∷ []
  pub none : HasNoEnd body

pub comment_found : (cs : List ℕ) (m : ℕ) → comment_len false cs ≡ Some m → IsBody cs m
comment_found cs m e =
    let at = ends false cs m e in ⊎_elim
    (λ t. absurd (false≢true t.0))
    (λ t.
    let body : List ℕ = t.0 in
    let is : at.front ≡ body ++ 42 ∷ [] = t.1 in
    let long : length at.front ≡ length body + 1 = ap length is ∙ length-append body (42 ∷ []) in
    record {
      body = body;
      more = at.more;
      cut = at.cut ∙ ap (λ xs. xs ++ 47 ∷ at.more) is ∙ append_assoc body (42 ∷ []) (47 ∷ at.more);
      long = omega (arith, at.long);
      front = ap (λ n. take n cs) at.long ∙ ap (take (length at.front)) at.cut ∙ take_front at.front (47 ∷ at.more) ∙ is;
      none = no_end_front body (42 ∷ []) (subst HasNoEnd is (no_end false at.front at.none));
    })
    (last_star false at.front at.last)
