-- Tokens have at most one place of a fault, since a front of a beginning is a beginning.
use Rattle.std.proofs.Common.{◌≡◌, ◌<◌, ℕ, List, [], ◌∷◌, ◌++◌, refl, sym, ap, subst, ◌∙◌, length, arith, ⊎_elim}
use Rattle.std.proofs.lemmas.Bool.{cases_lt}
use Rattle.hera_syntax.specs.declared.token.Token.{Token}
use Rattle.hera_syntax.specs.Grammar.{Allows, terminal_of, Part}
use Rattle.hera_syntax.specs.Trees.{Begins, so_far, begins_kept, begins_left, begins_phrase, IsFaultAt}

same_first : {x y : Token} {xs ys : List Token} → x ∷ xs ≡ y ∷ ys → x ≡ y
same_first e = cc

same_later : {x y : Token} {xs ys : List Token} → x ∷ xs ≡ y ∷ ys → xs ≡ ys
same_later e = cc

-- a front of a beginning is one
front_begins : {ps : List Part} {us : List Token} → Begins ps us → (xs ys : List Token) → us ≡ xs ++ ys → Begins ps xs
front_begins so_far [] ys e = so_far
front_begins so_far (x ∷ xs) ys e = absurd (cc)
front_begins (begins_kept h b) [] ys e = so_far
front_begins (begins_kept {ts = codes} h b) (x ∷ xs) ys e = begins_kept (subst (Allows codes) (same_first e) h) (front_begins b xs ys (same_later e))
front_begins (begins_left h b) [] ys e = so_far
front_begins (begins_left {t = c} h b) (x ∷ xs) ys e =
    let P : Token → Type 0 = λ u. c ≡ terminal_of u.kind in
    begins_left (subst P (same_first e) h) (front_begins b xs ys (same_later e))
front_begins (begins_phrase k l b) xs ys e = begins_phrase k l (front_begins b xs ys e)

record Longer (short long : List Token) (rest : List Token) : Type 0 where
  pub token : Token
  pub more : List Token
  pub later : List Token
  pub is : long ≡ short ++ token ∷ more
  pub cut : rest ≡ token ∷ later

-- of two fronts of one list the longer one goes on with the next token behind the shorter one
longer : (short long rest end : List Token) → short ++ rest ≡ long ++ end → length short < length long → Longer short long rest
longer [] [] rest end e l = absurd (omega arith)
longer [] (t ∷ more) rest end e l = record { token = t; more = more; later = more ++ end; is = refl; cut = e }
longer (x ∷ short) [] rest end e l = absurd (omega arith)
longer (x ∷ short) (y ∷ long) rest end e l =
    let n = longer short long rest end (same_later e) (omega arith) in
    let first : y ≡ x = sym (same_first e) in
    record {
      token = n.token;
      more = n.more;
      later = n.later;
      is = ap (λ z. z ∷ long) first ∙ ap (λ zs. x ∷ zs) n.is;
      cut = n.cut;
    }

not_before : (ts : List Token) (a b : ℕ) → IsFaultAt ts a → IsFaultAt ts b → a < b → ⊥
not_before ts a b f g l =
    let less : length f.front < length g.front = omega (arith, f.here, g.here) in
    let n = longer f.front g.front f.rest g.rest (sym f.cut ∙ g.cut) less in
    f.no_more n.token n.later n.cut (front_begins g.begins (f.front ++ n.token ∷ []) n.more (n.is ∙ append_one f.front n.token n.more)) where
      append_one : (xs : List Token) (t : Token) (ys : List Token) → xs ++ t ∷ ys ≡ (xs ++ t ∷ []) ++ ys
      append_one [] t ys = refl
      append_one (x ∷ xs) t ys = ap (λ zs. x ∷ zs) (append_one xs t ys)

pub one_place : (ts : List Token) (a b : ℕ) → IsFaultAt ts a → IsFaultAt ts b → a ≡ b
one_place ts a b f g =
    ⊎_elim (λ l. absurd (not_before ts a b f g l)) (λ m.
    ⊎_elim (λ l. absurd (not_before ts b a g f l)) (λ n. omega arith) (cases_lt b a)) (cases_lt a b)
