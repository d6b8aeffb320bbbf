-- Tests of terminals and of lists of them.
use Rattle.std.proofs.Common.{◌≡◌, ℕ, List, [], ◌∷◌, ◌++◌, Bool, true, false, refl, sym, ap, subst, ◌∙◌, ◌⊎◌, inl, inr, not, ◌&&◌, ◌||◌, slice_index_or}
use Rattle.std.proofs.lemmas.Bool.{eqb-true, eq-eqb}
use Rattle.std.proofs.lemmas.List.Folds.{list_any-append}
use Rattle.std.specs.List.{list_all}
use Rattle.hera_syntax.specs.declared.token.Terminal.{Terminal}
use Rattle.hera_syntax.specs.declared.token.Terminal.TheVariants as terminals
use Rattle.hera_syntax.specs.declared.words.Keyword.TheVariants as keys
use Rattle.hera_syntax.specs.declared.words.Mark.TheVariants as puncts
use Rattle.hera_syntax.specs.declared.words.Keyword.{Keyword}
use Rattle.hera_syntax.specs.declared.words.Mark.{Mark}
use Rattle.hera_syntax.specs.Words.{keyword_number, all_keywords, mark_number}
use Rattle.hera_syntax.specs.Grammar.{same_terminal, is_one_of}

-- each keyword and each punctuation by its number
abbrev keyword_at : ℕ → Keyword
keyword_at n = slice_index_or all_keywords n keys.Relation

keyword_back : (k : Keyword) → keyword_at (keyword_number k) ≡ k
keyword_back keys.Relation = refl
keyword_back keys.Func = refl
keyword_back keys.Proc = refl
keyword_back keys.Main = refl
keyword_back keys.Int = refl
keyword_back keys.Bool = refl
keyword_back keys.Text = refl
keyword_back keys.Delta = refl
keyword_back keys.Rel = refl
keyword_back keys.Tuple = refl
keyword_back keys.If = refl
keyword_back keys.Else = refl
keyword_back keys.While = refl
keyword_back keys.Foreach = refl
keyword_back keys.In = refl
keyword_back keys.Print = refl
keyword_back keys.Apply = refl
keyword_back keys.Commit = refl
keyword_back keys.Rollback = refl
keyword_back keys.Assert = refl
keyword_back keys.Return = refl
keyword_back keys.True = refl
keyword_back keys.False = refl
keyword_back keys.Fail = refl
keyword_back keys.When = refl
keyword_back keys.Rows = refl
keyword_back keys.Select = refl
keyword_back keys.Map = refl
keyword_back keys.Project = refl
keyword_back keys.Rename = refl
keyword_back keys.Union = refl
keyword_back keys.Minus = refl
keyword_back keys.Inter = refl
keyword_back keys.Join = refl
keyword_back keys.Group = refl
keyword_back keys.By = refl
keyword_back keys.Count = refl
keyword_back keys.Empty = refl
keyword_back keys.Sum = refl
keyword_back keys.Min = refl
keyword_back keys.Max = refl
keyword_back keys.IsFail = refl
keyword_back keys.Bulk = refl
keyword_back keys.Ins = refl
keyword_back keys.Del = refl

abbrev all_marks : List Mark
all_marks = puncts.OpenParen ∷ puncts.CloseParen ∷ puncts.OpenSquare ∷ puncts.CloseSquare ∷ puncts.OpenBrace ∷ puncts.CloseBrace ∷ puncts.Comma ∷ puncts.Semicolon ∷ puncts.Colon ∷
    puncts.Dot ∷ puncts.Equals ∷ puncts.EqualEqual ∷ puncts.NotEqual ∷ puncts.Less ∷ puncts.LessEqual ∷ puncts.Greater ∷ puncts.GreaterEqual ∷ puncts.Plus ∷
    puncts.Minus ∷ puncts.Star ∷ puncts.Slash ∷ puncts.Percent ∷ puncts.Bang ∷ puncts.And ∷ puncts.AndAnd ∷ puncts.OrOr ∷ []

mark_back : (m : Mark) → slice_index_or all_marks (mark_number m) puncts.OpenParen ≡ m
mark_back puncts.OpenParen = refl
mark_back puncts.CloseParen = refl
mark_back puncts.OpenSquare = refl
mark_back puncts.CloseSquare = refl
mark_back puncts.OpenBrace = refl
mark_back puncts.CloseBrace = refl
mark_back puncts.Comma = refl
mark_back puncts.Semicolon = refl
mark_back puncts.Colon = refl
mark_back puncts.Dot = refl
mark_back puncts.Equals = refl
mark_back puncts.EqualEqual = refl
mark_back puncts.NotEqual = refl
mark_back puncts.Less = refl
mark_back puncts.LessEqual = refl
mark_back puncts.Greater = refl
mark_back puncts.GreaterEqual = refl
mark_back puncts.Plus = refl
mark_back puncts.Minus = refl
mark_back puncts.Star = refl
mark_back puncts.Slash = refl
mark_back puncts.Percent = refl
mark_back puncts.Bang = refl
mark_back puncts.And = refl
mark_back puncts.AndAnd = refl
mark_back puncts.OrOr = refl

keyword_same : (j k : Keyword) → keyword_number j ≡ keyword_number k → j ≡ k
keyword_same j k e = sym (keyword_back j) ∙ ap keyword_at e ∙ keyword_back k

mark_same : (p q : Mark) → mark_number p ≡ mark_number q → p ≡ q
mark_same p q e = sym (mark_back p) ∙ ap (λ n. slice_index_or all_marks n puncts.OpenParen) e ∙ mark_back q

-- two terminals that test as one are one
pub terminal_same : (a b : Terminal) → same_terminal a b ≡ true → a ≡ b
terminal_same terminals.Name terminals.Name e = refl
terminal_same terminals.Int terminals.Int e = refl
terminal_same terminals.Text terminals.Text e = refl
terminal_same (terminals.Key j) (terminals.Key k) e = ap terminals.Key (keyword_same j k (eqb-true (keyword_number j) (keyword_number k) e))
terminal_same (terminals.Punct p) (terminals.Punct q) e = ap terminals.Punct (mark_same p q (eqb-true (mark_number p) (mark_number q) e))
terminal_same _ _ e = cc

terminal_self : (c : Terminal) → same_terminal c c ≡ true
terminal_self terminals.Name = refl
terminal_self terminals.Int = refl
terminal_self terminals.Text = refl
terminal_self (terminals.Key k) = eq-eqb (keyword_number k) (keyword_number k) refl
terminal_self (terminals.Punct p) = eq-eqb (mark_number p) (mark_number p) refl

pub bool_cases : (b : Bool) → (b ≡ true) ⊎ (b ≡ false)
bool_cases true = inl refl
bool_cases false = inr refl

pub and_left : (a b : Bool) → (a && b) ≡ true → a ≡ true
and_left true b h = refl
and_left false b h = h

pub and_right : (a b : Bool) → (a && b) ≡ true → b ≡ true
and_right true b h = h
and_right false b h = cc

pub and_both : (a b : Bool) → a ≡ true → b ≡ true → (a && b) ≡ true
and_both true b h k = k
and_both false b h k = h

pub or_right : (a b : Bool) → (a || b) ≡ true → a ≡ false → b ≡ true
or_right true b h e = cc
or_right false b h e = h

pub or_one : (a b : Bool) → a ≡ true → (a || b) ≡ true
or_one true b h = refl
or_one false b h = cc

pub or_two : (a b : Bool) → b ≡ true → (a || b) ≡ true
or_two true b h = refl
or_two false b h = h

pub or_not : (a b : Bool) → (not a || b) ≡ true → a ≡ true → b ≡ true
or_not true b h e = h
or_not false b h e = cc

pub not_true_false : (a : Bool) → not a ≡ true → a ≡ false
not_true_false true h = cc
not_true_false false h = refl

pub is_false : (a : Bool) → (a ≡ true → ⊥) → a ≡ false
is_false true h = absurd (h refl)
is_false false h = refl

pub true_not_false : {a : Bool} → a ≡ true → a ≡ false → ⊥
true_not_false e f = cc

-- a terminal among xs passes what each of xs passes
pub among : (p : Terminal → Bool) (xs : List Terminal) (c : Terminal) → list_all p xs ≡ true → is_one_of xs c ≡ true → p c ≡ true
among p [] c h m = cc
among p (x ∷ xs) c h m =
    elim (bool_cases (same_terminal x c)) [
      | inl here ↦ let e : x ≡ c = terminal_same x c here in subst (λ y. p y ≡ true) e (and_left (p x) (list_all p xs) h)
      | inr other ↦ among p xs c (and_right (p x) (list_all p xs) h) (or_right (same_terminal x c) (is_one_of xs c) m other)
    ]

pub one_of_left : (xs ys : List Terminal) (c : Terminal) → is_one_of xs c ≡ true → is_one_of (xs ++ ys) c ≡ true
one_of_left xs ys c h = list_any-append (λ d. same_terminal d c) xs ys ∙ or_one (is_one_of xs c) (is_one_of ys c) h

pub one_of_right : (xs ys : List Terminal) (c : Terminal) → is_one_of ys c ≡ true → is_one_of (xs ++ ys) c ≡ true
one_of_right xs ys c h = list_any-append (λ d. same_terminal d c) xs ys ∙ or_two (is_one_of xs c) (is_one_of ys c) h

pub one_of_either : (xs ys : List Terminal) (c : Terminal) → is_one_of (xs ++ ys) c ≡ true → (is_one_of xs c ≡ true) ⊎ (is_one_of ys c ≡ true)
one_of_either xs ys c h =
    elim (bool_cases (is_one_of xs c)) [
      | inl here ↦ inl here
      | inr other ↦ inr (or_right (is_one_of xs c) (is_one_of ys c) (sym (list_any-append (λ d. same_terminal d c) xs ys) ∙ h) other)
    ]

-- a terminal of xs is none of ys, where no terminal of xs is
pub apart : (xs ys : List Terminal) (c : Terminal) → list_all (λ d. not (is_one_of ys d)) xs ≡ true → is_one_of xs c ≡ true → is_one_of ys c ≡ false
apart xs ys c t h = not_true_false (is_one_of ys c) (among (λ d. not (is_one_of ys d)) xs c t h)

-- a terminal is the one of a list of itself
pub self_one : (c : Terminal) → is_one_of (c ∷ []) c ≡ true
self_one c = or_one (same_terminal c c) false (terminal_self c)

-- a terminal among one is that one
pub one_same : (c d : Terminal) → is_one_of (c ∷ []) d ≡ true → c ≡ d
one_same c d h = terminal_same c d (or_false (same_terminal c d) h) where
  or_false : (a : Bool) → (a || false) ≡ true → a ≡ true
  or_false true e = refl
  or_false false e = e
