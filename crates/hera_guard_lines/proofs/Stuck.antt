-- Where the reading is stuck, there is the fault.
use Rattle.std.proofs.Common.{◌≡◌, ℕ, zero, suc, ◌+◌, ◌≤◌, Bool, true, false, cond, List, [], ◌∷◌, ◌++◌, Some, refl, sym, ap, ◌∙◌, length, length-append, arith}
use Rattle.std.proofs.lemmas.Bool.{false≢true}
use Rattle.std.proofs.lemmas.Option.{none-some, same_Some}
use Rattle.hera_syntax.specs.declared.token.Token.{Token}
use Rattle.hera_syntax.specs.declared.token.Terminal.{Terminal}
use Rattle.hera_syntax.specs.declared.token.Terminal.TheVariants as terminals
use Rattle.hera_syntax.specs.Grammar.{terminal_of, same_terminal}
use Rattle.hera_parser_exprs.proofs.Tests.{terminal_same}
use Rattle.hera_guard_lines.specs.Lines.{line_form, lines_form, terminals_of, IsFaultAt}
use Rattle.hera_guard_lines.specs.Reading.{from_dot, stuck}
use Rattle.hera_guard_lines.proofs.Steps.{terminal_self}

abbrev head_of : Terminal → List Terminal → Terminal
head_of d [] = d
head_of d (x ∷ xs) = x

abbrev tail_of : List Terminal → List Terminal
tail_of [] = []
tail_of (x ∷ xs) = xs

same_head : (x y : Terminal) (xs ys : List Terminal) → x ∷ xs ≡ y ∷ ys → x ≡ y
same_head x y xs ys e = ap (head_of x) e

same_tail : (x y : Terminal) (xs ys : List Terminal) → x ∷ xs ≡ y ∷ ys → xs ≡ ys
same_tail x y xs ys e = ap tail_of e

no_cons : {A : Type 0} (x : A) (xs : List A) → x ∷ xs ≡ [] → ⊥
no_cons x xs e = let h : suc (length xs) ≡ 0 = ap length e in omega (arith, h)

-- the terminals that may stand: this end of a line, and so many lines
abbrev ends : List Terminal → ℕ → List Terminal
ends wanted n = wanted ++ lines_form n

-- the fault of tokens that are to be this end of a line and then lines, with so many left
record Fault (wanted : List Terminal) (tokens : List Token) (left : ℕ) : Type 0 where
  pub front : List Token
  pub rest : List Token
  pub cut : tokens ≡ front ++ rest
  pub here : left ≡ length rest
  pub begins : (n : ℕ) × (more : List Terminal) × (terminals_of front ++ more ≡ ends wanted n)
  pub no_more : (t : Token) (later : List Token) → rest ≡ t ∷ later → (n : ℕ) (more : List Terminal) → terminals_of (front ++ t ∷ []) ++ more ≡ ends wanted n → ⊥
  pub none : (n : ℕ) → terminals_of tokens ≡ ends wanted n → ⊥

-- the first token is not the one that is wanted
here_stuck : (w : Terminal) (wanted : List Terminal) (t : Token) (tokens : List Token) (left : ℕ) → same_terminal w (terminal_of t.kind) ≡ false → length (t ∷ tokens) ≡ left → Fault (w ∷ wanted) (t ∷ tokens) left
here_stuck w wanted t tokens left other e =
    let differs : (u : Terminal) → u ≡ terminal_of t.kind → u ≡ w → ⊥ = λ u is h. false≢true (sym other ∙ ap (λ x. same_terminal w x) (sym is ∙ h) ∙ terminal_self w) in
    record {
      front = [];
      rest = t ∷ tokens;
      cut = refl;
      here = sym e;
      begins = (0, ends (w ∷ wanted) 0, refl);
      no_more = λ u later h n more g. differs (terminal_of u.kind) (ap (λ (v : Token). terminal_of v.kind) (sym (first_token t u tokens later h))) (same_head (terminal_of u.kind) w more (ends wanted n) g);
      none = λ n g. differs (terminal_of t.kind) refl (same_head (terminal_of t.kind) w (terminals_of tokens) (ends wanted n) g);
    }
  where
    token_of : Token → List Token → Token
    token_of d [] = d
    token_of d (x ∷ xs) = x

    first_token : (x y : Token) (xs ys : List Token) → x ∷ xs ≡ y ∷ ys → x ≡ y
    first_token x y xs ys h = ap (token_of x) h

-- the first token is the one that is wanted
one_on : (w : Terminal) (wanted : List Terminal) (t : Token) (tokens : List Token) (left : ℕ) → same_terminal w (terminal_of t.kind) ≡ true → Fault wanted tokens left → Fault (w ∷ wanted) (t ∷ tokens) left
one_on w wanted t tokens left same f =
    let is : terminal_of t.kind ≡ w = sym (terminal_same w (terminal_of t.kind) same) in
    record {
      front = t ∷ f.front;
      rest = f.rest;
      cut = ap (λ ts. t ∷ ts) f.cut;
      here = f.here;
      begins = (f.begins.0, f.begins.1, λ i. is i ∷ f.begins.2 i);
      no_more = λ u later h n more g. f.no_more u later h n more (same_tail (terminal_of t.kind) w (terminals_of (f.front ++ u ∷ []) ++ more) (ends wanted n) g);
      none = λ n g. f.none n (same_tail (terminal_of t.kind) w (terminals_of tokens) (ends wanted n) g);
    }

step : (w : Terminal) (wanted : List Terminal) (t : Token) (tokens : List Token) (left : ℕ) → (stuck wanted tokens ≡ Some left → Fault wanted tokens left) →
    (v : Bool) → same_terminal w (terminal_of t.kind) ≡ v → cond v (stuck wanted tokens) (Some (length (t ∷ tokens))) ≡ Some left → Fault (w ∷ wanted) (t ∷ tokens) left
step w wanted t tokens left later true same e = one_on w wanted t tokens left same (later e)
step w wanted t tokens left later false other e = here_stuck w wanted t tokens left other (same_Some (length (t ∷ tokens)) left e)

-- a line begins
begun : (t : Token) (tokens : List Token) (left : ℕ) → Fault line_form (t ∷ tokens) left → Fault [] (t ∷ tokens) left
begun t tokens left f =
    record {
      front = f.front;
      rest = f.rest;
      cut = f.cut;
      here = f.here;
      begins = (suc f.begins.0, f.begins.1, f.begins.2);
      no_more = no_more;
      none = none;
    }
  where
    no_more : (u : Token) (later : List Token) → f.rest ≡ u ∷ later → (n : ℕ) (more : List Terminal) → terminals_of (f.front ++ u ∷ []) ++ more ≡ ends [] n → ⊥
    no_more u later h zero more g = some f.front g
      where
        some : (front : List Token) → terminals_of (front ++ u ∷ []) ++ more ≡ [] → ⊥
        some [] k = no_cons (terminal_of u.kind) more k
        some (x ∷ front) k = no_cons (terminal_of x.kind) (terminals_of (front ++ u ∷ []) ++ more) k
    no_more u later h (suc n) more g = f.no_more u later h n more g

    none : (n : ℕ) → terminals_of (t ∷ tokens) ≡ ends [] n → ⊥
    none zero g = no_cons (terminal_of t.kind) (terminals_of tokens) g
    none (suc n) g = f.none n g

fault : (wanted : List Terminal) (tokens : List Token) (left : ℕ) → stuck wanted tokens ≡ Some left → Fault wanted tokens left
fault [] [] left e = absurd (none-some left e)
fault (w ∷ wanted) [] left e =
    record {
      front = [];
      rest = [];
      cut = refl;
      here = sym (same_Some 0 left e);
      begins = (0, ends (w ∷ wanted) 0, refl);
      no_more = λ t later h n more g. no_cons t later (sym h);
      none = λ n g. no_cons w (ends wanted n) (sym g);
    }
fault [] (t ∷ tokens) left e = begun t tokens left (step terminals.Name from_dot t tokens left (fault from_dot tokens left) (same_terminal terminals.Name (terminal_of t.kind)) refl e)
fault (w ∷ wanted) (t ∷ tokens) left e = step w wanted t tokens left (fault wanted tokens left) (same_terminal w (terminal_of t.kind)) refl e

-- the place of the fault is behind the tokens that are not left
pub stuck_is_fault : (tokens : List Token) (left : ℕ) → stuck [] tokens ≡ Some left → (left ≤ length tokens) × ((place : ℕ) → place + left ≡ length tokens → IsFaultAt tokens place)
stuck_is_fault tokens left e =
    let f = fault [] tokens left e in
    let whole : length tokens ≡ length f.front + length f.rest = ap length f.cut ∙ length-append f.front f.rest in
    let rest = f.here in (
      omega (arith, whole, rest),
      λ place at. record {
        front = f.front;
        rest = f.rest;
        cut = f.cut;
        here = omega (arith, whole, rest, at);
        begins = f.begins;
        no_more = λ t later h begins. f.no_more t later h begins.0 begins.1 begins.2;
        no_lines = f.none;
      },
    )
