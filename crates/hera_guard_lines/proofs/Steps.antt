-- Steps of the reading.
use Rattle.std.proofs.Common.{◌≡◌, ℕ, ◌<◌, true, false, cond, List, [], ◌∷◌, ◌++◌, Some, None, refl, sym, ap, ◌∙◌, subst, length, arith, append_assoc, append-nil}
use Rattle.std.proofs.lemmas.Bool.{eq-eqb}
use Rattle.std.proofs.lemmas.Option.{none-some, same_Some}
use Rattle.hera_syntax.specs.declared.token.TokenKind.{TokenKind}
use Rattle.hera_syntax.specs.declared.token.TokenKind.TheVariants as kinds
use Rattle.hera_syntax.specs.declared.token.Token.{Token}
use Rattle.hera_syntax.specs.declared.token.Terminal.{Terminal}
use Rattle.hera_syntax.specs.declared.token.Terminal.TheVariants as terminals
use Rattle.hera_syntax.specs.declared.words.Mark.{Mark}
use Rattle.hera_syntax.specs.declared.words.Mark.TheVariants.{Dot, Colon, Semicolon}
use Rattle.hera_syntax.specs.Grammar.{terminal_of, same_terminal}
use Rattle.hera_syntax.specs.Words.{keyword_number, mark_number}
use Rattle.hera_parser_exprs.proofs.Tests.{terminal_same}
use Rattle.hera_guard_lines.specs.declared.lines.GuardLine.{GuardLine}
use Rattle.hera_guard_lines.specs.Lines.{AreLines, none, line, line_form, name_token}
use Rattle.hera_guard_lines.specs.declared.reader.Stop.{Stop}
use Rattle.hera_guard_lines.specs.declared.reader.Stop.TheVariants.{Syntax, Memory}
use Rattle.hera_guard_lines.specs.Reading.{ident_of, stuck, IsLine, StopsAt}

-- a token with the terminal of a punctuation is that punctuation
kind_is : (p : Mark) (k : TokenKind) → terminals.Punct p ≡ terminal_of k → k ≡ kinds.Punct p
kind_is p (kinds.Punct q) e = ap kinds.Punct (sym (mark_in e))
  where
    mark_or : Mark → Terminal → Mark
    mark_or d (terminals.Punct m) = m
    mark_or d _ = d

    mark_in : terminals.Punct p ≡ terminals.Punct q → p ≡ q
    mark_in h = ap (mark_or p) h
kind_is p _ e = cc

pub mark_read : (p : Mark) (t : Token) → same_terminal (terminals.Punct p) (terminal_of t.kind) ≡ true → t ≡ record { kind = kinds.Punct p; at = t.at }
mark_read p t same = ap (λ k. record { kind = k; at = t.at }) (kind_is p t.kind (terminal_same (terminals.Punct p) (terminal_of t.kind) same))

-- ---- lines

-- where there is a token, a line is to begin
pub line_begins : (tokens : List Token) → 0 < length tokens → stuck line_form tokens ≡ stuck [] tokens
line_begins [] some = absurd (omega (arith, some))
line_begins (t ∷ tokens) some = refl

-- behind a line it goes on
pub line_read : (tokens rest : List Token) (l : GuardLine) → IsLine tokens l rest → stuck [] tokens ≡ stuck [] rest
line_read tokens rest l is = ap (stuck []) is.3

-- the lines read so far, with one more
pub lines_more : (tokens now rest : List Token) (done next : List GuardLine) (l : GuardLine) → IsLine now l rest → next ≡ done ++ l ∷ [] → ((more : List GuardLine) → AreLines now more → AreLines tokens (done ++ more)) →
    (more : List GuardLine) → AreLines rest more → AreLines tokens (next ++ more)
lines_more tokens now rest done next l is pushed before more are =
    let here : AreLines now (l ∷ more) = subst (λ ts. AreLines ts (l ∷ more)) (sym is.3) (line are) in
    subst (λ ls. AreLines tokens ls) (sym (ap (λ ls. ls ++ more) pushed ∙ append_assoc done (l ∷ []) more)) (before (l ∷ more) here)

-- ---- where a step stops

pub terminal_self : (c : Terminal) → same_terminal c c ≡ true
terminal_self terminals.Name = refl
terminal_self terminals.Int = refl
terminal_self terminals.Text = refl
terminal_self (terminals.Key k) = eq-eqb (keyword_number k) (keyword_number k) refl
terminal_self (terminals.Punct p) = eq-eqb (mark_number p) (mark_number p) refl

-- there is no token
pub none_left : (w : Terminal) (wanted : List Terminal) (tokens : List Token) → length tokens ≡ 0 → stuck (w ∷ wanted) tokens ≡ Some 0
none_left w wanted [] e = refl
none_left w wanted (t ∷ tokens) e = absurd (omega (arith, e))

-- the first token is another one
pub other_stands : (w : Terminal) (wanted : List Terminal) (tokens rest : List Token) (t : Token) → tokens ≡ t ∷ rest → same_terminal w (terminal_of t.kind) ≡ false → stuck (w ∷ wanted) tokens ≡ Some (length tokens)
other_stands w wanted tokens rest t is other =
    subst (λ ts. stuck (w ∷ wanted) ts ≡ Some (length ts)) (sym is) (ap (λ b. cond b (stuck wanted rest) (Some (length (t ∷ rest)))) other)

-- what stops behind a token stops with it in front
pub stops_behind : (w : Terminal) (wanted : List Terminal) (tokens rest : List Token) (t : Token) (e : Stop) → tokens ≡ t ∷ rest → w ≡ terminal_of t.kind → StopsAt wanted rest e → StopsAt (w ∷ wanted) tokens e
stops_behind w wanted tokens rest t (Syntax left) is same stops =
    subst (λ ts. stuck (w ∷ wanted) ts ≡ Some left) (sym is) (ap (λ b. cond b (stuck wanted rest) (Some (length (t ∷ rest)))) (ap (λ u. same_terminal w u) (sym same) ∙ terminal_self w) ∙ stops)
stops_behind w wanted tokens rest t Memory is same stops = tt

pub no_tokens : (tokens : List Token) → length tokens ≡ 0 → tokens ≡ []
no_tokens [] e = refl
no_tokens (t ∷ tokens) e = absurd (omega (arith, e))

-- the loop stops where a line does
pub line_stops : (tokens now : List Token) (e : Stop) → 0 < length now → stuck [] now ≡ stuck [] tokens → StopsAt line_form now e → StopsAt [] tokens e
line_stops tokens now (Syntax left) some same stops = sym same ∙ sym (line_begins now some) ∙ stops
line_stops tokens now Memory some same stops = tt

-- a line takes tokens
pub line_shorter : (now rest : List Token) (l : GuardLine) → IsLine now l rest → length rest < length now
line_shorter now rest l is =
    let long = ap length is.3 in
    omega (arith, long)

-- with no token left, the lines read are all
pub lines_end : (tokens now : List Token) (done : List GuardLine) → length now ≡ 0 → ((more : List GuardLine) → AreLines now more → AreLines tokens (done ++ more)) → AreLines tokens done
lines_end tokens now done e read = subst (λ ls. AreLines tokens ls) (append-nil done) (read [] (subst (λ ts. AreLines ts []) (sym (no_tokens now e)) none))

-- a token that is a name, and one that is none
name_kind : (k : TokenKind) (n : List ℕ) → ident_of k ≡ Some n → k ≡ kinds.Ident n
name_kind (kinds.Ident m) n e = ap kinds.Ident (same_Some m n e)
name_kind (kinds.Int v) n e = absurd (none-some n e)
name_kind (kinds.Text t) n e = absurd (none-some n e)
name_kind (kinds.Key w) n e = absurd (none-some n e)
name_kind (kinds.Punct p) n e = absurd (none-some n e)

pub no_name : (k : TokenKind) → ident_of k ≡ None → same_terminal terminals.Name (terminal_of k) ≡ false
no_name (kinds.Ident m) e = absurd (none-some m (sym e))
no_name (kinds.Int v) e = refl
no_name (kinds.Text t) e = refl
no_name (kinds.Key w) e = refl
no_name (kinds.Punct p) e = refl

pub name_read : (tokens rest : List Token) (t : Token) (n m : List ℕ) → tokens ≡ t ∷ rest → ident_of t.kind ≡ Some n → m ≡ n → tokens ≡ name_token (record { name = m; at = t.at }) ∷ rest
name_read tokens rest t n m is found same = is ∙ ap (λ k. record { kind = k; at = t.at } ∷ rest) (name_kind t.kind n found ∙ ap kinds.Ident (sym same))

-- a line is behind its six tokens
pub line_is : (tokens r1 r2 r3 r4 r5 rest : List Token) (l : GuardLine) (i j k : ℕ) →
    tokens ≡ name_token l.relation ∷ r1 → r1 ≡ record { kind = kinds.Punct Dot; at = i } ∷ r2 → r2 ≡ name_token l.attribute ∷ r3 → r3 ≡ record { kind = kinds.Punct Colon; at = j } ∷ r4 → r4 ≡ name_token l.host ∷ r5 → r5 ≡ record { kind = kinds.Punct Semicolon; at = k } ∷ rest →
    IsLine tokens l rest
line_is tokens r1 r2 r3 r4 r5 rest l i j k a b d e f g =
    let dot : Token = record { kind = kinds.Punct Dot; at = i } in
    let colon : Token = record { kind = kinds.Punct Colon; at = j } in
    (i, j, k, a ∙ ap (λ ts. name_token l.relation ∷ ts) (b ∙ ap (λ ts. dot ∷ ts) (d ∙ ap (λ ts. name_token l.attribute ∷ ts) (e ∙ ap (λ ts. colon ∷ ts) (f ∙ ap (λ ts. name_token l.host ∷ ts) g)))))
