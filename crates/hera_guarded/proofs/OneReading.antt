-- Tokens write one list of lines, or are no lines at one place.
use Rattle.std.proofs.Common.{◌≡◌, ℕ, suc, ◌<◌, ◌≤◌, ⊎_elim, List, [], ◌∷◌, ◌++◌, Option, None, Some, refl, sym, ap, ◌∙◌, subst, length, arith, append_assoc, drop}
use Rattle.std.specs.Prelude.{slice_get}
use Rattle.std.proofs.lemmas.Bool.{cases_lt}
use Rattle.std.proofs.lemmas.List.{map-append}
use Rattle.hera_syntax.specs.declared.token.Token.{Token}
use Rattle.hera_syntax.specs.declared.token.Terminal.{Terminal}
use Rattle.hera_syntax.specs.Grammar.{terminal_of}
use Rattle.hera_guard_lines.specs.declared.lines.GuardLine.{GuardLine}
use Rattle.hera_guard_lines.specs.declared.lines.Mention.{Mention}
use Rattle.hera_guard_lines.specs.Lines.{line_form, lines_form, terminals_of, line_tokens, AreLines, none, line, BeginLines, IsFaultAt, offset_or, IsSyntaxAt}
use Rattle.hera_guard_lines.specs.Reading.{ident_of}

-- ---- one place

-- what begins as lines do begins so with its first tokens
begins_front : (front rest : List Token) → BeginLines (front ++ rest) → BeginLines front
begins_front front rest (n, more, is) =
    (n, terminals_of rest ++ more, sym (append_assoc (terminals_of front) (terminals_of rest) more) ∙ ap (λ (l : List Terminal). l ++ more) (sym (map-append (λ (t : Token). terminal_of t.kind) front rest)) ∙ is)

abbrev first_of : Token → List Token → Token
first_of d [] = d
first_of d (t ∷ tokens) = t

abbrev others_of : List Token → List Token
others_of [] = []
others_of (t ∷ tokens) = tokens

no_first : (t : Token) (tokens : List Token) → [] ≡ t ∷ tokens → ⊥
no_first t tokens is = let bad : 0 ≡ suc (length tokens) = ap length is in omega (arith, bad)

-- of two cuts of a list, the one that comes first has a next token, which is in the front of the other
cut_at : (a b c d : List Token) → a ++ b ≡ c ++ d → length a < length c → (t : Token) × (later : List Token) × (more : List Token) × (b ≡ t ∷ later) × (c ≡ (a ++ t ∷ []) ++ more)
cut_at [] b [] d is less = absurd (omega (arith, less))
cut_at [] b (t ∷ c) d is less = (t, c ++ d, c, is, refl)
cut_at (x ∷ a) b [] d is less = absurd (omega (arith, less))
cut_at (x ∷ a) b (y ∷ c) d is less =
    let head : x ≡ y = ap (first_of x) is in
    let (t, later, more, rest, front) = cut_at a b c d (ap others_of is) (omega (arith, less)) in
    (t, later, more, rest, ap (λ (z : Token). z ∷ c) (sym head) ∙ ap (λ (l : List Token). x ∷ l) front)

not_before : (tokens : List Token) (place other : ℕ) → IsFaultAt tokens place → IsFaultAt tokens other → place < other → ⊥
not_before tokens place other x y less =
    let (t, later, more, rest, front) = cut_at x.front x.rest y.front y.rest (sym x.cut ∙ y.cut) (let here = x.here in let there = y.here in omega (arith, less, here, there)) in
    x.no_more t later rest (begins_front (x.front ++ t ∷ []) more (subst BeginLines front y.begins))

one_place : (tokens : List Token) (place other : ℕ) → IsFaultAt tokens place → IsFaultAt tokens other → place ≡ other
one_place tokens place other x y =
    ⊎_elim (λ (less : place < other). absurd (not_before tokens place other x y less))
    (λ (up : other ≤ place). ⊎_elim (λ (less : other < place). absurd (not_before tokens other place y x less)) (λ (down : place ≤ other). omega (arith, up, down)) (cases_lt other place)) (cases_lt place other)

pub one_syntax : (tokens : List Token) (size a b : ℕ) → IsSyntaxAt (tokens, size) a → IsSyntaxAt (tokens, size) b → a ≡ b
one_syntax tokens size a b (place, fault, is) (other, also, too) =
    is ∙ ap (λ (n : ℕ). offset_or (slice_get tokens n) size) (one_place tokens place other fault also) ∙ sym too

-- ---- lines

written_form : (tokens : List Token) (lines : List GuardLine) → AreLines tokens lines → (n : ℕ) × (terminals_of tokens ≡ lines_form n)
written_form _ _ none = (0, refl)
written_form _ _ (line {tokens = tokens} {lines = lines} rest) = let (n, is) = written_form tokens lines rest in (suc n, ap (λ (l : List Terminal). line_form ++ l) is)

pub lines_or_syntax : (tokens : List Token) (size a : ℕ) (lines : List GuardLine) → AreLines tokens lines → IsSyntaxAt (tokens, size) a → ⊥
lines_or_syntax tokens size a lines are (place, fault, is) = let (n, form) = written_form tokens lines are in fault.no_lines n form

abbrev or_empty : Option (List ℕ) → List ℕ
or_empty None = []
or_empty (Some name) = name

abbrev mention_of : Token → Mention
mention_of t = record { name = or_empty (ident_of t.kind); at = t.at }

abbrev nothing : Mention
nothing = record { name = []; at = 0 }

-- the line that the first six tokens write
abbrev line_of : List Token → GuardLine
line_of (a ∷ b ∷ c ∷ d ∷ e ∷ f ∷ tokens) = record { relation = mention_of a; attribute = mention_of c; host = mention_of e }
line_of _ = record { relation = nothing; attribute = nothing; host = nothing }

line_first : (l : GuardLine) (i j k : ℕ) (tokens : List Token) → line_of (line_tokens l i j k ++ tokens) ≡ l
line_first l i j k tokens = refl

same_lines : (ts us : List Token) (x y : List GuardLine) → ts ≡ us → AreLines ts x → AreLines us y → x ≡ y
same_lines _ _ _ _ is none none = refl
same_lines _ _ _ _ is none (line rest) = absurd (no_first _ _ is)
same_lines _ _ _ _ is (line rest) none = absurd (no_first _ _ (sym is))
same_lines _ _ _ _ is (line {l = l} {i = i} {j = j} {k = k} {tokens = ts} {lines = xs} rest) (line {l = m} {i = p} {j = q} {k = r} {tokens = us} {lines = ys} more) =
    let first : l ≡ m = sym (line_first l i j k ts) ∙ ap line_of is ∙ line_first m p q r us in
    let others : ts ≡ us = ap (λ (tokens : List Token). drop 6 tokens) is in
    ap (λ (z : GuardLine). z ∷ xs) first ∙ ap (λ (zs : List GuardLine). m ∷ zs) (same_lines ts us xs ys others rest more)

pub one_lines : (tokens : List Token) (x y : List GuardLine) → AreLines tokens x → AreLines tokens y → x ≡ y
one_lines tokens x y are also = same_lines tokens tokens x y refl are also
