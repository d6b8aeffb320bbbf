-- Which alternative the next token tells.
use Rattle.std.proofs.Common.{◌≡◌, ℕ, suc, List, [], ◌∷◌, Option, Some, None, true, false, refl, ap, ◌∙◌, inl, if◌then◌else◌, length}
use Rattle.std.specs.Prelude.{nat_lt}
use Rattle.std.proofs.lemmas.Bool.{ltb-true}
use Rattle.hera_syntax.specs.declared.token.Token.{Token}
use Rattle.hera_syntax.specs.declared.token.Terminal.{Terminal}
use Rattle.hera_syntax.specs.Grammar.{Production, Part, alternatives, alternative}
use Rattle.hera_parser_exprs.specs.Reading.{starts, stands, next_terminal, pick, pick_from, choice, Tells}
use Rattle.hera_parser_exprs.proofs.Tests.{true_not_false}
use Rattle.hera_parser_exprs.proofs.Tables.{choice_told}

told_stands : (s : Production) (k : ℕ) (t : Option Terminal) → nat_lt k (length (alternatives s)) ≡ true → stands (starts (alternative s k)) t ≡ true → choice s t ≡ k
told_stands s k None l h = absurd (true_not_false {a = false} h refl)
told_stands s k (Some t) l h = choice_told s k t (ltb-true k (length (alternatives s)) l) (inl h)

-- an alternative that begins with the next token
pub told : (s : Production) (k : ℕ) {a : List Token} → nat_lt k (length (alternatives s)) ≡ true → stands (starts (alternative s k)) (next_terminal a) ≡ true → Tells s k a
told s k {a} l h = record { number = told_stands s k (next_terminal a) l h }

-- q and the others but the last one do not begin with the next token
abbrev pub NoneBut : List Part → List (List Part) → List Token → Type 0
NoneBut q [] a = Unit {0}
NoneBut q (r ∷ qs) a = (stands (starts q) (next_terminal a) ≡ false) × NoneBut r qs a

abbrev pub NoneButLast : List (List Part) → List Token → Type 0
NoneButLast [] a = Unit {0}
NoneButLast (q ∷ qs) a = NoneBut q qs a

abbrev pub last_number : List (List Part) → ℕ
last_number [] = 0
last_number (q ∷ qs) = length qs

passes : (q : List Part) (qs : List (List Part)) (a : List Token) → NoneBut q qs a → pick_from q qs (next_terminal a) ≡ length qs
passes q [] a h = refl
passes q (r ∷ qs) a h = ap (λ b. if b then 0 else suc (pick_from r qs (next_terminal a))) h.0 ∙ ap suc (passes r qs a h.1)

picks_last : (qs : List (List Part)) (a : List Token) → NoneButLast qs a → pick qs (next_terminal a) ≡ last_number qs
picks_last [] a h = refl
picks_last (q ∷ qs) a h = passes q qs a h

-- the last alternative
pub other : (s : Production) {a : List Token} → NoneButLast (alternatives s) a → Tells s (last_number (alternatives s)) a
other s {a} h = record { number = picks_last (alternatives s) a h }
