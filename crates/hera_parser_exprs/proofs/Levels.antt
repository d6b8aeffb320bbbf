-- The reading of a chain, for all levels of operators.
use Rattle.std.proofs.Common.{◌≡◌, ℕ, suc, List, [], ◌∷◌, ◌++◌, Option, Some, Bool, true, false, refl, sym, ap, subst, ◌∙◌}
use Rattle.hera_syntax.specs.declared.expr.Level.{Level}
use Rattle.hera_syntax.specs.declared.expr.Level.TheVariants as levels
use Rattle.hera_syntax.specs.declared.expr.OperandTree.{OperandTree}
use Rattle.hera_syntax.specs.declared.expr.Tail.{Tail}
use Rattle.hera_syntax.specs.declared.token.Token.{Token}
use Rattle.hera_syntax.specs.declared.token.Terminal.{Terminal}
use Rattle.hera_syntax.specs.Grammar.{keep, phrase}
use Rattle.hera_syntax.specs.Grammar as phrases
use Rattle.hera_syntax.specs.Operators.{below, operand_of, operators_of}
use Rattle.hera_syntax.specs.Outline.{Entry, comparison_rest, more_of, node, operand_outline, production_of, tail_outline}
use Rattle.hera_parser_exprs.specs.Reading.{stands, next_terminal, Gives, Sticks}
use Rattle.hera_parser_exprs.proofs.Steps.{choose}
use Rattle.hera_parser_exprs.proofs.Choices.{told, other}

-- how many levels are below
abbrev pub height : Level → ℕ
height levels.Whens = 7
height levels.Ors = 6
height levels.Ands = 5
height levels.Comparisons = 4
height levels.Sums = 3
height levels.Terms = 2
height levels.Smashes = 1
height levels.Merges = 0

pub lower : (level other : Level) → below level ≡ Some other → height level ≡ suc (height other)
lower levels.Whens other e = let same : levels.Ors ≡ other = cc in ap (λ l. suc (height l)) same
lower levels.Ors other e = let same : levels.Ands ≡ other = cc in ap (λ l. suc (height l)) same
lower levels.Ands other e = let same : levels.Comparisons ≡ other = cc in ap (λ l. suc (height l)) same
lower levels.Comparisons other e = let same : levels.Sums ≡ other = cc in ap (λ l. suc (height l)) same
lower levels.Sums other e = let same : levels.Terms ≡ other = cc in ap (λ l. suc (height l)) same
lower levels.Terms other e = let same : levels.Smashes ≡ other = cc in ap (λ l. suc (height l)) same
lower levels.Smashes other e = let same : levels.Merges ≡ other = cc in ap (λ l. suc (height l)) same
lower levels.Merges other e = absurd (cc)

-- the first operand is next
pub begins : (level : Level) {a : List Token} → Gives (phrase (production_of level) ∷ []) a (node (production_of level) 0) (phrase (operand_of level) ∷ phrase (more_of level) ∷ []) a
begins levels.Whens = choose (phrases.level phrases.whens) 0 (record { number = refl })
begins levels.Ors = choose (phrases.level phrases.ors) 0 (record { number = refl })
begins levels.Ands = choose (phrases.level phrases.ands) 0 (record { number = refl })
begins levels.Comparisons = choose phrases.cmp 0 (record { number = refl })
begins levels.Sums = choose (phrases.level phrases.sums) 0 (record { number = refl })
begins levels.Terms = choose (phrases.level phrases.terms) 0 (record { number = refl })
begins levels.Smashes = choose (phrases.level phrases.smashes) 0 (record { number = refl })
begins levels.Merges = choose (phrases.level phrases.merges) 0 (record { number = refl })

-- where an operator is next, the chain goes on
pub goes_on : (level : Level) → ¬ (level ≡ levels.Comparisons) → {a : List Token} → stands (operators_of level) (next_terminal a) ≡ true →
    Gives (phrase (more_of level) ∷ []) a (node (more_of level) 0) (keep (operators_of level) ∷ phrase (operand_of level) ∷ phrase (more_of level) ∷ []) a
goes_on levels.Whens h s = choose (phrases.more phrases.whens) 0 (told (phrases.more phrases.whens) 0 refl s)
goes_on levels.Ors h s = choose (phrases.more phrases.ors) 0 (told (phrases.more phrases.ors) 0 refl s)
goes_on levels.Ands h s = choose (phrases.more phrases.ands) 0 (told (phrases.more phrases.ands) 0 refl s)
goes_on levels.Comparisons h s = absurd (h refl)
goes_on levels.Sums h s = choose (phrases.more phrases.sums) 0 (told (phrases.more phrases.sums) 0 refl s)
goes_on levels.Terms h s = choose (phrases.more phrases.terms) 0 (told (phrases.more phrases.terms) 0 refl s)
goes_on levels.Smashes h s = choose (phrases.more phrases.smashes) 0 (told (phrases.more phrases.smashes) 0 refl s)
goes_on levels.Merges h s = choose (phrases.more phrases.merges) 0 (told (phrases.more phrases.merges) 0 refl s)

-- where none is, it ends
pub ends : (level : Level) {a : List Token} → stands (operators_of level) (next_terminal a) ≡ false → Gives (phrase (more_of level) ∷ []) a (node (more_of level) 1) [] a
ends levels.Whens s = choose (phrases.more phrases.whens) 1 (other (phrases.more phrases.whens) (s, tt))
ends levels.Ors s = choose (phrases.more phrases.ors) 1 (other (phrases.more phrases.ors) (s, tt))
ends levels.Ands s = choose (phrases.more phrases.ands) 1 (other (phrases.more phrases.ands) (s, tt))
ends levels.Comparisons s = choose phrases.more_cmp 1 (other phrases.more_cmp (s, tt))
ends levels.Sums s = choose (phrases.more phrases.sums) 1 (other (phrases.more phrases.sums) (s, tt))
ends levels.Terms s = choose (phrases.more phrases.terms) 1 (other (phrases.more phrases.terms) (s, tt))
ends levels.Smashes s = choose (phrases.more phrases.smashes) 1 (other (phrases.more phrases.smashes) (s, tt))
ends levels.Merges s = choose (phrases.more phrases.merges) 1 (other (phrases.more phrases.merges) (s, tt))

-- what a test of the next token for the operators says
pub told_by : (t : Option Terminal) {ops wanted : List Terminal} {b known : Bool} → b ≡ stands ops t → ops ≡ wanted → b ≡ known → stands wanted t ≡ known
told_by t e o k = ap (λ ts. stands ts t) (sym o) ∙ (sym e ∙ k)

-- a token that is kept, where the terminals are given under another name
pub keeps_as : {ops wanted : List Terminal} {a b : List Token} {ms : List Entry} → ops ≡ wanted → Gives (keep ops ∷ []) a ms [] b → Gives (keep wanted ∷ []) a ms [] b
keeps_as {a = a} {b = b} {ms = ms} e g = subst (λ ops. Gives (keep ops ∷ []) a ms [] b) e g

pub sticks_as : {ops wanted : List Terminal} {a b : List Token} → ops ≡ wanted → Sticks (keep ops ∷ []) a b → Sticks (keep wanted ∷ []) a b
sticks_as {a = a} {b = b} e s = subst (λ ops. Sticks (keep ops ∷ []) a b) e s

-- a comparison of no tail, and of one
pub compared_none : (first : List Entry) {whole : List Entry} {tails : List Tail} → whole ≡ first ++ comparison_rest tails → tails ≡ [] → whole ≡ first ++ node phrases.more_cmp 1
compared_none first e n = e ∙ ap (λ ts. first ++ comparison_rest ts) n

pub compared_one : (first : OperandTree) (tail : Tail) {whole : List Entry} {given : OperandTree} {tails none : List Tail} →
    whole ≡ node phrases.cmp 0 ++ operand_outline given ++ comparison_rest tails → given ≡ first → tails ≡ none ++ tail ∷ [] → none ≡ [] →
    whole ≡ node phrases.cmp 0 ++ operand_outline first ++ (node phrases.more_cmp 0 ++ tail_outline tail)
compared_one first tail {tails = tails} e f m n =
    e
    ∙ (ap (λ o. node phrases.cmp 0 ++ operand_outline o ++ comparison_rest tails) f
    ∙ ap (λ ts. node phrases.cmp 0 ++ operand_outline first ++ comparison_rest ts) (m ∙ ap (λ ts. ts ++ tail ∷ []) n))
