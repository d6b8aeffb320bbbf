-- What the reading of a whole program says.
use Rattle.std.proofs.Common.{◌≡◌, ◌<◌, ◌≤◌, ◌+◌, ◌-◌, ℕ, List, [], ◌∷◌, ◌++◌, refl, sym, ap, subst, ◌∙◌, length, arith, length-append}
use Rattle.hera_syntax.specs.declared.token.Token.{Token}
use Rattle.hera_syntax.specs.declared.tree.Tree.{Tree}
use Rattle.hera_syntax.specs.Grammar.{phrase}
use Rattle.hera_syntax.specs.Grammar as phrases
use Rattle.hera_syntax.specs.Outline.{Entry}
use Rattle.hera_syntax.specs.Programs.{outline}
use Rattle.hera_syntax.specs.Trees.{IsTextOf, IsFaultAt}
use Rattle.hera_parser_exprs.specs.Reading.{Runs, accept, stuck, finished, left_over, Gives, Sticks}
use Rattle.hera_parser.specs.Reading.{ReadsProgram, StopsBefore}
use Rattle.hera_parser.proofs.Exact.{accepted_obeys, accepted_agrees, stuck_begins, stuck_no_more, stuck_no_text, one_outline, stuck_length}
use Rattle.hera_parser_exprs.proofs.Tables.{alone}

place_is : (k left long front : ℕ) → long ≡ front + left → k + left ≡ long → k ≡ front
place_is k left long front e h = omega arith

pub fault_at : (ts : List Token) (k : ℕ) → StopsBefore ts k → IsFaultAt ts k
fault_at ts k h =
    let r = h.stuck_here in
    let s = stuck_begins r in
    let long = ap length s.1 ∙ length-append s.0 h.rest in
    record {
      front = s.0;
      rest = h.rest;
      cut = s.1;
      here = place_is k (length h.rest) (length ts) (length s.0) long h.here;
      begins = s.2;
      no_more = λ t later f b. stuck_no_more r (alone phrases.program) s.0 t later (s.1 ∙ ap (λ x. s.0 ++ x) f) f b;
      no_tree = λ tree text. stuck_no_text r (alone phrases.program) (outline tree) text.levels text.printed;
    }

pub text_of : (tree : Tree) (ts : List Token) → ReadsProgram ts (outline tree) → IsTextOf tree ts
text_of tree ts r = record { levels = accepted_obeys r; printed = accepted_agrees r }

pub one_text : (tree other : Tree) (ts : List Token) → IsTextOf tree ts → IsTextOf other ts → outline tree ≡ outline other
one_text tree other ts t u = one_outline t.levels (alone phrases.program) ts t.printed (outline other) u.levels u.printed

append_none : {A : Type 0} (xs : List A) → xs ++ [] ≡ xs
append_none [] = refl
append_none (x ∷ xs) = ap (λ r. x ∷ r) (append_none xs)

one_left : (t : Token) (left : List Token) → length (t ∷ left) ≡ 0 → ⊥
one_left t left h = omega (arith, h)

none_left : (count : ℕ) → 0 < count → count ≡ 0 → ⊥
none_left count p n = omega arith

count_is : (count left long total k : ℕ) → left ≤ long → count ≡ left → total - count ≡ k → total ≡ long → k + left ≡ long
count_is count left long total k w n m e = omega arith

all_read : (tree : Tree) {ts : List Token} → Gives (phrase phrases.program ∷ []) ts (outline tree) [] [] → ReadsProgram ts (outline tree)
all_read tree {ts} g = subst (λ x. ReadsProgram ts x) (append_none (outline tree)) (g.goes [] [] accept finished)

-- where no token is left, the tokens are the tree's text
pub program_text : (tree : Tree) (left : List Token) {ts us : List Token} → ts ≡ us → Gives (phrase phrases.program ∷ []) us (outline tree) [] left → length left ≡ 0 → IsTextOf tree ts
program_text tree [] {ts} {us} e g h = subst (IsTextOf tree) (sym e) (text_of tree us (all_read tree g))
program_text tree (t ∷ left) e g h = absurd (one_left t left h)

place : {us left : List Token} {ks : List Entry} → Runs (phrase phrases.program ∷ []) us ks (stuck left) → (count k : ℕ) {ts : List Token} → ts ≡ us → count ≡ length left → length ts - count ≡ k → IsFaultAt ts k
place {us} {left} {ks} r count k {ts} e n m =
    let within = stuck_length r in
    let here = count_is count (length left) (length us) (length ts) k within n m (ap length e) in
    subst (λ x. IsFaultAt x k) (sym e) (fault_at us k (record { marks = ks; rest = left; here = here; stuck_here = r }))

-- where the reading sticks
pub sticks_fault : {ts us left : List Token} (count k : ℕ) → ts ≡ us → Sticks (phrase phrases.program ∷ []) us left → count ≡ length left → length ts - count ≡ k → IsFaultAt ts k
sticks_fault count k e s n m = place (s.sticks []) count k e n m

-- where tokens are left over
pub left_fault : (tree : Tree) (left : List Token) {ts us : List Token} (count k : ℕ) → ts ≡ us → Gives (phrase phrases.program ∷ []) us (outline tree) [] left → 0 < count →
    count ≡ length left → length ts - count ≡ k → IsFaultAt ts k
left_fault tree [] count k e g p n m = absurd (none_left count p n)
left_fault tree (t ∷ left) count k e g p n m = place (g.goes [] [] (stuck (t ∷ left)) left_over) count k e n m

pub sticks_within : {us left : List Token} → Sticks (phrase phrases.program ∷ []) us left → length left ≤ length us
sticks_within s = stuck_length (s.sticks [])
