-- Instructions that take a bool off the operands, where there is none.
use Rattle.std.proofs.Common.{◌≡◌, ℕ, Bool, true, false, List, [], ◌∷◌, length, None, refl, ap, ◌∙◌}
use Rattle.std.specs.Prelude.{nat_lt}
use Rattle.hera_meaning.specs.Deltas.{State}
use Rattle.hera_meaning.specs.Values.{Value}
use Rattle.hera_code.specs.declared.instrs.Code.{Code}
use Rattle.hera_code.specs.Machine.{Machine, Walk, Step, ends, stuck, needs, if_step, needs_that, needs_address, on_top, on_walk, as_bool, by_bool, keeps}
use Rattle.when_overlay.specs.declared.layers.Layer.{Layer}
use Rattle.hera_frames.specs.Items.{Item, held, relation, operands_at, newest_of}

-- stuck at an address of the code or not
stuck_that : (b : Bool) → ends stuck ≡ needs_that b (ends stuck)
stuck_that true = refl
stuck_that false = refl

pub stuck_parts : (code : Code) (a : ℕ) (s : State) (ls : List Layer) (items : List Item) (A B : List Value → Step) → None ≡ newest_of as_bool items →
    ends stuck ≡ on_top (operands_at s ls items) (λ v vs. needs_address code a (by_bool v (A vs) (B vs)))
stuck_parts code a s ls [] A B e = refl
stuck_parts code a s ls (held v ∷ items) A B e =
    stuck_that (nat_lt a (length code.instrs))
    ∙ ap (λ o. needs_address code a (needs o (λ t. if_step t (A (operands_at s ls items)) (B (operands_at s ls items))))) e
stuck_parts code a s ls (relation r k ∷ items) A B e = stuck_that (nat_lt a (length code.instrs))

no_bool : (v : Value) (a b : Step) → None ≡ as_bool v → ends stuck ≡ by_bool v a b
no_bool v a b e = ap (λ o. needs o (λ t. if_step t a b)) e

-- a bool that would say whether a tuple is kept
stuck_top : (s : State) (ls : List Layer) (items : List Item) (w : Walk) (ws : List Walk) (m : Machine) → None ≡ newest_of as_bool items → ends stuck ≡ on_top (operands_at s ls items) (λ v vs. keeps v vs w ws m)
stuck_top s ls [] w ws m e = refl
stuck_top s ls (held v ∷ items) w ws m e = no_bool v _ _ e
stuck_top s ls (relation r k ∷ items) w ws m e = refl

pub stuck_keeps : (s : State) (ls : List Layer) (items : List Item) (walks : List Walk) (m : Machine) → None ≡ newest_of as_bool items → ends stuck ≡ on_walk walks (λ w ws. on_top (operands_at s ls items) (λ v vs. keeps v vs w ws m))
stuck_keeps s ls items [] m e = refl
stuck_keeps s ls items (w ∷ ws) m e = stuck_top s ls items w ws m e

pub ruleset parts = (stuck_parts, stuck_keeps)
