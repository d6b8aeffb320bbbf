-- Which statement of a block is the last, and whether it returns.
use Rattle.std.proofs.Common.{◌≡◌, ℕ, ◌+◌, ◌<◌, ◌≤◌, List, [], ◌∷◌, ◌++◌, length, get_or, drop, take, refl, sym, ap, ◌∙◌, Bool, true, false}
use Rattle.std.specs.Prelude.{◌&&◌, Option, Some, None, Vec, is_some}
use Rattle.std.specs.declared.alloc.Global.{Global}
use Rattle.hera_meaning.specs.declared.trees.Stmt.{Stmt}
use Rattle.hera_meaning.specs.declared.trees.Arm.{Arm}
use Rattle.hera_meaning.specs.declared.trees.Core.{Core}
use Rattle.hera_meaning.specs.declared.trees.Stmt.TheViews as view
use Rattle.hera_meaning.specs.declared.trees.Stmt.TheVariants as variant
use Rattle.hera_meaning.proofs.PlainLaws.{command_of-If, command_of-Return}
use Rattle.hera_meaning.specs.Plain.{command_of, block_in, arms_in, return_of}
use Rattle.hera_meaning.specs.Sound.{returns, command_returns, arms_return}
use Rattle.hera_types_parts.proofs.Giving.{next_at, none_at}
use Rattle.hera_types_parts.proofs.Before.{take_at}

returns_last : (xs : List Stmt) (x : Stmt) → returns (block_in (xs ++ x ∷ [])) ≡ command_returns (command_of x)
returns_last [] x = refl
returns_last (y ∷ []) x = refl
returns_last (y ∷ z ∷ xs) x = returns_last (z ∷ xs) x

pub last_turn : (xs : List Stmt) (i : ℕ) (x : Stmt) {last : Bool} → i < length xs → x ≡ get_or xs i x → last ≡ command_returns (command_of x) → last ≡ returns (block_in (take (i + 1) xs))
last_turn xs i x h e k = k ∙ sym (ap (λ ys. returns (block_in ys)) (take_at xs i x h e) ∙ returns_last (take i xs) x)

pub arms_stop : (xs : List Arm) (i : ℕ) (x : Arm) {b : Bool} → i < length xs → x ≡ get_or xs i x → returns (block_in x.block.items) ≡ false → b ≡ arms_return (arms_in (drop i xs)) → b ≡ false
arms_stop xs i x h e k v = v ∙ ap (λ ys. arms_return (arms_in ys)) (next_at xs i x h e) ∙ ap (λ b. b && arms_return (arms_in (drop (i + 1) xs))) k

pub arms_end : (xs : List Arm) (i : ℕ) {b : Bool} → length xs ≤ i → b ≡ arms_return (arms_in (drop i xs)) → b ≡ true
arms_end xs i h v = v ∙ ap (λ ys. arms_return (arms_in ys)) (none_at xs i h)

-- ---- statements that return

pub if_returns : (arms : Vec Arm Global) (other : Vec Stmt Global) {s : Stmt} → s ≡ view.If arms other → command_returns (command_of s) ≡ (arms_return (arms_in arms.items) && returns (block_in other.items))
if_returns arms other e = ap (λ s. command_returns (command_of s)) e ∙ ap command_returns (command_of-If arms other)

value_there : (v : Option Core) → command_returns (return_of v) ≡ is_some v
value_there None = refl
value_there (Some e) = refl

pub return_returns : (v : Option Core) {s : Stmt} → s ≡ variant.Return v → command_returns (command_of s) ≡ is_some v
return_returns v e = ap (λ s. command_returns (command_of s)) e ∙ ap command_returns (command_of-Return v) ∙ value_there v
