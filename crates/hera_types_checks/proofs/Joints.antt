-- The core of a chain by its first operator.
use Rattle.std.proofs.Common.{◌≡◌, ◌≢◌, List, [], ◌∷◌, refl, ap}
use Rattle.std.specs.Prelude.{Some, slice_get}
use Rattle.hera_meaning.specs.Trees.{Expr, chain}
use Rattle.hera_rules.specs.declared.words.Joint.{Joint}
use Rattle.hera_rules.specs.declared.words.Joint.TheVariants.{When as by_when, And as by_and, Or as by_or, Arithmetic, Equality, Order, Member, Deltas}
use Rattle.hera_rules.specs.declared.env.Item.{Item}
use Rattle.hera_rules.specs.Agrees.{steps_of}
use Rattle.hera_rules.specs.Rules.{Step, chain_core, chain_by, links_from}

-- a chain's core goes by its first operator
pub chain_named : (e : Expr) (is : List Item) (i : Item) → slice_get is 0 ≡ Some i → chain_core e (steps_of is) ≡ chain_by i.joint e (steps_of is)
chain_named e [] i h = absurd cc
chain_named e (x ∷ xs) i h = let k : x ≡ i = cc in ap (λ (j : Item). chain_by j.joint e (steps_of (x ∷ xs))) k

pub chain_other : (j : Joint) (e : Expr) (is : List Step) → (j ≢ by_when) → (j ≢ by_and) → (j ≢ by_or) → chain_by j e is ≡ chain e (links_from is)
chain_other by_when e is w a o = absurd (w refl)
chain_other by_and e is w a o = absurd (a refl)
chain_other by_or e is w a o = absurd (o refl)
chain_other (Arithmetic op) e is w a o = refl
chain_other (Equality op) e is w a o = refl
chain_other (Order op) e is w a o = refl
chain_other Member e is w a o = refl
chain_other (Deltas op) e is w a o = refl
