-- Instructions of many operands that were looked at.
use Rattle.std.specs.Prelude.{◌≡◌, ℕ, ◌+◌, List, Option, Some, None}
use Rattle.std.specs.declared.cmp.Ordering.{Ordering}
use Rattle.std.specs.Ordering.{nat_cmp, ordering_then}
use Rattle.std.specs.BTreeMap.{BTreeMap, get}
use Rattle.hera_meaning.specs.declared.schemas.RelDecl.{RelDecl}
use Rattle.hera_meaning.specs.declared.trees.Op.TheVariants.{MakeRel}
use Rattle.hera_meaning.specs.Hosts.{Hosts}
use Rattle.hera_code.specs.declared.instrs.Code.{Code}
use Rattle.hera_code.specs.declared.instrs.Instr.{Instr}
use Rattle.hera_code.specs.declared.instrs.Instr.TheVariants.{Call, Prim}
use Rattle.hera_typed.specs.Points.{Seen, Point, with}
use Rattle.hera_typed.specs.Effects.{Body_note, Goal, goes, with_operands, effect}
use Rattle.hera_stacks.specs.declared.stacks.Node.{Node}
use Rattle.hera_effects.specs.declared.spots.Ways.{Ways}
use Rattle.hera_stacks.specs.Stacked.{AreOperands}
use Rattle.hera_effects.specs.Ways.{Both, AreWays}
use Rattle.hera_verify.specs.declared.calls.Calls.{Calls}

abbrev pub order : ℕ × ℕ → ℕ × ℕ → Ordering
order x y = ordering_then (nat_cmp x.0 y.0) (nat_cmp x.1 y.1)

-- nothing is known, or that is where it goes on
abbrev pub IsKnown : List Node → Option Ways → Option (List Goal) → Type 0
IsKnown nodes None gs = Unit {0}
IsKnown nodes (Some w) gs = Both (AreWays nodes) (Some w) gs

-- calls by their bodies, and makings of relations by the counts of their tuples, whatever trap they report
abbrev pub call_of : ℕ → ℕ → Instr
call_of j at = Call j

abbrev pub making_of : ℕ → ℕ → Instr
making_of n at = Prim (MakeRel n) at

module _ (code : Code) (rels : List RelDecl) (hosts : Hosts) (notes : List Body_note) where
  -- all that the instructions do is to leave other operands, wherever they stand
  abbrev pub Replaces : (ℕ → Instr) → Type 0
  Replaces is = (leaves : List Seen → Option (List Seen)) × ((k a at : ℕ) (p : Point) → effect code rels hosts notes k a (is at) p ≡ with (leaves p.operands) (λ ss. goes (a + 1) (with_operands ss p)))

  -- wherever the instructions stand, with operands of the one number they leave those of the other
  pub record Leaves (nodes : List Node) (is : ℕ → Instr) (operands left : ℕ) : Type 0 where
    pub before : List Seen
    pub after : List Seen
    pub operands_are : AreOperands nodes operands before
    pub left_are : AreOperands nodes left after
    pub does : (k a at : ℕ) (p : Point) → p.operands ≡ before → effect code rels hosts notes k a (is at) p ≡ goes (a + 1) (with_operands after p)

  -- by a number of theirs and by the operands, what instructions leave
  abbrev pub AreLeft : List Node → (ℕ → ℕ → Instr) → BTreeMap (ℕ × ℕ) ℕ → Type 0
  AreLeft nodes is lefts = (n operands left : ℕ) → get order lefts (n, operands) ≡ Some left → Leaves nodes (is n) operands left

  -- what calls leave, and what makings of relations do
  pub record AreCalls (nodes : List Node) (c : Calls) : Type 0 where
    pub left : AreLeft nodes call_of c.left
    pub made : AreLeft nodes making_of c.made
