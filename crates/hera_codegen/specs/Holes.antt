-- Jumps that are written once their address is known: until then address 0 stands there.
use Rattle.std.specs.Prelude.{ℕ, ◌+◌, List, [], ◌∷◌, ◌++◌, slice_set}
use Rattle.hera_meaning.specs.Trees.{Exprs, no_more, then_expr, Arms, no_arm, arm}
use Rattle.hera_meaning.specs.Addresses.{expr_end, block_end}
use Rattle.hera_code.specs.declared.instrs.Instr.{Instr}
use Rattle.hera_code.specs.declared.instrs.Instr.TheVariants.{Unless}
use Rattle.hera_code.specs.Scheme.{expr_code}

-- the code with an instruction written in each of these places
abbrev pub filled : Instr → (places : List ℕ) → List Instr → List Instr
filled i [] code = code
filled i (h ∷ holes) code = filled i holes (slice_set code h i)

-- of `&&`: the operands, behind each but the last an Unless
abbrev pub every_front : Exprs → (a f : ℕ) → List Instr
every_front no_more a f = []
every_front (then_expr e no_more) a f = expr_code e a
every_front (then_expr e (then_expr d es)) a f = expr_code e a ++ Unless f ∷ every_front (then_expr d es) (expr_end e a + 1) f

-- the places of these Unlesses
abbrev pub every_holes : Exprs → ℕ → List ℕ
every_holes no_more a = []
every_holes (then_expr e no_more) a = []
every_holes (then_expr e (then_expr d es)) a = expr_end e a ∷ every_holes (then_expr d es) (expr_end e a + 1)

-- of `||`: the places of the Jumps
abbrev pub some_holes : Exprs → ℕ → List ℕ
some_holes no_more a = []
some_holes (then_expr e no_more) a = []
some_holes (then_expr e (then_expr d es)) a = (expr_end e a + 1 + 1) ∷ some_holes (then_expr d es) (expr_end e a + 1 + 1 + 1)

-- of `if`: the places of the Jumps behind the arms' blocks
abbrev pub arms_holes : Arms → ℕ → List ℕ
arms_holes no_arm a = []
arms_holes (arm c block rest) a = block_end block (expr_end c a + 1) ∷ arms_holes rest (block_end block (expr_end c a + 1) + 1)
