-- The operators and the operands of each level.
use Rattle.std.specs.Prelude.{List, Option, Some, None}
use Rattle.hera_syntax.specs.declared.expr.Level.{Level}
use Rattle.hera_syntax.specs.declared.expr.Level.TheVariants as levels
use Rattle.hera_syntax.specs.declared.token.Terminal.{Terminal}
use Rattle.hera_syntax.specs.Grammar as phrases
use Rattle.hera_syntax.specs.Grammar.{Production}
use Rattle.hera_syntax.specs.Outline.{production_of}

-- the level of the operands, but for the last one
abbrev pub below : Level → Option Level
below levels.Whens = Some levels.Ors
below levels.Ors = Some levels.Ands
below levels.Ands = Some levels.Comparisons
below levels.Comparisons = Some levels.Sums
below levels.Sums = Some levels.Terms
below levels.Terms = Some levels.Smashes
below levels.Smashes = Some levels.Merges
below levels.Merges = None

-- the production of an expression of this level, or of an operand of the last one
abbrev pub operand_at : Option Level → Production
operand_at None = phrases.prefix
operand_at (Some level) = production_of level

-- the production of the operands
abbrev pub operand_of : Level → Production
operand_of level = operand_at (below level)

-- the operators
abbrev pub operators_of : Level → List Terminal
operators_of levels.Whens = phrases.ops phrases.whens
operators_of levels.Ors = phrases.ops phrases.ors
operators_of levels.Ands = phrases.ops phrases.ands
operators_of levels.Comparisons = phrases.cmp_ops
operators_of levels.Sums = phrases.ops phrases.sums
operators_of levels.Terms = phrases.ops phrases.terms
operators_of levels.Smashes = phrases.ops phrases.smashes
operators_of levels.Merges = phrases.ops phrases.merges
