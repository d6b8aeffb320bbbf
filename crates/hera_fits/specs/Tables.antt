-- Operations on relations, and their operands.
use Rattle.std.specs.Prelude.{Bool, true, false, List, [], ◌∷◌, take}
use Rattle.hera_sets.specs.Rows.{Row}
use Rattle.hera_meaning.specs.declared.trees.Op.{Op}
use Rattle.hera_meaning.specs.declared.trees.Op.TheVariants.{Eq, Ne, In, MakeRow, Project, Union, Minus, Inter, Join, Group, Count, Empty, Sum, Min, Max, Bulk, Smash, Merge}
use Rattle.hera_meaning.specs.Values.{Value, table}
use Rattle.hera_meaning.specs.Fits.{arity}

-- each operand of the operation has to be a relation
abbrev pub asks_relations : Op → Bool
asks_relations (Project schema places) = true
asks_relations Union = true
asks_relations Minus = true
asks_relations Inter = true
asks_relations (Join left right) = true
asks_relations (Group schema by aggs) = true
asks_relations Count = true
asks_relations Empty = true
asks_relations (Sum schema i) = true
asks_relations (Min schema i) = true
asks_relations (Max schema i) = true
asks_relations _ = false

-- the operation may be one on relations alone, which are then read where they stand
abbrev pub is_relational : Op → Bool
is_relational Eq = true
is_relational Ne = true
is_relational op = asks_relations op

-- an operand of the operation may be a relation
abbrev pub takes_relations : Op → Bool
takes_relations In = true
takes_relations (Bulk sign r) = true
takes_relations op = is_relational op

-- as many of the two relations as the operation takes
abbrev pub tables : Op → List Row → List Row → List Value
tables op xs ys = take (arity op) (table xs ∷ table ys ∷ [])

-- the operation may end for want of memory
abbrev pub takes_memory : Op → Bool
takes_memory Count = false
takes_memory Empty = false
takes_memory In = false
takes_memory _ = true

-- the operation makes its value out of its operands; they are lent to each other one
abbrev pub uses_up : Op → Bool
uses_up (MakeRow schema) = true
uses_up Smash = true
uses_up Merge = true
uses_up _ = false
