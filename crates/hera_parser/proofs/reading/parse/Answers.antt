use Rattle.std.proofs.Common.{◌∙◌, sym, ap, arith, rules, length}
use Rattle.hera_parser.proofs.Whole.{program_text, sticks_fault, left_fault, sticks_within}
use Rattle.hera_parser.proofs.reading.parse.Goals as goal

pub returns-then-left-eq0-clause-tree : goal.returns-then-left-eq0-clause-tree
returns-then-left-eq0-clause-tree c =
    program_text _ _ (sym c.items-items.ensures.items ∙ sym c.new-parser.ensures) c.in-Ok.ensures.reads (sym c.left-left.ensures ∙ c.if-left-eq0.true)

pub returns-else-left-eq0-clause-syntax : goal.returns-else-left-eq0-clause-syntax
returns-else-left-eq0-clause-syntax c k h =
    left_fault c.in-Ok.tree _ c.left-left.result k (sym c.items-items.ensures.items ∙ sym c.new-parser.ensures) c.in-Ok.ensures.reads (omega arith) c.left-left.ensures (cc)

pub overflow_sub-result-in-Err-Syntax : goal.overflow_sub-result-in-Err-Syntax
overflow_sub-result-in-Err-Syntax c =
    omega (arith, sticks_within (c.in-Err-Syntax.ensures.sticks (search rules)), ap length c.new-parser.ensures, c.left-left-in-Err-Syntax.ensures)

pub returns-in-Err-Syntax-clause-syntax : goal.returns-in-Err-Syntax-clause-syntax
returns-in-Err-Syntax-clause-syntax c k h =
    sticks_fault c.left-left-in-Err-Syntax.result k (sym c.items-items.ensures.items ∙ sym c.new-parser.ensures) (c.in-Err-Syntax.ensures.sticks (search rules))
    c.left-left-in-Err-Syntax.ensures (cc)
