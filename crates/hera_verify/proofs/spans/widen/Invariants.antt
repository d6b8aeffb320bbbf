use Rattle.std.specs.Prelude.{◌≡◌, ℕ, List, length}
use Rattle.hera_code.specs.declared.instrs.Instr.{Instr}
use Rattle.hera_verify.specs.Spans.{AreSpans}
use Rattle.hera_verify.proofs.Spanning.{Widened}
use Rattle.hera_verify.proofs.spans.widen.Given as goal

abbrev pub invariant-loop-b : goal.invariant-loop-b
invariant-loop-b l = record {
  long : length l.spans.items ≡ length l.fn.spans.items;
  widened : (instrs : List Instr) (count : ℕ) → AreSpans instrs count l.width l.fn.spans.items → Widened instrs count l.width l.b l.spans.items;
}
