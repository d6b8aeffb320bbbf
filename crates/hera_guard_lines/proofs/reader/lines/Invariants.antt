use Rattle.std.proofs.Common.{◌≡◌, List, [], ◌++◌, length}
use Rattle.hera_guard_lines.specs.declared.lines.GuardLine.{GuardLine}
use Rattle.hera_guard_lines.specs.Lines.{AreLines}
use Rattle.hera_guard_lines.specs.Reading.{stuck}
use Rattle.hera_guard_lines.proofs.reader.lines.Given as goal

-- with the lines that are left, those read are all
abbrev pub invariant-loop-rest : goal.invariant-loop-rest
invariant-loop-rest l = record {
  read : (more : List GuardLine) → AreLines l.rest more → AreLines l.fn.tokens (l.lines.items ++ more);
  same : stuck [] l.rest ≡ stuck [] l.fn.tokens;
}

abbrev pub decreases-loop-rest : goal.decreases-loop-rest
decreases-loop-rest l = length l.rest
