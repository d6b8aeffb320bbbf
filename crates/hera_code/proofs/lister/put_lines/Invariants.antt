use Rattle.std.proofs.Common.{◌≡◌, ◌++◌}
use Rattle.std.specs.Prelude.{slice_range}
use Rattle.hera_code.specs.Listing.{instr_lines}
use Rattle.hera_code.proofs.lister.put_lines.Given as goal

abbrev pub invariant-loop-at : goal.invariant-loop-at
invariant-loop-at l = l.out.items ++ instr_lines l.at (slice_range l.code.instrs l.at l.end) ≡ l.initial.out.items ++ instr_lines l.start (slice_range l.code.instrs l.start l.end)
