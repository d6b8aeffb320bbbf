use Rattle.std.specs.Prelude.{◌≡◌, ◌++◌, take, length}
use Rattle.std.specs.List.{flat_map, AllByRecursion}
use Rattle.hera_code_file.specs.Printing.{word, instr_bytes}
use Rattle.hera_code_file.specs.Fitting.{InstrFits}
use Rattle.hera_code_writer.proofs.writing.put_instrs.Given as goal

abbrev pub invariant-loop-at : goal.invariant-loop-at
invariant-loop-at l = record {
  text : l.out.items ≡ l.fn.out.items ++ (word (length l.instrs) ++ flat_map instr_bytes (take l.at l.instrs));
  fits : AllByRecursion InstrFits (take l.at l.instrs);
}
