use Rattle.std.proofs.Common.{take}
use Rattle.std.specs.List.{AllByRecursion}
use Rattle.hera_code_writer.specs.Writable.{InstrStands}
use Rattle.hera_packed.proofs.standing.instrs_stand.Given as goal

abbrev pub invariant-loop-at : goal.invariant-loop-at
invariant-loop-at l = AllByRecursion InstrStands (take l.at l.instrs)
