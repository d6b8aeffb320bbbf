use Rattle.std.proofs.Common.{◌≡◌, drop}
use Rattle.hera_code.specs.declared.instrs.Instr.TheVariants.{Jump}
use Rattle.hera_codegen.specs.Holes.{filled}
use Rattle.hera_codegen.proofs.patches.fill_jumps.Given as goal

abbrev pub invariant-loop-hole : goal.invariant-loop-hole
invariant-loop-hole l = filled (Jump l.address) (drop l.hole-index l.holes) l.code.items ≡ filled (Jump l.address) l.holes l.initial.code.items
