use Rattle.std.proofs.Common.{◌-◌, List}
use Rattle.hera_typed.specs.Points.{Seen}
use Rattle.hera_stacks.specs.Stacked.{AreOperands}
use Rattle.hera_effects.proofs.Effecting.{IsTaking}
use Rattle.hera_effects.proofs.cuts.cut_off.Given as goal

abbrev pub invariant-loop-i : goal.invariant-loop-i
invariant-loop-i l = (ss : List Seen) → AreOperands l.stacks l.operands ss → IsTaking l.stacks l.args.items l.rest (l.count - l.i) l.count ss
