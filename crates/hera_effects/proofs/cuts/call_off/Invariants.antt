use Rattle.std.proofs.Common.{◌-◌, List}
use Rattle.hera_typed.specs.Notes.{body_note}
use Rattle.hera_typed.specs.Points.{Seen}
use Rattle.hera_typed.specs.Effects.{slot_forms}
use Rattle.hera_stacks.specs.Stacked.{AreOperands}
use Rattle.hera_effects.proofs.Calling.{IsCalling}
use Rattle.hera_effects.proofs.cuts.call_off.Given as goal

abbrev pub invariant-loop-i : goal.invariant-loop-i
invariant-loop-i l = (ss : List Seen) → AreOperands l.stacks l.operands ss → IsCalling l.stacks l.rest (l.count - l.i) l.count (slot_forms (body_note l.note).slots) ss
