-- The instruction writes no slot, one that isn't there, or one of the body.
use Rattle.std.proofs.Common.{refl, arith}
use Rattle.hera_noted.proofs.Writing.{writes_same, writes_off, writes_noted}
use Rattle.hera_noted.proofs.extents.note_write.Goals as goal

pub returns-in_default : goal.returns-in_default
returns-in_default c instrs lo hi low high here h = (refl, writes_same instrs lo hi c.args.at c.args.instr.now c.args.writes.now.items here c.in_default.ensures.none h)

pub returns-then-slot-len : goal.returns-then-slot-len
returns-then-slot-len c instrs lo hi low high here h =
    (refl, writes_off instrs lo hi c.args.at c.in-Some.slot c.args.instr.now c.args.writes.now.items here c.in-Some.ensures.some (omega (arith, c.if-slot-len.true, c.len.ensures, c.args.writes.now.ok.0)) h)

pub returns : goal.returns
returns c instrs lo hi low high here h =
    writes_noted instrs lo hi c.args.at c.in-Some.slot c.args.instr.now c.args.writes.now.items c.note_slot.new.writes.items low high here c.in-Some.ensures.some (omega (arith, c.if-slot-len.false, c.len.ensures, c.args.writes.now.ok.0)) c.note_slot.ensures.kept c.note_slot.ensures.put h
