use Rattle.std.specs.Prelude.{◌<◌, ℕ, map, length}
use Rattle.hera_typed.specs.Notes.{slot_note}
use Rattle.hera_verify.specs.Looks.{Finds}
use Rattle.hera_verify.specs.Slots.{IsReach, FirstSlotsFineTo}
use Rattle.hera_verify.proofs.slots.look_at_slots.Given as goal

abbrev pub invariant-loop-i : goal.invariant-loop-i
invariant-loop-i l = (k : ℕ) → k < length l.code.bodies → IsReach l.code k l.reach → Finds (FirstSlotsFineTo l.code l.sources.width k l.first (map slot_note l.slots) l.i) l.found
