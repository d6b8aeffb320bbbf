use Rattle.std.specs.Prelude.{◌<◌, length}
use Rattle.hera_typed.specs.Notes.{notes_of}
use Rattle.hera_verify.specs.Looks.{Finds}
use Rattle.hera_verify.specs.Slots.{IsReach, FirstBodiesFineTo}
use Rattle.hera_verify.proofs.slots.look_at_width.Given as goal

abbrev pub invariant-loop-k : goal.invariant-loop-k
invariant-loop-k l = record {
  reach : l.k < length l.code.bodies → IsReach l.code l.k l.reach;
  found : Finds (FirstBodiesFineTo l.code (notes_of l.notes) l.sources.width l.k) l.found;
}
