use Rattle.std.specs.Prelude.{◌+◌, ◌-◌, length}
use Rattle.hera_typed.specs.Notes.{notes_of}
use Rattle.hera_verify.specs.Looks.{Finds}
use Rattle.hera_verify.specs.Slots.{NarrowFineTo, AreSources}
use Rattle.hera_verify.proofs.slots.look.Given as goal

abbrev pub invariant-loop-sources : goal.invariant-loop-sources
invariant-loop-sources l = record {
  sources : AreSources l.code l.sources;
  found : Finds (NarrowFineTo l.code (notes_of l.notes) l.sources.width) l.found;
}

abbrev pub decreases-loop-sources : goal.decreases-loop-sources
decreases-loop-sources l = length l.code.instrs + 1 - l.sources.width
