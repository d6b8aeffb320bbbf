-- the slots so far have their ranges
use Rattle.std.proofs.Common.{◌≡◌, ℕ, length, Some}
use Rattle.std.specs.Prelude.{slice_get}
use Rattle.hera_noted.specs.declared.extents.Span.{Span}
use Rattle.hera_noted.specs.Spans.{IsRange}
use Rattle.hera_noted.proofs.extents.slot_ranges.Given as goal

abbrev pub invariant-loop-i : goal.invariant-loop-i
invariant-loop-i l = (length l.ranges.items ≡ l.i) × ((j : ℕ) (r : Span) → slice_get l.ranges.items j ≡ Some r → IsRange l.instrs l.body.start l.body.end j r.start r.end)
