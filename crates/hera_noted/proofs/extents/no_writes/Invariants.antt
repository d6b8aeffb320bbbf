-- none so far
use Rattle.std.proofs.Common.{◌≡◌, ℕ, length, Option, None, Some}
use Rattle.std.specs.Prelude.{slice_get}
use Rattle.hera_noted.proofs.extents.no_writes.Given as goal

abbrev pub invariant-loop : goal.invariant-loop
invariant-loop l = (length l.writes.items ≡ l.counter) × ((k : ℕ) (o : Option ℕ) → slice_get l.writes.items k ≡ Some o → o ≡ None)
