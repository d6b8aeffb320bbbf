-- the places so far have their own
use Rattle.std.proofs.Common.{◌≡◌, ℕ, length, Some}
use Rattle.std.specs.Prelude.{slice_get}
use Rattle.hera_noted.specs.declared.ways.Sources.{Sources}
use Rattle.hera_noted.proofs.ways.own_sources.Given as goal

abbrev pub invariant-loop-place : goal.invariant-loop-place
invariant-loop-place l = (length l.all.items ≡ l.place) × ((k : ℕ) (s : Sources) → slice_get l.all.items k ≡ Some s → (s.first ≡ k) × (s.last ≡ k))
