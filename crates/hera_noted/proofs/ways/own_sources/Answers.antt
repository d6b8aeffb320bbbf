-- One place more.
use Rattle.std.proofs.Common.{◌≡◌, ℕ, length, Some, sym, ap, subst, arith}
use Rattle.std.specs.Prelude.{slice_get}
use Rattle.hera_noted.specs.declared.ways.Sources.{Sources}
use Rattle.hera_noted.proofs.Listed.{push_long}
use Rattle.hera_noted.proofs.Pushed.{pushed}
use Rattle.hera_noted.proofs.ways.own_sources.Goals as goal

pub loop-place-preserved : goal.loop-place-preserved
loop-place-preserved c =
    let inv = c.loop-place.invariant in
    let items = c.in_ok-push.ensures.items in
    let longer = ap length items in
    let own : Sources = record { first = c.loop-place.place; last = c.loop-place.place } in
    let one = push_long c.loop-place.all.items own in
    let P : ℕ → Sources → Type 0 = λ k s. (s.first ≡ k) × (s.last ≡ k) in
    (omega (arith, inv.0, longer, one), λ k s e. pushed P c.loop-place.all.items own inv.1 (sym inv.0, sym inv.0) k s (subst (λ xs. slice_get xs k ≡ Some s) items e))
