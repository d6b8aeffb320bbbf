-- One slot more.
use Rattle.std.proofs.Common.{◌≡◌, ℕ, length, Option, None, Some, refl, ap, subst, arith}
use Rattle.std.specs.Prelude.{slice_get}
use Rattle.hera_noted.proofs.Listed.{push_long}
use Rattle.hera_noted.proofs.Pushed.{pushed}
use Rattle.hera_noted.proofs.extents.no_writes.Goals as goal

pub loop-preserved : goal.loop-preserved
loop-preserved c =
    let inv = c.loop.invariant in
    let items = c.in_ok-push.ensures.items in
    let longer = ap length items in
    let one = push_long c.loop.writes.items None in
    let P : ℕ → Option ℕ → Type 0 = λ k o. o ≡ None in
    (omega (arith, inv.0, longer, one), λ k o e. pushed P c.loop.writes.items None inv.1 refl k o (subst (λ xs. slice_get xs k ≡ Some o) items e))
