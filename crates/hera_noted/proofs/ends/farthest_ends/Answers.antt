-- The end for one place more.
use Rattle.std.proofs.Common.{◌≡◌, ◌+◌, ◌-◌, ℕ, length, Some, refl, ap, subst, arith}
use Rattle.std.specs.Prelude.{slice_get}
use Rattle.hera_noted.specs.Ends.{IsFarthestIn, AreStops, AreGates}
use Rattle.hera_noted.proofs.Listed.{push_long}
use Rattle.hera_noted.proofs.Pushed.{pushed}
use Rattle.hera_noted.proofs.Ending.{stops_start, gates_start, end_start}
use Rattle.hera_noted.proofs.ends.farthest_ends.Goals as goal

pub loop-n-init : goal.loop-n-init
loop-n-init c =
    let all = c.args.all.now in
    let n : ℕ = length all in
    let place : n ≡ n - 0 = omega arith in
    record {
      few = omega arith;
      stops = subst (λ p. AreStops all p c.in_ok-stops.stops.items) place (rw c.in_ok-stops.ensures (stops_start all));
      gates = subst (λ p. AreGates all p c.new-gates.result.items) place (rw c.new-gates.ensures.items (gates_start all));
      long = rw c.in_ok-ends.ensures refl;
      ends = λ m e h. end_start all m e (subst (λ xs. slice_get xs m ≡ Some e) c.in_ok-ends.ensures h);
    }

pub end_at-requires-clause-stops : goal.end_at-requires-clause-stops
end_at-requires-clause-stops c =
    let all = c.args.all.now in
    let less = c.loop-n-test.true in
    let place : length all - c.loop-n.n ≡ length all - 1 - c.loop-n.n + 1 = omega (arith, less) in
    subst (λ p. AreStops all p c.loop-n.stops.items) place c.loop-n.invariant.stops

pub end_at-requires-clause-gates : goal.end_at-requires-clause-gates
end_at-requires-clause-gates c =
    let all = c.args.all.now in
    let less = c.loop-n-test.true in
    let place : length all - c.loop-n.n ≡ length all - 1 - c.loop-n.n + 1 = omega (arith, less) in
    subst (λ p. AreGates all p c.loop-n.gates.items) place c.loop-n.invariant.gates

pub loop-n-preserved : goal.loop-n-preserved
loop-n-preserved c =
    let all = c.args.all.now in
    let inv = c.loop-n.invariant in
    let less = c.loop-n-test.true in
    let items = c.in_ok-push.ensures.items in
    let longer = ap length items in
    let end = c.in_ok-end_at.field-0 in
    let long = inv.long in
    let one = push_long c.loop-n.ends.items end in
    let place : length all - 1 - c.loop-n.n ≡ length all - (c.loop-n.n + 1) = omega (arith, less) in
    let last : length all - 1 - c.loop-n.n ≡ length all - length c.loop-n.ends.items = omega (arith, less, long) in
    let P : ℕ → ℕ → Type 0 = λ m e. IsFarthestIn all (length all - m) e in
    record {
      few = omega (arith, less);
      stops = subst (λ p. AreStops all p c.end_at.new.stops.items) place c.in_ok-end_at.ensures.stops;
      gates = subst (λ p. AreGates all p c.end_at.new.gates.items) place c.in_ok-end_at.ensures.gates;
      long = omega (arith, longer, one, long);
      ends = λ m e h. pushed P c.loop-n.ends.items end inv.ends (subst (λ p. IsFarthestIn all p end) last c.in_ok-end_at.ensures.end) m e (subst (λ xs. slice_get xs m ≡ Some e) items h);
    }
