-- The farthest stop within the limit.
use Rattle.std.proofs.Common.{refl, sym, subst, arith}
use Rattle.hera_noted.specs.Ends.{Fall, AreStops, AreGates}
use Rattle.hera_noted.proofs.Ending.{stop_there, ended}
use Rattle.hera_noted.proofs.ends.end_at.Goals as goal

pub stop_within-requires-clause-fall : goal.stop_within-requires-clause-fall
stop_within-requires-clause-fall c = subst (λ xs. Fall xs) (sym c.as_slice-2.ensures.value) c.in_ok-put_stop.ensures.fall

pub stop_within-requires-clause-some : goal.stop_within-requires-clause-some
stop_within-requires-clause-some c =
    let all = c.args.all.now in
    let le = c.requires.from in
    let gates = subst (λ gs. AreGates all c.args.from gs) (sym c.as_slice.ensures.value) c.in_ok-put_gate.ensures in
    let stops = subst (λ xs. AreStops all c.args.from xs) (sym c.as_slice-2.ensures.value) c.in_ok-put_stop.ensures in
    stop_there all c.args.from c.limit-limit.result c.as_slice-2.result.now (omega (arith, le)) stops (c.limit-limit.ensures all c.args.from refl (omega (arith, le)) gates)

pub returns-clause-end : goal.returns-clause-end
returns-clause-end c =
    let all = c.args.all.now in
    let le = c.requires.from in
    let gates = subst (λ gs. AreGates all c.args.from gs) (sym c.as_slice.ensures.value) c.in_ok-put_gate.ensures in
    let stops = subst (λ xs. AreStops all c.args.from xs) (sym c.as_slice-2.ensures.value) c.in_ok-put_stop.ensures in
    let stop = c.stop_within.ensures.stop in
    ended all c.args.from c.limit-limit.result c.stop_within.result stop.0 c.as_slice-2.result.now stops (c.limit-limit.ensures all c.args.from refl (omega (arith, le)) gates) stop.1 c.stop_within.ensures.within c.stop_within.ensures.farthest
