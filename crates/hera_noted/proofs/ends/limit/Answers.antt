-- The last gate is the nearest place to which a way leads from before.
use Rattle.std.proofs.Common.{◌-◌, length, sym, subst, arith}
use Rattle.hera_noted.specs.Ends.{IsLimit}
use Rattle.hera_noted.proofs.Listed.{there, none_long}
use Rattle.hera_noted.proofs.Ending.{limit_none, limit_some}
use Rattle.hera_noted.proofs.ends.limit.Goals as goal

pub returns-in-Some : goal.returns-in-Some
returns-in-Some c all from long le h =
    let gates = c.args.gates.now in
    let here = sym c.in-Some.ensures.value in
    let within = there gates (length gates - 1) c.in-Some.gate.now here in
    limit_some all from (length gates - 1) c.in-Some.gate.now gates (omega (arith, within)) here h

pub returns-in-None : goal.returns-in-None
returns-in-None c all from long le h = subst (λ n. IsLimit all from n) long (limit_none all from c.args.gates.now (none_long c.args.gates.now c.in-None.ensures.value) (omega (arith, long, le)) h)
