use Rattle.std.proofs.Common.{[], arith}
use Rattle.hera_code_file.specs.Reading.{slot_at}
use Rattle.hera_code_file.proofs.Loops.{many_count}
use Rattle.hera_code_file.proofs.bodies.slots.Goals as goal

pub returns-clause-count : goal.returns-clause-count
returns-clause-count c =
    let n = many_count (λ before. slot_at) c.in_ok-count.count [] c.in_ok-count.rest.now c.in_ok-slots.slots.items c.in_ok-slots.rest.now c.in_ok-slots.ensures in
    omega (arith, n)
