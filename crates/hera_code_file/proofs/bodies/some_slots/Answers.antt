use Rattle.std.proofs.Common.{[]}
use Rattle.std.proofs.lemmas.Result.{err_from_is_err_and}
use Rattle.hera_code_file.specs.Reading.{many, slot_at}
use Rattle.hera_code_file.proofs.Loops.{goes_on, stops_at, is_done}
use Rattle.hera_code_file.proofs.bodies.some_slots.Goals as goal

pub returns-in_err-slot : goal.returns-in_err-slot
returns-in_err-slot c =
    let p = err_from_is_err_and c.from_residual.result c.from_residual.ensures.1 in
    rw (p.1, p.2) (stops_at c.in_err-slot.field-0.0 (λ before. slot_at) c.args.count c.loop.counter c.loop.slots.items c.loop.rest.now (many (λ before. slot_at) c.args.count [] c.args.bytes.now) c.loop-test.true c.in_err-slot.ensures c.loop.invariant)

pub loop-preserved : goal.loop-preserved
loop-preserved c = rw c.in_ok-push.ensures.items (goes_on (λ before. slot_at) c.args.count c.loop.counter c.loop.slots.items c.loop.rest.now c.in_ok-slot.slot c.in_ok-slot.behind.now (many (λ before. slot_at) c.args.count [] c.args.bytes.now) c.loop-test.true c.in_ok-slot.ensures c.loop.invariant)

pub returns : goal.returns
returns c = rw c.shrink_to_fit.ensures.items (is_done (λ before. slot_at) c.args.count c.loop.counter c.loop.slots.items c.loop.rest.now (many (λ before. slot_at) c.args.count [] c.args.bytes.now) c.loop-test.false c.loop.invariant)
