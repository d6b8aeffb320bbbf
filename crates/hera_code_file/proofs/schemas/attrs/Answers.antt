use Rattle.std.proofs.Common.{[]}
use Rattle.std.proofs.lemmas.Result.{err_from_is_err_and}
use Rattle.hera_code_file.specs.Reading.{many, attr_at}
use Rattle.hera_code_file.proofs.Loops.{goes_on, stops_at, is_done}
use Rattle.hera_code_file.proofs.schemas.attrs.Goals as goal

pub returns-in_err-attr : goal.returns-in_err-attr
returns-in_err-attr c =
    let p = err_from_is_err_and c.from_residual.result c.from_residual.ensures.1 in
    rw (p.1, p.2) (stops_at c.in_err-attr.field-0.0 attr_at c.args.count c.loop.counter c.loop.attrs.items c.loop.rest.now (many attr_at c.args.count [] c.args.bytes.now) c.loop-test.true (rw c.deref.ensures.value at c.in_err-attr.ensures) c.loop.invariant)

pub loop-preserved : goal.loop-preserved
loop-preserved c = rw c.in_ok-push.ensures.items (goes_on attr_at c.args.count c.loop.counter c.loop.attrs.items c.loop.rest.now c.in_ok-attr.attr c.in_ok-attr.behind.now (many attr_at c.args.count [] c.args.bytes.now) c.loop-test.true (rw c.deref.ensures.value at c.in_ok-attr.ensures) c.loop.invariant)

pub returns : goal.returns
returns c = rw c.shrink_to_fit.ensures.items (is_done attr_at c.args.count c.loop.counter c.loop.attrs.items c.loop.rest.now (many attr_at c.args.count [] c.args.bytes.now) c.loop-test.false c.loop.invariant)
