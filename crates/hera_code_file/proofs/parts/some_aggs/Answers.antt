use Rattle.std.proofs.Common.{[]}
use Rattle.std.proofs.lemmas.Result.{err_from_is_err_and}
use Rattle.hera_code_file.specs.Reading.{many, agg_at}
use Rattle.hera_code_file.proofs.Loops.{goes_on, stops_at, is_done}
use Rattle.hera_code_file.proofs.parts.some_aggs.Goals as goal

pub returns-in_err-agg : goal.returns-in_err-agg
returns-in_err-agg c =
    let p = err_from_is_err_and c.from_residual.result c.from_residual.ensures.1 in
    rw (p.1, p.2) (stops_at c.in_err-agg.field-0.0 (λ before. agg_at) c.args.count c.loop.counter c.loop.aggs.items c.loop.rest.now (many (λ before. agg_at) c.args.count [] c.args.bytes.now) c.loop-test.true c.in_err-agg.ensures c.loop.invariant)

pub loop-preserved : goal.loop-preserved
loop-preserved c = rw c.in_ok-push.ensures.items (goes_on (λ before. agg_at) c.args.count c.loop.counter c.loop.aggs.items c.loop.rest.now c.in_ok-agg.agg c.in_ok-agg.behind.now (many (λ before. agg_at) c.args.count [] c.args.bytes.now) c.loop-test.true c.in_ok-agg.ensures c.loop.invariant)

pub returns : goal.returns
returns c = rw c.shrink_to_fit.ensures.items (is_done (λ before. agg_at) c.args.count c.loop.counter c.loop.aggs.items c.loop.rest.now (many (λ before. agg_at) c.args.count [] c.args.bytes.now) c.loop-test.false c.loop.invariant)
