use Rattle.std.proofs.lemmas.Option.{slice_get-get_or}
use Rattle.hera_code_file.specs.Fitting.{AggFits}
use Rattle.hera_code_writer.proofs.Stands.{all_at, all_done}
use Rattle.hera_packed.proofs.standing.aggs_stand.Goals as goal

pub loop-agg-preserved : goal.loop-agg-preserved
loop-agg-preserved c = all_at AggFits c.args.aggs.now c.loop-agg.agg-index _ (slice_get-get_or c.args.aggs.now c.loop-agg.agg-index _ c.loop-agg-test.true) c.loop-agg.invariant (c.agg_stands.ensures c.if-not-agg_stands.false)

pub returns : goal.returns
returns c = λ _. (c.is_word.ensures c.if-not-is_word.false, all_done AggFits c.args.aggs.now c.loop-agg.agg-index c.loop-agg-test.false c.loop-agg.invariant)
