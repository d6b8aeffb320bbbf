use Rattle.std.proofs.lemmas.List.Elements.{All-from_recursion}
use Rattle.hera_code_file.specs.Fitting.{AggFits}
use Rattle.hera_code_writer.proofs.writing.put_aggs.Goals as goal

pub put_agg-requires : goal.put_agg-requires
put_agg-requires c = All-from_recursion AggFits c.args.aggs.now c.requires.1 c.loop-agg.agg-index _ c.loop-agg-test.true
