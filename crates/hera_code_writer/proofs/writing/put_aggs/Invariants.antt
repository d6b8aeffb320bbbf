use Rattle.std.specs.Prelude.{◌≡◌, ◌++◌, take, length}
use Rattle.std.specs.List.{flat_map}
use Rattle.hera_code_file.specs.Printing.{word, agg_bytes}
use Rattle.hera_code_writer.proofs.writing.put_aggs.Given as goal

abbrev pub invariant-loop-agg : goal.invariant-loop-agg
invariant-loop-agg l = l.out.items ≡ l.fn.out.items ++ (word (length l.aggs) ++ flat_map agg_bytes (take l.agg-index l.aggs))
