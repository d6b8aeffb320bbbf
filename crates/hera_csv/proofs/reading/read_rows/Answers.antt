use Rattle.std.proofs.Common.{ap, ◌∙◌}
use Rattle.std.proofs.lemmas.List.Elements.{All-same}
use Rattle.hera_sets.specs.Rows.{normal}
use Rattle.hera_meaning.specs.Rows.{IsRow}
use Rattle.hera_csv.specs.Records.{records_of, rows_of}
use Rattle.hera_csv.proofs.Kept.{rows_are}
use Rattle.hera_csv.proofs.reading.read_rows.Goals as goal

pub returns-in-Ok-clause-valid : goal.returns-in-Ok-clause-valid
returns-in-Ok-clause-valid c =
    let schema = c.args.schema.now in
    let all = records_of c.deref.result.now in
    All-same (IsRow schema) c.in-Ok.set (rows_of schema all) (c.in-Ok.ensures ∙ ap normal c.in_ok-rows.ensures.rows) (rows_are schema all)
