use Rattle.std.proofs.Common.{sym, arith, ◌∙◌}
use Rattle.std.specs.Prelude.{slice_get}
use Rattle.hera_sets.specs.Rows.{is_past}
use Rattle.hera_sets.proofs.Lists.{filter_none_found}
use Rattle.std.proofs.lemmas.Option.{slice_get_past}
use Rattle.hera_reads.proofs.Reading.{run_told}
use Rattle.hera_reads.proofs.ahead.Ahead.read_on.Goals as goal

pub returns-then-from-len : goal.returns-then-from-len
returns-then-from-len c =
    filter_none_found (is_past c.args.self.now.passed) c.args.rows.now (sym c.requires ∙ slice_get_past c.args.rows.now c.args.from (omega (arith, c.if-from-len.true, c.len.ensures.count)))

pub returns : goal.returns
returns c =
    rw c.truncate.ensures.items
    (run_told c.args.rows.now c.args.self.now.passed (slice_get c.args.rows.now c.args.from) _ c.len.ensures.ordered c.requires c.in_ok-count.ensures)
