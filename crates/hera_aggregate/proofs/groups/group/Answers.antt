use Rattle.std.proofs.Common.{◌&&◌, ap}
use Rattle.std.proofs.lemmas.Result.{err_from_is_err_and}
use Rattle.hera_meaning.specs.Aggregates.{is_few, are_sums_in_range}
use Rattle.hera_aggregate.proofs.GroupLemmas.{refused_at}
use Rattle.hera_aggregate.proofs.groups.group.Goals as goal

pub returns-in_err-keys-clause-refused : goal.returns-in_err-keys-clause-refused
returns-in_err-keys-clause-refused g c =
    let rows = g.A.Sorted.rows c.args.a.now in
    let sums = are_sums_in_range c.args.schema.now c.args.by.now c.args.aggs.now rows in
    let p = err_from_is_err_and c.from_residual.result c.from_residual.ensures.1 in
    rw (p.1, p.2) (refused_at (is_few rows) (is_few rows && sums) c.in_err-keys.field-0.0 (λ out. ap (λ v. v && sums) out) c.in_err-keys.ensures.refused)
