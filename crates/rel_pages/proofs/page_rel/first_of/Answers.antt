use Rattle.std.proofs.Common.{sym, ap, ◌∙◌}
use Rattle.std.specs.List.{find}
use Rattle.std.proofs.lemmas.Bool.{cond-true, cond-false}
use Rattle.rel_pages.specs.Rels.{passes}
use Rattle.rel_pages.proofs.Runs.{run_starts, run_on}
use Rattle.rel_pages.proofs.page_rel.first_of.Goals as goal

pub first_row-requires : goal.first_row-requires
first_row-requires c = run_starts c.args.schema.now c.args.count c.loop-place.place c.loop-place.left.now c.loop-place-test.true c.loop-place.invariant.run

pub returns-then-passes : goal.returns-then-passes
returns-then-passes c =
    let goes = run_on c.args.schema.now c.args.count c.loop-place.place c.loop-place.left.now c.first_row.result.0.now c.first_row.result.1.now c.loop-place-test.true c.loop-place.invariant.run c.first_row.ensures.row c.first_row.ensures.bytes in
    sym (c.loop-place.invariant.next ∙ ap (find (passes c.args.bound)) goes.rows ∙ cond-true _ _ _ (sym c.passes.ensures ∙ c.if-passes.true))

pub loop-place-preserved : goal.loop-place-preserved
loop-place-preserved c =
    let goes = run_on c.args.schema.now c.args.count c.loop-place.place c.loop-place.left.now c.first_row.result.0.now c.first_row.result.1.now c.loop-place-test.true c.loop-place.invariant.run c.first_row.ensures.row c.first_row.ensures.bytes in
    record { run = goes.run; next = c.loop-place.invariant.next ∙ ap (find (passes c.args.bound)) goes.rows ∙ cond-false _ _ _ (sym c.passes.ensures ∙ c.if-passes.false) }
