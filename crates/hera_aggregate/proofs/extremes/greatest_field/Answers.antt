use Rattle.std.proofs.Common.{[], ◌∷◌, ◌++◌, refl, sym, ap, ◌∙◌, subst}
use Rattle.std.specs.Option.{option_copied, option_map}
use Rattle.hera_sets.specs.Rows.{is_past}
use Rattle.hera_sets.proofs.Lists.{filter_past_none, walk_step, walk_end, walk_falls}
use Rattle.hera_meaning.specs.Rows.{IsRow, field_at}
use Rattle.hera_meaning.specs.Aggregates.{column}
use Rattle.hera_row.specs.Fields.{told}
use Rattle.rel_algebra.specs.Fronts.{rows_behind}
use Rattle.hera_aggregate.specs.Extremes.{found_greatest}
use Rattle.hera_aggregate.proofs.Totals.{all_found}
use Rattle.hera_aggregate.proofs.Bests.{greatest_more}
use Rattle.hera_aggregate.proofs.extremes.greatest_field.Goals as goal

pub loop-row-init : goal.loop-row-init
loop-row-init g c = ([], filter_past_none (g.A.Sorted.rows c.args.a.now), refl)

pub field-requires-clause-row : goal.field-requires-clause-row
field-requires-clause-row g c =
    subst (IsRow c.args.schema.now) (sym c.behind.ensures)
    (all_found (IsRow c.args.schema.now) (is_past (option_copied c.loop-row.last)) c.args.skip (g.A.Sorted.rows c.args.a.now) c.in-Some.row.now c.requires.rows (sym c.in-Some.ensures.next))

pub loop-row-smaller : goal.loop-row-smaller
loop-row-smaller g c = walk_falls (g.A.Sorted.rows c.args.a.now) (option_copied c.loop-row.last) c.in-Some.row.now c.in-Some.ensures.ordered (sym c.in-Some.ensures.next)

pub loop-row-preserved : goal.loop-row-preserved
loop-row-preserved g c =
    let schema = c.args.schema.now in
    let done = c.loop-row.invariant.0 in (
      done ++ c.in-Some.row.now ∷ [],
      walk_step done (g.A.Sorted.rows c.args.a.now) (option_copied c.loop-row.last) c.in-Some.row.now c.in-Some.ensures.ordered (sym c.in-Some.ensures.next) c.loop-row.invariant.1,
      greatest_more schema c.args.i c.args.skip done c.in-Some.row.now (option_map told c.loop-row.best) (told c.field.result) (told c.greater.result) (c.field.ensures ∙ ap (λ x. field_at schema x c.args.i) c.behind.ensures) c.greater.ensures c.loop-row.invariant.2,
    )

pub returns : goal.returns
returns g c =
    c.loop-row.invariant.2
    ∙ ap (λ rows. found_greatest (column c.args.schema.now c.args.i (rows_behind c.args.skip rows))) (walk_end c.loop-row.invariant.0 (g.A.Sorted.rows c.args.a.now) (option_copied c.loop-row.last) (sym c.in_default.ensures.next) c.loop-row.invariant.1)
