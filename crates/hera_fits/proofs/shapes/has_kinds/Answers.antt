use Rattle.std.proofs.Common.{◌∙◌, sym, ap, Some}
use Rattle.std.specs.List.{filter, list_all}
use Rattle.std.specs.Option.{option_copied}
use Rattle.hera_sets.specs.Rows.{is_past}
use Rattle.hera_sets.proofs.Lists.{filter_past_none, filter_past_step, filter_none_found, walk_falls}
use Rattle.hera_meaning.specs.Rows.{is_row}
use Rattle.hera_fits.proofs.Tested.{all_next, all_fails, all_over}
use Rattle.hera_fits.proofs.shapes.has_kinds.Goals as goal

pub loop-row-init : goal.loop-row-init
loop-row-init g c = ap (list_all (is_row c.args.schema.now)) (filter_past_none (g.A.Sorted.rows c.args.a.now))

pub loop-row-smaller : goal.loop-row-smaller
loop-row-smaller g c = walk_falls (g.A.Sorted.rows c.args.a.now) (option_copied c.loop-row.last) c.in-Some.row.now c.in-Some.ensures.ordered (sym c.in-Some.ensures.next)

pub loop-row-preserved : goal.loop-row-preserved
loop-row-preserved g c =
    all_next (is_row c.args.schema.now) (filter (is_past (option_copied c.loop-row.last)) (g.A.Sorted.rows c.args.a.now)) (filter (is_past (Some c.in-Some.row.now)) (g.A.Sorted.rows c.args.a.now)) c.in-Some.row.now
    (filter_past_step (option_copied c.loop-row.last) (g.A.Sorted.rows c.args.a.now) c.in-Some.row.now c.in-Some.ensures.ordered (sym c.in-Some.ensures.next))
    (sym c.if-not-is_row.ensures)
    ∙ c.loop-row.invariant

pub returns-then-not-is_row : goal.returns-then-not-is_row
returns-then-not-is_row g c =
    all_fails (is_row c.args.schema.now) (filter (is_past (option_copied c.loop-row.last)) (g.A.Sorted.rows c.args.a.now)) (filter (is_past (Some c.in-Some.row.now)) (g.A.Sorted.rows c.args.a.now)) c.in-Some.row.now
    (filter_past_step (option_copied c.loop-row.last) (g.A.Sorted.rows c.args.a.now) c.in-Some.row.now c.in-Some.ensures.ordered (sym c.in-Some.ensures.next))
    (sym c.if-not-is_row.ensures)
    ∙ c.loop-row.invariant

pub returns : goal.returns
returns g c =
    all_over (is_row c.args.schema.now) (filter (is_past (option_copied c.loop-row.last)) (g.A.Sorted.rows c.args.a.now)) (filter_none_found (is_past (option_copied c.loop-row.last)) (g.A.Sorted.rows c.args.a.now) (sym c.in_default.ensures.next))
    ∙ c.loop-row.invariant
