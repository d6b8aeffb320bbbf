use Rattle.std.proofs.Common.{Some, sym, ap, ◌∙◌}
use Rattle.std.specs.Option.{option_copied, option_map}
use Rattle.hera_sets.specs.Rows.{is_past}
use Rattle.hera_sets.proofs.Lists.{filter_past_none, walk_falls}
use Rattle.hera_meaning.specs.Rows.{IsRow}
use Rattle.hera_host.specs.Tables.{specs_of}
use Rattle.hera_guard.specs.Guards.{broken, rows_breaks, first}
use Rattle.hera_guard.proofs.Walking.{rows_unguarded, row_passes, row_breaks_first, rows_end, all_found}
use Rattle.hera_guard.proofs.walk.first_in.Goals as goal

pub returns-then-not-is_guarded : goal.returns-then-not-is_guarded
returns-then-not-is_guarded g c =
    sym (ap first (rows_unguarded (specs_of c.args.hosts.now.names) c.args.guards.now c.args.schema.now c.args.rel.0 (g.S.Sorted.rows c.args.rows.now) (sym c.is_guarded.ensures ∙ c.if-not-is_guarded.true)))

pub loop-row-init : goal.loop-row-init
loop-row-init g c =
    ap (λ rows. first (rows_breaks (specs_of c.args.hosts.now.names) c.args.guards.now c.args.schema.now c.args.rel.0 rows)) (filter_past_none (g.S.Sorted.rows c.args.rows.now))

pub first_of_row-requires-clause-row : goal.first_of_row-requires-clause-row
first_of_row-requires-clause-row g c =
    all_found (IsRow c.args.schema.now) (is_past (option_copied c.loop-row.last)) (g.S.Sorted.rows c.args.rows.now) c.in-Some.row.now c.requires.rows (sym c.in-Some.ensures.next)

pub returns-in-Some-2 : goal.returns-in-Some-2
returns-in-Some-2 g c =
    let rel = c.args.rel in
    let row = c.in-Some.row.now in
    let some = sym c.in_ok-guard.ensures ∙ ap (option_map (λ n. broken n rel.0 row)) c.in-Some-2.is in
    ap (λ bytes. Some (broken c.in-Some-2.guard rel.0 bytes)) c.in_ok-row.ensures
    ∙ row_breaks_first (specs_of c.args.hosts.now.names) c.args.guards.now c.args.schema.now rel.0 (option_copied c.loop-row.last) (g.S.Sorted.rows c.args.rows.now) row (broken c.in-Some-2.guard rel.0 row) c.in-Some.ensures.ordered (sym c.in-Some.ensures.next) some
    ∙ c.loop-row.invariant

pub loop-row-smaller : goal.loop-row-smaller
loop-row-smaller g c = walk_falls (g.S.Sorted.rows c.args.rows.now) (option_copied c.loop-row.last) c.in-Some.row.now c.in-Some.ensures.ordered (sym c.in-Some.ensures.next)

pub loop-row-preserved : goal.loop-row-preserved
loop-row-preserved g c =
    let none = sym c.in_ok-guard.ensures ∙ ap (option_map (λ n. broken n c.args.rel.0 c.in-Some.row.now)) c.in_default-2.is in
    row_passes (specs_of c.args.hosts.now.names) c.args.guards.now c.args.schema.now c.args.rel.0 (option_copied c.loop-row.last) (g.S.Sorted.rows c.args.rows.now) c.in-Some.row.now c.in-Some.ensures.ordered (sym c.in-Some.ensures.next) none
    ∙ c.loop-row.invariant

pub returns : goal.returns
returns g c =
    sym (rows_end (specs_of c.args.hosts.now.names) c.args.guards.now c.args.schema.now c.args.rel.0 (option_copied c.loop-row.last) (g.S.Sorted.rows c.args.rows.now) (sym c.in_default.ensures.next)) ∙ c.loop-row.invariant
