use Rattle.std.proofs.Common.{◌≡◌, ◌∙◌, ◌++◌, ◌∷◌, [], List, map, sym, ap, subst}
use Rattle.std.specs.Option.{option_copied}
use Rattle.hera_sets.specs.Rows.{Row, IsAscending, is_past}
use Rattle.hera_sets.proofs.Lists.{filter_past_none, walk_falls}
use Rattle.hera_meaning.specs.Rows.{IsRow}
use Rattle.hera_meaning.specs.Wider.{widened_row}
use Rattle.hera_meaning.proofs.WiderLaws.{wide_ascending}
use Rattle.hera_store.proofs.Widenings.{found_holds, wide_step, wide_push, wide_end}
use Rattle.hera_store.proofs.widening.collect_widened.Goals as goal

pub loop-row-init : goal.loop-row-init
loop-row-init g c =
    let w : Row → Row = widened_row c.args.old.now c.args.new.now in
    rw c.new-set.ensures (ap (λ (rows : List Row). map w rows) (filter_past_none (g.S.Sorted.rows c.args.rows.now)))

pub widen_row-requires-clause-row : goal.widen_row-requires-clause-row
widen_row-requires-clause-row g c = found_holds (IsRow c.args.old.now) (is_past (option_copied c.loop-row.last)) (g.S.Sorted.rows c.args.rows.now) c.in-Some.row.now c.requires.rows (sym c.in-Some.ensures.next)

pub push_last-requires : goal.push_last-requires
push_last-requires g c =
    let rows = g.S.Sorted.rows c.args.rows.now in
    let w : Row → Row = widened_row c.args.old.now c.args.new.now in
    let is : c.bytes.result.now ≡ w c.in-Some.row.now = c.bytes.ensures ∙ c.in_ok-wide.ensures.row in
    subst (λ (r : Row). IsAscending (c.loop-row.set ++ r ∷ [])) (sym is)
    (wide_push w c.loop-row.set rows (option_copied c.loop-row.last) c.loop-row.invariant c.in-Some.row.now c.in-Some.ensures.ordered (sym c.in-Some.ensures.next)
    (wide_ascending c.args.old.now c.args.new.now rows c.requires.prefix c.requires.rows c.in-Some.ensures.ordered))

pub loop-row-smaller : goal.loop-row-smaller
loop-row-smaller g c = walk_falls (g.S.Sorted.rows c.args.rows.now) (option_copied c.loop-row.last) c.in-Some.row.now c.in-Some.ensures.ordered (sym c.in-Some.ensures.next)

pub loop-row-preserved : goal.loop-row-preserved
loop-row-preserved g c =
    let rows = g.S.Sorted.rows c.args.rows.now in
    let w : Row → Row = widened_row c.args.old.now c.args.new.now in
    let is : c.bytes.result.now ≡ w c.in-Some.row.now = c.bytes.ensures ∙ c.in_ok-wide.ensures.row in
    rw (c.in_ok-push_last.ensures.ok, is) (wide_step w c.loop-row.set rows (option_copied c.loop-row.last) c.loop-row.invariant c.in-Some.row.now c.in-Some.ensures.ordered (sym c.in-Some.ensures.next))

pub returns : goal.returns
returns g c = wide_end (widened_row c.args.old.now c.args.new.now) c.loop-row.set (g.S.Sorted.rows c.args.rows.now) (option_copied c.loop-row.last) c.loop-row.invariant (sym c.in_default.ensures.next)
