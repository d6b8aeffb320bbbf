use Rattle.std.proofs.Common.{◌≡◌, ◌++◌, ◌∙◌, ap, sym, true, false, Some}
use Rattle.std.specs.List.{find}
use Rattle.std.specs.Option.{option_copied}
use Rattle.hera_sets.specs.Rows.{holds}
use Rattle.hera_sets.proofs.Members.{ascending_normal}
use Rattle.when_overlay.specs.Changed.{rows_after}
use Rattle.when_overlay.specs.Layered.{path}
use Rattle.when_overlay.specs.Seeking.{pluses, met, passes}
use Rattle.when_overlay.proofs.Walking.{walk_on, passed_over, found_here, none_here}
use Rattle.when_overlay.proofs.Signing.{ascending_after}
use Rattle.when_overlay.proofs.Meeting.{find-after, kept_met}
use Rattle.when_overlay.proofs.seeks.first_met.Goals as goal

pub loop-row-smaller : goal.loop-row-smaller
loop-row-smaller c =
    let rows = c.args.pages.now in
    let ds = c.args.commits.now ++ path c.args.layers.now.layers c.args.tip in
    walk_on c.loop-row.last (met c.args.rel.0 rows ds) c.in-Some.row.now (ascending_normal (rows ++ pluses c.args.rel.0 ds)) (sym c.met_next-next.ensures.next ∙ ap option_copied c.in-Some.is)

pub loop-row-preserved : goal.loop-row-preserved
loop-row-preserved c =
    let rows = c.args.pages.now in
    let ds = c.args.commits.now ++ path c.args.layers.now.layers c.args.tip in
    let found : find (passes c.loop-row.last) (met c.args.rel.0 rows ds) ≡ Some c.in-Some.row.now = sym c.met_next-next.ensures.next ∙ ap option_copied c.in-Some.is in
    let kept = rw c.in-Some.is at c.met_next-next.ensures.kept in
    passed_over (holds (rows_after c.args.rel.0 rows ds)) c.loop-row.last (met c.args.rel.0 rows ds) c.in-Some.row.now (ascending_normal (rows ++ pluses c.args.rel.0 ds)) found
    (kept_met (passes c.loop-row.last) c.args.rel.0 rows ds c.in-Some.row.now false found (sym c.if-next.false ∙ kept))
    ∙ c.loop-row.invariant

pub returns-then-next-clause-next : goal.returns-then-next-clause-next
returns-then-next-clause-next c =
    let rows = c.args.pages.now in
    let ds = c.args.commits.now ++ path c.args.layers.now.layers c.args.tip in
    let found : find (passes c.loop-row.last) (met c.args.rel.0 rows ds) ≡ Some c.in-Some.row.now = sym c.met_next-next.ensures.next ∙ ap option_copied c.in-Some.is in
    let kept = rw c.in-Some.is at c.met_next-next.ensures.kept in
    ap option_copied c.in-Some.is
    ∙ found_here (holds (rows_after c.args.rel.0 rows ds)) c.loop-row.last (met c.args.rel.0 rows ds) c.in-Some.row.now (ascending_normal (rows ++ pluses c.args.rel.0 ds)) found
    (kept_met (passes c.loop-row.last) c.args.rel.0 rows ds c.in-Some.row.now true found (sym c.if-next.true ∙ kept))
    ∙ c.loop-row.invariant
    ∙ find-after (passes c.args.sought) c.args.rel.0 rows ds c.met_next-next.ensures.ordered

pub returns-then-next-clause-ordered : goal.returns-then-next-clause-ordered
returns-then-next-clause-ordered c = ascending_after c.args.rel.0 c.args.pages.now (c.args.commits.now ++ path c.args.layers.now.layers c.args.tip) c.met_next-next.ensures.ordered

pub returns-in_default-clause-next : goal.returns-in_default-clause-next
returns-in_default-clause-next c =
    let rows = c.args.pages.now in
    let ds = c.args.commits.now ++ path c.args.layers.now.layers c.args.tip in
    ap option_copied c.in_default.is
    ∙ none_here (holds (rows_after c.args.rel.0 rows ds)) c.loop-row.last (met c.args.rel.0 rows ds) (sym c.met_next-next.ensures.next ∙ ap option_copied c.in_default.is)
    ∙ c.loop-row.invariant
    ∙ find-after (passes c.args.sought) c.args.rel.0 rows ds c.met_next-next.ensures.ordered

pub returns-in_default-clause-ordered : goal.returns-in_default-clause-ordered
returns-in_default-clause-ordered c = ascending_after c.args.rel.0 c.args.pages.now (c.args.commits.now ++ path c.args.layers.now.layers c.args.tip) c.met_next-next.ensures.ordered
