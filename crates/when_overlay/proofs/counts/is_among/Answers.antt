use Rattle.std.proofs.Common.{ap, ◌∙◌}
use Rattle.rel_pages.proofs.Searches.{is_that, held_from}
use Rattle.when_overlay.proofs.counts.is_among.Goals as goal

pub returns-in-None-clause-found : goal.returns-in-None-clause-found
returns-in-None-clause-found g c =
    let rows = g.S.Sorted.rows c.args.rows.now in
    ap (is_that c.args.row.now) c.in-None.ensures.least ∙ held_from c.args.row.now rows c.in-None.ensures.ordered

pub returns-in-Some-clause-found : goal.returns-in-Some-clause-found
returns-in-Some-clause-found g c =
    let rows = g.S.Sorted.rows c.args.rows.now in
    c.is_same.ensures ∙ ap (is_that c.args.row.now) c.in-Some.ensures.least ∙ held_from c.args.row.now rows c.in-Some.ensures.ordered
