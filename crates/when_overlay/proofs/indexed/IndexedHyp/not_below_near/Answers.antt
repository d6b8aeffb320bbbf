use Rattle.std.proofs.Common.{◌∙◌, ap, subst}
use Rattle.std.specs.List.{find}
use Rattle.hera_sets.specs.Rows.{IsAscending}
use Rattle.hera_rows.specs.Froms.{is_from}
use Rattle.when_overlay.proofs.indexed.IndexedHyp.not_below_near.Goals as goal

pub returns-in-Some-clause-least : goal.returns-in-Some-clause-least
returns-in-Some-clause-least c = c.not_below_alone.ensures.least ∙ ap (find (is_from c.args.bound.now)) c.in-Some.ensures

pub returns-in-Some-clause-ordered : goal.returns-in-Some-clause-ordered
returns-in-Some-clause-ordered c = subst IsAscending c.in-Some.ensures c.not_below_alone.ensures.ordered
