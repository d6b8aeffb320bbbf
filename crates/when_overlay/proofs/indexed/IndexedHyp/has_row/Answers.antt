use Rattle.std.proofs.Common.{List, ◌∙◌, ap, subst}
use Rattle.hera_sets.specs.Rows.{Row, holds, IsAscending}
use Rattle.when_overlay.proofs.indexed.IndexedHyp.has_row.Goals as goal

pub returns-in-Some-clause-found : goal.returns-in-Some-clause-found
returns-in-Some-clause-found c = c.has.ensures.found ∙ ap (λ (xs : List Row). holds xs c.args.row.now) c.in-Some.ensures

pub returns-in-Some-clause-ordered : goal.returns-in-Some-clause-ordered
returns-in-Some-clause-ordered c = subst IsAscending c.in-Some.ensures c.has.ensures.ordered
