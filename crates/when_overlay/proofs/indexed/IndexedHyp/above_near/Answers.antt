use Rattle.std.proofs.Common.{◌∙◌, ap, subst}
use Rattle.std.specs.List.{find}
use Rattle.std.specs.Option.{option_copied}
use Rattle.hera_sets.specs.Rows.{is_past, IsAscending}
use Rattle.when_overlay.proofs.indexed.IndexedHyp.above_near.Goals as goal

pub returns-in-Some-clause-next : goal.returns-in-Some-clause-next
returns-in-Some-clause-next c = c.above_alone.ensures.next ∙ ap (find (is_past (option_copied c.args.bound))) c.in-Some.ensures

pub returns-in-Some-clause-ordered : goal.returns-in-Some-clause-ordered
returns-in-Some-clause-ordered c = subst IsAscending c.in-Some.ensures c.above_alone.ensures.ordered
