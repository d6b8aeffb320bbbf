use Rattle.std.proofs.Common.{ap, sym, ◌∙◌}
use Rattle.std.specs.Option.{option_copied}
use Rattle.rel_pages.proofs.Searches.{is_that, held_from}
use Rattle.rel_pages.proofs.indexed.IndexedRelSorted.has.Goals as goal

pub returns-in-None-clause-found : goal.returns-in-None-clause-found
returns-in-None-clause-found c =
    ap (is_that c.args.row.now) (sym (ap option_copied c.in-None.is) ∙ c.not_below_near.ensures.least) ∙ held_from c.args.row.now c.args.self.now c.not_below_near.ensures.ordered

pub returns-in-Some-clause-found : goal.returns-in-Some-clause-found
returns-in-Some-clause-found c =
    c.is_same.ensures ∙ ap (is_that c.args.row.now) (sym (ap option_copied c.in-Some.is) ∙ c.not_below_near.ensures.least) ∙ held_from c.args.row.now c.args.self.now c.not_below_near.ensures.ordered
