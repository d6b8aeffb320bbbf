use Rattle.std.proofs.Common.{ap, sym, ◌∙◌}
use Rattle.std.specs.Option.{option_copied}
use Rattle.hera_sets.specs.Rows.{holds}
use Rattle.rel_pages.specs.Rels.{rows_in}
use Rattle.rel_pages.proofs.Searches.{is_that, held_from}
use Rattle.rel_pages.proofs.page_rel.PageRelSorted.has.Goals as goal

pub returns-in-None-clause-found : goal.returns-in-None-clause-found
returns-in-None-clause-found c =
    ap (is_that c.args.row.now) (sym (ap option_copied c.in-None.is) ∙ c.first_in.ensures) ∙ held_from c.args.row.now (rows_in c.self.inside.schema.now c.self.inside.page c.self.inside.pages.now) c.self.invariant.ascending ∙ ap (λ xs. holds xs c.args.row.now) c.self.view_is

pub returns-in-Some-clause-found : goal.returns-in-Some-clause-found
returns-in-Some-clause-found c =
    c.is_same.ensures ∙ ap (is_that c.args.row.now) (sym (ap option_copied c.in-Some.is) ∙ c.first_in.ensures) ∙ held_from c.args.row.now (rows_in c.self.inside.schema.now c.self.inside.page c.self.inside.pages.now) c.self.invariant.ascending ∙ ap (λ xs. holds xs c.args.row.now) c.self.view_is
