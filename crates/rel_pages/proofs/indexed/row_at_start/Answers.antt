use Rattle.std.proofs.Common.{◌≡◌, ◌∙◌, List, ℕ, true, sym, ap, subst, take, drop}
use Rattle.std.specs.Prelude.{is_some}
use Rattle.hera_row.specs.Reading.{row_len_of}
use Rattle.rel_pages.proofs.Beginnings.{leads_there}
use Rattle.rel_pages.proofs.indexed.row_at_start.Goals as goal

pub first_row-requires : goal.first_row-requires
first_row-requires c =
    let one = c.split_at-2.ensures.front ∙ ap (take c.args.page) c.split_at.ensures.back in
    subst (λ (x : List ℕ). is_some (row_len_of c.args.schema.now x) ≡ true) (sym (c.split_at-3.ensures.back ∙ ap (drop c.args.start.at) one))
    (leads_there c.args.schema.now c.args.page c.args.pages.now c.args.start c.requires.start)
