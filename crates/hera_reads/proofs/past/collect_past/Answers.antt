use Rattle.std.proofs.Common.{◌≡◌, ◌∙◌, ap, sym, subst, List}
use Rattle.std.specs.Prelude.{IfOk}
use Rattle.std.specs.List.{filter}
use Rattle.std.specs.Option.{option_copied}
use Rattle.hera_sets.specs.Rows.{Row, is_past}
use Rattle.hera_sets.proofs.Lists.{filter_past_none}
use Rattle.hera_reads.proofs.past.collect_past.Goals as goal

pub returns-in-None : goal.returns-in-None
returns-in-None c =
    let rows = c.args.rows.now in
    subst (λ (all : List Row). IfOk c.collect.result (λ set. set ≡ all)) (sym (ap (λ b. filter (is_past (option_copied b)) rows) c.in-None.is ∙ filter_past_none rows)) c.collect.ensures
