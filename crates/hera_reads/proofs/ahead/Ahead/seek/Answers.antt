use Rattle.std.proofs.Common.{◌∙◌, sym, ap}
use Rattle.std.specs.List.{find}
use Rattle.std.specs.Option.{option_copied}
use Rattle.hera_sets.specs.Rows.{is_past}
use Rattle.hera_sets.proofs.Lists.{filter_none_found}
use Rattle.hera_reads.proofs.Reading.{read_told}
use Rattle.hera_reads.proofs.ahead.Ahead.seek.Goals as goal

pub returns-in_default : goal.returns-in_default
returns-in_default c =
    filter_none_found (is_past c.args.self.now.passed) c.args.rows.now
    (ap (λ b. find (is_past b) c.args.rows.now) (sym c.current.ensures) ∙ sym c.above_near-next.ensures.next ∙ ap option_copied c.in_default.is)

pub returns : goal.returns
returns c =
    rw c.truncate.ensures.items
    (read_told c.args.rows.now c.args.self.now.passed c.in-Some.row.now _ c.above_near-next.ensures.ordered
    (ap (λ b. find (is_past b) c.args.rows.now) (sym c.current.ensures) ∙ sym c.above_near-next.ensures.next ∙ ap option_copied c.in-Some.is) c.in_ok-count.ensures)
