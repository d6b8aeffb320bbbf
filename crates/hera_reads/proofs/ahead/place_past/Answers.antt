use Rattle.std.proofs.Common.{sym, ap, arith, ◌∙◌}
use Rattle.std.specs.List.{find}
use Rattle.std.specs.Option.{option_copied}
use Rattle.hera_sets.specs.Rows.{is_past}
use Rattle.hera_reads.proofs.Reading.{first_at, next_at}
use Rattle.hera_reads.proofs.ahead.place_past.Goals as goal

pub returns-in_default-clause-place : goal.returns-in_default-clause-place
returns-in_default-clause-place c = first_at c.args.rows.now ∙ ap (λ b. find (is_past (option_copied b)) c.args.rows.now) (sym c.in_default.is)

pub returns-then-is_same-clause-place : goal.returns-then-is_same-clause-place
returns-then-is_same-clause-place c =
    next_at c.args.rows.now c.args.guess c.row.result.now c.in-Some.row.now c.len-count.ensures.ordered (omega (arith, c.if-guess-eq0.false)) c.row.ensures (sym c.is_same.ensures ∙ c.if-is_same.true)
    ∙ ap (λ b. find (is_past (option_copied b)) c.args.rows.now) (sym c.in-Some.is)
