use Rattle.std.proofs.Common.{rules, length, sym, ◌∙◌}
use Rattle.hera_row.proofs.RowLemmas.{row_whole, row_len_whole, same_number, number_same}
use Rattle.hera_row.proofs.reading.check_row.Goals as goal

pub returns : goal.returns
returns c = (
  λ h. row_whole c.args.schema.now c.args.bytes.now (λ i. search rules) (sym c.measured.ensures ∙ same_number c.measured.result (length c.args.bytes.now) (sym c.eq.ensures ∙ h)),
  λ h. c.eq.ensures ∙ number_same c.measured.result (length c.args.bytes.now) (c.measured.ensures ∙ row_len_whole c.args.schema.now c.args.bytes.now h),
)
