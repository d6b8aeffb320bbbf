use Rattle.std.proofs.Common.{sym, ◌∙◌, add-one}
use Rattle.hera_meaning.specs.Rows.{is_row}
use Rattle.hera_fits.proofs.Tested.{all_step, all_stop}
use Rattle.hera_fits.proofs.shapes.are_rows.Goals as goal

pub returns-then-not-is_row : goal.returns-then-not-is_row
returns-then-not-is_row c = all_stop (is_row c.args.schema.now) c.args.rows.now c.loop-i.i c.row.result.now c.row.ensures (sym c.if-not-is_row.ensures) ∙ c.loop-i.invariant

pub loop-i-preserved : goal.loop-i-preserved
loop-i-preserved c = all_step (is_row c.args.schema.now) c.args.rows.now c.loop-i.i _ c.row.result.now c.row.ensures (add-one c.loop-i.i) (sym c.if-not-is_row.ensures) ∙ c.loop-i.invariant
