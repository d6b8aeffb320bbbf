use Rattle.std.proofs.Common.{arith, drop, ◌+◌, ◌++◌}
use Rattle.std.specs.Prelude.{codes}
use Rattle.hera_meaning.specs.Rows.{is_row}
use Rattle.hera_meaning.specs.Printed.{tuple_text}
use Rattle.hera_print.proofs.Joined.{texts_step, texts_end, drop_item, drop_past}
use Rattle.hera_print.proofs.Picked.{all_at}
use Rattle.hera_print.proofs.tuples.put_rows.Goals as goal

pub put_row-requires : goal.put_row-requires
put_row-requires c = all_at (is_row c.args.schema.now) c.args.rows.now c.loop-i.i c.row.result.now c.requires c.row.ensures

pub loop-i-preserved : goal.loop-i-preserved
loop-i-preserved c =
    rw c.in_ok-put_row.ensures
    (texts_step (λ x. tuple_text c.args.schema.now x ++ codes "\n") _ _ (drop c.loop-i.i c.args.rows.now) (drop (c.loop-i.i + 1) c.args.rows.now) c.row.result.now (drop_item c.args.rows.now c.loop-i.i c.row.result.now c.row.ensures) c.loop-i.invariant)

pub returns : goal.returns
returns c =
    texts_end (λ x. tuple_text c.args.schema.now x ++ codes "\n") _ _ (drop c.loop-i.i c.args.rows.now) (drop_past c.args.rows.now c.loop-i.i (omega (arith, c.loop-i-test.false, c.len-i-end.ensures.count))) c.loop-i.invariant
