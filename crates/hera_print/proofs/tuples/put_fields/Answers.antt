use Rattle.std.proofs.Common.{arith, refl}
use Rattle.hera_meaning.specs.Rows.{fields_of, field_at}
use Rattle.hera_meaning.specs.Printed.{inner_text}
use Rattle.hera_print.proofs.Joined.{fields_parts, parts_step, parts_end, drop_field, length-fields_of}
use Rattle.hera_print.proofs.tuples.put_fields.Goals as goal

pub loop-i-init : goal.loop-i-init
loop-i-init c = rw (fields_parts (fields_of c.args.schema.now c.args.row.now)) refl

pub loop-i-preserved : goal.loop-i-preserved
loop-i-preserved c =
    rw c.in_ok-put_field_at.ensures
    (parts_step inner_text _ _ c.loop-i.i (fields_of c.args.schema.now c.args.row.now) (field_at c.args.schema.now c.args.row.now c.loop-i.i) (drop_field c.args.schema.now c.args.row.now c.loop-i.i (omega (arith, c.loop-i-test.true, c.len-i-end.ensures.count))) c.loop-i.invariant)

pub returns : goal.returns
returns c =
    parts_end inner_text _ _ c.loop-i.i (fields_of c.args.schema.now c.args.row.now) (omega (arith, length-fields_of c.args.schema.now c.args.row.now, c.loop-i-test.false, c.len-i-end.ensures.count)) c.loop-i.invariant
