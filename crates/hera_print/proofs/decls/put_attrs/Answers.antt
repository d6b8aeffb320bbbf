use Rattle.std.proofs.Common.{arith, refl}
use Rattle.hera_meaning.specs.Printed.{attr_text}
use Rattle.hera_print.proofs.Joined.{attrs_parts, parts_step, parts_end, drop_item}
use Rattle.hera_print.proofs.decls.put_attrs.Goals as goal

pub loop-i-init : goal.loop-i-init
loop-i-init c = rw (attrs_parts c.args.schema.now) refl

pub loop-i-preserved : goal.loop-i-preserved
loop-i-preserved c =
    rw c.in_ok-put_attr.ensures
    (parts_step attr_text _ _ c.loop-i.i c.args.schema.now c.attr.result.now (drop_item c.args.schema.now c.loop-i.i c.attr.result.now c.attr.ensures.attr) c.loop-i.invariant)

pub returns : goal.returns
returns c = parts_end attr_text _ _ c.loop-i.i c.args.schema.now (omega (arith, c.loop-i-test.false, c.len-i-end.ensures.count)) c.loop-i.invariant
