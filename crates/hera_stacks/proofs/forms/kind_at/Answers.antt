use Rattle.std.proofs.Common.{arith}
use Rattle.hera_stacks.proofs.Flattened.{kind_within, kind_past}
use Rattle.hera_stacks.proofs.forms.kind_at.Goals as goal

pub returns-then-i-len : goal.returns-then-i-len
returns-then-i-len c = kind_within c.args.schema.now c.args.i c.attr.result.now c.attr.ensures.attr

pub returns-else-i-len : goal.returns-else-i-len
returns-else-i-len c = kind_past c.args.schema.now c.args.i (omega (arith, c.if-i-len.false, c.len.ensures.count))
