use Rattle.std.proofs.Common.{◌∙◌, sym}
use Rattle.hera_types_parts.proofs.Equal.{kinds_differ, kinds_turn, kinds_stop}
use Rattle.hera_types_parts.proofs.same.same_kinds.Goals as goal

pub returns-then-len : goal.returns-then-len
returns-then-len c = kinds_differ c.args.left.now c.args.right.now (λ e. c.if-len.true (c.len.ensures.count ∙ e ∙ sym c.len-2.ensures.count))

pub returns-then-not-same_kind : goal.returns-then-not-same_kind
returns-then-not-same_kind c =
    kinds_stop c.args.left.now c.args.right.now c.loop-i.i _ _ c.attr.ensures.attr c.attr-in-loop-i.ensures.attr (sym c.same_kind.ensures ∙ c.if-not-same_kind.true) c.loop-i.invariant.equal

pub loop-i-preserved : goal.loop-i-preserved
loop-i-preserved c = record {
  equal = kinds_turn c.args.left.now c.args.right.now c.loop-i.i _ _ c.attr.ensures.attr c.attr-in-loop-i.ensures.attr (sym c.same_kind.ensures ∙ c.if-not-same_kind.false) c.loop-i.invariant.equal;
  long = c.loop-i.invariant.long;
}
