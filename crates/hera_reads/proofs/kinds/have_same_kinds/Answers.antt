use Rattle.std.proofs.Common.{◌∙◌, sym, add-one, arith}
use Rattle.hera_reads.proofs.Known.{kinds_unequal, kinds_step, kinds_stop, kinds_end}
use Rattle.hera_reads.proofs.kinds.have_same_kinds.Goals as goal

pub returns-then-len : goal.returns-then-len
returns-then-len c = kinds_unequal c.args.a.now c.args.b.now (λ e. c.if-len.true (c.len.ensures.count ∙ e ∙ sym c.len-2.ensures.count))

pub returns-then-not-is_same_kind : goal.returns-then-not-is_same_kind
returns-then-not-is_same_kind c =
    kinds_stop c.args.a.now c.args.b.now c.loop-i.i c.attr.result.now c.attr-in-loop-i.result.now c.attr.ensures.attr c.attr-in-loop-i.ensures.attr (sym c.if-not-is_same_kind.ensures)
    ∙ c.loop-i.invariant

pub loop-i-preserved : goal.loop-i-preserved
loop-i-preserved c =
    kinds_step c.args.a.now c.args.b.now c.loop-i.i _ c.attr.result.now c.attr-in-loop-i.result.now c.attr.ensures.attr c.attr-in-loop-i.ensures.attr (add-one c.loop-i.i) (sym c.if-not-is_same_kind.ensures)
    ∙ c.loop-i.invariant

pub returns : goal.returns
returns c =
    kinds_end c.args.a.now c.args.b.now c.loop-i.i (omega (arith, c.loop-i-test.false, c.loop-i.auto.i-end, c.len-i-end.ensures.count)) (omega (arith, c.loop-i-test.false, c.loop-i.auto.i-end, c.len-i-end.ensures.count, c.len.ensures.count, c.if-len.false, c.len-2.ensures.count))
    ∙ c.loop-i.invariant
