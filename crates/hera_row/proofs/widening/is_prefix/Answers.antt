use Rattle.std.proofs.Common.{◌+◌, ◌<◌, ◌&&◌, Bool, sym, ap, ◌∙◌, arith, drop, length}
use Rattle.hera_meaning.specs.Wider.{is_prefix}
use Rattle.hera_row.proofs.Widened.{too_long, prefix_step}
use Rattle.hera_row.proofs.widening.is_prefix.Goals as goal

pub returns-then-len : goal.returns-then-len
returns-then-len c =
    let long : length c.args.new.now < length c.args.old.now = omega (arith, c.if-len.true, c.len.ensures.count, c.len-2.ensures.count) in
    sym (too_long c.args.old.now c.args.new.now long)

pub returns-then-not-same_attr : goal.returns-then-not-same_attr
returns-then-not-same_attr c =
    let more : Bool = is_prefix (drop (c.loop-i.i + 1) c.args.old.now) (drop (c.loop-i.i + 1) c.args.new.now) in
    ap (λ b. b && more) c.if-not-same_attr.ensures
    ∙ sym (prefix_step c.args.old.now c.args.new.now c.loop-i.i c.attr.result.now c.attr-in-loop-i.result.now c.attr.ensures.attr c.attr-in-loop-i.ensures.attr)
    ∙ sym c.loop-i.invariant

pub loop-i-preserved : goal.loop-i-preserved
loop-i-preserved c =
    let more : Bool = is_prefix (drop (c.loop-i.i + 1) c.args.old.now) (drop (c.loop-i.i + 1) c.args.new.now) in
    c.loop-i.invariant
    ∙ prefix_step c.args.old.now c.args.new.now c.loop-i.i c.attr.result.now c.attr-in-loop-i.result.now c.attr.ensures.attr c.attr-in-loop-i.ensures.attr
    ∙ ap (λ b. b && more) (sym c.if-not-same_attr.ensures)
