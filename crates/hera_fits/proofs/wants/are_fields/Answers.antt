use Rattle.std.proofs.Common.{◌∙◌, sym, add-one, arith, map}
use Rattle.hera_meaning.specs.declared.schemas.Attr.{Attr}
use Rattle.hera_meaning.specs.Fits.{a_scalar}
use Rattle.hera_fits.proofs.Meetings.{meet_unequal, meet_step, meet_stop, meet_end, field_at_place, fields_long}
use Rattle.hera_fits.proofs.wants.are_fields.Goals as goal

pub returns-then-len : goal.returns-then-len
returns-then-len c = meet_unequal (map (λ (a : Attr). a_scalar a.kind) c.args.schema.now) c.args.args.now (λ e. c.if-len.true (c.len.ensures ∙ e ∙ fields_long c.args.schema.now ∙ sym c.len-2.ensures.count))

pub returns-then-not-is_met : goal.returns-then-not-is_met
returns-then-not-is_met c =
    meet_stop (map (λ (a : Attr). a_scalar a.kind) c.args.schema.now) c.args.args.now c.loop-i.i (a_scalar c.attr.result.now.kind) (field_at_place c.args.schema.now c.loop-i.i c.attr.result.now c.attr.ensures.attr) (omega (arith, c.loop-i-test.true, c.len-i-end.ensures)) (sym c.if-not-is_met.ensures)
    ∙ c.loop-i.invariant

pub loop-i-preserved : goal.loop-i-preserved
loop-i-preserved c =
    meet_step (map (λ (a : Attr). a_scalar a.kind) c.args.schema.now) c.args.args.now c.loop-i.i _ (a_scalar c.attr.result.now.kind) (field_at_place c.args.schema.now c.loop-i.i c.attr.result.now c.attr.ensures.attr) (omega (arith, c.loop-i-test.true, c.len-i-end.ensures)) (add-one c.loop-i.i) (sym c.if-not-is_met.ensures)
    ∙ c.loop-i.invariant

pub returns : goal.returns
returns c =
    let long = fields_long c.args.schema.now in
    meet_end (map (λ (a : Attr). a_scalar a.kind) c.args.schema.now) c.args.args.now c.loop-i.i (omega (arith, long, c.loop-i-test.false, c.loop-i.auto.i-end, c.len-i-end.ensures, c.len.ensures, c.if-len.false, c.len-2.ensures.count)) (omega (arith, c.loop-i-test.false, c.loop-i.auto.i-end, c.len-i-end.ensures))
    ∙ c.loop-i.invariant
