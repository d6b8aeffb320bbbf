use Rattle.std.proofs.Common.{◌∙◌, sym, add-one, arith}
use Rattle.std.specs.Prelude.{replicate}
use Rattle.hera_meaning.specs.Fits.{a_tuple}
use Rattle.hera_fits.proofs.Meetings.{meet_unequal, meet_step, meet_stop, meet_end, tuple_at, tuples_long}
use Rattle.hera_fits.proofs.wants.are_tuples.Goals as goal

pub returns-then-len-n : goal.returns-then-len-n
returns-then-len-n c = meet_unequal (replicate c.args.n a_tuple) c.args.args.now (λ e. c.if-len-n.true (c.len.ensures ∙ e ∙ tuples_long c.args.n))

pub returns-then-not-is_met : goal.returns-then-not-is_met
returns-then-not-is_met c =
    meet_stop (replicate c.args.n a_tuple) c.args.args.now c.loop-i.i a_tuple (tuple_at c.args.n c.loop-i.i c.loop-i-test.true) (omega (arith, c.loop-i-test.true, c.if-len-n.false, c.len.ensures)) (sym c.if-not-is_met.ensures)
    ∙ c.loop-i.invariant

pub loop-i-preserved : goal.loop-i-preserved
loop-i-preserved c =
    meet_step (replicate c.args.n a_tuple) c.args.args.now c.loop-i.i _ a_tuple (tuple_at c.args.n c.loop-i.i c.loop-i-test.true) (omega (arith, c.loop-i-test.true, c.if-len-n.false, c.len.ensures)) (add-one c.loop-i.i) (sym c.if-not-is_met.ensures)
    ∙ c.loop-i.invariant

pub returns : goal.returns
returns c =
    let long = tuples_long c.args.n in
    meet_end (replicate c.args.n a_tuple) c.args.args.now c.loop-i.i (omega (arith, long, c.loop-i-test.false, c.loop-i.auto.i-end)) (omega (arith, c.loop-i-test.false, c.loop-i.auto.i-end, c.if-len-n.false, c.len.ensures))
    ∙ c.loop-i.invariant
