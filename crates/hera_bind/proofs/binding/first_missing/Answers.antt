use Rattle.std.proofs.Common.{refl, length, arith}
use Rattle.std.proofs.lemmas.Option.{slice_get_read}
use Rattle.hera_bind.proofs.Found.{first_missing_at, up_to_more, all_has, lacks_not}
use Rattle.hera_bind.proofs.binding.first_missing.Goals as goal

pub returns-then-not-has : goal.returns-then-not-has
returns-then-not-has c =
    first_missing_at c.args.catalogue.now c.args.own.now c.loop-i.i c.index-own-i.result c.loop-i.invariant
    (slice_get_read c.args.own.now (length c.args.own.now) c.loop-i.i c.index-own-i.result refl c.loop-i-test.true c.index-own-i.is)
    (lacks_not c.args.catalogue.now c.index-own-i.result (λ h. let t = c.if-not-has.ensures.1 h in absurd cc))

pub loop-i-preserved : goal.loop-i-preserved
loop-i-preserved c =
    up_to_more c.args.catalogue.now c.args.own.now c.loop-i.i c.index-own-i.result c.loop-i.invariant
    (slice_get_read c.args.own.now (length c.args.own.now) c.loop-i.i c.index-own-i.result refl c.loop-i-test.true c.index-own-i.is)
    (c.if-not-has.ensures.0 refl)

pub returns : goal.returns
returns c = all_has c.args.catalogue.now c.args.own.now (λ k d l e. c.loop-i.invariant k d (omega (arith, l, c.loop-i-test.false)) e)
