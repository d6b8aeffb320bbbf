use Rattle.std.proofs.Common.{refl, arith}
use Rattle.hera_woven.proofs.Sessions.{codes_within, made_more}
use Rattle.hera_woven.proofs.binding.all_sessions.Goals as goal

pub bounds-codes-i : goal.bounds-codes-i
bounds-codes-i c = codes_within c.args.programs.now c.args.codes.now c.loop-i.i c.requires.codes c.loop-i-test.true

pub loop-i-preserved : goal.loop-i-preserved
loop-i-preserved c =
    made_more c.args.programs.now c.args.codes.now c.args.turns c.loop-i.i c.loop-i.sessions.items c.push.new.self.items _ c.loop-i-test.true c.index-programs-i.is c.index-codes-i.is refl c.requires.codes c.in_ok-push.ensures.items c.loop-i.invariant

pub offset_bounds-codes-i : goal.offset_bounds-codes-i
offset_bounds-codes-i c = omega (arith, codes_within c.args.programs.now c.args.codes.now c.loop-i.i c.requires.codes c.loop-i-test.true, c.well_formed)
