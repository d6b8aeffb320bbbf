use Rattle.std.proofs.Common.{◌∙◌}
use Rattle.hera_woven.proofs.Sessions.{codes_more}
use Rattle.hera_woven.proofs.binding.all_codes.Goals as goal

pub loop-program-preserved : goal.loop-program-preserved
loop-program-preserved c =
    c.in_ok-put.ensures
    ∙ codes_more c.args.programs.now c.loop-program.program-index c.program-item.result c.loop-program.codes.items c.in_ok-code.code c.loop-program-test.true c.program-item.is c.loop-program.invariant c.in_ok-code.ensures.code
