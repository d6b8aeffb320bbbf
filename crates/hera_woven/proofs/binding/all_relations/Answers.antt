use Rattle.std.proofs.Common.{◌∙◌, ◌++◌, ap}
use Rattle.hera_woven.proofs.Sessions.{relations_more}
use Rattle.hera_woven.proofs.binding.all_relations.Goals as goal

pub loop-program-preserved : goal.loop-program-preserved
loop-program-preserved c =
    c.in_ok-put_copies.ensures ∙ ap (λ l. c.loop-program.decls.items ++ l) c.deref.ensures.value
    ∙ relations_more c.args.programs.now c.loop-program.program-index c.program-item.result c.loop-program.decls.items c.loop-program-test.true c.program-item.is c.loop-program.invariant
