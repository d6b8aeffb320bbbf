use Rattle.hera_codegen.proofs.Bodies.{bodies_go, infos_go, program_closed}
use Rattle.hera_codegen.proofs.programs.emit_program.Goals as goal

pub loop-k-preserved : goal.loop-k-preserved
loop-k-preserved c = (
  bodies_go _ _ _ _ _ _ _ c.loop-k-test.true c.body-item.is c.role_at.ensures c.in_ok-emit_body.ensures c.loop-k.invariant.0,
  infos_go _ _ _ _ _ _ c.in_ok-here.field-0 _ _ _ c.loop-k-test.true c.body-item.is c.role_at.ensures c.in_ok-emit_body.ensures c.in_ok-here.ensures c.in_ok-push.ensures.items c.loop-k.invariant.1,
)

pub returns : goal.returns
returns c = program_closed _ _ _ _ _ _ c.loop-k-test.false c.deref-body-items.ensures.value c.new.ensures c.new-2.ensures c.loop-k.invariant.0 c.loop-k.invariant.1
