use Rattle.std.proofs.Common.{◌∙◌, sym, arith}
use Rattle.hera_frames.proofs.Resting.{waited_first}
use Rattle.hera_frames.proofs.callers.Callers.resume.Goals as goal

pub returns-clause-resumed : goal.returns-clause-resumed
returns-clause-resumed c = record {
  frame = c.index_mut.result.now;
  waited =
      sym c.self.view_is
      ∙ waited_first c.self.inside.frames.items c.self.inside.count c.index_mut.result.now c.resume.new.self (omega (arith, c.if-self-eq0.false)) (omega (arith, c.self.invariant)) c.index_mut.ensures.value;
  point = c.in_ok-point.ensures.point;
  items_are = c.in_ok-point.ensures.operands;
  locals_are = c.in_ok-point.ensures.locals;
  walks_are = c.in_ok-point.ensures.walks;
}
