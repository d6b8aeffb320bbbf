use Rattle.std.proofs.Common.{◌≡◌, length, take}
use Rattle.hera_types.proofs.bodies.body_locals.Given as goal

abbrev pub invariant-loop-local : goal.invariant-loop-local
invariant-loop-local l = record {
  locals : l.scope.locals.items ≡ take l.local-index l.params;
  next : l.scope.next ≡ length l.params;
}
