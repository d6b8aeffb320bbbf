use Rattle.std.proofs.Common.{◌≡◌, take}
use Rattle.hera_shapes.proofs.typed.names_in.Given as goal

abbrev pub invariant-loop-local : goal.invariant-loop-local
invariant-loop-local l = record {
  locals : l.names.locals.items ≡ take l.local-index l.scope.locals.items;
  next : l.names.next ≡ l.scope.next;
}
