use Rattle.std.proofs.Common.{◌≡◌, ◌+◌, ◌++◌, map, take, drop}
use Rattle.std.specs.Vec.{vec_len, vec_capacity}
use Rattle.hera_values.specs.Little.{plain_of}
use Rattle.hera_frames.specs.Items.{held_in}
use Rattle.hera_frames.proofs.operands.Operands.move_newest.Given as goal

abbrev pub invariant-loop : goal.invariant-loop
invariant-loop l = record {
  moved : map plain_of l.to.items ≡ map plain_of l.initial.to.items ++ map held_in (take l.counter l.initial.self.items);
  rest : l.self.items ≡ drop l.counter l.initial.self.items;
  len : vec_len l.to ≡ vec_len l.initial.to + l.counter;
  capacity : vec_capacity l.to ≡ vec_capacity l.initial.to;
}
