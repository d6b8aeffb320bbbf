use Rattle.std.proofs.Common.{◌≡◌, ◌+◌, ◌++◌, pos}
use Rattle.std.specs.Prelude.{replicate, vec_len}
use Rattle.std.specs.Vec.{vec_capacity}
use Rattle.hera_values.specs.declared.values.Datum.TheVariants.{Int}
use Rattle.hera_values.proofs.locals.fill.Given as goal

abbrev pub invariant-loop : goal.invariant-loop
invariant-loop l = record {
  items : l.items.items ≡ l.initial.items.items ++ replicate l.counter (Int (pos 0));
  len : vec_len l.items ≡ vec_len l.initial.items + l.counter;
  capacity : vec_capacity l.items ≡ vec_capacity l.initial.items;
}
