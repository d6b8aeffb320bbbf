use Rattle.std.proofs.Common.{◌≡◌, drop, length}
use Rattle.hera_rules.specs.Rules.{kind_types, types_of}
use Rattle.hera_rules.specs.Agrees.{typings_of}
use Rattle.hera_rules.specs.Same.{same_shapes}
use Rattle.hera_types_checks.proofs.calls.take_kinds.Given as goal

abbrev pub invariant-loop-i : goal.invariant-loop-i
invariant-loop-i l = record {
  equal : same_shapes (kind_types l.schema) (types_of (typings_of l.values)) ≡ same_shapes (drop l.i (kind_types l.schema)) (drop l.i (types_of (typings_of l.values)));
  long : length l.schema ≡ length l.values;
}
