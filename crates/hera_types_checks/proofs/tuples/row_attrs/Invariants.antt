use Rattle.std.proofs.Common.{◌≡◌, take}
use Rattle.hera_rules.specs.Rules.{attrs_of}
use Rattle.hera_rules.specs.Agrees.{typings_of}
use Rattle.hera_types_checks.proofs.tuples.row_attrs.Given as goal

abbrev pub invariant-loop-i : goal.invariant-loop-i
invariant-loop-i l = l.attrs.items ≡ attrs_of (take l.i l.words) (take l.i (typings_of l.values))
