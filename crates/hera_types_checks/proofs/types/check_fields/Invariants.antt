use Rattle.std.proofs.Common.{◌≡◌, drop, map}
use Rattle.hera_rules.specs.Commands.{fields_row}
use Rattle.hera_rules.specs.ReadActs.{field_of}
use Rattle.hera_types_checks.proofs.types.check_fields.Given as goal

abbrev pub invariant-loop-tree : goal.invariant-loop-tree
invariant-loop-tree l = fields_row l.initial.attrs.items (map field_of l.tree-items) ≡ fields_row l.attrs.items (map field_of (drop l.tree-index l.tree-items))
