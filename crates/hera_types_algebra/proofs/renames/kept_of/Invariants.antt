use Rattle.std.proofs.Common.{◌≡◌, take}
use Rattle.hera_rules.specs.Rules.{kept_names, old_names}
use Rattle.hera_types_algebra.proofs.renames.kept_of.Given as goal

abbrev pub invariant-loop-i : goal.invariant-loop-i
invariant-loop-i l = l.names ≡ kept_names (take l.i l.schema) (old_names l.renamed)
