use Rattle.std.proofs.Common.{◌≡◌, map, take}
use Rattle.hera_rules.specs.Rules.{renamed_attr}
use Rattle.hera_types_algebra.proofs.renames.renamed_attrs.Given as goal

abbrev pub invariant-loop-i : goal.invariant-loop-i
invariant-loop-i l = l.attrs.items ≡ map (renamed_attr l.renamed) (take l.i l.schema)
