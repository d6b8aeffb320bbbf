use Rattle.std.proofs.Common.{◌≡◌, [], drop}
use Rattle.hera_rules.specs.Rules.{rename_repeat}
use Rattle.hera_types_algebra.proofs.renames.distinct_renamed.Given as goal

abbrev pub invariant-loop-r : goal.invariant-loop-r
invariant-loop-r l = rename_repeat l.initial.names [] l.renamed ≡ rename_repeat l.names l.olds (drop l.r-index l.renamed)
