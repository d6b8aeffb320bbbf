use Rattle.std.proofs.Common.{◌≡◌, drop}
use Rattle.hera_rules.specs.Rules.{stranger_in, old_words}
use Rattle.hera_types_algebra.proofs.renames.stranger_renamed.Given as goal

abbrev pub invariant-loop-r : goal.invariant-loop-r
invariant-loop-r l = stranger_in l.schema (old_words l.renamed) ≡ stranger_in l.schema (old_words (drop l.r-index l.renamed))
