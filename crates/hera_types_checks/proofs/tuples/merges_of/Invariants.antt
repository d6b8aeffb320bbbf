use Rattle.std.proofs.Common.{◌≡◌}
use Rattle.hera_rules.specs.Rules.{merges_from}
use Rattle.hera_rules.specs.Agrees.{typings_of}
use Rattle.hera_meaning.specs.Plain.{links_in}
use Rattle.hera_types_checks.proofs.tuples.merges_of.Given as goal

abbrev pub invariant-loop-value : goal.invariant-loop-value
invariant-loop-value l = links_in l.all.items ≡ merges_from l.at (typings_of l.yielded)
