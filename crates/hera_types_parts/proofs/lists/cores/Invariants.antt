use Rattle.std.proofs.Common.{◌≡◌}
use Rattle.hera_meaning.specs.Plain.{exprs_in}
use Rattle.hera_rules.specs.Rules.{exprs_from}
use Rattle.hera_rules.specs.Agrees.{typings_of}
use Rattle.hera_types_parts.proofs.lists.cores.Given as goal

abbrev pub invariant-loop-value : goal.invariant-loop-value
invariant-loop-value l = exprs_in l.all.items ≡ exprs_from (typings_of l.yielded)
