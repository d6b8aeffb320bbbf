use Rattle.std.proofs.Common.{◌≡◌}
use Rattle.hera_rules.specs.Rules.{hypos_from}
use Rattle.hera_rules.specs.Agrees.{steps_of}
use Rattle.hera_meaning.specs.Plain.{hypos_in}
use Rattle.hera_types_checks.proofs.chain_cores.hypos_of_items.Given as goal

abbrev pub invariant-loop-item : goal.invariant-loop-item
invariant-loop-item l = hypos_in l.all.items ≡ hypos_from (steps_of l.yielded)
