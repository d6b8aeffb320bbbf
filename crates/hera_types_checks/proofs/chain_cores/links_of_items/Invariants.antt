use Rattle.std.proofs.Common.{◌≡◌}
use Rattle.hera_rules.specs.Rules.{links_from}
use Rattle.hera_rules.specs.Agrees.{steps_of}
use Rattle.hera_meaning.specs.Plain.{links_in}
use Rattle.hera_types_checks.proofs.chain_cores.links_of_items.Given as goal

abbrev pub invariant-loop-item : goal.invariant-loop-item
invariant-loop-item l = links_in l.all.items ≡ links_from (steps_of l.yielded)
