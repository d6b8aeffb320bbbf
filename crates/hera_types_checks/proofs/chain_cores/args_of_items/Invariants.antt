use Rattle.std.proofs.Common.{◌≡◌}
use Rattle.hera_rules.specs.Rules.{args_from}
use Rattle.hera_rules.specs.Agrees.{steps_of}
use Rattle.hera_meaning.specs.Plain.{exprs_in, expr_of}
use Rattle.hera_meaning.specs.Trees.{then_expr}
use Rattle.hera_types_checks.proofs.chain_cores.args_of_items.Given as goal

abbrev pub invariant-loop-item : goal.invariant-loop-item
invariant-loop-item l = exprs_in l.all.items ≡ then_expr (expr_of l.fn.first) (args_from (steps_of l.yielded))
