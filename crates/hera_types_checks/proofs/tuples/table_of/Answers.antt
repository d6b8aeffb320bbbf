use Rattle.std.proofs.Common.{◌∙◌, sym, ap}
use Rattle.hera_meaning.specs.declared.trees.Op.TheVariants.{MakeRel}
use Rattle.hera_meaning.specs.Trees.{prim}
use Rattle.hera_meaning.proofs.PlainLaws.{expr_of-Prim}
use Rattle.hera_rules.specs.Agrees.{typing_of, typings_of}
use Rattle.hera_rules.specs.Rules.{exprs_from}
use Rattle.hera_types_parts.proofs.Equal.{map-length}
use Rattle.hera_types_checks.proofs.tuples.table_of.Goals as goal

pub returns-clause-table : goal.returns-clause-table
returns-clause-table c =
    expr_of-Prim _ _ _ ∙ ap (λ es. prim (MakeRel c.in_ok-count.count) es c.args.at) c.in_ok-args.ensures
    ∙ ap (λ n. prim (MakeRel n) (exprs_from (typings_of c.args.values.items)) c.args.at) (c.in_ok-count.ensures.number ∙ c.len.ensures ∙ c.args.values.ok.0 ∙ sym (map-length typing_of c.args.values.items))
