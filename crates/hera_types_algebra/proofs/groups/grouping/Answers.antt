use Rattle.std.proofs.Common.{◌∙◌, ap}
use Rattle.std.specs.Prelude.{Ok}
use Rattle.hera_meaning.specs.Plain.{expr_of}
use Rattle.hera_rules.specs.Rules.{group_type, unless}
use Rattle.hera_types_parts.proofs.Giving.{gives_done, gives_err}
use Rattle.hera_types_parts.specs.Operations.{over_one}
use Rattle.hera_types_algebra.proofs.Faults.{group_typing, group_type_is, ok_ap}
use Rattle.hera_types_algebra.proofs.groups.grouping.Goals as goal

pub returns-in_err-check_grouping : goal.returns-in_err-check_grouping
returns-in_err-check_grouping c =
    let e = expr_of c.args.value.now.core in
    gives_err (over_one e c.args.at) _ c.from_residual-in_err-check_grouping.ensures.1 (λ ne.
    ap (λ t. group_type c.args.at c.args.by.now c.args.aggs.now e t) c.in-Rel.is ∙ group_type_is c.args.at c.args.by.now c.args.aggs.now e c.in-Rel.schema
    ∙ ap (λ o. unless o (Ok (group_typing c.args.at c.args.by.now c.args.aggs.now e c.in-Rel.schema))) (c.in_err-check_grouping.ensures ne))

pub returns : goal.returns
returns c =
    let e = expr_of c.args.value.now.core in
    gives_done (over_one e c.args.at) _ (ok_ap (over_one e c.args.at) _ _ c.grouped.ensures.operation) c.grouped.ensures.refused
    (ap (λ t. group_type c.args.at c.args.by.now c.args.aggs.now e t) c.in-Rel.is ∙ group_type_is c.args.at c.args.by.now c.args.aggs.now e c.in-Rel.schema
    ∙ ap (λ o. unless o (Ok (group_typing c.args.at c.args.by.now c.args.aggs.now e c.in-Rel.schema))) c.in_ok-check_grouping.ensures)
