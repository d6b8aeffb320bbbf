use Rattle.std.proofs.Common.{◌∙◌}
use Rattle.hera_types_parts.proofs.Giving.{gives_err}
use Rattle.hera_rules.specs.ReadActs.{relation_phrase}
use Rattle.hera_types_globals.proofs.Turns.{relations_turn, relations_stop, relations_end}
use Rattle.hera_types_globals.proofs.relations.relations_of.Goals as goal

pub loop-tree-preserved : goal.loop-tree-preserved
loop-tree-preserved c =
    c.loop-tree.invariant ∙ relations_turn relation_phrase c.args.trees.now c.loop-tree.tree-index c.tree-item.result c.loop-tree.relations c.loop-tree-test.true c.tree-item.is c.in_ok-decl.ensures.decl c.in_ok-push.ensures

pub returns-in_err-decl : goal.returns-in_err-decl
returns-in_err-decl c =
    gives_err (λ r. r) _ c.from_residual.ensures.1
    (λ ne. c.loop-tree.invariant ∙ relations_stop relation_phrase c.args.trees.now c.loop-tree.tree-index c.tree-item.result c.loop-tree.relations c.loop-tree-test.true c.tree-item.is (c.in_err-decl.ensures.decl ne))

pub returns : goal.returns
returns c = c.loop-tree.invariant ∙ relations_end relation_phrase c.args.trees.now c.loop-tree.tree-index c.loop-tree.relations c.loop-tree-test.false
