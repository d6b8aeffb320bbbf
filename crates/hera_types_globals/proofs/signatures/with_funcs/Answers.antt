use Rattle.std.proofs.Common.{◌∙◌, ap, [], ◌∷◌, ◌++◌}
use Rattle.hera_types_parts.proofs.Giving.{gives_err}
use Rattle.hera_syntax.specs.declared.tree.Func.{Func}
use Rattle.hera_rules.specs.Read.{word_of}
use Rattle.hera_types_globals.proofs.Turns.{names_turn, names_stop, names_end}
use Rattle.hera_types_globals.proofs.signatures.with_funcs.Goals as goal

pub loop-tree-preserved : goal.loop-tree-preserved
loop-tree-preserved c =
    c.loop-tree.invariant ∙ names_turn (λ (t : Func). word_of t.name) c.args.trees.now c.loop-tree.tree-index c.tree-item.result c.loop-tree.names c.loop-tree-test.true c.tree-item.is c.in_ok-name.ensures.row (c.in_ok-add.ensures.added ∙ ap (λ n. c.loop-tree.names ++ n ∷ []) c.bytes.ensures.bytes)

pub returns-in_err-name : goal.returns-in_err-name
returns-in_err-name c =
    gives_err (λ v. v) _ c.from_residual.ensures.1
    (λ ne. c.loop-tree.invariant ∙ names_stop (λ (t : Func). word_of t.name) c.args.trees.now c.loop-tree.tree-index c.tree-item.result c.loop-tree.names c.loop-tree-test.true c.tree-item.is (c.in_err-name.ensures.row ne))

pub returns : goal.returns
returns c = c.loop-tree.invariant ∙ names_end (λ (t : Func). word_of t.name) c.args.trees.now c.loop-tree.tree-index c.loop-tree.names c.loop-tree-test.false
