use Rattle.std.proofs.Common.{◌≡◌, ◌+◌, ◌∙◌, ap, sym, length, arith}
use Rattle.hera_types_parts.proofs.Giving.{gives_err}
use Rattle.hera_rules.specs.ReadActs.{func_phrase}
use Rattle.hera_rules.specs.Programs.{func_row}
use Rattle.hera_types_globals.proofs.Turns.{funcs_turn, funcs_stop, funcs_end}
use Rattle.hera_types_globals.proofs.signatures.funcs_of.Goals as goal

pub loop-tree-preserved : goal.loop-tree-preserved
loop-tree-preserved c =
    let number : c.in_ok-number.number ≡ 1 + length c.loop-tree.sigs.items = omega (arith, c.in_ok-number.ensures.number) in
    c.loop-tree.invariant ∙ funcs_turn func_phrase c.args.trees.now c.loop-tree.tree-index c.tree-item.result c.args.relations.now c.args.taken.now c.loop-tree.sigs.items c.loop-tree-test.true c.tree-item.is (ap (λ n. func_row c.args.relations.now c.args.taken.now n (func_phrase c.tree-item.result)) (sym number) ∙ c.in_ok-sig.ensures) c.in_ok-put.ensures

pub returns-in_err-sig : goal.returns-in_err-sig
returns-in_err-sig c =
    let number : c.in_ok-number.number ≡ 1 + length c.loop-tree.sigs.items = omega (arith, c.in_ok-number.ensures.number) in
    gives_err (λ v. v.items) _ c.from_residual-in_err-sig.ensures.1
    (λ ne. c.loop-tree.invariant ∙ funcs_stop func_phrase c.args.trees.now c.loop-tree.tree-index c.tree-item.result c.args.relations.now c.args.taken.now c.loop-tree.sigs.items c.loop-tree-test.true c.tree-item.is (ap (λ n. func_row c.args.relations.now c.args.taken.now n (func_phrase c.tree-item.result)) (sym number) ∙ c.in_err-sig.ensures ne))

pub returns : goal.returns
returns c = c.loop-tree.invariant ∙ funcs_end func_phrase c.args.trees.now c.loop-tree.tree-index c.args.relations.now c.args.taken.now c.loop-tree.sigs.items c.loop-tree-test.false
