use Rattle.std.proofs.Common.{◌≡◌, ◌+◌, ◌∙◌, ap, sym, length, arith}
use Rattle.hera_types_parts.proofs.Giving.{gives_err}
use Rattle.hera_rules.specs.ReadActs.{proc_phrase}
use Rattle.hera_rules.specs.Programs.{proc_row}
use Rattle.hera_types_globals.proofs.Turns.{procs_turn, procs_stop, procs_end}
use Rattle.hera_types_globals.proofs.signatures.procs_of.Goals as goal

pub loop-tree-preserved : goal.loop-tree-preserved
loop-tree-preserved c =
    let number : c.in_ok-number.number ≡ 1 + c.args.funcs + length c.loop-tree.sigs.items = omega (arith, c.in_ok-number.ensures.number) in
    c.loop-tree.invariant ∙ procs_turn proc_phrase c.args.trees.now c.loop-tree.tree-index c.tree-item.result c.args.relations.now c.args.taken.now c.args.funcs c.loop-tree.sigs.items c.loop-tree-test.true c.tree-item.is (ap (λ n. proc_row c.args.relations.now c.args.taken.now n (proc_phrase c.tree-item.result)) (sym number) ∙ c.in_ok-sig.ensures) c.in_ok-put.ensures

pub returns-in_err-sig : goal.returns-in_err-sig
returns-in_err-sig c =
    let number : c.in_ok-number.number ≡ 1 + c.args.funcs + length c.loop-tree.sigs.items = omega (arith, c.in_ok-number.ensures.number) in
    gives_err (λ v. v.items) _ c.from_residual-in_err-sig.ensures.1
    (λ ne. c.loop-tree.invariant ∙ procs_stop proc_phrase c.args.trees.now c.loop-tree.tree-index c.tree-item.result c.args.relations.now c.args.taken.now c.args.funcs c.loop-tree.sigs.items c.loop-tree-test.true c.tree-item.is (ap (λ n. proc_row c.args.relations.now c.args.taken.now n (proc_phrase c.tree-item.result)) (sym number) ∙ c.in_err-sig.ensures ne))

pub returns : goal.returns
returns c = c.loop-tree.invariant ∙ procs_end proc_phrase c.args.trees.now c.loop-tree.tree-index c.args.relations.now c.args.taken.now c.args.funcs c.loop-tree.sigs.items c.loop-tree-test.false
