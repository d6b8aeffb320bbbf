use Rattle.std.proofs.Common.{◌+◌, sym, ap, ◌∙◌, refl, arith, drop, [], ◌∷◌, ◌++◌}
use Rattle.std.specs.Prelude.{Ok}
use Rattle.hera_meaning.specs.Plain.{expr_of}
use Rattle.hera_syntax.specs.declared.expr.Expr.{out-Expr}
use Rattle.hera_syntax.specs.declared.expr.Binding.{out-Binding}
use Rattle.hera_rules.specs.declared.words.Joint.{Joint}
use Rattle.hera_rules.specs.Agrees.{Keeps, typing_of, steps_of}
use Rattle.hera_types_exprs.specs.Parts.{list_of}
use Rattle.hera_rules.specs.Environments.{env_of}
use Rattle.hera_rules.specs.Read.{expr_phrase, operand_phrase, expr_uses_in, atom_phrase, line_phrase, word_of}
use Rattle.hera_rules.specs.Rules.{joint_row, typing, chain_core}
use Rattle.hera_rules.specs.Typing.{slots_of, slots_of_all, slots_of_uses}
use Rattle.hera_rules.specs.Checked.{check_uses}
use Rattle.hera_rules.proofs.ReadLaws.{expr_phrase-read}
use Rattle.hera_types_exprs.proofs.Levels.{level_first, level_done, level_breaks, uses_step, uses_operand, uses_break, slots_of-chain, left_behind, at_locals, all_first, all_rest, all_step, all_break, all_end, put_first, put_more, args_more, args_none, bindings_more, bindings_none, atoms_more, atoms_none, lines_more, lines_none, expr_more, expr_none}
use Rattle.hera_types_parts.proofs.Giving.{gives_err, gives_done, on_ok}
use Rattle.hera_types_exprs.proofs.Wholes.{expr_whole, args_whole, bindings_whole, atoms_whole, lines_whole}
use Rattle.hera_types_exprs.proofs.exprs.+check.Goals as goal

pub expr-returns-in_err-first-clause-checks : goal.expr-returns-in_err-first-clause-checks
expr-returns-in_err-first-clause-checks t c =
    let level = (out-Expr c.args.e.now).level in
    let e = c.args.e.now in
    gives_err typing_of _ c.from_residual.ensures.1 (λ ne. level_first _ _ _ (operand_phrase (out-Expr e).first) (expr_uses_in (out-Expr e).level (out-Expr e).rest.items) (expr_phrase-read _) (c.in_err-first.ensures.checks ne))

pub expr-loop-tail-init : goal.expr-loop-tail-init
expr-loop-tail-init t c = let level = (out-Expr c.args.e.now).level in record {
  checked = ap (λ is. check_uses (env_of c.args.globals.now) c.args.scope.now.locals.items c.operand.new.scope.next c.new-chain.result.shape is (expr_uses_in level c.deref-tail-items.result.now)) (sym (ap steps_of c.new-chain.ensures.items));
  locals = c.in_ok-first.ensures.keeps.locals;
  slots = refl;
  first = refl;
}

pub expr-loop-tail-preserved : goal.expr-loop-tail-preserved
expr-loop-tail-preserved t c =
    let level = (out-Expr c.args.e.now).level in
    let more = expr_more level _ _ _ c.loop-tail-test.true c.tail-item.is in
    let inv = c.loop-tail.invariant in
    let kept = c.in_ok-right.ensures.keeps in
    let chain = c.loop-tail.chain in
    record {
      checked = inv.checked ∙ uses_step _ _ _ _ chain.shape (steps_of chain.items.items) more (at_locals (env_of c.args.globals.now) c.loop-tail.scope.next (operand_phrase c.tail-item.result.operand) inv.locals c.in_ok-right.ensures.checks) (ap (λ (j : Joint). joint_row j c.tail-item.result.op.at chain.shape c.in_ok-right.right.shape) (sym c.level_joint-joint.ensures) ∙ c.in_ok-chain.ensures.row) kept.next (c.in_ok-chain.ensures.steps ∙ ap (λ (j : Joint). steps_of chain.items.items ++ (record { joint = j; at = c.tail-item.result.op.at; arg = expr_of c.in_ok-right.right.core } ∷ [])) c.level_joint-joint.ensures);
      locals = kept.locals ∙ inv.locals;
      slots = omega (arith, inv.slots, kept.next, ap slots_of_uses more);
      first = c.in_ok-chain.ensures.first ∙ inv.first;
    }

pub expr-returns-in_err-right-clause-checks : goal.expr-returns-in_err-right-clause-checks
expr-returns-in_err-right-clause-checks t c =
    let level = (out-Expr c.args.e.now).level in
    let inv = c.loop-tail.invariant in
    let g = env_of c.args.globals.now in
    let ls = c.args.scope.now.locals.items in
    let m = c.loop-tail.scope.next in
    let chain = c.loop-tail.chain in
    let tails = c.deref-tail-items.result.now in
    let begun = ap (λ s. check_uses g ls c.operand.new.scope.next s [] (expr_uses_in level tails)) (sym c.new-chain.ensures.shape) in
    gives_err typing_of _ c.from_residual-in_err-right.ensures.1 (λ ne.
    level_breaks g ls c.args.scope.now.next c.operand.new.scope.next m (operand_phrase (out-Expr c.args.e.now).first) (expr_uses_in level tails) (expr_uses_in level (drop c.loop-tail.tail-index tails)) chain.shape (steps_of chain.items.items)
    (expr_whole _ _ c.deref-tail-items.ensures.value) c.in_ok-first.ensures.checks c.in_ok-first.ensures.keeps.next (begun ∙ inv.checked)
    (uses_operand g ls m chain.shape (steps_of chain.items.items) (expr_more level _ _ _ c.loop-tail-test.true c.tail-item.is) (at_locals g m (operand_phrase c.tail-item.result.operand) inv.locals (c.in_err-right.ensures.checks ne))))

pub expr-returns-in_err-chain-clause-checks : goal.expr-returns-in_err-chain-clause-checks
expr-returns-in_err-chain-clause-checks t c =
    let level = (out-Expr c.args.e.now).level in
    let inv = c.loop-tail.invariant in
    let g = env_of c.args.globals.now in
    let ls = c.args.scope.now.locals.items in
    let m = c.loop-tail.scope.next in
    let chain = c.loop-tail.chain in
    let tails = c.deref-tail-items.result.now in
    let begun = ap (λ s. check_uses g ls c.operand.new.scope.next s [] (expr_uses_in level tails)) (sym c.new-chain.ensures.shape) in
    gives_err typing_of _ c.from_residual-in_err-chain.ensures.1 (λ ne.
    level_breaks g ls c.args.scope.now.next c.operand.new.scope.next m (operand_phrase (out-Expr c.args.e.now).first) (expr_uses_in level tails) (expr_uses_in level (drop c.loop-tail.tail-index tails)) chain.shape (steps_of chain.items.items)
    (expr_whole _ _ c.deref-tail-items.ensures.value) c.in_ok-first.ensures.checks c.in_ok-first.ensures.keeps.next (begun ∙ inv.checked)
    (uses_break g ls m chain.shape (steps_of chain.items.items) (expr_more level _ _ _ c.loop-tail-test.true c.tail-item.is) (at_locals g m (operand_phrase c.tail-item.result.operand) inv.locals c.in_ok-right.ensures.checks) (ap (λ (j : Joint). joint_row j c.tail-item.result.op.at chain.shape c.in_ok-right.right.shape) (sym c.level_joint-joint.ensures) ∙ c.in_err-chain.ensures.row ne)))

pub expr-returns-clause-checks : goal.expr-returns-clause-checks
expr-returns-clause-checks t c =
    let level = (out-Expr c.args.e.now).level in
    let inv = c.loop-tail.invariant in
    let chain = c.loop-tail.chain in
    let tails = c.deref-tail-items.result.now in
    let begun = ap (λ s. check_uses (env_of c.args.globals.now) c.args.scope.now.locals.items c.operand.new.scope.next s [] (expr_uses_in level tails)) (sym c.new-chain.ensures.shape) in
    gives_done typing_of _ c.finish.ensures.typed c.finish.ensures.refused
    (level_done (env_of c.args.globals.now) c.args.scope.now.locals.items c.args.scope.now.next c.operand.new.scope.next c.loop-tail.scope.next (operand_phrase (out-Expr c.args.e.now).first) (expr_uses_in level tails)
    (expr_uses_in level (drop c.loop-tail.tail-index tails)) chain.shape (steps_of chain.items.items)
    (expr_whole _ _ c.deref-tail-items.ensures.value) c.in_ok-first.ensures.checks c.in_ok-first.ensures.keeps.next (begun ∙ inv.checked) (expr_none level _ _ c.loop-tail-test.false)
    ∙ ap (λ e. Ok (typing chain.shape (chain_core (expr_of e) (steps_of chain.items.items)))) (sym (inv.first ∙ c.new-chain.ensures.core)))

pub expr-returns-clause-keeps : goal.expr-returns-clause-keeps
expr-returns-clause-keeps t c =
    let level = (out-Expr c.args.e.now).level in
    let inv = c.loop-tail.invariant in
    let whole = ap slots_of (expr_whole _ _ c.deref-tail-items.ensures.value) in
    let none = ap slots_of_uses (expr_none level _ _ c.loop-tail-test.false) in
    let parts = slots_of-chain (operand_phrase (out-Expr c.args.e.now).first) (expr_uses_in level c.deref-tail-items.result.now) in
    let kept : Keeps c.args.scope.now c.loop-tail.scope (slots_of (expr_phrase c.args.e.now)) = record {
      locals = inv.locals;
      next = omega (arith, inv.slots, whole, none, parts, c.in_ok-first.ensures.keeps.next);
    } in on_ok _ kept

pub args-returns-in_err-first-clause-checks : goal.args-returns-in_err-first-clause-checks
args-returns-in_err-first-clause-checks t c = gives_err list_of _ c.from_residual.ensures.1 (λ ne. all_first _ _ _ (args_whole _ _ refl) (c.in_err-first.ensures.checks ne))

pub args-loop-next-preserved : goal.args-loop-next-preserved
args-loop-next-preserved t c =
    let more = args_more _ _ _ c.loop-next-test.true c.next-item.is in
    let inv = c.loop-next.invariant in
    let kept = c.in_ok-typed.ensures.keeps in
    record {
      checked = inv.checked ∙ all_step _ _ _ _ _ more (at_locals (env_of c.args.globals.now) c.loop-next.scope.next (expr_phrase c.next-item.result) inv.locals c.in_ok-typed.ensures.checks) kept.next (put_more _ _ c.in_ok-put-2.ensures);
      locals = kept.locals ∙ inv.locals;
      slots = omega (arith, inv.slots, kept.next, ap slots_of_all more);
    }

pub args-returns-in_err-typed-clause-checks : goal.args-returns-in_err-typed-clause-checks
args-returns-in_err-typed-clause-checks t c =
    let inv = c.loop-next.invariant in
    gives_err list_of _ c.from_residual-in_err-typed.ensures.1 (λ ne.
    all_rest _ _ _ _ (args_whole _ _ c.deref-next-items.ensures.value) c.in_ok-first.ensures.checks c.in_ok-first.ensures.keeps.next (put_first _ c.in_ok-put.ensures c.new-all.ensures.items)
    ∙ inv.checked ∙ all_break _ _ _ _ (args_more _ _ _ c.loop-next-test.true c.next-item.is) (at_locals (env_of c.args.globals.now) c.loop-next.scope.next (expr_phrase c.next-item.result) inv.locals (c.in_err-typed.ensures.checks ne)))

pub args-returns-clause-checks : goal.args-returns-clause-checks
args-returns-clause-checks t c =
    let inv = c.loop-next.invariant in
    all_rest _ _ _ _ (args_whole _ _ c.deref-next-items.ensures.value) c.in_ok-first.ensures.checks c.in_ok-first.ensures.keeps.next (put_first _ c.in_ok-put.ensures c.new-all.ensures.items)
    ∙ inv.checked ∙ all_end _ _ _ _ (args_none _ _ c.loop-next-test.false)

pub args-returns-clause-keeps : goal.args-returns-clause-keeps
args-returns-clause-keeps t c =
    let inv = c.loop-next.invariant in
    let whole = ap slots_of_all (args_whole _ _ c.deref-next-items.ensures.value) in
    let none = ap slots_of_all (args_none _ _ c.loop-next-test.false) in
    record {
      locals = inv.locals;
      next = omega (arith, inv.slots, whole, none, c.in_ok-first.ensures.keeps.next);
    }

pub bindings-returns-in_err-first-clause-checks : goal.bindings-returns-in_err-first-clause-checks
bindings-returns-in_err-first-clause-checks t c = gives_err list_of _ c.from_residual.ensures.1 (λ ne. all_first _ _ _ (bindings_whole _ _ refl) (c.in_err-first.ensures.checks ne))

pub bindings-loop-binding-preserved : goal.bindings-loop-binding-preserved
bindings-loop-binding-preserved t c =
    let more = bindings_more _ _ _ c.loop-binding-test.true c.binding-item.is in
    let inv = c.loop-binding.invariant in
    let kept = c.in_ok-typed.ensures.keeps in
    record {
      checked = inv.checked ∙ all_step _ _ _ _ _ more (at_locals (env_of c.args.globals.now) c.loop-binding.scope.next (expr_phrase (out-Binding c.binding-item.result).value) inv.locals c.in_ok-typed.ensures.checks) kept.next (put_more _ _ c.in_ok-put-2.ensures);
      locals = kept.locals ∙ inv.locals;
      slots = omega (arith, inv.slots, kept.next, ap slots_of_all more);
    }

pub bindings-returns-in_err-typed-clause-checks : goal.bindings-returns-in_err-typed-clause-checks
bindings-returns-in_err-typed-clause-checks t c =
    let inv = c.loop-binding.invariant in
    gives_err list_of _ c.from_residual-in_err-typed.ensures.1 (λ ne.
    all_rest _ _ _ _ (bindings_whole _ _ c.deref-binding-items.ensures.value) c.in_ok-first.ensures.checks c.in_ok-first.ensures.keeps.next (put_first _ c.in_ok-put.ensures c.new-all.ensures.items)
    ∙ inv.checked ∙ all_break _ _ _ _ (bindings_more _ _ _ c.loop-binding-test.true c.binding-item.is) (at_locals (env_of c.args.globals.now) c.loop-binding.scope.next (expr_phrase (out-Binding c.binding-item.result).value) inv.locals (c.in_err-typed.ensures.checks ne)))

pub bindings-returns-clause-checks : goal.bindings-returns-clause-checks
bindings-returns-clause-checks t c =
    let inv = c.loop-binding.invariant in
    all_rest _ _ _ _ (bindings_whole _ _ c.deref-binding-items.ensures.value) c.in_ok-first.ensures.checks c.in_ok-first.ensures.keeps.next (put_first _ c.in_ok-put.ensures c.new-all.ensures.items)
    ∙ inv.checked ∙ all_end _ _ _ _ (bindings_none _ _ c.loop-binding-test.false)

pub bindings-returns-clause-keeps : goal.bindings-returns-clause-keeps
bindings-returns-clause-keeps t c =
    let inv = c.loop-binding.invariant in
    let whole = ap slots_of_all (bindings_whole _ _ c.deref-binding-items.ensures.value) in
    let none = ap slots_of_all (bindings_none _ _ c.loop-binding-test.false) in
    record {
      locals = inv.locals;
      next = omega (arith, inv.slots, whole, none, c.in_ok-first.ensures.keeps.next);
    }

pub atoms-returns-in_err-first-clause-checks : goal.atoms-returns-in_err-first-clause-checks
atoms-returns-in_err-first-clause-checks t c = gives_err list_of _ c.from_residual.ensures.1 (λ ne. all_first _ _ _ (atoms_whole _ _ refl) (c.in_err-first.ensures.checks ne))

pub atoms-loop-next-preserved : goal.atoms-loop-next-preserved
atoms-loop-next-preserved t c =
    let more = atoms_more _ _ _ c.loop-next-test.true c.next-item.is in
    let inv = c.loop-next.invariant in
    let kept = c.in_ok-typed.ensures.keeps in
    record {
      checked = inv.checked ∙ all_step _ _ _ _ _ more (at_locals (env_of c.args.globals.now) c.loop-next.scope.next (atom_phrase c.next-item.result) inv.locals c.in_ok-typed.ensures.checks) kept.next (put_more _ _ c.in_ok-put-2.ensures);
      locals = kept.locals ∙ inv.locals;
      slots = omega (arith, inv.slots, kept.next, ap slots_of_all more);
    }

pub atoms-returns-in_err-typed-clause-checks : goal.atoms-returns-in_err-typed-clause-checks
atoms-returns-in_err-typed-clause-checks t c =
    let inv = c.loop-next.invariant in
    gives_err list_of _ c.from_residual-in_err-typed.ensures.1 (λ ne.
    all_rest _ _ _ _ (atoms_whole _ _ c.deref-next-items.ensures.value) c.in_ok-first.ensures.checks c.in_ok-first.ensures.keeps.next (put_first _ c.in_ok-put.ensures c.new-all.ensures.items)
    ∙ inv.checked ∙ all_break _ _ _ _ (atoms_more _ _ _ c.loop-next-test.true c.next-item.is) (at_locals (env_of c.args.globals.now) c.loop-next.scope.next (atom_phrase c.next-item.result) inv.locals (c.in_err-typed.ensures.checks ne)))

pub atoms-returns-clause-checks : goal.atoms-returns-clause-checks
atoms-returns-clause-checks t c =
    let inv = c.loop-next.invariant in
    all_rest _ _ _ _ (atoms_whole _ _ c.deref-next-items.ensures.value) c.in_ok-first.ensures.checks c.in_ok-first.ensures.keeps.next (put_first _ c.in_ok-put.ensures c.new-all.ensures.items)
    ∙ inv.checked ∙ all_end _ _ _ _ (atoms_none _ _ c.loop-next-test.false)

pub atoms-returns-clause-keeps : goal.atoms-returns-clause-keeps
atoms-returns-clause-keeps t c =
    let inv = c.loop-next.invariant in
    let whole = ap slots_of_all (atoms_whole _ _ c.deref-next-items.ensures.value) in
    let none = ap slots_of_all (atoms_none _ _ c.loop-next-test.false) in
    record {
      locals = inv.locals;
      next = omega (arith, inv.slots, whole, none, c.in_ok-first.ensures.keeps.next);
    }

pub lines-returns-in_err-first-clause-checks : goal.lines-returns-in_err-first-clause-checks
lines-returns-in_err-first-clause-checks t c = gives_err list_of _ c.from_residual.ensures.1 (λ ne. all_first _ _ _ (lines_whole (word_of c.args.name.now) _ _ refl) (c.in_err-first.ensures.checks ne))

pub lines-loop-next-preserved : goal.lines-loop-next-preserved
lines-loop-next-preserved t c =
    let more = lines_more (word_of c.args.name.now) _ _ _ c.loop-next-test.true c.next-item.is in
    let inv = c.loop-next.invariant in
    let kept = c.in_ok-typed.ensures.keeps in
    record {
      checked = inv.checked ∙ all_step _ _ _ _ _ more (at_locals (env_of c.args.globals.now) c.loop-next.scope.next (line_phrase (word_of c.args.name.now) c.next-item.result) inv.locals c.in_ok-typed.ensures.checks) kept.next (put_more _ _ c.in_ok-put-2.ensures);
      locals = kept.locals ∙ inv.locals;
      slots = omega (arith, inv.slots, kept.next, ap slots_of_all more);
    }

pub lines-returns-in_err-typed-clause-checks : goal.lines-returns-in_err-typed-clause-checks
lines-returns-in_err-typed-clause-checks t c =
    let inv = c.loop-next.invariant in
    gives_err list_of _ c.from_residual-in_err-typed.ensures.1 (λ ne.
    all_rest _ _ _ _ (lines_whole (word_of c.args.name.now) _ _ c.deref-next-items.ensures.value) c.in_ok-first.ensures.checks c.in_ok-first.ensures.keeps.next (put_first _ c.in_ok-put.ensures c.new-all.ensures.items)
    ∙ inv.checked ∙ all_break _ _ _ _ (lines_more (word_of c.args.name.now) _ _ _ c.loop-next-test.true c.next-item.is) (at_locals (env_of c.args.globals.now) c.loop-next.scope.next (line_phrase (word_of c.args.name.now) c.next-item.result) inv.locals (c.in_err-typed.ensures.checks ne)))

pub lines-returns-clause-checks : goal.lines-returns-clause-checks
lines-returns-clause-checks t c =
    let inv = c.loop-next.invariant in
    all_rest _ _ _ _ (lines_whole (word_of c.args.name.now) _ _ c.deref-next-items.ensures.value) c.in_ok-first.ensures.checks c.in_ok-first.ensures.keeps.next (put_first _ c.in_ok-put.ensures c.new-all.ensures.items)
    ∙ inv.checked ∙ all_end _ _ _ _ (lines_none (word_of c.args.name.now) _ _ c.loop-next-test.false)

pub lines-returns-clause-keeps : goal.lines-returns-clause-keeps
lines-returns-clause-keeps t c =
    let inv = c.loop-next.invariant in
    let whole = ap slots_of_all (lines_whole (word_of c.args.name.now) _ _ c.deref-next-items.ensures.value) in
    let none = ap slots_of_all (lines_none (word_of c.args.name.now) _ _ c.loop-next-test.false) in
    record {
      locals = inv.locals;
      next = omega (arith, inv.slots, whole, none, c.in_ok-first.ensures.keeps.next);
    }

-- a comparison with an operator
-- a walk leaves its variable
pub walk-returns-clause-keeps : goal.walk-returns-clause-keeps
walk-returns-clause-keeps t c =
    let slot = c.in_ok-slot.ensures.keeps in
    let of = c.in_ok-of.ensures.keeps in
    let local = c.in_ok-local.local in
    let pushed = c.in_ok-push_local.ensures in
    let inner = c.in_ok-inner.ensures.keeps in
    let kept : Keeps c.args.scope.now c.leave.new.self (1 + slots_of (expr_phrase c.args.over.now) + slots_of (expr_phrase c.args.body.now)) = record {
      locals = c.leave.ensures.locals ∙ left_behind _ local _ (inner.locals ∙ pushed.locals ∙ ap (λ ls. ls ++ local ∷ []) (of.locals ∙ slot.locals)) c.visible-depth.ensures;
      next = omega (arith, c.leave.ensures.next, inner.next, pushed.next, of.next, slot.next);
    } in on_ok _ kept
