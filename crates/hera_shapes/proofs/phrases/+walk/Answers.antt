use Rattle.std.proofs.Common.{◌++◌, ◌∷◌, [], sym, ap, ◌∙◌, arith}
use Rattle.hera_syntax.specs.declared.expr.Expr.{out-Expr}
use Rattle.hera_syntax.specs.declared.expr.Binding.{out-Binding}
use Rattle.hera_syntax.specs.declared.expr.Atoms.{out-Atoms}
use Rattle.hera_syntax.specs.declared.expr.LineTrees.{out-LineTrees}
use Rattle.hera_meaning.specs.Shapes.{body_types}
use Rattle.hera_rules.specs.Environments.{env_of}
use Rattle.hera_rules.specs.Read.{expr_phrase, operand_phrase, expr_uses_in, prime_phrase, args_in, some_atoms, some_lines, atom_phrase, line_phrase, walk_of, word_of}
use Rattle.hera_rules.proofs.ReadLaws.{prime_phrase-Int, prime_phrase-Text, prime_phrase-True, prime_phrase-False, prime_phrase-Fail, prime_phrase-Name}
use Rattle.hera_rules.specs.Typing.{slots_of, slots_of_all, slots_of_uses}
use Rattle.hera_types_exprs.proofs.Levels.{slots_of-chain, args_more, args_none, bindings_more, bindings_none, atoms_more, atoms_none, lines_more, lines_none, expr_more, expr_none}
use Rattle.hera_types_exprs.proofs.Wholes.{expr_whole, args_whole, bindings_whole, atoms_whole, lines_whole}
use Rattle.hera_types_exprs.proofs.Levels.{left_behind}
use Rattle.hera_shapes.proofs.Adding.{with_none, pair_whole, walk_whole, same_phrase, all_step, uses_step, all_end, uses_end, all_whole, chain_whole, at_locals, atom_args, atom_slots, line_args, line_slots}
use Rattle.hera_shapes.proofs.phrases.+walk.Goals as goal

pub expression-loop-tail-preserved : goal.expression-loop-tail-preserved
expression-loop-tail-preserved t c =
    let level = (out-Expr c.args.e.now).level in
    let g = env_of c.args.globals.now in
    let more = expr_more level _ _ _ c.loop-tail-test.true c.tail-item.is in
    let inv = c.loop-tail.invariant in
    let next = c.in_ok-operand-2.ensures in
    let p = operand_phrase c.tail-item.result.operand in
    record {
      found = uses_step g c.args.scope.now.locals.items c.loop-tail.scope.next c.operand-in-loop-tail.new.scope.next (body_types c.loop-tail.shapes) (body_types c.operand-in-loop-tail.new.shapes) more next.keeps.next
          (at_locals g c.loop-tail.scope.next p (body_types c.loop-tail.shapes) (body_types c.operand-in-loop-tail.new.shapes) inv.locals next.found)
          ∙ inv.found;
      locals = next.keeps.locals ∙ inv.locals;
      slots = omega (arith, inv.slots, next.keeps.next, ap slots_of_uses more);
    }

pub expression-returns-clause-found : goal.expression-returns-clause-found
expression-returns-clause-found t c =
    let level = (out-Expr c.args.e.now).level in
    let g = env_of c.args.globals.now in
    let ls = c.args.scope.now.locals.items in
    let first = c.in_ok-operand.ensures in
    let inv = c.loop-tail.invariant in
    chain_whole g ls c.args.scope.now.next c.operand.new.scope.next (body_types c.args.shapes.now) (body_types c.operand.new.shapes) (body_types c.loop-tail.shapes) (operand_phrase (out-Expr c.args.e.now).first) (expr_uses_in level c.deref-tail-items.result.now)
    (expr_whole _ _ c.deref-tail-items.ensures.value) first.keeps.next first.found
    (sym (uses_end g ls c.loop-tail.scope.next (body_types c.loop-tail.shapes) (expr_none level _ _ c.loop-tail-test.false)) ∙ inv.found)

pub expression-returns-clause-keeps : goal.expression-returns-clause-keeps
expression-returns-clause-keeps t c =
    let level = (out-Expr c.args.e.now).level in
    let inv = c.loop-tail.invariant in
    let whole = ap slots_of (expr_whole _ _ c.deref-tail-items.ensures.value) in
    let none = ap slots_of_uses (expr_none level _ _ c.loop-tail-test.false) in
    let parts = slots_of-chain (operand_phrase (out-Expr c.args.e.now).first) (expr_uses_in level c.deref-tail-items.result.now) in
    record {
      locals = inv.locals;
      next = omega (arith, inv.slots, whole, none, parts, c.in_ok-operand.ensures.keeps.next);
    }

pub args-loop-next-preserved : goal.args-loop-next-preserved
args-loop-next-preserved t c =
    let g = env_of c.args.globals.now in
    let more = args_more _ _ _ c.loop-next-test.true c.next-item.is in
    let inv = c.loop-next.invariant in
    let next = c.in_ok-expression-2.ensures in
    record {
      found = all_step g c.args.scope.now.locals.items c.loop-next.scope.next c.expression-in-loop-next.new.scope.next (body_types c.loop-next.shapes) (body_types c.expression-in-loop-next.new.shapes) more next.keeps.next
          (at_locals g c.loop-next.scope.next (expr_phrase c.next-item.result) (body_types c.loop-next.shapes) (body_types c.expression-in-loop-next.new.shapes) inv.locals next.found)
          ∙ inv.found;
      locals = next.keeps.locals ∙ inv.locals;
      slots = omega (arith, inv.slots, next.keeps.next, ap slots_of_all more);
    }

pub args-returns-clause-found : goal.args-returns-clause-found
args-returns-clause-found t c =
    let g = env_of c.args.globals.now in
    let ls = c.args.scope.now.locals.items in
    let first = c.in_ok-expression.ensures in
    let inv = c.loop-next.invariant in
    all_whole g ls c.args.scope.now.next c.expression.new.scope.next (body_types c.args.shapes.now) (body_types c.expression.new.shapes) (body_types c.loop-next.shapes)
    (args_whole _ _ c.deref-next-items.ensures.value) first.keeps.next first.found
    (sym (all_end g ls c.loop-next.scope.next (body_types c.loop-next.shapes) (args_none _ _ c.loop-next-test.false)) ∙ inv.found)

pub args-returns-clause-keeps : goal.args-returns-clause-keeps
args-returns-clause-keeps t c =
    let inv = c.loop-next.invariant in
    let whole = ap slots_of_all (args_whole _ _ c.deref-next-items.ensures.value) in
    let none = ap slots_of_all (args_none _ _ c.loop-next-test.false) in
    record {
      locals = inv.locals;
      next = omega (arith, inv.slots, whole, none, c.in_ok-expression.ensures.keeps.next);
    }

pub bindings-loop-binding-preserved : goal.bindings-loop-binding-preserved
bindings-loop-binding-preserved t c =
    let g = env_of c.args.globals.now in
    let more = bindings_more _ _ _ c.loop-binding-test.true c.binding-item.is in
    let inv = c.loop-binding.invariant in
    let next = c.in_ok-expression-2.ensures in
    record {
      found = all_step g c.args.scope.now.locals.items c.loop-binding.scope.next c.expression-in-loop-binding.new.scope.next (body_types c.loop-binding.shapes) (body_types c.expression-in-loop-binding.new.shapes) more next.keeps.next
          (at_locals g c.loop-binding.scope.next (expr_phrase (out-Binding c.binding-item.result).value) (body_types c.loop-binding.shapes) (body_types c.expression-in-loop-binding.new.shapes) inv.locals next.found)
          ∙ inv.found;
      locals = next.keeps.locals ∙ inv.locals;
      slots = omega (arith, inv.slots, next.keeps.next, ap slots_of_all more);
    }

pub bindings-returns-clause-found : goal.bindings-returns-clause-found
bindings-returns-clause-found t c =
    let g = env_of c.args.globals.now in
    let ls = c.args.scope.now.locals.items in
    let first = c.in_ok-expression.ensures in
    let inv = c.loop-binding.invariant in
    all_whole g ls c.args.scope.now.next c.expression.new.scope.next (body_types c.args.shapes.now) (body_types c.expression.new.shapes) (body_types c.loop-binding.shapes)
    (bindings_whole _ _ c.deref-binding-items.ensures.value) first.keeps.next first.found
    (sym (all_end g ls c.loop-binding.scope.next (body_types c.loop-binding.shapes) (bindings_none _ _ c.loop-binding-test.false)) ∙ inv.found)

pub bindings-returns-clause-keeps : goal.bindings-returns-clause-keeps
bindings-returns-clause-keeps t c =
    let inv = c.loop-binding.invariant in
    let whole = ap slots_of_all (bindings_whole _ _ c.deref-binding-items.ensures.value) in
    let none = ap slots_of_all (bindings_none _ _ c.loop-binding-test.false) in
    record {
      locals = inv.locals;
      next = omega (arith, inv.slots, whole, none, c.in_ok-expression.ensures.keeps.next);
    }

pub atoms-loop-next-preserved : goal.atoms-loop-next-preserved
atoms-loop-next-preserved t c =
    let g = env_of c.args.globals.now in
    let more = atoms_more _ _ _ c.loop-next-test.true c.next-item.is in
    let inv = c.loop-next.invariant in
    let next = c.in_ok-args-2.ensures in
    let slots = atom_slots c.next-item.result in
    record {
      found = all_step g c.args.scope.now.locals.items c.loop-next.scope.next c.args-in-loop-next.new.scope.next (body_types c.loop-next.shapes) (body_types c.args-in-loop-next.new.shapes) more (omega (arith, next.keeps.next, slots))
          (at_locals g c.loop-next.scope.next (atom_phrase c.next-item.result) (body_types c.loop-next.shapes) (body_types c.args-in-loop-next.new.shapes) inv.locals (atom_args (env_of c.args.globals.now) c.loop-next.scope.locals.items c.loop-next.scope.next (body_types c.loop-next.shapes) (body_types c.args-in-loop-next.new.shapes) c.next-item.result next.found))
          ∙ inv.found;
      locals = next.keeps.locals ∙ inv.locals;
      slots = omega (arith, inv.slots, next.keeps.next, ap slots_of_all more, slots);
    }

pub atoms-returns-clause-found : goal.atoms-returns-clause-found
atoms-returns-clause-found t c =
    let g = env_of c.args.globals.now in
    let ls = c.args.scope.now.locals.items in
    let first = c.in_ok-args.ensures in
    let inv = c.loop-next.invariant in
    let slots = atom_slots (out-Atoms c.args.e.now).first in
    all_whole g ls c.args.scope.now.next c.args-2.new.scope.next (body_types c.args.shapes.now) (body_types c.args-2.new.shapes) (body_types c.loop-next.shapes)
    (atoms_whole _ _ c.deref-next-items.ensures.value) (omega (arith, first.keeps.next, slots)) (atom_args (env_of c.args.globals.now) ls c.args.scope.now.next (body_types c.args.shapes.now) (body_types c.args-2.new.shapes) (out-Atoms c.args.e.now).first first.found)
    (sym (all_end g ls c.loop-next.scope.next (body_types c.loop-next.shapes) (atoms_none _ _ c.loop-next-test.false)) ∙ inv.found)

pub atoms-returns-clause-keeps : goal.atoms-returns-clause-keeps
atoms-returns-clause-keeps t c =
    let inv = c.loop-next.invariant in
    let whole = ap slots_of_all (atoms_whole _ _ c.deref-next-items.ensures.value) in
    let none = ap slots_of_all (atoms_none _ _ c.loop-next-test.false) in
    let slots = atom_slots (out-Atoms c.args.e.now).first in
    record {
      locals = inv.locals;
      next = omega (arith, inv.slots, whole, none, c.in_ok-args.ensures.keeps.next, slots);
    }

pub lines-loop-next-preserved : goal.lines-loop-next-preserved
lines-loop-next-preserved t c =
    let g = env_of c.args.globals.now in
    let more = lines_more (word_of c.args.name.now) _ _ _ c.loop-next-test.true c.next-item.is in
    let inv = c.loop-next.invariant in
    let next = c.in_ok-args-2.ensures in
    let slots = line_slots (word_of c.args.name.now) c.next-item.result in
    record {
      found = all_step g c.args.scope.now.locals.items c.loop-next.scope.next c.args-in-loop-next.new.scope.next (body_types c.loop-next.shapes) (body_types c.args-in-loop-next.new.shapes) more (omega (arith, next.keeps.next, slots))
          (at_locals g c.loop-next.scope.next (line_phrase (word_of c.args.name.now) c.next-item.result) (body_types c.loop-next.shapes) (body_types c.args-in-loop-next.new.shapes) inv.locals (line_args (env_of c.args.globals.now) c.loop-next.scope.locals.items c.loop-next.scope.next (body_types c.loop-next.shapes) (body_types c.args-in-loop-next.new.shapes) (word_of c.args.name.now) c.next-item.result next.found))
          ∙ inv.found;
      locals = next.keeps.locals ∙ inv.locals;
      slots = omega (arith, inv.slots, next.keeps.next, ap slots_of_all more, slots);
    }

pub lines-returns-clause-found : goal.lines-returns-clause-found
lines-returns-clause-found t c =
    let g = env_of c.args.globals.now in
    let ls = c.args.scope.now.locals.items in
    let first = c.in_ok-args.ensures in
    let inv = c.loop-next.invariant in
    let slots = line_slots (word_of c.args.name.now) (out-LineTrees c.args.e.now).first in
    all_whole g ls c.args.scope.now.next c.args-2.new.scope.next (body_types c.args.shapes.now) (body_types c.args-2.new.shapes) (body_types c.loop-next.shapes)
    (lines_whole (word_of c.args.name.now) _ _ c.deref-next-items.ensures.value) (omega (arith, first.keeps.next, slots)) (line_args (env_of c.args.globals.now) ls c.args.scope.now.next (body_types c.args.shapes.now) (body_types c.args-2.new.shapes) (word_of c.args.name.now) (out-LineTrees c.args.e.now).first first.found)
    (sym (all_end g ls c.loop-next.scope.next (body_types c.loop-next.shapes) (lines_none (word_of c.args.name.now) _ _ c.loop-next-test.false)) ∙ inv.found)

pub lines-returns-clause-keeps : goal.lines-returns-clause-keeps
lines-returns-clause-keeps t c =
    let inv = c.loop-next.invariant in
    let whole = ap slots_of_all (lines_whole (word_of c.args.name.now) _ _ c.deref-next-items.ensures.value) in
    let none = ap slots_of_all (lines_none (word_of c.args.name.now) _ _ c.loop-next-test.false) in
    let slots = line_slots (word_of c.args.name.now) (out-LineTrees c.args.e.now).first in
    record {
      locals = inv.locals;
      next = omega (arith, inv.slots, whole, none, c.in_ok-args.ensures.keeps.next, slots);
    }

pub pair-returns-clause-found : goal.pair-returns-clause-found
pair-returns-clause-found t c =
    let l = c.in_ok-expression.ensures in
    pair_whole (env_of c.args.globals.now) c.args.scope.now.locals.items c.args.scope.now.next (expr_phrase c.args.left.now) (expr_phrase c.args.right.now) (body_types c.args.shapes.now) (body_types c.expression.new.shapes) (body_types c.expression-2.new.shapes)
    l.found l.keeps.locals l.keeps.next c.in_ok-expression-2.ensures.found

pub pair-returns-clause-keeps : goal.pair-returns-clause-keeps
pair-returns-clause-keeps t c =
    let l = c.in_ok-expression.ensures.keeps in
    let r = c.in_ok-expression-2.ensures.keeps in
    record { locals = r.locals ∙ l.locals; next = omega (arith, l.next, r.next) }

pub walk-returns-clause-found : goal.walk-returns-clause-found
walk-returns-clause-found t c =
    let v = c.in_ok-seen.seen.variable in
    let k = c.in_ok-take_slot.ensures.keeps in
    let e = c.in_ok-expression.ensures in
    let p = c.in_ok-push_local.ensures in
    walk_whole (env_of c.args.globals.now) c.args.scope.now.locals.items c.args.scope.now.next c.args.word.now.at (walk_of c.args.word.now.kind) (word_of c.args.name.now) (expr_phrase c.args.over.now) (expr_phrase c.args.body.now) v c.in_ok-seen.seen.gathers
    (body_types c.args.shapes.now) (body_types c.add_slot.new.shapes) (body_types c.expression.new.shapes) (body_types c.expression-2.new.shapes) c.in_ok-seen.ensures c.in_ok-copy.ensures c.in_ok-add_slot.ensures k.locals k.next e.found
    (p.locals ∙ ap (λ ls. ls ++ v ∷ []) (e.keeps.locals ∙ k.locals)) (omega (arith, p.next, e.keeps.next, k.next)) c.in_ok-expression-2.ensures.found

pub walk-returns-clause-keeps : goal.walk-returns-clause-keeps
walk-returns-clause-keeps t c =
    let v = c.in_ok-seen.seen.variable in
    let k = c.in_ok-take_slot.ensures.keeps in
    let e = c.in_ok-expression.ensures.keeps in
    let p = c.in_ok-push_local.ensures in
    let b = c.in_ok-expression-2.ensures.keeps in
    record {
      locals = c.leave.ensures.locals ∙ left_behind _ v _ (b.locals ∙ p.locals ∙ ap (λ ls. ls ++ v ∷ []) (e.locals ∙ k.locals)) c.visible-depth.ensures;
      next = omega (arith, c.leave.ensures.next, b.next, p.next, e.next, k.next);
    }

pub some_args-returns-in-None-clause-found : goal.some_args-returns-in-None-clause-found
some_args-returns-in-None-clause-found t c = sym (all_end (env_of c.args.globals.now) c.args.scope.now.locals.items c.args.scope.now.next (body_types c.args.shapes.now) (ap (λ l. args_in l) c.in-None.is))

pub some_atoms-returns-in-None-clause-found : goal.some_atoms-returns-in-None-clause-found
some_atoms-returns-in-None-clause-found t c = sym (all_end (env_of c.args.globals.now) c.args.scope.now.locals.items c.args.scope.now.next (body_types c.args.shapes.now) (ap (λ l. some_atoms l) c.in-None.is))

pub some_lines-returns-in-None-clause-found : goal.some_lines-returns-in-None-clause-found
some_lines-returns-in-None-clause-found t c = sym (all_end (env_of c.args.globals.now) c.args.scope.now.locals.items c.args.scope.now.next (body_types c.args.shapes.now) (ap (λ l. some_lines (word_of c.args.name.now) l) c.in-None.is))

pub prime-returns-in-Int-clause-found : goal.prime-returns-in-Int-clause-found
prime-returns-in-Int-clause-found t c =
    let shapes = body_types c.args.shapes.now in
    same_phrase (env_of c.args.globals.now) c.args.scope.now.locals.items c.args.scope.now.next shapes shapes (ap (λ e. prime_phrase e) c.in-Int.is ∙ prime_phrase-Int _) (sym (with_none shapes))

pub prime-returns-in-Text-clause-found : goal.prime-returns-in-Text-clause-found
prime-returns-in-Text-clause-found t c =
    let shapes = body_types c.args.shapes.now in
    same_phrase (env_of c.args.globals.now) c.args.scope.now.locals.items c.args.scope.now.next shapes shapes (ap (λ e. prime_phrase e) c.in-Text.is ∙ prime_phrase-Text _) (sym (with_none shapes))

pub prime-returns-in-True-clause-found : goal.prime-returns-in-True-clause-found
prime-returns-in-True-clause-found t c =
    let shapes = body_types c.args.shapes.now in
    same_phrase (env_of c.args.globals.now) c.args.scope.now.locals.items c.args.scope.now.next shapes shapes (ap (λ e. prime_phrase e) c.in-True.is ∙ prime_phrase-True _) (sym (with_none shapes))

pub prime-returns-in-False-clause-found : goal.prime-returns-in-False-clause-found
prime-returns-in-False-clause-found t c =
    let shapes = body_types c.args.shapes.now in
    same_phrase (env_of c.args.globals.now) c.args.scope.now.locals.items c.args.scope.now.next shapes shapes (ap (λ e. prime_phrase e) c.in-False.is ∙ prime_phrase-False _) (sym (with_none shapes))

pub prime-returns-in-Fail-clause-found : goal.prime-returns-in-Fail-clause-found
prime-returns-in-Fail-clause-found t c =
    let shapes = body_types c.args.shapes.now in
    same_phrase (env_of c.args.globals.now) c.args.scope.now.locals.items c.args.scope.now.next shapes shapes (ap (λ e. prime_phrase e) c.in-Fail.is ∙ prime_phrase-Fail _) (sym (with_none shapes))

pub prime-returns-in-Name-clause-found : goal.prime-returns-in-Name-clause-found
prime-returns-in-Name-clause-found t c =
    let shapes = body_types c.args.shapes.now in
    same_phrase (env_of c.args.globals.now) c.args.scope.now.locals.items c.args.scope.now.next shapes shapes (ap (λ e. prime_phrase e) c.in-Name.is ∙ prime_phrase-Name _) (sym (with_none shapes))
