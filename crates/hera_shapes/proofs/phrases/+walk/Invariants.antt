use Rattle.std.proofs.Common.{◌≡◌, ◌+◌, ◌*◌, drop}
use Rattle.std.specs.Prelude.{max}
use Rattle.hera_syntax.proofs.expr.Expr.TheLaws.{the_size}
use Rattle.hera_syntax.specs.declared.expr.Expr.{out-Expr}
use Rattle.hera_meaning.specs.Shapes.{body_types}
use Rattle.hera_rules.specs.Environments.{env_of}
use Rattle.hera_rules.specs.Read.{expr_uses_in, phrases_in, bindings_in, atoms_in, lines_in, word_of}
use Rattle.hera_rules.specs.Typing.{slots_of_uses, slots_of_all}
use Rattle.hera_shapes.specs.Found.{found_all, found_uses, with_slots}
use Rattle.hera_shapes.proofs.phrases.+walk.Given as goal

-- each call goes down the tree, or hands it on as it is to a function that stands below
abbrev pub decreases-expression : goal.decreases-expression
decreases-expression l = 2 * goal.size-expression l

abbrev pub decreases-operand : goal.decreases-operand
decreases-operand l = 2 * goal.size-operand l

abbrev pub decreases-args : goal.decreases-args
decreases-args l = 2 * goal.size-args l

abbrev pub decreases-bindings : goal.decreases-bindings
decreases-bindings l = 2 * goal.size-bindings l

abbrev pub decreases-atoms : goal.decreases-atoms
decreases-atoms l = 2 * goal.size-atoms l

abbrev pub decreases-lines : goal.decreases-lines
decreases-lines l = 2 * goal.size-lines l

abbrev pub decreases-prime : goal.decreases-prime
decreases-prime l = 2 * goal.size-prime l + 1

abbrev pub decreases-some_args : goal.decreases-some_args
decreases-some_args l = 2 * goal.size-some_args l + 1

abbrev pub decreases-some_atoms : goal.decreases-some_atoms
decreases-some_atoms l = 2 * goal.size-some_atoms l + 1

abbrev pub decreases-some_lines : goal.decreases-some_lines
decreases-some_lines l = 2 * goal.size-some_lines l + 1

abbrev pub decreases-walk : goal.decreases-walk
decreases-walk l = 2 * max (the_size l.over.now) (the_size l.body.now) + 1

abbrev pub decreases-pair : goal.decreases-pair
decreases-pair l = 2 * max (the_size l.left.now) (the_size l.right.now) + 1

abbrev pub invariant-expression-loop-tail : goal.invariant-expression-loop-tail
invariant-expression-loop-tail l = record {
  found : with_slots (body_types l.shapes) (found_uses (env_of l.globals) l.fn.scope.locals.items l.scope.next (expr_uses_in (out-Expr l.e).level (drop l.tail-index l.tail-items)))
      ≡ with_slots (body_types l.initial.shapes) (found_uses (env_of l.globals) l.fn.scope.locals.items l.initial.scope.next (expr_uses_in (out-Expr l.e).level l.tail-items));
  locals : l.scope.locals.items ≡ l.fn.scope.locals.items;
  slots : l.scope.next + slots_of_uses (expr_uses_in (out-Expr l.e).level (drop l.tail-index l.tail-items)) ≡ l.initial.scope.next + slots_of_uses (expr_uses_in (out-Expr l.e).level l.tail-items);
}

abbrev pub invariant-args-loop-next : goal.invariant-args-loop-next
invariant-args-loop-next l = record {
  found : with_slots (body_types l.shapes) (found_all (env_of l.globals) l.fn.scope.locals.items l.scope.next (phrases_in (drop l.next-index l.next-items)))
      ≡ with_slots (body_types l.initial.shapes) (found_all (env_of l.globals) l.fn.scope.locals.items l.initial.scope.next (phrases_in l.next-items));
  locals : l.scope.locals.items ≡ l.fn.scope.locals.items;
  slots : l.scope.next + slots_of_all (phrases_in (drop l.next-index l.next-items)) ≡ l.initial.scope.next + slots_of_all (phrases_in l.next-items);
}

abbrev pub invariant-bindings-loop-binding : goal.invariant-bindings-loop-binding
invariant-bindings-loop-binding l = record {
  found : with_slots (body_types l.shapes) (found_all (env_of l.globals) l.fn.scope.locals.items l.scope.next (bindings_in (drop l.binding-index l.binding-items)))
      ≡ with_slots (body_types l.initial.shapes) (found_all (env_of l.globals) l.fn.scope.locals.items l.initial.scope.next (bindings_in l.binding-items));
  locals : l.scope.locals.items ≡ l.fn.scope.locals.items;
  slots : l.scope.next + slots_of_all (bindings_in (drop l.binding-index l.binding-items)) ≡ l.initial.scope.next + slots_of_all (bindings_in l.binding-items);
}

abbrev pub invariant-atoms-loop-next : goal.invariant-atoms-loop-next
invariant-atoms-loop-next l = record {
  found : with_slots (body_types l.shapes) (found_all (env_of l.globals) l.fn.scope.locals.items l.scope.next (atoms_in (drop l.next-index l.next-items)))
      ≡ with_slots (body_types l.initial.shapes) (found_all (env_of l.globals) l.fn.scope.locals.items l.initial.scope.next (atoms_in l.next-items));
  locals : l.scope.locals.items ≡ l.fn.scope.locals.items;
  slots : l.scope.next + slots_of_all (atoms_in (drop l.next-index l.next-items)) ≡ l.initial.scope.next + slots_of_all (atoms_in l.next-items);
}

abbrev pub invariant-lines-loop-next : goal.invariant-lines-loop-next
invariant-lines-loop-next l = record {
  found : with_slots (body_types l.shapes) (found_all (env_of l.globals) l.fn.scope.locals.items l.scope.next (lines_in (word_of l.name) (drop l.next-index l.next-items)))
      ≡ with_slots (body_types l.initial.shapes) (found_all (env_of l.globals) l.fn.scope.locals.items l.initial.scope.next (lines_in (word_of l.name) l.next-items));
  locals : l.scope.locals.items ≡ l.fn.scope.locals.items;
  slots : l.scope.next + slots_of_all (lines_in (word_of l.name) (drop l.next-index l.next-items)) ≡ l.initial.scope.next + slots_of_all (lines_in (word_of l.name) l.next-items);
}
