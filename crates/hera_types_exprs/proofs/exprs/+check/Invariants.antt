use Rattle.std.proofs.Common.{◌≡◌, ◌+◌, ◌*◌, [], drop}
use Rattle.std.specs.Prelude.{max}
use Rattle.hera_syntax.proofs.expr.Expr.TheLaws.{the_size}
use Rattle.hera_syntax.specs.declared.expr.Expr.{out-Expr}
use Rattle.hera_rules.specs.Environments.{env_of}
use Rattle.hera_rules.specs.Read.{expr_uses_in, phrases_in, bindings_in, atoms_in, lines_in, word_of}
use Rattle.hera_rules.specs.Agrees.{steps_of, typings_of}
use Rattle.hera_rules.specs.Typing.{slots_of_uses, slots_of_all}
use Rattle.hera_rules.specs.Checked.{check_uses, check_all}
use Rattle.hera_types_exprs.proofs.exprs.+check.Given as goal

-- each call goes down the tree, or hands it on as it is to a function that stands below
abbrev pub decreases-expr : goal.decreases-expr
decreases-expr l = 2 * goal.size-expr l

abbrev pub decreases-operand : goal.decreases-operand
decreases-operand l = 2 * goal.size-operand l

abbrev pub decreases-prefix : goal.decreases-prefix
decreases-prefix l = 2 * goal.size-prefix l

abbrev pub decreases-post : goal.decreases-post
decreases-post l = 2 * goal.size-post l

abbrev pub decreases-args : goal.decreases-args
decreases-args l = 2 * goal.size-args l

abbrev pub decreases-bindings : goal.decreases-bindings
decreases-bindings l = 2 * goal.size-bindings l

abbrev pub decreases-atoms : goal.decreases-atoms
decreases-atoms l = 2 * goal.size-atoms l

abbrev pub decreases-atom : goal.decreases-atom
decreases-atom l = 2 * goal.size-atom l

abbrev pub decreases-lines : goal.decreases-lines
decreases-lines l = 2 * goal.size-lines l

abbrev pub decreases-line : goal.decreases-line
decreases-line l = 2 * goal.size-line l

abbrev pub decreases-prime : goal.decreases-prime
decreases-prime l = 2 * goal.size-prime l + 1

abbrev pub decreases-many_parts : goal.decreases-many_parts
decreases-many_parts l = 2 * goal.size-many_parts l

abbrev pub decreases-one_part : goal.decreases-one_part
decreases-one_part l = 2 * goal.size-one_part l

abbrev pub decreases-call : goal.decreases-call
decreases-call l = 2 * goal.size-call l + 1

abbrev pub decreases-row : goal.decreases-row
decreases-row l = 2 * goal.size-row l + 1

abbrev pub decreases-delta : goal.decreases-delta
decreases-delta l = 2 * goal.size-delta l + 1

abbrev pub decreases-rows : goal.decreases-rows
decreases-rows l = 2 * goal.size-rows l + 1

abbrev pub decreases-walk : goal.decreases-walk
decreases-walk l = 2 * max (the_size l.over.now) (the_size l.body.now) + 1

abbrev pub decreases-pair : goal.decreases-pair
decreases-pair l = 2 * max (the_size l.left.now) (the_size l.right.now) + 1

abbrev pub invariant-expr-loop-tail : goal.invariant-expr-loop-tail
invariant-expr-loop-tail l = record {
  checked : check_uses (env_of l.globals) l.fn.scope.locals.items l.initial.scope.next l.initial.chain.shape [] (expr_uses_in (out-Expr l.e).level l.tail-items)
      ≡ check_uses (env_of l.globals) l.fn.scope.locals.items l.scope.next l.chain.shape (steps_of l.chain.items.items) (expr_uses_in (out-Expr l.e).level (drop l.tail-index l.tail-items));
  locals : l.scope.locals.items ≡ l.fn.scope.locals.items;
  slots : l.scope.next + slots_of_uses (expr_uses_in (out-Expr l.e).level (drop l.tail-index l.tail-items)) ≡ l.initial.scope.next + slots_of_uses (expr_uses_in (out-Expr l.e).level l.tail-items);
  first : l.chain.first ≡ l.initial.chain.first;
}

abbrev pub invariant-args-loop-next : goal.invariant-args-loop-next
invariant-args-loop-next l = record {
  checked : check_all (env_of l.globals) l.fn.scope.locals.items l.initial.scope.next (typings_of l.initial.all.items) (phrases_in l.next-items)
      ≡ check_all (env_of l.globals) l.fn.scope.locals.items l.scope.next (typings_of l.all.items) (phrases_in (drop l.next-index l.next-items));
  locals : l.scope.locals.items ≡ l.fn.scope.locals.items;
  slots : l.scope.next + slots_of_all (phrases_in (drop l.next-index l.next-items)) ≡ l.initial.scope.next + slots_of_all (phrases_in l.next-items);
}

abbrev pub invariant-bindings-loop-binding : goal.invariant-bindings-loop-binding
invariant-bindings-loop-binding l = record {
  checked : check_all (env_of l.globals) l.fn.scope.locals.items l.initial.scope.next (typings_of l.initial.all.items) (bindings_in l.binding-items)
      ≡ check_all (env_of l.globals) l.fn.scope.locals.items l.scope.next (typings_of l.all.items) (bindings_in (drop l.binding-index l.binding-items));
  locals : l.scope.locals.items ≡ l.fn.scope.locals.items;
  slots : l.scope.next + slots_of_all (bindings_in (drop l.binding-index l.binding-items)) ≡ l.initial.scope.next + slots_of_all (bindings_in l.binding-items);
}

abbrev pub invariant-atoms-loop-next : goal.invariant-atoms-loop-next
invariant-atoms-loop-next l = record {
  checked : check_all (env_of l.globals) l.fn.scope.locals.items l.initial.scope.next (typings_of l.initial.all.items) (atoms_in l.next-items)
      ≡ check_all (env_of l.globals) l.fn.scope.locals.items l.scope.next (typings_of l.all.items) (atoms_in (drop l.next-index l.next-items));
  locals : l.scope.locals.items ≡ l.fn.scope.locals.items;
  slots : l.scope.next + slots_of_all (atoms_in (drop l.next-index l.next-items)) ≡ l.initial.scope.next + slots_of_all (atoms_in l.next-items);
}

abbrev pub invariant-lines-loop-next : goal.invariant-lines-loop-next
invariant-lines-loop-next l = record {
  checked : check_all (env_of l.globals) l.fn.scope.locals.items l.initial.scope.next (typings_of l.initial.all.items) (lines_in (word_of l.name) l.next-items)
      ≡ check_all (env_of l.globals) l.fn.scope.locals.items l.scope.next (typings_of l.all.items) (lines_in (word_of l.name) (drop l.next-index l.next-items));
  locals : l.scope.locals.items ≡ l.fn.scope.locals.items;
  slots : l.scope.next + slots_of_all (lines_in (word_of l.name) (drop l.next-index l.next-items)) ≡ l.initial.scope.next + slots_of_all (lines_in (word_of l.name) l.next-items);
}
