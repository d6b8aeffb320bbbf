use Rattle.std.proofs.Common.{◌≡◌, ℕ, ◌+◌, ◌*◌, drop}
use Rattle.std.specs.Prelude.{max, Option, Some, None}
use denote.Param.Weighed.{most}
use Rattle.hera_syntax.specs.declared.tree.Block.{Block}
use Rattle.hera_syntax.proofs.tree.Block.TheLaws.{the_size}
use Rattle.hera_syntax.proofs.tree.ElseIf.TheLaws.{the_size as else_if_size}
use Rattle.hera_meaning.specs.Shapes.{body_types}
use Rattle.hera_rules.specs.Environments.{env_of}
use Rattle.hera_rules.specs.ReadActs.{acts_in, branches_in}
use Rattle.hera_rules.specs.Statements.{slots_of_acts, slots_of_branches}
use Rattle.hera_types.specs.Scopes.{Extends}
use Rattle.hera_shapes.specs.Found.{found_acts, found_branches, with_slots}
use Rattle.hera_shapes.proofs.acts.+acts.Given as goal

abbrev last_size : Option Block → ℕ
last_size None = 0
last_size (Some b) = the_size b

-- each call goes down the tree, or hands it on as it is to a function that stands below
abbrev pub decreases-block : goal.decreases-block
decreases-block l = 4 * goal.size-block l

abbrev pub decreases-statement : goal.decreases-statement
decreases-statement l = 4 * goal.size-statement l + 1

abbrev pub decreases-arm : goal.decreases-arm
decreases-arm l = 4 * the_size l.inner.now + 1

abbrev pub decreases-visit : goal.decreases-visit
decreases-visit l = 4 * the_size l.inner.now + 1

abbrev pub decreases-last_block : goal.decreases-last_block
decreases-last_block l = 4 * last_size l.last.now + 1

abbrev pub decreases-arms : goal.decreases-arms
decreases-arms l = 4 * max (the_size l.first.now) (most else_if_size l.else_ifs.now) + 2

abbrev pub decreases-branches : goal.decreases-branches
decreases-branches l = 4 * max (the_size l.first.now) (max (most else_if_size l.else_ifs.now) (last_size l.last.now)) + 3

abbrev pub invariant-block-loop-stmt : goal.invariant-block-loop-stmt
invariant-block-loop-stmt l = record {
  found : with_slots (body_types l.shapes) (found_acts (env_of l.globals) l.scope.locals.items l.scope.next (acts_in (drop l.stmt-index l.stmt-items)))
      ≡ with_slots (body_types l.initial.shapes) (found_acts (env_of l.globals) l.fn.scope.locals.items l.fn.scope.next (acts_in l.stmt-items));
  locals : Extends l.fn.scope.locals.items l.scope.locals.items;
  slots : l.scope.next + slots_of_acts (acts_in (drop l.stmt-index l.stmt-items)) ≡ l.fn.scope.next + slots_of_acts (acts_in l.stmt-items);
}

abbrev pub invariant-arms-loop-next : goal.invariant-arms-loop-next
invariant-arms-loop-next l = record {
  found : with_slots (body_types l.shapes) (found_branches (env_of l.globals) l.fn.scope.locals.items l.scope.next (branches_in (drop l.next-index l.else_ifs)))
      ≡ with_slots (body_types l.initial.shapes) (found_branches (env_of l.globals) l.fn.scope.locals.items l.initial.scope.next (branches_in l.else_ifs));
  locals : l.scope.locals.items ≡ l.fn.scope.locals.items;
  slots : l.scope.next + slots_of_branches (branches_in (drop l.next-index l.else_ifs)) ≡ l.initial.scope.next + slots_of_branches (branches_in l.else_ifs);
}
