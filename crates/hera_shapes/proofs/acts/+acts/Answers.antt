use Rattle.std.proofs.Common.{◌≡◌, ◌+◌, ◌++◌, ◌∷◌, [], refl, sym, ap, ◌∙◌, arith}
use Rattle.hera_meaning.specs.Shapes.{body_types}
use Rattle.hera_rules.specs.Environments.{env_of}
use Rattle.hera_rules.specs.Phrases.{Branches, branch, choosing}
use Rattle.hera_rules.proofs.ReadActLaws.{act_of-If, act_of-Commit, act_of-Rollback}
use Rattle.hera_rules.specs.Read.{expr_phrase, word_of}
use Rattle.hera_rules.specs.ReadActs.{act_of, acts_in, block_acts, branches_in, last_in}
use Rattle.hera_rules.specs.Statements.{slots_of_acts, slots_of_branches}
use Rattle.hera_rules.specs.Typing.{slots_of}
use Rattle.hera_types.proofs.Block_lemmas.{extends_on, cut_back, acts_more, acts_none, branches_more, branches_none}
use Rattle.hera_types_exprs.proofs.Levels.{left_behind}
use Rattle.hera_shapes.specs.Found.{found_acts, with_slots}
use Rattle.hera_shapes.proofs.Adding.{with_none, acts_step, acts_end, arm_at, branches_step, branches_end, extends_behind, arm_whole, choose_whole, visit_whole, same_act}
use Rattle.hera_shapes.proofs.acts.+acts.Goals as goal

pub block-loop-stmt-preserved : goal.block-loop-stmt-preserved
block-loop-stmt-preserved t c =
    let g = env_of c.args.globals.now in
    let inv = c.loop-stmt.invariant in
    let ls = c.loop-stmt.scope.locals.items in
    let n = c.loop-stmt.scope.next in
    let more = acts_more c.deref-stmt-items.result.now c.loop-stmt.stmt-index c.stmt-item.result c.loop-stmt-test.true c.stmt-item.is in
    let s = c.in_ok-statement.ensures in
    record {
      found = acts_step g ls c.statement.new.scope.locals.items n c.statement.new.scope.next (body_types c.loop-stmt.shapes) (body_types c.statement.new.shapes) more s.locals s.next s.found ∙ inv.found;
      locals = extends_on inv.locals (extends_behind g ls n (act_of c.stmt-item.result) s.locals);
      slots = omega (arith, inv.slots, s.next, ap slots_of_acts more);
    }

pub block-returns-clause-found : goal.block-returns-clause-found
block-returns-clause-found t c =
    let g = env_of c.args.globals.now in
    let ls = c.args.scope.now.locals.items in
    let n = c.args.scope.now.next in
    let inv = c.loop-stmt.invariant in
    sym (acts_end g c.loop-stmt.scope.locals.items c.loop-stmt.scope.next (body_types c.loop-stmt.shapes) (acts_none c.deref-stmt-items.result.now c.loop-stmt.stmt-index c.loop-stmt-test.false)) ∙ inv.found
    ∙ ap (λ xs. with_slots (body_types c.args.shapes.now) (found_acts g ls n (acts_in xs))) c.deref-stmt-items.ensures.value

pub block-returns-clause-keeps : goal.block-returns-clause-keeps
block-returns-clause-keeps t c =
    let inv = c.loop-stmt.invariant in
    let whole = ap (λ xs. slots_of_acts (acts_in xs)) c.deref-stmt-items.ensures.value in
    let none = ap slots_of_acts (acts_none c.deref-stmt-items.result.now c.loop-stmt.stmt-index c.loop-stmt-test.false) in
    record {
      locals = c.leave.ensures.locals ∙ cut_back inv.locals c.visible-depth.ensures;
      next = omega (arith, inv.slots, whole, none, c.leave.ensures.next);
    }

pub arm-returns-clause-found : goal.arm-returns-clause-found
arm-returns-clause-found t c =
    let e = c.in_ok-expression.ensures in
    arm_whole (env_of c.args.globals.now) c.args.scope.now.locals.items c.args.scope.now.next (expr_phrase c.args.condition.now) (block_acts c.args.inner.now) (body_types c.args.shapes.now) (body_types c.expression.new.shapes) (body_types c.block.new.shapes)
    e.found e.keeps.locals e.keeps.next c.in_ok-block.ensures.found

pub arm-returns-clause-keeps : goal.arm-returns-clause-keeps
arm-returns-clause-keeps t c =
    let e = c.in_ok-expression.ensures.keeps in
    let b = c.in_ok-block.ensures.keeps in
    record { locals = b.locals ∙ e.locals; next = omega (arith, e.next, b.next) }

pub arms-loop-next-init : goal.arms-loop-next-init
arms-loop-next-init t c = record { found = refl; locals = c.in_ok-arm.ensures.keeps.locals; slots = refl }

pub arms-loop-next-preserved : goal.arms-loop-next-preserved
arms-loop-next-preserved t c =
    let g = env_of c.args.globals.now in
    let inv = c.loop-next.invariant in
    let n = c.loop-next.scope.next in
    let x = c.next-item.result in
    let p = expr_phrase x.condition in
    let more = branches_more c.args.else_ifs.now c.loop-next.next-index x c.loop-next-test.true c.next-item.is in
    let a = c.in_ok-arm-2.ensures in
    record {
      found = branches_step g c.args.scope.now.locals.items n c.arm-in-loop-next.new.scope.next (body_types c.loop-next.shapes) (body_types c.arm-in-loop-next.new.shapes) more a.keeps.next
          (arm_at g n (n + slots_of p) p (block_acts x.block) (body_types c.loop-next.shapes) (body_types c.arm-in-loop-next.new.shapes) inv.locals a.found)
          ∙ inv.found;
      locals = a.keeps.locals ∙ inv.locals;
      slots = omega (arith, inv.slots, a.keeps.next, ap slots_of_branches more);
    }

pub arms-returns-clause-found : goal.arms-returns-clause-found
arms-returns-clause-found t c =
    let g = env_of c.args.globals.now in
    let ls = c.args.scope.now.locals.items in
    let whole : Branches = branch c.args.at (expr_phrase c.args.condition.now) (block_acts c.args.first.now) (branches_in c.args.else_ifs.now) in
    let same : whole ≡ branch c.args.at (expr_phrase c.args.condition.now) (block_acts c.args.first.now) (branches_in c.args.else_ifs.now) = refl in
    let first = c.in_ok-arm.ensures in
    sym (branches_end g ls c.loop-next.scope.next (body_types c.loop-next.shapes) (branches_none c.args.else_ifs.now c.loop-next.next-index c.loop-next-test.false)) ∙ c.loop-next.invariant.found
    ∙ branches_step g ls c.args.scope.now.next c.arm.new.scope.next (body_types c.args.shapes.now) (body_types c.arm.new.shapes) same first.keeps.next first.found

pub arms-returns-clause-keeps : goal.arms-returns-clause-keeps
arms-returns-clause-keeps t c =
    let inv = c.loop-next.invariant in
    let none = ap slots_of_branches (branches_none c.args.else_ifs.now c.loop-next.next-index c.loop-next-test.false) in
    record {
      locals = inv.locals;
      next = omega (arith, inv.slots, none, c.in_ok-arm.ensures.keeps.next);
    }

pub branches-returns-clause-found : goal.branches-returns-clause-found
branches-returns-clause-found t c =
    let whole : Branches = branch c.args.at (expr_phrase c.args.condition.now) (block_acts c.args.first.now) (branches_in c.args.else_ifs.now) in
    let a = c.in_ok-arms.ensures in
    choose_whole (env_of c.args.globals.now) c.args.scope.now.locals.items c.args.scope.now.next whole (last_in c.args.last.now) (body_types c.args.shapes.now) (body_types c.arms.new.shapes) (body_types c.last_block.new.shapes)
    a.found a.keeps.locals a.keeps.next c.in_ok-last_block.ensures.found

pub branches-returns-clause-keeps : goal.branches-returns-clause-keeps
branches-returns-clause-keeps t c =
    let a = c.in_ok-arms.ensures.keeps in
    let b = c.in_ok-last_block.ensures.keeps in
    record { locals = b.locals ∙ a.locals; next = omega (arith, a.next, b.next) }

pub visit-returns-clause-found : goal.visit-returns-clause-found
visit-returns-clause-found t c =
    let v = c.in_ok-seen.seen.variable in
    let k = c.in_ok-take_slot.ensures.keeps in
    let e = c.in_ok-expression.ensures in
    let p = c.in_ok-push_local.ensures in
    visit_whole (env_of c.args.globals.now) c.args.scope.now.locals.items c.args.scope.now.next c.args.at (word_of c.args.name.now) (expr_phrase c.args.over.now) (block_acts c.args.inner.now) v c.in_ok-seen.seen.gathers
    (body_types c.args.shapes.now) (body_types c.add_slot.new.shapes) (body_types c.expression.new.shapes) (body_types c.block.new.shapes) c.in_ok-seen.ensures c.in_ok-copy.ensures c.in_ok-add_slot.ensures k.locals k.next e.found
    (p.locals ∙ ap (λ ls. ls ++ v ∷ []) (e.keeps.locals ∙ k.locals)) (omega (arith, p.next, e.keeps.next, k.next)) c.in_ok-block.ensures.found

pub visit-returns-clause-keeps : goal.visit-returns-clause-keeps
visit-returns-clause-keeps t c =
    let v = c.in_ok-seen.seen.variable in
    let k = c.in_ok-take_slot.ensures.keeps in
    let e = c.in_ok-expression.ensures.keeps in
    let p = c.in_ok-push_local.ensures in
    let b = c.in_ok-block.ensures.keeps in
    record {
      locals = c.leave.ensures.locals ∙ left_behind _ v _ (b.locals ∙ p.locals ∙ ap (λ ls. ls ++ v ∷ []) (e.locals ∙ k.locals)) c.visible-depth.ensures;
      next = omega (arith, c.leave.ensures.next, b.next, p.next, e.next, k.next);
    }

pub statement-returns-in_ok-branches-in-If-clause-found : goal.statement-returns-in_ok-branches-in-If-clause-found
statement-returns-in_ok-branches-in-If-clause-found t c =
    same_act (env_of c.args.globals.now) c.args.scope.now.locals.items c.args.scope.now.next (body_types c.args.shapes.now) _
    (ap (λ e. act_of e) c.in-If.is ∙ act_of-If _ _ _ _ _ _ ∙ ap (λ es. choosing (branch c.in-If.word.at (expr_phrase c.in-If.condition) (block_acts c.in-If.first) (branches_in es)) (last_in c.in-If.last)) (sym c.deref.ensures.value))
    c.in_ok-branches-in-If.ensures.found

pub statement-returns-in-Commit-clause-found : goal.statement-returns-in-Commit-clause-found
statement-returns-in-Commit-clause-found t c =
    let shapes = body_types c.args.shapes.now in
    same_act (env_of c.args.globals.now) c.args.scope.now.locals.items c.args.scope.now.next shapes shapes (ap (λ e. act_of e) c.in-Commit.is ∙ act_of-Commit _ _) (sym (with_none shapes))

pub statement-returns-in-Rollback-clause-found : goal.statement-returns-in-Rollback-clause-found
statement-returns-in-Rollback-clause-found t c =
    let shapes = body_types c.args.shapes.now in
    same_act (env_of c.args.globals.now) c.args.scope.now.locals.items c.args.scope.now.next shapes shapes (ap (λ e. act_of e) c.in-Rollback.is ∙ act_of-Rollback _) (sym (with_none shapes))
