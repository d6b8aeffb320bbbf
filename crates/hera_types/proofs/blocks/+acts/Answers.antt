use Rattle.std.proofs.Common.{◌≡◌, ◌+◌, sym, ap, ◌∙◌, refl, arith, [], ◌∷◌, ◌++◌}
use Rattle.std.specs.Prelude.{Ok, is_some}
use Rattle.hera_meaning.specs.declared.trees.Stmt.TheVariants.{Rollback}
use Rattle.hera_meaning.specs.declared.trees.Stmt.TheViews as stmt_view
use Rattle.hera_meaning.specs.Trees.{foreach, commit, rollback}
use Rattle.hera_meaning.specs.Plain.{command_of, expr_of}
use Rattle.hera_meaning.proofs.PlainLaws.{command_of-If, command_of-Foreach, command_of-Rollback}
use Rattle.hera_rules.proofs.ReadActLaws.{act_of-Commit, act_of-Rollback}
use Rattle.hera_rules.specs.declared.env.Typed.{Typed}
use Rattle.hera_rules.specs.Agrees.{typing_of}
use Rattle.hera_rules.specs.Environments.{env_of}
use Rattle.hera_rules.specs.Phrases.{Branches, branch, choosing, looping, visiting, no_act, committing, rolling_back}
use Rattle.hera_rules.specs.Read.{expr_phrase, word_of}
use Rattle.hera_rules.specs.ReadActs.{label_of, act_of, acts_in, block_acts, branches_in, last_in}
use Rattle.hera_rules.specs.Rules.{variable_row}
use Rattle.hera_rules.specs.Typing.{slots_of}
use Rattle.hera_rules.specs.Checked.{check}
use Rattle.hera_rules.specs.Commands.{done, block_from, effect_row}
use Rattle.hera_rules.specs.Statements.{slots_of_acts, slots_of_branches}
use Rattle.hera_rules.specs.CheckedActs.{stays, check_act, check_acts}
use Rattle.hera_types_parts.proofs.Giving.{gives_err}
use Rattle.hera_types.specs.Scopes.{commands_of, commands_in, armed_in, all_armed}
use Rattle.hera_types.proofs.Block_lemmas.{act_row, act_err, arm_at, arms_begin, if_done, while_done, extends_none, extends_one, extends_on, cut_back, block_of_commands, acts_more, acts_none, branches_more, branches_none, commands_more, armed_more, acts_turn, acts_stop, acts_end, branches_turn, branches_stop, branches_end, choose_arm_breaks, choose_last_breaks, loop_breaks, visit_operand, visit_variable, visit_body, visit_done}
use Rattle.hera_types.proofs.blocks.+acts.Goals as goal

pub block-loop-stmt-preserved : goal.block-loop-stmt-preserved
block-loop-stmt-preserved t c =
    let inv = c.loop-stmt.invariant in
    let more = acts_more c.deref-stmt-items.result.now c.loop-stmt.stmt-index c.stmt-item.result c.loop-stmt-test.true c.stmt-item.is in
    let s = c.in_ok-core.ensures in
    record {
      checked = inv.checked ∙ acts_turn (env_of c.args.globals.now) c.args.returned.now c.loop-stmt.scope.locals.items c.loop-stmt.scope.next (commands_in c.loop-stmt.all.items)
          more s.checks s.next (commands_more c.loop-stmt.all.items c.in_ok-core.core c.in_ok-put.ensures);
      locals = extends_on inv.locals s.grows;
      slots = omega (arith, inv.slots, s.next, ap slots_of_acts more);
    }

pub block-returns-in_err-core-clause-checks : goal.block-returns-in_err-core-clause-checks
block-returns-in_err-core-clause-checks t c =
    let g = env_of c.args.globals.now in
    let r = c.args.returned.now in
    let inv = c.loop-stmt.invariant in
    let more = acts_more c.deref-stmt-items.result.now c.loop-stmt.stmt-index c.stmt-item.result c.loop-stmt-test.true c.stmt-item.is in
    gives_err commands_of _ c.from_residual.ensures.1 (λ ne.
    ap (λ xs. check_acts g r c.args.scope.now.locals.items c.args.scope.now.next [] (acts_in xs)) (sym c.deref-stmt-items.ensures.value) ∙ inv.checked
    ∙ acts_stop g r c.loop-stmt.scope.locals.items c.loop-stmt.scope.next (commands_in c.loop-stmt.all.items) more (c.in_err-core.ensures.checks ne))

pub block-returns-clause-checks : goal.block-returns-clause-checks
block-returns-clause-checks t c =
    let g = env_of c.args.globals.now in
    let r = c.args.returned.now in
    let inv = c.loop-stmt.invariant in
    ap (λ xs. check_acts g r c.args.scope.now.locals.items c.args.scope.now.next [] (acts_in xs)) (sym c.deref-stmt-items.ensures.value) ∙ inv.checked
    ∙ acts_end g r c.loop-stmt.scope.locals.items c.loop-stmt.scope.next (commands_in c.loop-stmt.all.items) (acts_none c.deref-stmt-items.result.now c.loop-stmt.stmt-index c.loop-stmt-test.false)

pub block-returns-clause-keeps : goal.block-returns-clause-keeps
block-returns-clause-keeps t c =
    let inv = c.loop-stmt.invariant in
    let whole = ap (λ xs. slots_of_acts (acts_in xs)) c.deref-stmt-items.ensures.value in
    let none = ap slots_of_acts (acts_none c.deref-stmt-items.result.now c.loop-stmt.stmt-index c.loop-stmt-test.false) in
    record {
      locals = c.leave.ensures.locals ∙ cut_back inv.locals c.visible-depth.ensures;
      next = omega (arith, inv.slots, whole, none, c.leave.ensures.next);
    }

pub arms-loop-next-init : goal.arms-loop-next-init
arms-loop-next-init t c = record { checked = refl; locals = c.in_ok-front.ensures.keeps.locals; slots = refl }

pub arms-loop-next-preserved : goal.arms-loop-next-preserved
arms-loop-next-preserved t c =
    let g = env_of c.args.globals.now in
    let r = c.args.returned.now in
    let ls = c.args.scope.now.locals.items in
    let inv = c.loop-next.invariant in
    let x = c.next-item.result in
    let more = branches_more c.args.else_ifs.now c.loop-next.next-index x c.loop-next-test.true c.next-item.is in
    let a = c.in_ok-more.ensures in
    record {
      checked = inv.checked ∙ branches_turn g r ls c.loop-next.scope.next (armed_in c.loop-next.all.items) more
          (arm_at g r c.loop-next.scope.next x.word.at (expr_phrase x.condition) (block_acts x.block) inv.locals a.checks) a.keeps.next (armed_more c.loop-next.all.items c.in_ok-more.more c.in_ok-put-2.ensures);
      locals = a.keeps.locals ∙ inv.locals;
      slots = omega (arith, inv.slots, a.keeps.next, ap slots_of_branches more);
    }

pub arms-returns-in_err-front-clause-checks : goal.arms-returns-in_err-front-clause-checks
arms-returns-in_err-front-clause-checks t c =
    let rest = branches_in c.args.else_ifs.now in
    let whole : Branches = branch c.args.at (expr_phrase c.args.condition.now) (block_acts c.args.first.now) rest in
    let same : whole ≡ branch c.args.at (expr_phrase c.args.condition.now) (block_acts c.args.first.now) rest = refl in
    gives_err all_armed _ c.from_residual.ensures.1
    (λ ne. branches_stop (env_of c.args.globals.now) c.args.returned.now c.args.scope.now.locals.items c.args.scope.now.next [] same (c.in_err-front.ensures.checks ne))

pub arms-returns-in_err-more-clause-checks : goal.arms-returns-in_err-more-clause-checks
arms-returns-in_err-more-clause-checks t c =
    let g = env_of c.args.globals.now in
    let r = c.args.returned.now in
    let ls = c.args.scope.now.locals.items in
    let inv = c.loop-next.invariant in
    let xs = c.args.else_ifs.now in
    let front = c.in_ok-front in
    let x = c.next-item.result in
    let more = branches_more xs c.loop-next.next-index x c.loop-next-test.true c.next-item.is in
    gives_err all_armed _ c.from_residual-in_err-more.ensures.1 (λ ne.
    arms_begin g r ls c.args.scope.now.next c.args.at (expr_phrase c.args.condition.now) (block_acts c.args.first.now) (branches_in xs)
    front.front front.ensures.checks front.ensures.keeps.next c.new-all.ensures.items c.in_ok-put.ensures
    ∙ inv.checked ∙ branches_stop g r ls c.loop-next.scope.next (armed_in c.loop-next.all.items) more
    (arm_at g r c.loop-next.scope.next x.word.at (expr_phrase x.condition) (block_acts x.block) inv.locals (c.in_err-more.ensures.checks ne)))

pub arms-returns-clause-checks : goal.arms-returns-clause-checks
arms-returns-clause-checks t c =
    let g = env_of c.args.globals.now in
    let r = c.args.returned.now in
    let ls = c.args.scope.now.locals.items in
    let xs = c.args.else_ifs.now in
    let front = c.in_ok-front in
    arms_begin g r ls c.args.scope.now.next c.args.at (expr_phrase c.args.condition.now) (block_acts c.args.first.now) (branches_in xs)
    front.front front.ensures.checks front.ensures.keeps.next c.new-all.ensures.items c.in_ok-put.ensures
    ∙ c.loop-next.invariant.checked
    ∙ branches_end g r ls c.loop-next.scope.next (armed_in c.loop-next.all.items) (branches_none xs c.loop-next.next-index c.loop-next-test.false)

pub arms-returns-clause-keeps : goal.arms-returns-clause-keeps
arms-returns-clause-keeps t c =
    let inv = c.loop-next.invariant in
    let none = ap slots_of_branches (branches_none c.args.else_ifs.now c.loop-next.next-index c.loop-next-test.false) in
    record {
      locals = inv.locals;
      next = omega (arith, inv.slots, none, c.in_ok-front.ensures.keeps.next);
    }

pub branches-returns-in_err-all-clause-checks : goal.branches-returns-in_err-all-clause-checks
branches-returns-in_err-all-clause-checks t c =
    let whole : Branches = branch c.args.at (expr_phrase c.args.condition.now) (block_acts c.args.first.now) (branches_in c.args.else_ifs.now) in
    let last = last_in c.args.last.now in
    let same : choosing whole last ≡ choosing whole last = refl in
    let g = env_of c.args.globals.now in
    let r = c.args.returned.now in
    let ls = c.args.scope.now.locals.items in
    let n = c.args.scope.now.next in
    act_err g r ls n (choosing whole last) _ _ c.from_residual.ensures.1 (λ ne. choose_arm_breaks g r ls n same (c.in_err-all.ensures.checks ne))

pub branches-returns-in_err-other-in-Some-clause-checks : goal.branches-returns-in_err-other-in-Some-clause-checks
branches-returns-in_err-other-in-Some-clause-checks t c =
    let g = env_of c.args.globals.now in
    let r = c.args.returned.now in
    let ls = c.args.scope.now.locals.items in
    let n = c.args.scope.now.next in
    let whole : Branches = branch c.args.at (expr_phrase c.args.condition.now) (block_acts c.args.first.now) (branches_in c.args.else_ifs.now) in
    let inner = c.in-Some.inner in
    let last : choosing whole (last_in c.args.last.now) ≡ choosing whole (block_acts inner) = ap (λ l. choosing whole (last_in l)) c.in-Some.is in
    let kept = c.in_ok-all.ensures.keeps in
    act_err g r ls n (choosing whole (last_in c.args.last.now)) _ _ c.from_residual-in_err-other-in-Some.ensures.1 (λ ne. choose_last_breaks g r ls n last c.in_ok-all.ensures.checks kept.next
    (ap (λ ls. check_acts g r ls c.arms.new.scope.next [] (block_acts inner)) (sym kept.locals) ∙ c.in_err-other-in-Some.ensures.checks ne))

pub branches-returns-in_ok-other-in-Some-clause-checks : goal.branches-returns-in_ok-other-in-Some-clause-checks
branches-returns-in_ok-other-in-Some-clause-checks t c =
    let g = env_of c.args.globals.now in
    let r = c.args.returned.now in
    let ls = c.args.scope.now.locals.items in
    let n = c.args.scope.now.next in
    let whole : Branches = branch c.args.at (expr_phrase c.args.condition.now) (block_acts c.args.first.now) (branches_in c.args.else_ifs.now) in
    let inner = c.in-Some.inner in
    let last : choosing whole (last_in c.args.last.now) ≡ choosing whole (block_acts inner) = ap (λ l. choosing whole (last_in l)) c.in-Some.is in
    let all = c.in_ok-all in
    let kept = all.ensures.keeps in
    let other = c.in_ok-other-in-Some in
    if_done g r ls n all.all.items other.other.items c.block.new.scope.locals.items (stmt_view.If all.all other.other) last all.ensures.checks kept.next
    (ap (λ ls. check_acts g r ls c.arms.new.scope.next [] (block_acts inner)) (sym kept.locals) ∙ other.ensures.checks)
    (other.ensures.keeps.locals ∙ kept.locals) (command_of-If all.all other.other)

pub branches-returns-in_ok-other-in-Some-clause-next : goal.branches-returns-in_ok-other-in-Some-clause-next
branches-returns-in_ok-other-in-Some-clause-next t c =
    let last = ap (λ l. slots_of_acts (last_in l)) c.in-Some.is in
    omega (arith, last, c.in_ok-all.ensures.keeps.next, c.in_ok-other-in-Some.ensures.keeps.next)

pub branches-returns-in_ok-other-in-Some-clause-grows : goal.branches-returns-in_ok-other-in-Some-clause-grows
branches-returns-in_ok-other-in-Some-clause-grows t c = extends_none (c.in_ok-other-in-Some.ensures.keeps.locals ∙ c.in_ok-all.ensures.keeps.locals)

pub branches-returns-in-None-clause-checks : goal.branches-returns-in-None-clause-checks
branches-returns-in-None-clause-checks t c =
    let g = env_of c.args.globals.now in
    let r = c.args.returned.now in
    let ls = c.args.scope.now.locals.items in
    let n = c.args.scope.now.next in
    let whole : Branches = branch c.args.at (expr_phrase c.args.condition.now) (block_acts c.args.first.now) (branches_in c.args.else_ifs.now) in
    let last : choosing whole (last_in c.args.last.now) ≡ choosing whole no_act = ap (λ l. choosing whole (last_in l)) c.in-None.is in
    let all = c.in_ok-all in
    let kept = all.ensures.keeps in
    let empty = c.new.result in
    if_done g r ls n all.all.items empty.items c.arms.new.scope.locals.items (stmt_view.If all.all empty) last all.ensures.checks kept.next
    (ap (λ ss. Ok (commands_in ss)) (sym c.new.ensures.items)) kept.locals (command_of-If all.all empty)

pub branches-returns-in-None-clause-next : goal.branches-returns-in-None-clause-next
branches-returns-in-None-clause-next t c =
    let last = ap (λ l. slots_of_acts (last_in l)) c.in-None.is in
    omega (arith, last, c.in_ok-all.ensures.keeps.next)

pub branches-returns-in-None-clause-grows : goal.branches-returns-in-None-clause-grows
branches-returns-in-None-clause-grows t c = extends_none c.in_ok-all.ensures.keeps.locals

pub repeat-returns-in_err-front-clause-checks : goal.repeat-returns-in_err-front-clause-checks
repeat-returns-in_err-front-clause-checks t c =
    let g = env_of c.args.globals.now in
    let r = c.args.returned.now in
    let ls = c.args.scope.now.locals.items in
    let n = c.args.scope.now.next in
    let loop = looping c.args.at (expr_phrase c.args.condition.now) (block_acts c.args.inner.now) in
    let same : loop ≡ looping c.args.at (expr_phrase c.args.condition.now) (block_acts c.args.inner.now) = refl in
    act_err g r ls n loop _ _ c.from_residual.ensures.1 (λ ne. loop_breaks g r ls n same (c.in_err-front.ensures.checks ne))

pub repeat-returns-clause-checks : goal.repeat-returns-clause-checks
repeat-returns-clause-checks t c =
    let g = env_of c.args.globals.now in
    let r = c.args.returned.now in
    let ls = c.args.scope.now.locals.items in
    let n = c.args.scope.now.next in
    let loop = looping c.args.at (expr_phrase c.args.condition.now) (block_acts c.args.inner.now) in
    let same : loop ≡ looping c.args.at (expr_phrase c.args.condition.now) (block_acts c.args.inner.now) = refl in
    let front = c.in_ok-front in
    while_done g r ls n front.front c.arm.new.scope.locals.items c.while_of.result same front.ensures.checks front.ensures.keeps.locals c.while_of.ensures

pub repeat-returns-clause-grows : goal.repeat-returns-clause-grows
repeat-returns-clause-grows t c = extends_none c.in_ok-front.ensures.keeps.locals

pub visit-returns-in_err-of-clause-checks : goal.visit-returns-in_err-of-clause-checks
visit-returns-in_err-of-clause-checks t c =
    let g = env_of c.args.globals.now in
    let r = c.args.returned.now in
    let ls = c.args.scope.now.locals.items in
    let n = c.args.scope.now.next in
    let read : visiting c.args.at (word_of c.args.name.now) (expr_phrase c.args.over.now) (block_acts c.args.inner.now) ≡ visiting c.args.at (word_of c.args.name.now) (expr_phrase c.args.over.now) (block_acts c.args.inner.now) = refl in
    let p = expr_phrase c.args.over.now in
    let slot = c.in_ok-slot in
    let took = slot.ensures.keeps in
    act_err g r ls n _ _ _ c.from_residual-in_err-of.ensures.1 (λ ne. visit_operand g r ls n read
    (ap (λ ls. check g ls (n + 1) p) (sym took.locals) ∙ ap (λ m. check g c.take_slot.new.self.locals.items m p) (sym took.next) ∙ c.in_err-of.ensures.checks ne))

pub visit-returns-in_err-local-clause-checks : goal.visit-returns-in_err-local-clause-checks
visit-returns-in_err-local-clause-checks t c =
    let g = env_of c.args.globals.now in
    let r = c.args.returned.now in
    let ls = c.args.scope.now.locals.items in
    let n = c.args.scope.now.next in
    let read : visiting c.args.at (word_of c.args.name.now) (expr_phrase c.args.over.now) (block_acts c.args.inner.now) ≡ visiting c.args.at (word_of c.args.name.now) (expr_phrase c.args.over.now) (block_acts c.args.inner.now) = refl in
    let p = expr_phrase c.args.over.now in
    let slot = c.in_ok-slot in
    let took = slot.ensures.keeps in
    let typed : check g ls (n + 1) p ≡ Ok (typing_of c.in_ok-of.of) =
    ap (λ ls. check g ls (n + 1) p) (sym took.locals) ∙ ap (λ m. check g c.take_slot.new.self.locals.items m p) (sym took.next) ∙ c.in_ok-of.ensures.checks in
    let of = c.in_ok-of in
    let same = of.ensures.keeps.locals ∙ took.locals in
    act_err g r ls n _ _ _ c.from_residual-in_err-local.ensures.1 (λ ne. visit_variable g r ls n read typed
    (ap (λ ls. variable_row g ls (word_of c.args.name.now) c.args.at n of.of.shape) (sym same)
    ∙ ap (λ i. variable_row g c.expr.new.scope.locals.items (word_of c.args.name.now) c.args.at i of.of.shape) (sym slot.ensures.slot) ∙ c.in_err-local.ensures ne))

pub visit-returns-in_err-body-clause-checks : goal.visit-returns-in_err-body-clause-checks
visit-returns-in_err-body-clause-checks t c =
    let g = env_of c.args.globals.now in
    let r = c.args.returned.now in
    let ls = c.args.scope.now.locals.items in
    let n = c.args.scope.now.next in
    let read : visiting c.args.at (word_of c.args.name.now) (expr_phrase c.args.over.now) (block_acts c.args.inner.now) ≡ visiting c.args.at (word_of c.args.name.now) (expr_phrase c.args.over.now) (block_acts c.args.inner.now) = refl in
    let p = expr_phrase c.args.over.now in
    let slot = c.in_ok-slot in
    let took = slot.ensures.keeps in
    let typed : check g ls (n + 1) p ≡ Ok (typing_of c.in_ok-of.of) =
    ap (λ ls. check g ls (n + 1) p) (sym took.locals) ∙ ap (λ m. check g c.take_slot.new.self.locals.items m p) (sym took.next) ∙ c.in_ok-of.ensures.checks in
    let of = c.in_ok-of in
    let same = of.ensures.keeps.locals ∙ took.locals in
    let variable : variable_row g ls (word_of c.args.name.now) c.args.at n of.of.shape ≡ Ok c.in_ok-local.local =
    ap (λ ls. variable_row g ls (word_of c.args.name.now) c.args.at n of.of.shape) (sym same)
    ∙ ap (λ i. variable_row g c.expr.new.scope.locals.items (word_of c.args.name.now) c.args.at i of.of.shape) (sym slot.ensures.slot) ∙ c.in_ok-local.ensures in
    let local = c.in_ok-local.local in
    let pushed : ls ++ local ∷ [] ≡ c.push_local.new.self.locals.items = ap (λ ls. ls ++ local ∷ []) (sym same) ∙ sym c.in_ok-push_local.ensures.locals in
    let count : c.push_local.new.self.next ≡ n + 1 + slots_of p = omega (arith, took.next, of.ensures.keeps.next, c.in_ok-push_local.ensures.next) in
    let acts = block_acts c.args.inner.now in
    act_err g r ls n _ _ _ c.from_residual-in_err-body.ensures.1 (λ ne. visit_body g r ls n read typed variable count
    (ap (λ ls. check_acts g r ls c.push_local.new.self.next [] acts) pushed ∙ c.in_err-body.ensures.checks ne))

pub visit-returns-clause-checks : goal.visit-returns-clause-checks
visit-returns-clause-checks t c =
    let g = env_of c.args.globals.now in
    let r = c.args.returned.now in
    let ls = c.args.scope.now.locals.items in
    let n = c.args.scope.now.next in
    let read : visiting c.args.at (word_of c.args.name.now) (expr_phrase c.args.over.now) (block_acts c.args.inner.now) ≡ visiting c.args.at (word_of c.args.name.now) (expr_phrase c.args.over.now) (block_acts c.args.inner.now) = refl in
    let p = expr_phrase c.args.over.now in
    let slot = c.in_ok-slot in
    let took = slot.ensures.keeps in
    let typed : check g ls (n + 1) p ≡ Ok (typing_of c.in_ok-of.of) =
    ap (λ ls. check g ls (n + 1) p) (sym took.locals) ∙ ap (λ m. check g c.take_slot.new.self.locals.items m p) (sym took.next) ∙ c.in_ok-of.ensures.checks in
    let of = c.in_ok-of in
    let same = of.ensures.keeps.locals ∙ took.locals in
    let variable : variable_row g ls (word_of c.args.name.now) c.args.at n of.of.shape ≡ Ok c.in_ok-local.local =
    ap (λ ls. variable_row g ls (word_of c.args.name.now) c.args.at n of.of.shape) (sym same)
    ∙ ap (λ i. variable_row g c.expr.new.scope.locals.items (word_of c.args.name.now) c.args.at i of.of.shape) (sym slot.ensures.slot) ∙ c.in_ok-local.ensures in
    let local = c.in_ok-local.local in
    let pushed : ls ++ local ∷ [] ≡ c.push_local.new.self.locals.items = ap (λ ls. ls ++ local ∷ []) (sym same) ∙ sym c.in_ok-push_local.ensures.locals in
    let count : c.push_local.new.self.next ≡ n + 1 + slots_of p = omega (arith, took.next, of.ensures.keeps.next, c.in_ok-push_local.ensures.next) in
    let acts = block_acts c.args.inner.now in
    let body = c.in_ok-body in
    let left : c.leave.new.self.locals.items ≡ ls = c.leave.ensures.locals ∙ cut_back (extends_one local (body.ensures.keeps.locals ∙ sym pushed)) c.visible-depth.ensures in
    let core : foreach n (expr_of of.of.core) (block_from (commands_in body.body.items)) ≡ command_of (stmt_view.Foreach slot.slot c.into_core.result body.body) =
    ap (λ i. foreach i (expr_of of.of.core) (block_from (commands_in body.body.items))) (sym slot.ensures.slot)
    ∙ ap (λ e. foreach slot.slot (expr_of e) (block_from (commands_in body.body.items))) (sym (c.into_core.ensures ∙ ap (λ (v : Typed). v.core) c.into_typed-typed.ensures))
    ∙ ap (λ b. foreach slot.slot (expr_of c.into_core.result) b) (sym (block_of_commands body.body.items)) ∙ sym (command_of-Foreach slot.slot c.into_core.result body.body) in
    visit_done g r ls n read typed variable count (ap (λ ls. check_acts g r ls c.push_local.new.self.next [] acts) pushed ∙ body.ensures.checks)
    ∙ ap (λ ls. Ok (done ls (foreach n (expr_of of.of.core) (block_from (commands_in body.body.items))))) (sym left) ∙ ap (λ s. Ok (done c.leave.new.self.locals.items s)) core

pub visit-returns-clause-next : goal.visit-returns-clause-next
visit-returns-clause-next t c =
    omega (arith, c.in_ok-slot.ensures.keeps.next, c.in_ok-of.ensures.keeps.next, c.in_ok-push_local.ensures.next, c.in_ok-body.ensures.keeps.next, c.leave.ensures.next)

pub visit-returns-clause-grows : goal.visit-returns-clause-grows
visit-returns-clause-grows t c =
    let ls = c.args.scope.now.locals.items in
    let same = c.in_ok-of.ensures.keeps.locals ∙ c.in_ok-slot.ensures.keeps.locals in
    let local = c.in_ok-local.local in
    let pushed : ls ++ local ∷ [] ≡ c.push_local.new.self.locals.items = ap (λ ls. ls ++ local ∷ []) (sym same) ∙ sym c.in_ok-push_local.ensures.locals in
    extends_none (c.leave.ensures.locals ∙ cut_back (extends_one local (c.in_ok-body.ensures.keeps.locals ∙ sym pushed)) c.visible-depth.ensures)

pub statement-returns-in-Commit-clause-checks : goal.statement-returns-in-Commit-clause-checks
statement-returns-in-Commit-clause-checks t c =
    let g = env_of c.args.globals.now in
    let r = c.args.returned.now in
    let ls = c.args.scope.now.locals.items in
    let n = c.args.scope.now.next in
    let at = c.in-Commit.word.at in
    let label = label_of c.in-Commit.label in
    let read : act_of c.args.e.now ≡ committing at label = ap act_of c.in-Commit.is ∙ act_of-Commit c.in-Commit.word c.in-Commit.label in
    act_row g r ls n ls c.commit.result (act_of c.args.e.now) (effect_row (is_some r) at (commit label)) (ap (λ a. check_act g r ls n a) read) refl c.commit.ensures

pub statement-returns-in-Rollback-clause-checks : goal.statement-returns-in-Rollback-clause-checks
statement-returns-in-Rollback-clause-checks t c =
    let g = env_of c.args.globals.now in
    let r = c.args.returned.now in
    let ls = c.args.scope.now.locals.items in
    let n = c.args.scope.now.next in
    let at = c.in-Rollback.word.at in
    let func = c.is_some in
    let read : act_of c.args.e.now ≡ rolling_back at = ap act_of c.in-Rollback.is ∙ act_of-Rollback c.in-Rollback.word in
    act_row g r ls n ls c.check_effect.result (act_of c.args.e.now) (effect_row func.result at (command_of Rollback))
    (ap (λ a. check_act g r ls n a) read ∙ ap (λ b. stays ls (effect_row b at rollback)) (sym func.ensures) ∙ ap (λ s. stays ls (effect_row func.result at s)) (sym command_of-Rollback))
    refl c.check_effect.ensures
