-- The function of typing answers, for statements too, what the relations say.
use Rattle.std.proofs.Common.{◌≡◌, ℕ, List, refl}
use Rattle.std.specs.Prelude.{Ok, Err, Option}
use Rattle.hera_meaning.specs.declared.trees.Shape.{Shape}
use Rattle.hera_meaning.specs.Trees.{Command}
use Rattle.hera_rules.specs.declared.env.Local.{Local}
use Rattle.hera_rules.specs.declared.fault.TypeFault.{TypeFault}
use Rattle.hera_rules.specs.Environments.{Env}
use Rattle.hera_rules.specs.Phrases.{Act, Acts, Branches}
use Rattle.hera_rules.specs.Commands.{Done, Armed}
use Rattle.hera_rules.specs.Statements.{ElabAct, ElabActs, ElabBranches, BrokenAct, FirstAct, FirstActs, FirstBranches, declare_is, perform_is, choose_is, loop_is, visit_is, no_act_is, act_is, no_branch_is, branch_is, type_breaks, declare_breaks, perform_breaks, loop_breaks, visit_breaks, here, in_declared, in_perform, in_arms, in_last, in_condition, in_loop, in_visited, in_visit, in_this_act, in_later_act, in_branch, branch_breaks, in_branch_block, in_later_branch, assign_is, assign_breaks, in_assign, print_is, print_breaks, in_print, apply_is, apply_breaks, in_apply, assert_is, assert_breaks, in_assert, return_value_is, return_value_breaks, in_return_value, commit_is, commit_breaks, rollback_is, rollback_breaks, return_is, return_breaks}
use Rattle.hera_rules.specs.CheckedActs.{check_act, check_acts, check_branches}
use Rattle.hera_rules.proofs.Decides.{check-Elab, check_all-Elab, check-First, check_all-First}

mutual
  pub check-ElabAct : {g : Env} {r : Option Shape} {ls : List Local} {n : ℕ} {a : Act} {d : Done} → ElabAct g r ls n a d → check_act g r ls n a ≡ Ok d
  check-ElabAct (declare_is t e h) = rw (t, check-Elab e) h
  check-ElabAct (perform_is e h) = rw (check_all-Elab e, h) refl
  check-ElabAct (choose_is ready b) = rw (check-ElabBranches ready, check-ElabActs b) refl
  check-ElabAct (loop_is e h b) = rw (check-Elab e, h, check-ElabActs b) refl
  check-ElabAct (visit_is e h b) = rw (check-Elab e, h, check-ElabActs b) refl
  check-ElabAct (assign_is e h) = rw (check-Elab e, h) refl
  check-ElabAct (print_is e h) = rw (check-Elab e, h) refl
  check-ElabAct (apply_is e h) = rw (check-Elab e, h) refl
  check-ElabAct (assert_is e h) = rw (check-Elab e, h) refl
  check-ElabAct (return_value_is e h) = rw (check-Elab e, h) refl
  check-ElabAct (commit_is h) = rw h refl
  check-ElabAct (rollback_is h) = rw h refl
  check-ElabAct (return_is h) = rw h refl

  pub check-ElabActs : {g : Env} {r : Option Shape} {ls : List Local} {n : ℕ} {a : Acts} {cs all : List Command} → ElabActs g r ls n cs a all → check_acts g r ls n cs a ≡ Ok all
  check-ElabActs no_act_is = refl
  check-ElabActs (act_is e b) = rw (check-ElabAct e) (check-ElabActs b)

  pub check-ElabBranches : {g : Env} {r : Option Shape} {ls : List Local} {n : ℕ} {a : Branches} {ready all : List Armed} → ElabBranches g r ls n ready a all → check_branches g r ls n ready a ≡ Ok all
  check-ElabBranches no_branch_is = refl
  check-ElabBranches (branch_is e h b rest) = rw (check-Elab e, h, check-ElabActs b) (check-ElabBranches rest)

check-BrokenAct : {g : Env} {r : Option Shape} {ls : List Local} {n : ℕ} {a : Act} {f : TypeFault} → BrokenAct g r ls n a f → check_act g r ls n a ≡ Err f
check-BrokenAct (type_breaks t) = rw t refl
check-BrokenAct (declare_breaks t e h) = rw (t, check-Elab e) h
check-BrokenAct (perform_breaks e h) = rw (check_all-Elab e, h) refl
check-BrokenAct (loop_breaks e h) = rw (check-Elab e, h) refl
check-BrokenAct (visit_breaks e h) = rw (check-Elab e, h) refl
check-BrokenAct (assign_breaks e h) = rw (check-Elab e, h) refl
check-BrokenAct (print_breaks e h) = rw (check-Elab e, h) refl
check-BrokenAct (apply_breaks e h) = rw (check-Elab e, h) refl
check-BrokenAct (assert_breaks e h) = rw (check-Elab e, h) refl
check-BrokenAct (return_value_breaks e h) = rw (check-Elab e, h) refl
check-BrokenAct (commit_breaks h) = rw h refl
check-BrokenAct (rollback_breaks h) = rw h refl
check-BrokenAct (return_breaks h) = rw h refl

mutual
  pub check-FirstAct : {g : Env} {r : Option Shape} {ls : List Local} {n : ℕ} {a : Act} {f : TypeFault} → FirstAct g r ls n a f → check_act g r ls n a ≡ Err f
  check-FirstAct (here b) = check-BrokenAct b
  check-FirstAct (in_declared t d) = rw (t, check-First d) refl
  check-FirstAct (in_perform d) = rw (check_all-First d) refl
  check-FirstAct (in_arms d) = rw (check-FirstBranches d) refl
  check-FirstAct (in_last ready d) = rw (check-ElabBranches ready, check-FirstActs d) refl
  check-FirstAct (in_condition d) = rw (check-First d) refl
  check-FirstAct (in_loop e h d) = rw (check-Elab e, h, check-FirstActs d) refl
  check-FirstAct (in_visited d) = rw (check-First d) refl
  check-FirstAct (in_visit e h d) = rw (check-Elab e, h, check-FirstActs d) refl
  check-FirstAct (in_assign d) = rw (check-First d) refl
  check-FirstAct (in_print d) = rw (check-First d) refl
  check-FirstAct (in_apply d) = rw (check-First d) refl
  check-FirstAct (in_assert d) = rw (check-First d) refl
  check-FirstAct (in_return_value d) = rw (check-First d) refl

  pub check-FirstActs : {g : Env} {r : Option Shape} {ls : List Local} {n : ℕ} {a : Acts} {cs : List Command} {f : TypeFault} → FirstActs g r ls n cs a f → check_acts g r ls n cs a ≡ Err f
  check-FirstActs (in_this_act d) = rw (check-FirstAct d) refl
  check-FirstActs (in_later_act e d) = rw (check-ElabAct e) (check-FirstActs d)

  pub check-FirstBranches : {g : Env} {r : Option Shape} {ls : List Local} {n : ℕ} {a : Branches} {ready : List Armed} {f : TypeFault} → FirstBranches g r ls n ready a f → check_branches g r ls n ready a ≡ Err f
  check-FirstBranches (in_branch d) = rw (check-First d) refl
  check-FirstBranches (branch_breaks e h) = rw (check-Elab e, h) refl
  check-FirstBranches (in_branch_block e h d) = rw (check-Elab e, h, check-FirstActs d) refl
  check-FirstBranches (in_later_branch e h b d) = rw (check-Elab e, h, check-ElabActs b) (check-FirstBranches d)
