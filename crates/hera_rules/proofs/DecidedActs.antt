-- Each statement is typed or has a first fault, and the function says which.
use Rattle.std.proofs.Common.{◌≡◌, ℕ, ◌+◌, List, [], ◌∷◌, ◌++◌}
use Rattle.std.specs.Prelude.{Result, Ok, Err, Option, is_some}
use Rattle.hera_meaning.specs.declared.trees.Shape.{Shape}
use Rattle.hera_meaning.specs.Trees.{Command, commit, rollback, if_arms, while, foreach}
use Rattle.hera_rules.specs.declared.env.Local.{Local}
use Rattle.hera_rules.specs.declared.fault.TypeFault.{TypeFault}
use Rattle.hera_rules.specs.Environments.{Env}
use Rattle.hera_rules.specs.Phrases.{Phrase, Act, declaring, assigning, performing, choosing, looping, visiting, printing, applying, asserting, committing, rolling_back, returning, returning_value, Acts, no_act, act, Branches, no_branch, branch}
use Rattle.hera_rules.specs.Rules.{Typing, variable_row}
use Rattle.hera_rules.specs.Typing.{slots_of, Elab, First}
use Rattle.hera_rules.specs.Checked.{and_then, check}
use Rattle.hera_rules.specs.Commands.{type_row, Done, done, Armed, block_from, arms_from, declare_row, assign_row, perform_row, cond_row, effect_row, print_row, apply_row, assert_row, return_row, return_value_row}
use Rattle.hera_rules.specs.Statements.{slots_of_act, slots_of_acts, slots_of_branches, ElabAct, ElabActs, ElabBranches, BrokenAct, FirstAct, FirstActs, FirstBranches, declare_is, perform_is, choose_is, loop_is, visit_is, no_act_is, act_is, no_branch_is, branch_is, type_breaks, declare_breaks, perform_breaks, loop_breaks, visit_breaks, here, in_declared, in_perform, in_arms, in_last, in_condition, in_loop, in_visited, in_visit, in_this_act, in_later_act, in_branch, branch_breaks, in_branch_block, in_later_branch, assign_is, assign_breaks, in_assign, print_is, print_breaks, in_print, apply_is, apply_breaks, in_apply, assert_is, assert_breaks, in_assert, return_value_is, return_value_breaks, in_return_value, commit_is, commit_breaks, rollback_is, rollback_breaks, return_is, return_breaks}
use Rattle.hera_rules.specs.CheckedActs.{stays, check_act, check_acts, check_branches}
use Rattle.hera_rules.proofs.Decided.{Says, after, after_row, row_says, handed, Decided, behind, behind_all, decided, decided_all}

abbrev pub DecidedAct : Env → Option Shape → List Local → ℕ → Act → Type 0
DecidedAct g r ls n a = Says (check_act g r ls n a) (λ d. ElabAct g r ls n a d) (λ f. FirstAct g r ls n a f)

abbrev pub DecidedActs : Env → Option Shape → List Local → ℕ → List Command → Acts → Type 0
DecidedActs g r ls n cs a = Says (check_acts g r ls n cs a) (λ all. ElabActs g r ls n cs a all) (λ f. FirstActs g r ls n cs a f)

abbrev pub DecidedBranches : Env → Option Shape → List Local → ℕ → List Armed → Branches → Type 0
DecidedBranches g r ls n ready a = Says (check_branches g r ls n ready a) (λ all. ElabBranches g r ls n ready a all) (λ f. FirstBranches g r ls n ready a f)

behind_acts : {B : Type 0} (Q : B → Type 0) (G : TypeFault → Type 0) (g : Env) (r : Option Shape) (ls : List Local) (n : ℕ) (cs : List Command) (a : Acts) (go : List Command → Result B TypeFault) →
    DecidedActs g r ls n cs a → ((all : List Command) → ElabActs g r ls n cs a all → Says (go all) Q G) → ((f : TypeFault) → FirstActs g r ls n cs a f → G f) → Says (and_then (check_acts g r ls n cs a) go) Q G
behind_acts Q G g r ls n cs a go d ok err = after {P = λ all. ElabActs g r ls n cs a all} {F = λ f. FirstActs g r ls n cs a f} Q G (check_acts g r ls n cs a) go d ok err

-- a row that leaves the locals as they are
stays_says : (Q : Done → Type 0) (G : TypeFault → Type 0) (ls : List Local) (row : Result Command TypeFault) →
    ((c : Command) → row ≡ Ok c → Q (done ls c)) → ((f : TypeFault) → row ≡ Err f → G f) → Says (stays ls row) Q G
stays_says Q G ls row ok err = after_row Q G row (λ c. Ok (done ls c)) ok err

single : (g : Env) (r : Option Shape) (ls : List Local) (n : ℕ) (p : Phrase) (a : Act) (go : Typing → Result Command TypeFault) → Decided g ls n p →
    ((v : Typing) (c : Command) → Elab g ls n p v → go v ≡ Ok c → ElabAct g r ls n a (done ls c)) → ((v : Typing) (f : TypeFault) → Elab g ls n p v → go v ≡ Err f → BrokenAct g r ls n a f) →
    ((f : TypeFault) → First g ls n p f → FirstAct g r ls n a f) → Says (and_then (check g ls n p) (λ v. stays ls (go v))) (λ d. ElabAct g r ls n a d) (λ f. FirstAct g r ls n a f)
single g r ls n p a go d ok breaks err =
    behind (λ d. ElabAct g r ls n a d) (λ f. FirstAct g r ls n a f) g ls n p (λ v. stays ls (go v)) d
    (λ v e. stays_says (λ d. ElabAct g r ls n a d) (λ f. FirstAct g r ls n a f) ls (go v) (λ c h. ok v c e h) (λ f h. here (breaks v f e h))) err

mutual
  pub decided_act : (g : Env) (r : Option Shape) (ls : List Local) (n : ℕ) (a : Act) → DecidedAct g r ls n a
  decided_act g r ls n (assigning w p) = single g r ls n p (assigning w p) (λ v. assign_row ls w v) (decided g ls n p) (λ v c e h. assign_is e h) (λ v f e h. assign_breaks e h) (λ f d. in_assign d)
  decided_act g r ls n (printing at p) = single g r ls n p (printing at p) (λ v. print_row (is_some r) at v) (decided g ls n p) (λ v c e h. print_is e h) (λ v f e h. print_breaks e h) (λ f d. in_print d)
  decided_act g r ls n (applying at p) = single g r ls n p (applying at p) (λ v. apply_row (is_some r) at v) (decided g ls n p) (λ v c e h. apply_is e h) (λ v f e h. apply_breaks e h) (λ f d. in_apply d)
  decided_act g r ls n (asserting at p) = single g r ls n p (asserting at p) (λ v. assert_row at v) (decided g ls n p) (λ v c e h. assert_is e h) (λ v f e h. assert_breaks e h) (λ f d. in_assert d)
  decided_act g r ls n (returning_value at p) = single g r ls n p (returning_value at p) (λ v. return_value_row r at v) (decided g ls n p) (λ v c e h. return_value_is e h) (λ v f e h. return_value_breaks e h) (λ f d. in_return_value d)
  decided_act g r ls n (committing at label) = stays_says (λ d. ElabAct g r ls n (committing at label) d) (λ f. FirstAct g r ls n (committing at label) f) ls (effect_row (is_some r) at (commit label)) (λ c h. commit_is h) (λ f h. here (commit_breaks h))
  decided_act g r ls n (rolling_back at) = stays_says (λ d. ElabAct g r ls n (rolling_back at) d) (λ f. FirstAct g r ls n (rolling_back at) f) ls (effect_row (is_some r) at rollback) (λ c h. rollback_is h) (λ f h. here (rollback_breaks h))
  decided_act g r ls n (returning at) = stays_says (λ d. ElabAct g r ls n (returning at) d) (λ f. FirstAct g r ls n (returning at) f) ls (return_row r at) (λ c h. return_is h) (λ f h. here (return_breaks h))
  decided_act g r ls n (performing w args) =
      let Q : Done → Type 0 = λ d. ElabAct g r ls n (performing w args) d in
      let G : TypeFault → Type 0 = λ f. FirstAct g r ls n (performing w args) f in
      behind_all Q G g ls n [] args (λ vs. stays ls (perform_row g (is_some r) w vs)) (decided_all g ls n [] args)
      (λ vs e. stays_says Q G ls (perform_row g (is_some r) w vs) (λ c h. perform_is e h) (λ f h. here (perform_breaks e h))) (λ f d. in_perform d)
  decided_act g r ls n (declaring type w p) =
      let Q : Done → Type 0 = λ d. ElabAct g r ls n (declaring type w p) d in
      let G : TypeFault → Type 0 = λ f. FirstAct g r ls n (declaring type w p) f in
      after_row Q G (type_row g.relations type) (λ t. and_then (check g ls (n + 1) p) (λ v. declare_row g ls w n t v))
      (λ t h. behind Q G g ls (n + 1) p (λ v. declare_row g ls w n t v) (decided g ls (n + 1) p)
      (λ v e. row_says Q G (declare_row g ls w n t v) (λ d k. declare_is h e k) (λ f k. here (declare_breaks h e k))) (λ f d. in_declared h d))
      (λ f h. here (type_breaks h))
  decided_act g r ls n (choosing arms last) =
      let Q : Done → Type 0 = λ d. ElabAct g r ls n (choosing arms last) d in
      let G : TypeFault → Type 0 = λ f. FirstAct g r ls n (choosing arms last) f in
      after {P = λ all. ElabBranches g r ls n [] arms all} {F = λ f. FirstBranches g r ls n [] arms f} Q G (check_branches g r ls n [] arms)
      (λ all. and_then (check_acts g r ls (n + slots_of_branches arms) [] last) (λ cs. Ok (done ls (if_arms (arms_from all) (block_from cs)))))
      (decided_branches g r ls n [] arms)
      (λ all ready. behind_acts Q G g r ls (n + slots_of_branches arms) [] last (λ cs. Ok (done ls (if_arms (arms_from all) (block_from cs))))
      (decided_acts g r ls (n + slots_of_branches arms) [] last) (λ cs b. choose_is ready b) (λ f d. in_last ready d)) (λ f d. in_arms d)
  decided_act g r ls n (looping at c block) =
      let Q : Done → Type 0 = λ d. ElabAct g r ls n (looping at c block) d in
      let G : TypeFault → Type 0 = λ f. FirstAct g r ls n (looping at c block) f in
      behind Q G g ls n c (λ v. and_then (cond_row at v) (λ e. and_then (check_acts g r ls (n + slots_of c) [] block) (λ cs. Ok (done ls (while e (block_from cs)))))) (decided g ls n c)
      (λ v x. after_row Q G (cond_row at v) (λ e. and_then (check_acts g r ls (n + slots_of c) [] block) (λ cs. Ok (done ls (while e (block_from cs)))))
      (λ e h. behind_acts Q G g r ls (n + slots_of c) [] block (λ cs. Ok (done ls (while e (block_from cs)))) (decided_acts g r ls (n + slots_of c) [] block)
      (λ cs b. loop_is x h b) (λ f d. in_loop x h d)) (λ f h. here (loop_breaks x h))) (λ f d. in_condition d)
  decided_act g r ls n (visiting at var of block) =
      let Q : Done → Type 0 = λ d. ElabAct g r ls n (visiting at var of block) d in
      let G : TypeFault → Type 0 = λ f. FirstAct g r ls n (visiting at var of block) f in
      behind Q G g ls (n + 1) of
      (λ v. and_then (variable_row g ls var at n v.type) (λ l. and_then (check_acts g r (ls ++ l ∷ []) (n + 1 + slots_of of) [] block) (λ cs. Ok (done ls (foreach n v.core (block_from cs)))))) (decided g ls (n + 1) of)
      (λ v x. after_row Q G (variable_row g ls var at n v.type) (λ l. and_then (check_acts g r (ls ++ l ∷ []) (n + 1 + slots_of of) [] block) (λ cs. Ok (done ls (foreach n v.core (block_from cs)))))
      (λ l h. behind_acts Q G g r (ls ++ l ∷ []) (n + 1 + slots_of of) [] block (λ cs. Ok (done ls (foreach n v.core (block_from cs)))) (decided_acts g r (ls ++ l ∷ []) (n + 1 + slots_of of) [] block)
      (λ cs b. visit_is x h b) (λ f d. in_visit x h d)) (λ f h. here (visit_breaks x h))) (λ f d. in_visited d)

  pub decided_acts : (g : Env) (r : Option Shape) (ls : List Local) (n : ℕ) (cs : List Command) (a : Acts) → DecidedActs g r ls n cs a
  decided_acts g r ls n cs no_act = no_act_is
  decided_acts g r ls n cs (act a rest) =
      let Q : List Command → Type 0 = λ all. ElabActs g r ls n cs (act a rest) all in
      let G : TypeFault → Type 0 = λ f. FirstActs g r ls n cs (act a rest) f in
      after {P = λ d. ElabAct g r ls n a d} {F = λ f. FirstAct g r ls n a f} Q G (check_act g r ls n a)
      (λ (d : Done). check_acts g r d.locals (n + slots_of_act a) (cs ++ d.core ∷ []) rest) (decided_act g r ls n a)
      (λ d e. handed {P = λ all. ElabActs g r d.locals (n + slots_of_act a) (cs ++ d.core ∷ []) rest all} {F = λ f. FirstActs g r d.locals (n + slots_of_act a) (cs ++ d.core ∷ []) rest f} Q G
      (check_acts g r d.locals (n + slots_of_act a) (cs ++ d.core ∷ []) rest) (decided_acts g r d.locals (n + slots_of_act a) (cs ++ d.core ∷ []) rest)
      (λ all b. act_is e b) (λ f x. in_later_act e x)) (λ f x. in_this_act x)

  pub decided_branches : (g : Env) (r : Option Shape) (ls : List Local) (n : ℕ) (ready : List Armed) (a : Branches) → DecidedBranches g r ls n ready a
  decided_branches g r ls n ready no_branch = no_branch_is
  decided_branches g r ls n ready (branch at c block rest) =
      let Q : List Armed → Type 0 = λ all. ElabBranches g r ls n ready (branch at c block rest) all in
      let G : TypeFault → Type 0 = λ f. FirstBranches g r ls n ready (branch at c block rest) f in
      behind Q G g ls n c (λ v. and_then (cond_row at v) (λ e. and_then (check_acts g r ls (n + slots_of c) [] block) (λ cs.
      check_branches g r ls (n + slots_of c + slots_of_acts block) (ready ++ record { cond = e; block = cs } ∷ []) rest))) (decided g ls n c)
      (λ v x. after_row Q G (cond_row at v) (λ e. and_then (check_acts g r ls (n + slots_of c) [] block) (λ cs.
      check_branches g r ls (n + slots_of c + slots_of_acts block) (ready ++ record { cond = e; block = cs } ∷ []) rest))
      (λ e h. behind_acts Q G g r ls (n + slots_of c) [] block (λ cs. check_branches g r ls (n + slots_of c + slots_of_acts block) (ready ++ record { cond = e; block = cs } ∷ []) rest)
      (decided_acts g r ls (n + slots_of c) [] block)
      (λ cs b. handed {P = λ all. ElabBranches g r ls (n + slots_of c + slots_of_acts block) (ready ++ record { cond = e; block = cs } ∷ []) rest all}
      {F = λ f. FirstBranches g r ls (n + slots_of c + slots_of_acts block) (ready ++ record { cond = e; block = cs } ∷ []) rest f} Q G
      (check_branches g r ls (n + slots_of c + slots_of_acts block) (ready ++ record { cond = e; block = cs } ∷ []) rest)
      (decided_branches g r ls (n + slots_of c + slots_of_acts block) (ready ++ record { cond = e; block = cs } ∷ []) rest)
      (λ all k. branch_is x h b k) (λ f d. in_later_branch x h b d))
      (λ f d. in_branch_block x h d)) (λ f h. branch_breaks x h)) (λ f d. in_branch d)
