-- Typing of statements as one function, in the order of work.
use Rattle.std.specs.Prelude.{ℕ, List, [], ◌∷◌, ◌++◌, Option, Result, Ok, ◌+◌, is_some}
use Rattle.hera_meaning.specs.declared.trees.Shape.{Shape}
use Rattle.hera_meaning.specs.Trees.{Command, if_arms, while, foreach, commit, rollback}
use Rattle.hera_rules.specs.declared.env.Local.{Local}
use Rattle.hera_rules.specs.declared.fault.TypeFault.{TypeFault}
use Rattle.hera_rules.specs.Environments.{Env}
use Rattle.hera_rules.specs.Phrases.{Act, declaring, assigning, performing, choosing, looping, visiting, printing, applying, asserting, committing, rolling_back, returning, returning_value, Acts, no_act, act, Branches, no_branch, branch}
use Rattle.hera_rules.specs.Rules.{variable_row}
use Rattle.hera_rules.specs.Typing.{slots_of}
use Rattle.hera_rules.specs.Checked.{and_then, check, check_all}
use Rattle.hera_rules.specs.Commands.{type_row, Done, done, Armed, block_from, arms_from, declare_row, assign_row, perform_row, cond_row, effect_row, print_row, apply_row, assert_row, return_row, return_value_row}
use Rattle.hera_rules.specs.Statements.{slots_of_act, slots_of_acts, slots_of_branches}

-- a statement that leaves the locals as they are
abbrev pub stays : List Local → Result Command TypeFault → Result Done TypeFault
stays ls r = and_then r (λ c. Ok (done ls c))

abbrev mutual
  pub check_act : Env → Option Shape → List Local → ℕ → Act → Result Done TypeFault
  check_act g r ls n (declaring type w p) = and_then (type_row g.relations type) (λ t. and_then (check g ls (n + 1) p) (λ v. declare_row g ls w n t v))
  check_act g r ls n (assigning w p) = and_then (check g ls n p) (λ v. stays ls (assign_row ls w v))
  check_act g r ls n (printing at p) = and_then (check g ls n p) (λ v. stays ls (print_row (is_some r) at v))
  check_act g r ls n (applying at p) = and_then (check g ls n p) (λ v. stays ls (apply_row (is_some r) at v))
  check_act g r ls n (asserting at p) = and_then (check g ls n p) (λ v. stays ls (assert_row at v))
  check_act g r ls n (returning_value at p) = and_then (check g ls n p) (λ v. stays ls (return_value_row r at v))
  check_act g r ls n (committing at label) = stays ls (effect_row (is_some r) at (commit label))
  check_act g r ls n (rolling_back at) = stays ls (effect_row (is_some r) at rollback)
  check_act g r ls n (returning at) = stays ls (return_row r at)
  check_act g r ls n (performing w args) = and_then (check_all g ls n [] args) (λ vs. stays ls (perform_row g (is_some r) w vs))
  check_act g r ls n (choosing arms last) = and_then (check_branches g r ls n [] arms) (λ all. and_then (check_acts g r ls (n + slots_of_branches arms) [] last) (λ cs.
      Ok (done ls (if_arms (arms_from all) (block_from cs)))))
  check_act g r ls n (looping at c block) = and_then (check g ls n c) (λ v. and_then (cond_row at v) (λ e. and_then (check_acts g r ls (n + slots_of c) [] block) (λ cs.
      Ok (done ls (while e (block_from cs))))))
  check_act g r ls n (visiting at var of block) = and_then (check g ls (n + 1) of) (λ v. and_then (variable_row g ls var at n v.type) (λ l.
      and_then (check_acts g r (ls ++ l ∷ []) (n + 1 + slots_of of) [] block) (λ cs. Ok (done ls (foreach n v.core (block_from cs))))))

  pub check_acts : Env → Option Shape → List Local → ℕ → List Command → Acts → Result (List Command) TypeFault
  check_acts g r ls n cs no_act = Ok cs
  check_acts g r ls n cs (act a rest) = and_then (check_act g r ls n a) (λ d. check_acts g r d.locals (n + slots_of_act a) (cs ++ d.core ∷ []) rest)

  pub check_branches : Env → Option Shape → List Local → ℕ → List Armed → Branches → Result (List Armed) TypeFault
  check_branches g r ls n ready no_branch = Ok ready
  check_branches g r ls n ready (branch at c block rest) = and_then (check g ls n c) (λ v. and_then (cond_row at v) (λ e. and_then (check_acts g r ls (n + slots_of c) [] block) (λ cs.
      check_branches g r ls (n + slots_of c + slots_of_acts block) (ready ++ record { cond = e; block = cs } ∷ []) rest)))
