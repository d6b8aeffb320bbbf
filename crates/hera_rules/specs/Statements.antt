-- Typing of statements: one case for each form; and the first fault of a statement that is not typed.
use Rattle.std.specs.Prelude.{◌≡◌, ℕ, List, [], ◌∷◌, ◌++◌, Option, Ok, Err, ◌+◌, is_some}
use Rattle.hera_meaning.specs.declared.trees.Shape.{Shape}
use Rattle.hera_meaning.specs.Trees.{Expr, Command, if_arms, while, foreach, commit, rollback}
use Rattle.hera_rules.specs.declared.words.Word.{Word}
use Rattle.hera_rules.specs.declared.env.Local.{Local}
use Rattle.hera_rules.specs.declared.fault.TypeFault.{TypeFault}
use Rattle.hera_rules.specs.Environments.{Env}
use Rattle.hera_rules.specs.Phrases.{Phrase, Phrases, Type_phrase, Act, declaring, assigning, performing, choosing, looping, visiting, printing, applying, asserting, committing, rolling_back, returning, returning_value, Acts, no_act, act, Branches, no_branch, branch}
use Rattle.hera_rules.specs.Rules.{Typing, variable_row}
use Rattle.hera_rules.specs.Typing.{slots_of, slots_of_all, Elab, ElabAll, First, FirstAll}
use Rattle.hera_rules.specs.Commands.{type_row, Done, done, Armed, block_from, arms_from, declare_row, assign_row, perform_row, cond_row, effect_row, print_row, apply_row, assert_row, return_row, return_value_row}

-- the number of names that statements declare, each of which takes a slot
abbrev mutual
  pub slots_of_act : Act → ℕ
  slots_of_act (declaring type w value) = 1 + slots_of value
  slots_of_act (assigning w value) = slots_of value
  slots_of_act (performing w args) = slots_of_all args
  slots_of_act (choosing arms last) = slots_of_branches arms + slots_of_acts last
  slots_of_act (looping at c block) = slots_of c + slots_of_acts block
  slots_of_act (visiting at var of block) = 1 + slots_of of + slots_of_acts block
  slots_of_act (printing at p) = slots_of p
  slots_of_act (applying at p) = slots_of p
  slots_of_act (asserting at p) = slots_of p
  slots_of_act (committing at label) = 0
  slots_of_act (rolling_back at) = 0
  slots_of_act (returning at) = 0
  slots_of_act (returning_value at p) = slots_of p

  pub slots_of_acts : Acts → ℕ
  slots_of_acts no_act = 0
  slots_of_acts (act a rest) = slots_of_act a + slots_of_acts rest

  pub slots_of_branches : Branches → ℕ
  slots_of_branches no_branch = 0
  slots_of_branches (branch at c block rest) = slots_of c + slots_of_acts block + slots_of_branches rest

mutual
  -- in a body that returns this, with these visible locals, and from this slot on, the statement has this core,
  -- and behind it these locals are visible
  pub data ElabAct (g : Env) (r : Option Shape) : List Local → ℕ → Act → Done → Type 0 where
    declare_is : {ls : List Local} {n : ℕ} {type : Type_phrase} {w : Word} {p : Phrase} {t : Shape} {v : Typing} {d : Done} →
        type_row g.relations type ≡ Ok t → Elab g ls (n + 1) p v → declare_row g ls w n t v ≡ Ok d → ElabAct g r ls n (declaring type w p) d
    assign_is : {ls : List Local} {n : ℕ} {w : Word} {p : Phrase} {v : Typing} {c : Command} → Elab g ls n p v → assign_row ls w v ≡ Ok c → ElabAct g r ls n (assigning w p) (done ls c)
    print_is : {ls : List Local} {n : ℕ} {at : ℕ} {p : Phrase} {v : Typing} {c : Command} → Elab g ls n p v → print_row (is_some r) at v ≡ Ok c → ElabAct g r ls n (printing at p) (done ls c)
    apply_is : {ls : List Local} {n : ℕ} {at : ℕ} {p : Phrase} {v : Typing} {c : Command} → Elab g ls n p v → apply_row (is_some r) at v ≡ Ok c → ElabAct g r ls n (applying at p) (done ls c)
    assert_is : {ls : List Local} {n : ℕ} {at : ℕ} {p : Phrase} {v : Typing} {c : Command} → Elab g ls n p v → assert_row at v ≡ Ok c → ElabAct g r ls n (asserting at p) (done ls c)
    return_value_is : {ls : List Local} {n : ℕ} {at : ℕ} {p : Phrase} {v : Typing} {c : Command} → Elab g ls n p v → return_value_row r at v ≡ Ok c → ElabAct g r ls n (returning_value at p) (done ls c)
    commit_is : {ls : List Local} {n : ℕ} {at : ℕ} {label : Option (List ℕ)} {c : Command} → effect_row (is_some r) at (commit label) ≡ Ok c → ElabAct g r ls n (committing at label) (done ls c)
    rollback_is : {ls : List Local} {n : ℕ} {at : ℕ} {c : Command} → effect_row (is_some r) at rollback ≡ Ok c → ElabAct g r ls n (rolling_back at) (done ls c)
    return_is : {ls : List Local} {n : ℕ} {at : ℕ} {c : Command} → return_row r at ≡ Ok c → ElabAct g r ls n (returning at) (done ls c)
    perform_is : {ls : List Local} {n : ℕ} {w : Word} {args : Phrases} {vs : List Typing} {c : Command} →
        ElabAll g ls n [] args vs → perform_row g (is_some r) w vs ≡ Ok c → ElabAct g r ls n (performing w args) (done ls c)
    choose_is : {ls : List Local} {n : ℕ} {arms : Branches} {last : Acts} {all : List Armed} {cs : List Command} →
        ElabBranches g r ls n [] arms all → ElabActs g r ls (n + slots_of_branches arms) [] last cs →
        ElabAct g r ls n (choosing arms last) (done ls (if_arms (arms_from all) (block_from cs)))
    loop_is : {ls : List Local} {n at : ℕ} {c : Phrase} {block : Acts} {v : Typing} {e : Expr} {cs : List Command} →
        Elab g ls n c v → cond_row at v ≡ Ok e → ElabActs g r ls (n + slots_of c) [] block cs → ElabAct g r ls n (looping at c block) (done ls (while e (block_from cs)))
    visit_is : {ls : List Local} {n at : ℕ} {var : Word} {of : Phrase} {block : Acts} {v : Typing} {l : Local} {cs : List Command} →
        Elab g ls (n + 1) of v → variable_row g ls var at n v.type ≡ Ok l → ElabActs g r (ls ++ l ∷ []) (n + 1 + slots_of of) [] block cs →
        ElabAct g r ls n (visiting at var of block) (done ls (foreach n v.core (block_from cs)))

  -- statements from the left, behind these
  pub data ElabActs (g : Env) (r : Option Shape) : List Local → ℕ → List Command → Acts → List Command → Type 0 where
    no_act_is : {ls : List Local} {n : ℕ} {cs : List Command} → ElabActs g r ls n cs no_act cs
    act_is : {ls : List Local} {n : ℕ} {a : Act} {rest : Acts} {d : Done} {cs all : List Command} →
        ElabAct g r ls n a d → ElabActs g r d.locals (n + slots_of_act a) (cs ++ d.core ∷ []) rest all → ElabActs g r ls n cs (act a rest) all

  -- arms from the left, behind these
  pub data ElabBranches (g : Env) (r : Option Shape) : List Local → ℕ → List Armed → Branches → List Armed → Type 0 where
    no_branch_is : {ls : List Local} {n : ℕ} {ready : List Armed} → ElabBranches g r ls n ready no_branch ready
    branch_is : {ls : List Local} {n at : ℕ} {c : Phrase} {block : Acts} {rest : Branches} {v : Typing} {e : Expr} {cs : List Command} {ready all : List Armed} →
        Elab g ls n c v → cond_row at v ≡ Ok e → ElabActs g r ls (n + slots_of c) [] block cs →
        ElabBranches g r ls (n + slots_of c + slots_of_acts block) (ready ++ record { cond = e; block = cs } ∷ []) rest all → ElabBranches g r ls n ready (branch at c block rest) all

-- the parts of the statement that are checked before are typed, and it breaks its own rule with this fault. (That a
-- condition of an `if` is no bool is a case of its branches, below.)
pub data BrokenAct (g : Env) (r : Option Shape) : List Local → ℕ → Act → TypeFault → Type 0 where
  type_breaks : {ls : List Local} {n : ℕ} {type : Type_phrase} {w : Word} {p : Phrase} {f : TypeFault} → type_row g.relations type ≡ Err f → BrokenAct g r ls n (declaring type w p) f
  declare_breaks : {ls : List Local} {n : ℕ} {type : Type_phrase} {w : Word} {p : Phrase} {t : Shape} {v : Typing} {f : TypeFault} →
      type_row g.relations type ≡ Ok t → Elab g ls (n + 1) p v → declare_row g ls w n t v ≡ Err f → BrokenAct g r ls n (declaring type w p) f
  assign_breaks : {ls : List Local} {n : ℕ} {w : Word} {p : Phrase} {v : Typing} {f : TypeFault} → Elab g ls n p v → assign_row ls w v ≡ Err f → BrokenAct g r ls n (assigning w p) f
  print_breaks : {ls : List Local} {n : ℕ} {at : ℕ} {p : Phrase} {v : Typing} {f : TypeFault} → Elab g ls n p v → print_row (is_some r) at v ≡ Err f → BrokenAct g r ls n (printing at p) f
  apply_breaks : {ls : List Local} {n : ℕ} {at : ℕ} {p : Phrase} {v : Typing} {f : TypeFault} → Elab g ls n p v → apply_row (is_some r) at v ≡ Err f → BrokenAct g r ls n (applying at p) f
  assert_breaks : {ls : List Local} {n : ℕ} {at : ℕ} {p : Phrase} {v : Typing} {f : TypeFault} → Elab g ls n p v → assert_row at v ≡ Err f → BrokenAct g r ls n (asserting at p) f
  return_value_breaks : {ls : List Local} {n : ℕ} {at : ℕ} {p : Phrase} {v : Typing} {f : TypeFault} → Elab g ls n p v → return_value_row r at v ≡ Err f → BrokenAct g r ls n (returning_value at p) f
  commit_breaks : {ls : List Local} {n : ℕ} {at : ℕ} {label : Option (List ℕ)} {f : TypeFault} → effect_row (is_some r) at (commit label) ≡ Err f → BrokenAct g r ls n (committing at label) f
  rollback_breaks : {ls : List Local} {n : ℕ} {at : ℕ} {f : TypeFault} → effect_row (is_some r) at rollback ≡ Err f → BrokenAct g r ls n (rolling_back at) f
  return_breaks : {ls : List Local} {n : ℕ} {at : ℕ} {f : TypeFault} → return_row r at ≡ Err f → BrokenAct g r ls n (returning at) f
  perform_breaks : {ls : List Local} {n : ℕ} {w : Word} {args : Phrases} {vs : List Typing} {f : TypeFault} →
      ElabAll g ls n [] args vs → perform_row g (is_some r) w vs ≡ Err f → BrokenAct g r ls n (performing w args) f
  loop_breaks : {ls : List Local} {n at : ℕ} {c : Phrase} {block : Acts} {v : Typing} {f : TypeFault} →
      Elab g ls n c v → cond_row at v ≡ Err f → BrokenAct g r ls n (looping at c block) f
  visit_breaks : {ls : List Local} {n at : ℕ} {var : Word} {of : Phrase} {block : Acts} {v : Typing} {f : TypeFault} →
      Elab g ls (n + 1) of v → variable_row g ls var at n v.type ≡ Err f → BrokenAct g r ls n (visiting at var of block) f

mutual
  -- the first fault of a statement
  pub data FirstAct (g : Env) (r : Option Shape) : List Local → ℕ → Act → TypeFault → Type 0 where
    here : {ls : List Local} {n : ℕ} {a : Act} {f : TypeFault} → BrokenAct g r ls n a f → FirstAct g r ls n a f
    in_declared : {ls : List Local} {n : ℕ} {type : Type_phrase} {w : Word} {p : Phrase} {t : Shape} {f : TypeFault} →
        type_row g.relations type ≡ Ok t → First g ls (n + 1) p f → FirstAct g r ls n (declaring type w p) f
    in_assign : {ls : List Local} {n : ℕ} {w : Word} {p : Phrase} {f : TypeFault} → First g ls n p f → FirstAct g r ls n (assigning w p) f
    in_print : {ls : List Local} {n : ℕ} {at : ℕ} {p : Phrase} {f : TypeFault} → First g ls n p f → FirstAct g r ls n (printing at p) f
    in_apply : {ls : List Local} {n : ℕ} {at : ℕ} {p : Phrase} {f : TypeFault} → First g ls n p f → FirstAct g r ls n (applying at p) f
    in_assert : {ls : List Local} {n : ℕ} {at : ℕ} {p : Phrase} {f : TypeFault} → First g ls n p f → FirstAct g r ls n (asserting at p) f
    in_return_value : {ls : List Local} {n : ℕ} {at : ℕ} {p : Phrase} {f : TypeFault} → First g ls n p f → FirstAct g r ls n (returning_value at p) f
    in_perform : {ls : List Local} {n : ℕ} {w : Word} {args : Phrases} {f : TypeFault} → FirstAll g ls n [] args f → FirstAct g r ls n (performing w args) f
    in_arms : {ls : List Local} {n : ℕ} {arms : Branches} {last : Acts} {f : TypeFault} → FirstBranches g r ls n [] arms f → FirstAct g r ls n (choosing arms last) f
    in_last : {ls : List Local} {n : ℕ} {arms : Branches} {last : Acts} {all : List Armed} {f : TypeFault} →
        ElabBranches g r ls n [] arms all → FirstActs g r ls (n + slots_of_branches arms) [] last f → FirstAct g r ls n (choosing arms last) f
    in_condition : {ls : List Local} {n at : ℕ} {c : Phrase} {block : Acts} {f : TypeFault} → First g ls n c f → FirstAct g r ls n (looping at c block) f
    in_loop : {ls : List Local} {n at : ℕ} {c : Phrase} {block : Acts} {v : Typing} {e : Expr} {f : TypeFault} →
        Elab g ls n c v → cond_row at v ≡ Ok e → FirstActs g r ls (n + slots_of c) [] block f → FirstAct g r ls n (looping at c block) f
    in_visited : {ls : List Local} {n at : ℕ} {var : Word} {of : Phrase} {block : Acts} {f : TypeFault} → First g ls (n + 1) of f → FirstAct g r ls n (visiting at var of block) f
    in_visit : {ls : List Local} {n at : ℕ} {var : Word} {of : Phrase} {block : Acts} {v : Typing} {l : Local} {f : TypeFault} →
        Elab g ls (n + 1) of v → variable_row g ls var at n v.type ≡ Ok l → FirstActs g r (ls ++ l ∷ []) (n + 1 + slots_of of) [] block f → FirstAct g r ls n (visiting at var of block) f

  pub data FirstActs (g : Env) (r : Option Shape) : List Local → ℕ → List Command → Acts → TypeFault → Type 0 where
    in_this_act : {ls : List Local} {n : ℕ} {a : Act} {rest : Acts} {cs : List Command} {f : TypeFault} → FirstAct g r ls n a f → FirstActs g r ls n cs (act a rest) f
    in_later_act : {ls : List Local} {n : ℕ} {a : Act} {rest : Acts} {d : Done} {cs : List Command} {f : TypeFault} →
        ElabAct g r ls n a d → FirstActs g r d.locals (n + slots_of_act a) (cs ++ d.core ∷ []) rest f → FirstActs g r ls n cs (act a rest) f

  pub data FirstBranches (g : Env) (r : Option Shape) : List Local → ℕ → List Armed → Branches → TypeFault → Type 0 where
    in_branch : {ls : List Local} {n at : ℕ} {c : Phrase} {block : Acts} {rest : Branches} {ready : List Armed} {f : TypeFault} →
        First g ls n c f → FirstBranches g r ls n ready (branch at c block rest) f
    branch_breaks : {ls : List Local} {n at : ℕ} {c : Phrase} {block : Acts} {rest : Branches} {ready : List Armed} {v : Typing} {f : TypeFault} →
        Elab g ls n c v → cond_row at v ≡ Err f → FirstBranches g r ls n ready (branch at c block rest) f
    in_branch_block : {ls : List Local} {n at : ℕ} {c : Phrase} {block : Acts} {rest : Branches} {ready : List Armed} {v : Typing} {e : Expr} {f : TypeFault} →
        Elab g ls n c v → cond_row at v ≡ Ok e → FirstActs g r ls (n + slots_of c) [] block f → FirstBranches g r ls n ready (branch at c block rest) f
    in_later_branch : {ls : List Local} {n at : ℕ} {c : Phrase} {block : Acts} {rest : Branches} {v : Typing} {e : Expr} {cs : List Command} {ready : List Armed} {f : TypeFault} →
        Elab g ls n c v → cond_row at v ≡ Ok e → ElabActs g r ls (n + slots_of c) [] block cs →
        FirstBranches g r ls (n + slots_of c + slots_of_acts block) (ready ++ record { cond = e; block = cs } ∷ []) rest f → FirstBranches g r ls n ready (branch at c block rest) f
