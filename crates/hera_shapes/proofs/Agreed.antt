-- What is found by the function is what the typing has.
use Rattle.std.proofs.Common.{◌≡◌, ℕ, ◌+◌, List, [], ◌∷◌, ◌++◌, refl, ap, ◌∙◌}
use Rattle.std.specs.Prelude.{Result, Ok, Option, Some, None}
use Rattle.hera_meaning.specs.declared.trees.Shape.{Shape}
use Rattle.hera_meaning.specs.Trees.{Command, Body_tree, Program_tree}
use Rattle.hera_host.specs.Tables.{Host}
use Rattle.hera_rules.specs.declared.words.Word.{Word}
use Rattle.hera_rules.specs.declared.env.Local.{Local}
use Rattle.hera_rules.specs.declared.env.FuncSig.{FuncSig}
use Rattle.hera_rules.specs.declared.env.ProcSig.{ProcSig}
use Rattle.hera_rules.specs.declared.fault.TypeFault.{TypeFault}
use Rattle.hera_rules.specs.declared.fault.TypeFault.TheVariants.{Repeated as repeated, Mismatch as mismatch}
use Rattle.hera_rules.specs.Environments.{Env, is_taken}
use Rattle.hera_rules.specs.Phrases.{Phrase, Phrases, Uses, Act, Acts, Branches, Func_phrase, Proc_phrase, Script}
use Rattle.hera_rules.specs.Same.{same_shape}
use Rattle.hera_rules.specs.Rules.{Typing, Step, given, variable_row}
use Rattle.hera_rules.specs.Typing.{slots_of, Elab, ElabAll, ElabUses, literal_is, name_is, operation_is, prefix_is, field_is, project_is, rename_is, group_is, test_is, fold_is, bulk_is, part_is, call_is, row_is, atom_is, line_is, lines_is, atoms_are, pair_is, walk_is, none_are, more_are, no_use_is, use_is}
use Rattle.hera_rules.specs.Checked.{check}
use Rattle.hera_rules.specs.Commands.{Done, Armed, declare_local, type_row}
use Rattle.hera_rules.specs.Statements.{slots_of_act, ElabAct, ElabActs, ElabBranches, declare_is, assign_is, print_is, apply_is, assert_is, return_value_is, commit_is, rollback_is, return_is, perform_is, choose_is, loop_is, visit_is, no_act_is, act_is, no_branch_is, branch_is}
use Rattle.hera_rules.specs.Programs.{ElabFuncs, no_func_is, no_func_left, func_is, ElabProcs, no_proc_is, no_proc_left, proc_is, ElabScript, script_is}
use Rattle.hera_rules.proofs.Decides.{check-Elab}
use Rattle.hera_sound.specs.Types_found.{Slot, held, walked, attrs_of_tuple, gathered, slots, slots_all, slots_uses, slots_act, slots_acts, slots_branches, types_with, func_types, proc_types, types_found}
use Rattle.hera_sound.proofs.Tests.{then_ok, cond_second, given_true}
use Rattle.hera_shapes.specs.Found.{where_typed, found, found_all, found_uses, locals_with, locals_behind, found_act, found_acts, found_branches, funcs_found, procs_found, script_found}

-- a phrase that is typed
typed_here : {A B : Type 0} (x : Result A TypeFault) (a : A) (go : A → List B) → x ≡ Ok a → where_typed x go ≡ go a
typed_here x a go e = ap (λ y. where_typed y go) e

two : (ys bs cs ds : List Slot) → ys ≡ cs → bs ≡ ds → ys ++ bs ≡ cs ++ ds
two ys bs cs ds e f = ap (λ xs. xs ++ bs) e ∙ ap (λ xs. cs ++ xs) f

mutual
  pub phrase_agrees : {g : Env} {ls : List Local} {n : ℕ} {p : Phrase} {v : Typing} (e : Elab g ls n p v) → found g ls n p ≡ slots e
  phrase_agrees literal_is = refl
  phrase_agrees (name_is r) = refl
  phrase_agrees (operation_is {ls = ls} {n = n} {p = p} {rest = rest} e u) = two _ _ _ _ (phrase_agrees e) (uses_agree u)
  phrase_agrees (prefix_is e r) = phrase_agrees e
  phrase_agrees (field_is e r) = phrase_agrees e
  phrase_agrees (project_is e r) = phrase_agrees e
  phrase_agrees (rename_is e r) = phrase_agrees e
  phrase_agrees (group_is e r) = phrase_agrees e
  phrase_agrees (test_is e r) = phrase_agrees e
  phrase_agrees (fold_is e r) = phrase_agrees e
  phrase_agrees (bulk_is e r) = phrase_agrees e
  phrase_agrees (part_is e r) = phrase_agrees e
  phrase_agrees (call_is e r) = phrases_agree e
  phrase_agrees (row_is e r) = phrases_agree e
  phrase_agrees (atom_is e r) = phrases_agree e
  phrase_agrees (line_is e r) = phrases_agree e
  phrase_agrees (lines_is e r) = phrases_agree e
  phrase_agrees (atoms_are e) = phrases_agree e
  phrase_agrees (pair_is e d r) = two _ _ _ _ (phrase_agrees e) (phrase_agrees d)
  phrase_agrees {g = g} (walk_is {ls = ls} {n = n} {walk = walk} {at = at} {var = var} {of = of} {body = body} {v = v} {b = b} {l = l} e k d r) =
      typed_here (check g ls (n + 1) of) v _ (check-Elab e)
      ∙ typed_here (variable_row g ls var at n v.type) l _ k
      ∙ typed_here (check g (ls ++ l ∷ []) (n + 1 + slots_of of) body) b _ (check-Elab d)
      ∙ ap (λ ss. walked l.shape (gathered walk l.shape b.type) ∷ ss) (two _ _ _ _ (phrase_agrees e) (phrase_agrees d))

  pub phrases_agree : {g : Env} {ls : List Local} {n : ℕ} {vs all : List Typing} {ps : Phrases} (e : ElabAll g ls n vs ps all) → found_all g ls n ps ≡ slots_all e
  phrases_agree none_are = refl
  phrases_agree (more_are e es) = two _ _ _ _ (phrase_agrees e) (phrases_agree es)

  pub uses_agree : {g : Env} {ls : List Local} {n : ℕ} {t r : Shape} {us : Uses} {is all : List Step} (e : ElabUses g ls n t is us r all) → found_uses g ls n us ≡ slots_uses e
  uses_agree no_use_is = refl
  uses_agree (use_is e j u) = two _ _ _ _ (phrase_agrees e) (uses_agree u)

-- the locals behind a declaration
declared_behind : (g : Env) (ls : List Local) (w : Word) (n : ℕ) (t v : Shape) (l : Local) → declare_local g ls w n t v ≡ Ok l → record { name = w.name; slot = n; shape = t } ≡ l
declared_behind g ls w n t v l e =
    let c = cond_second (is_taken g ls w.name) (repeated w.at) (given (same_shape t v) (mismatch w.at) (record { name = w.name; slot = n; shape = t })) l e in
    (given_true (same_shape t v) (mismatch w.at) (record { name = w.name; slot = n; shape = t }) l c.1).1

locals_agree : {g : Env} {r : Option Shape} {ls : List Local} {n : ℕ} {a : Act} {d : Done} → ElabAct g r ls n a d → locals_behind g ls n a ≡ d.locals
locals_agree {g = g} (declare_is {ls = ls} {n = n} {type = type} {w = w} {t = t} {v = v} {d = d} k e row) =
    let a = then_ok (declare_local g ls w n t v.type) _ d row in
    ap (λ x. locals_with ls w n x) k ∙ ap (λ (l : Local). ls ++ l ∷ []) (declared_behind g ls w n t v.type a.0 a.1) ∙ (let q = a.2 in let h : ls ++ a.0 ∷ [] ≡ d.locals = cc in h)
locals_agree (assign_is e row) = refl
locals_agree (print_is e row) = refl
locals_agree (apply_is e row) = refl
locals_agree (assert_is e row) = refl
locals_agree (return_value_is e row) = refl
locals_agree (commit_is row) = refl
locals_agree (rollback_is row) = refl
locals_agree (return_is row) = refl
locals_agree (perform_is e row) = refl
locals_agree (choose_is b c) = refl
locals_agree (loop_is e row c) = refl
locals_agree (visit_is e row c) = refl

mutual
  pub act_agrees : {g : Env} {r : Option Shape} {ls : List Local} {n : ℕ} {a : Act} {d : Done} (e : ElabAct g r ls n a d) → found_act g ls n a ≡ slots_act e
  act_agrees {g = g} (declare_is {type = type} {t = t} k e row) = typed_here (type_row g.relations type) t _ k ∙ ap (λ ss. held t ∷ ss) (phrase_agrees e)
  act_agrees (assign_is e row) = phrase_agrees e
  act_agrees (print_is e row) = phrase_agrees e
  act_agrees (apply_is e row) = phrase_agrees e
  act_agrees (assert_is e row) = phrase_agrees e
  act_agrees (return_value_is e row) = phrase_agrees e
  act_agrees (commit_is row) = refl
  act_agrees (rollback_is row) = refl
  act_agrees (return_is row) = refl
  act_agrees (perform_is e row) = phrases_agree e
  act_agrees (choose_is b c) = two _ _ _ _ (branches_agree b) (acts_agree c)
  act_agrees (loop_is e row c) = two _ _ _ _ (phrase_agrees e) (acts_agree c)
  act_agrees {g = g} (visit_is {ls = ls} {n = n} {at = at} {var = var} {of = of} {v = v} {l = l} e row c) =
      typed_here (check g ls (n + 1) of) v _ (check-Elab e)
      ∙ typed_here (variable_row g ls var at n v.type) l _ row
      ∙ ap (λ ss. walked l.shape (attrs_of_tuple l.shape) ∷ ss) (two _ _ _ _ (phrase_agrees e) (acts_agree c))

  pub acts_agree : {g : Env} {r : Option Shape} {ls : List Local} {n : ℕ} {cs all : List Command} {ps : Acts} (e : ElabActs g r ls n cs ps all) → found_acts g ls n ps ≡ slots_acts e
  acts_agree no_act_is = refl
  acts_agree {g = g} (act_is {ls = ls} {n = n} {a = a} {rest = rest} {d = d} e es) =
      two _ _ _ _ (act_agrees e) (ap (λ ms. found_acts g ms (n + slots_of_act a) rest) (locals_agree e) ∙ acts_agree es)

  pub branches_agree : {g : Env} {r : Option Shape} {ls : List Local} {n : ℕ} {ready all : List Armed} {bs : Branches} (e : ElabBranches g r ls n ready bs all) → found_branches g ls n bs ≡ slots_branches e
  branches_agree no_branch_is = refl
  branches_agree (branch_is e row c rest) = two _ _ _ _ (two _ _ _ _ (phrase_agrees e) (acts_agree c)) (branches_agree rest)

funcs_agree : {g : Env} {bodies all : List Body_tree} {sigs : List FuncSig} {fs : List Func_phrase} (e : ElabFuncs g bodies sigs fs all) → funcs_found g sigs fs ≡ func_types e
funcs_agree no_func_is = refl
funcs_agree no_func_left = refl
funcs_agree {g = g} (func_is {sig = sig} {sigs = sigs} {fs = fs} e r rest) =
    ap (λ ss. types_with sig.params ss (Some sig.result) ∷ funcs_found g sigs fs) (acts_agree e) ∙ ap (λ ts. types_with sig.params (slots_acts e) (Some sig.result) ∷ ts) (funcs_agree rest)

procs_agree : {g : Env} {bodies all : List Body_tree} {sigs : List ProcSig} {ps : List Proc_phrase} (e : ElabProcs g bodies sigs ps all) → procs_found g sigs ps ≡ proc_types e
procs_agree no_proc_is = refl
procs_agree no_proc_left = refl
procs_agree {g = g} (proc_is {sig = sig} {sigs = sigs} {ps = ps} e rest) =
    ap (λ ss. types_with sig.params ss None ∷ procs_found g sigs ps) (acts_agree e) ∙ ap (λ ts. types_with sig.params (slots_acts e) None ∷ ts) (procs_agree rest)

-- what is found of a script is what its typing has
pub script_agrees : {hosts : List Host} {s : Script} {p : Program_tree} (typed : ElabScript hosts s p) → script_found hosts s ≡ types_found typed
script_agrees {hosts = hosts} {s = s} (script_is {g = g} env ef ep em) =
    ap (λ x. where_typed x (λ g. types_with [] (found_acts g [] 0 s.main) None ∷ (funcs_found g g.funcs s.funcs ++ procs_found g g.procs s.procs))) env
    ∙ ap (λ ss. types_with [] ss None ∷ (funcs_found g g.funcs s.funcs ++ procs_found g g.procs s.procs)) (acts_agree em)
    ∙ ap (λ ts. types_with [] (slots_acts em) None ∷ (ts ++ procs_found g g.procs s.procs)) (funcs_agree ef)
    ∙ ap (λ ts. types_with [] (slots_acts em) None ∷ (func_types ef ++ ts)) (procs_agree ep)
