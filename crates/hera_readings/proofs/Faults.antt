-- The first fault of a script's types has a place.
use Rattle.std.proofs.Common.{ℕ, List, [], ◌∷◌, ◌++◌, ◌+◌, ◌||◌, Option, Some, None, Result, true, false, length, map, is_some, nat_lt, subst}
use Rattle.hera_sets.specs.Rows.{holds}
use Rattle.hera_meaning.specs.declared.schemas.RelDecl.{RelDecl}
use Rattle.hera_meaning.specs.declared.trees.Shape.{Shape}
use Rattle.hera_meaning.specs.Catalogues.{decl_name}
use Rattle.hera_meaning.specs.Trees.{Command, Body_tree, commit, rollback}
use Rattle.hera_host.specs.Tables.{Host}
use Rattle.hera_rules.specs.declared.words.Word.{Word}
use Rattle.hera_rules.specs.declared.env.Local.{Local}
use Rattle.hera_rules.specs.declared.env.FuncSig.{FuncSig}
use Rattle.hera_rules.specs.declared.env.ProcSig.{ProcSig}
use Rattle.hera_rules.specs.declared.fault.TypeFault.{TypeFault}
use Rattle.hera_rules.specs.declared.fault.TypeFault.TheVariants.{Memory}
use Rattle.hera_rules.specs.Environments.{Env}
use Rattle.hera_rules.specs.Phrases.{Phrase, literal, named, calling, operation, prefixed, attribute, row, atom, atoms, line, lines, walking, projecting, renaming, pairing, grouping, testing, folding, bulk, part, Phrases, no_phrase, phrase, Uses, no_use, uses, Act, declaring, assigning, performing, choosing, looping, visiting, printing, applying, asserting, committing, rolling_back, returning, returning_value, Acts, no_act, act, Branches, no_branch, branch, Relation_phrase, Param_phrase, Func_phrase, Proc_phrase, Script}
use Rattle.hera_rules.specs.Rules.{Typing, Step, joint_row, variable_row}
use Rattle.hera_rules.specs.Typing.{slots_of}
use Rattle.hera_rules.specs.Statements.{slots_of_act, slots_of_acts, slots_of_branches}
use Rattle.hera_rules.specs.Commands.{type_row, fields_row, Armed, cond_row, assign_row, perform_row, print_row, apply_row, assert_row, effect_row, return_row, return_value_row}
use Rattle.hera_rules.specs.Checked.{check, check_all, check_uses}
use Rattle.hera_rules.specs.CheckedActs.{stays, check_act, check_acts, check_branches}
use Rattle.hera_rules.specs.CheckedScripts.{check_body, check_funcs, check_procs, check_script}
use Rattle.hera_rules.specs.Programs.{relation_name, relations_row, new_name_row, names_row, local_name, param_row, params_row, func_row, funcs_row, proc_row, procs_row, env_row, body_with, returns_row, FirstFault}
use Rattle.hera_rules.proofs.DecidedScripts.{check-FirstFault}
use Rattle.hera_readings.proofs.Placed.{IsPlaced, fine, at_place, place_of, cond_placed, then_placed, name_placed, call_placed, prefix_placed, joint_placed, attribute_placed, row_placed, atom_placed, line_placed, lines_placed, variable_placed, walk_placed, project_placed, rename_placed, pair_placed, group_placed, test_placed, fold_placed, bulk_placed, part_placed, fields_placed, type_placed, declare_placed, assign_placed, perform_placed, cond_row_placed, effect_placed, apply_placed, assert_placed, return_placed, return_value_placed}

-- ---- expressions

mutual
  phrase_placed : (g : Env) (ls : List Local) (n : ℕ) (p : Phrase) → IsPlaced (check g ls n p)
  phrase_placed g ls n (literal c) = fine
  phrase_placed g ls n (named w) = name_placed g ls w
  phrase_placed g ls n (operation p rest) = then_placed (check g ls n p) _ (phrase_placed g ls n p) (λ v.
      then_placed (check_uses g ls (n + slots_of p) v.type [] rest) _ (uses_placed g ls (n + slots_of p) v.type [] rest) (λ u. fine))
  phrase_placed g ls n (prefixed op at p) = then_placed (check g ls n p) _ (phrase_placed g ls n p) (λ v. prefix_placed op at v)
  phrase_placed g ls n (attribute p w) = then_placed (check g ls n p) _ (phrase_placed g ls n p) (λ v. attribute_placed w v)
  phrase_placed g ls n (projecting at p names) = then_placed (check g ls n p) _ (phrase_placed g ls n p) (λ v. project_placed at names v)
  phrase_placed g ls n (renaming at p names) = then_placed (check g ls n p) _ (phrase_placed g ls n p) (λ v. rename_placed at names v)
  phrase_placed g ls n (grouping at p by aggs) = then_placed (check g ls n p) _ (phrase_placed g ls n p) (λ v. group_placed at by aggs v)
  phrase_placed g ls n (testing test at p) = then_placed (check g ls n p) _ (phrase_placed g ls n p) (λ v. test_placed test at v)
  phrase_placed g ls n (folding fold at p w) = then_placed (check g ls n p) _ (phrase_placed g ls n p) (λ v. fold_placed fold at w v)
  phrase_placed g ls n (bulk sign w at p) = then_placed (check g ls n p) _ (phrase_placed g ls n p) (λ v. bulk_placed g sign w at v)
  phrase_placed g ls n (part sign w at p) = then_placed (check g ls n p) _ (phrase_placed g ls n p) (λ v. part_placed g sign w at v)
  phrase_placed g ls n (calling w args) = then_placed (check_all g ls n [] args) _ (all_placed g ls n [] args) (λ vs. call_placed g w vs)
  phrase_placed g ls n (row at names args) = then_placed (check_all g ls n [] args) _ (all_placed g ls n [] args) (λ vs. row_placed at names vs)
  phrase_placed g ls n (atom sign w args) = then_placed (check_all g ls n [] args) _ (all_placed g ls n [] args) (λ vs. atom_placed g sign w vs)
  phrase_placed g ls n (line w at args) = then_placed (check_all g ls n [] args) _ (all_placed g ls n [] args) (λ vs. line_placed g w at vs)
  phrase_placed g ls n (lines w at args) = then_placed (check_all g ls n [] args) _ (all_placed g ls n [] args) (λ vs. lines_placed g w at vs)
  phrase_placed g ls n (atoms at all) = then_placed (check_all g ls n [] all) _ (all_placed g ls n [] all) (λ vs. fine)
  phrase_placed g ls n (pairing pair at p q) = then_placed (check g ls n p) _ (phrase_placed g ls n p) (λ v.
      then_placed (check g ls (n + slots_of p) q) _ (phrase_placed g ls (n + slots_of p) q) (λ w. pair_placed pair at v w))
  phrase_placed g ls n (walking walk at var of body) = then_placed (check g ls (n + 1) of) _ (phrase_placed g ls (n + 1) of) (λ v.
      then_placed (variable_row g ls var at n v.type) _ (variable_placed g ls var at n v.type) (λ l.
      then_placed (check g (ls ++ l ∷ []) (n + 1 + slots_of of) body) _ (phrase_placed g (ls ++ l ∷ []) (n + 1 + slots_of of) body) (λ b. walk_placed walk at n v b)))

  all_placed : (g : Env) (ls : List Local) (n : ℕ) (vs : List Typing) (ps : Phrases) → IsPlaced (check_all g ls n vs ps)
  all_placed g ls n vs no_phrase = fine
  all_placed g ls n vs (phrase p rest) = then_placed (check g ls n p) _ (phrase_placed g ls n p) (λ v. all_placed g ls (n + slots_of p) (vs ++ v ∷ []) rest)

  uses_placed : (g : Env) (ls : List Local) (n : ℕ) (t : Shape) (is : List Step) (us : Uses) → IsPlaced (check_uses g ls n t is us)
  uses_placed g ls n t is no_use = fine
  uses_placed g ls n t is (uses op at p rest) = then_placed (check g ls n p) _ (phrase_placed g ls n p) (λ v.
      then_placed (joint_row op at t v.type) _ (joint_placed op at t v.type) (λ r.
      uses_placed g ls (n + slots_of p) r (is ++ record { joint = op; at = at; arg = v.core } ∷ []) rest))

-- ---- statements

stays_placed : (ls : List Local) (r : Result Command TypeFault) → IsPlaced r → IsPlaced (stays ls r)
stays_placed ls r p = then_placed r _ p (λ c. fine)

mutual
  act_placed : (g : Env) (r : Option Shape) (ls : List Local) (n : ℕ) (a : Act) → IsPlaced (check_act g r ls n a)
  act_placed g r ls n (declaring type w p) = then_placed (type_row g.relations type) _ (type_placed g.relations type) (λ t.
      then_placed (check g ls (n + 1) p) _ (phrase_placed g ls (n + 1) p) (λ v. declare_placed g ls w n t v))
  act_placed g r ls n (assigning w p) = then_placed (check g ls n p) _ (phrase_placed g ls n p) (λ v. stays_placed ls (assign_row ls w v) (assign_placed ls w v))
  act_placed g r ls n (printing at p) = then_placed (check g ls n p) _ (phrase_placed g ls n p) (λ v. stays_placed ls (print_row (is_some r) at v) (effect_placed (is_some r) at _))
  act_placed g r ls n (applying at p) = then_placed (check g ls n p) _ (phrase_placed g ls n p) (λ v. stays_placed ls (apply_row (is_some r) at v) (apply_placed (is_some r) at v))
  act_placed g r ls n (asserting at p) = then_placed (check g ls n p) _ (phrase_placed g ls n p) (λ v. stays_placed ls (assert_row at v) (assert_placed at v))
  act_placed g r ls n (returning_value at p) = then_placed (check g ls n p) _ (phrase_placed g ls n p) (λ v. stays_placed ls (return_value_row r at v) (return_value_placed r at v))
  act_placed g r ls n (committing at label) = stays_placed ls (effect_row (is_some r) at (commit label)) (effect_placed (is_some r) at (commit label))
  act_placed g r ls n (rolling_back at) = stays_placed ls (effect_row (is_some r) at rollback) (effect_placed (is_some r) at rollback)
  act_placed g r ls n (returning at) = stays_placed ls (return_row r at) (return_placed r at)
  act_placed g r ls n (performing w args) = then_placed (check_all g ls n [] args) _ (all_placed g ls n [] args) (λ vs. stays_placed ls (perform_row g (is_some r) w vs) (perform_placed g (is_some r) w vs))
  act_placed g r ls n (choosing arms last) = then_placed (check_branches g r ls n [] arms) _ (branches_placed g r ls n [] arms) (λ all.
      then_placed (check_acts g r ls (n + slots_of_branches arms) [] last) _ (acts_placed g r ls (n + slots_of_branches arms) [] last) (λ cs. fine))
  act_placed g r ls n (looping at c block) = then_placed (check g ls n c) _ (phrase_placed g ls n c) (λ v.
      then_placed (cond_row at v) _ (cond_row_placed at v) (λ e.
      then_placed (check_acts g r ls (n + slots_of c) [] block) _ (acts_placed g r ls (n + slots_of c) [] block) (λ cs. fine)))
  act_placed g r ls n (visiting at var of block) = then_placed (check g ls (n + 1) of) _ (phrase_placed g ls (n + 1) of) (λ v.
      then_placed (variable_row g ls var at n v.type) _ (variable_placed g ls var at n v.type) (λ l.
      then_placed (check_acts g r (ls ++ l ∷ []) (n + 1 + slots_of of) [] block) _ (acts_placed g r (ls ++ l ∷ []) (n + 1 + slots_of of) [] block) (λ cs. fine)))

  acts_placed : (g : Env) (r : Option Shape) (ls : List Local) (n : ℕ) (cs : List Command) (as' : Acts) → IsPlaced (check_acts g r ls n cs as')
  acts_placed g r ls n cs no_act = fine
  acts_placed g r ls n cs (act a rest) = then_placed (check_act g r ls n a) _ (act_placed g r ls n a) (λ d. acts_placed g r d.locals (n + slots_of_act a) (cs ++ d.core ∷ []) rest)

  branches_placed : (g : Env) (r : Option Shape) (ls : List Local) (n : ℕ) (ready : List Armed) (bs : Branches) → IsPlaced (check_branches g r ls n ready bs)
  branches_placed g r ls n ready no_branch = fine
  branches_placed g r ls n ready (branch at c block rest) = then_placed (check g ls n c) _ (phrase_placed g ls n c) (λ v.
      then_placed (cond_row at v) _ (cond_row_placed at v) (λ e.
      then_placed (check_acts g r ls (n + slots_of c) [] block) _ (acts_placed g r ls (n + slots_of c) [] block) (λ cs.
      branches_placed g r ls (n + slots_of c + slots_of_acts block) (ready ++ record { cond = e; block = cs } ∷ []) rest)))

-- ---- names of a script

relations_placed : (rels : List RelDecl) (ps : List Relation_phrase) → IsPlaced (relations_row rels ps)
relations_placed rels [] = fine
relations_placed rels (p ∷ ps) = then_placed (fields_row [] p.attrs) _ (fields_placed [] p.attrs) (λ attrs.
    then_placed (relation_name rels p.name) _ (cond_placed (holds (map decl_name rels) p.name.name) _ _ (at_place tt) (cond_placed (nat_lt (length rels) 256) _ _ fine (at_place tt))) (λ name.
    relations_placed (rels ++ record { name = name; schema = attrs } ∷ []) ps))

names_placed : (seen : List (List ℕ)) (ws : List Word) → IsPlaced (names_row seen ws)
names_placed seen [] = fine
names_placed seen (w ∷ ws) = then_placed (new_name_row seen w) _ (cond_placed (holds seen w.name) _ _ (at_place tt) fine) (λ name. names_placed (seen ++ name ∷ []) ws)

param_placed : (rels : List RelDecl) (taken : List (List ℕ)) (ls : List Local) (p : Param_phrase) → IsPlaced (param_row rels taken ls p)
param_placed rels taken ls p = then_placed (type_row rels p.type) _ (type_placed rels p.type) (λ t. cond_placed (holds taken p.name.name || holds (map local_name ls) p.name.name) _ _ (at_place tt) fine)

params_placed : (rels : List RelDecl) (taken : List (List ℕ)) (ls : List Local) (ps : List Param_phrase) → IsPlaced (params_row rels taken ls ps)
params_placed rels taken ls [] = fine
params_placed rels taken ls (p ∷ ps) = then_placed (param_row rels taken ls p) _ (param_placed rels taken ls p) (λ l. params_placed rels taken (ls ++ l ∷ []) ps)

funcs_placed : (rels : List RelDecl) (taken : List (List ℕ)) (sigs : List FuncSig) (fs : List Func_phrase) → IsPlaced (funcs_row rels taken sigs fs)
funcs_placed rels taken sigs [] = fine
funcs_placed rels taken sigs (f ∷ fs) = then_placed (func_row rels taken (1 + length sigs) f) _
    (then_placed (type_row rels f.type) _ (type_placed rels f.type) (λ t. then_placed (params_row rels taken [] f.params) _ (params_placed rels taken [] f.params) (λ ls. fine)))
    (λ sig. funcs_placed rels taken (sigs ++ sig ∷ []) fs)

procs_placed : (rels : List RelDecl) (taken : List (List ℕ)) (funcs : ℕ) (sigs : List ProcSig) (ps : List Proc_phrase) → IsPlaced (procs_row rels taken funcs sigs ps)
procs_placed rels taken funcs sigs [] = fine
procs_placed rels taken funcs sigs (p ∷ ps) = then_placed (proc_row rels taken (1 + funcs + length sigs) p) _
    (then_placed (params_row rels taken [] p.params) _ (params_placed rels taken [] p.params) (λ ls. fine))
    (λ sig. procs_placed rels taken funcs (sigs ++ sig ∷ []) ps)

env_placed : (hosts : List Host) (s : Script) → IsPlaced (env_row hosts s)
env_placed hosts s = then_placed (relations_row [] s.relations) _ (relations_placed [] s.relations) (λ rels.
    then_placed (names_row (map decl_name rels) (map (λ f. f.name) s.funcs)) _ (names_placed (map decl_name rels) (map (λ f. f.name) s.funcs)) (λ some.
    then_placed (names_row some (map (λ p. p.name) s.procs)) _ (names_placed some (map (λ p. p.name) s.procs)) (λ taken.
    then_placed (funcs_row rels taken [] s.funcs) _ (funcs_placed rels taken [] s.funcs) (λ funcs.
    then_placed (procs_row rels taken (length funcs) [] s.procs) _ (procs_placed rels taken (length funcs) [] s.procs) (λ procs. fine)))))

-- ---- bodies

body_placed : (g : Env) (r : Option Shape) (params : List Local) (block : Acts) → IsPlaced (check_body g r params block)
body_placed g r params block = acts_placed g r params (length params) [] block

func_bodies_placed : (g : Env) (bodies : List Body_tree) (sigs : List FuncSig) (fs : List Func_phrase) → IsPlaced (check_funcs g bodies sigs fs)
func_bodies_placed g bodies [] fs = fine
func_bodies_placed g bodies (sig ∷ sigs) [] = fine
func_bodies_placed g bodies (sig ∷ sigs) (f ∷ fs) = then_placed (check_body g (Some sig.result) sig.params f.block) _ (body_placed g (Some sig.result) sig.params f.block) (λ cs.
    then_placed (returns_row f.name.at cs) _ (cond_placed _ _ _ fine (at_place tt)) (λ ds.
    func_bodies_placed g (bodies ++ body_with sig.params true f.block ds ∷ []) sigs fs))

proc_bodies_placed : (g : Env) (bodies : List Body_tree) (sigs : List ProcSig) (ps : List Proc_phrase) → IsPlaced (check_procs g bodies sigs ps)
proc_bodies_placed g bodies [] ps = fine
proc_bodies_placed g bodies (sig ∷ sigs) [] = fine
proc_bodies_placed g bodies (sig ∷ sigs) (p ∷ ps) = then_placed (check_body g None sig.params p.block) _ (body_placed g None sig.params p.block) (λ cs.
    proc_bodies_placed g (bodies ++ body_with sig.params false p.block cs ∷ []) sigs ps)

script_placed : (hosts : List Host) (s : Script) → IsPlaced (check_script hosts s)
script_placed hosts s = then_placed (env_row hosts s) _ (env_placed hosts s) (λ g.
    then_placed (check_funcs g [] g.funcs s.funcs) _ (func_bodies_placed g [] g.funcs s.funcs) (λ funcs.
    then_placed (check_procs g funcs g.procs s.procs) _ (proc_bodies_placed g funcs g.procs s.procs) (λ all.
    then_placed (check_body g None [] s.main) _ (body_placed g None [] s.main) (λ cs. fine))))

pub no_want : (hosts : List Host) (script : Script) → FirstFault hosts script Memory → ⊥
no_want hosts script first = place_of (subst IsPlaced (check-FirstFault first) (script_placed hosts script))
