-- The types that typing finds: of each body's slots, of what the walks into them gather, and of its result.
use Rattle.std.specs.Prelude.{ℕ, List, [], ◌∷◌, ◌++◌, map, Option, Some, None}
use Rattle.hera_meaning.specs.declared.schemas.Attr.{Attr}
use Rattle.hera_meaning.specs.declared.trees.Shape.{Shape}
use Rattle.hera_meaning.specs.declared.trees.Shape.TheVariants.{Tuple as tuple}
use Rattle.hera_meaning.specs.Trees.{Command, Body_tree, Program_tree}
use Rattle.hera_meaning.specs.Shapes.{Body_types}
use Rattle.hera_host.specs.Tables.{Host}
use Rattle.hera_rules.specs.declared.words.WalkKind.{WalkKind}
use Rattle.hera_rules.specs.declared.words.WalkKind.TheVariants.{Keeping, Mapping}
use Rattle.hera_rules.specs.declared.env.Local.{Local}
use Rattle.hera_rules.specs.declared.env.FuncSig.{FuncSig}
use Rattle.hera_rules.specs.declared.env.ProcSig.{ProcSig}
use Rattle.hera_rules.specs.Environments.{Env}
use Rattle.hera_rules.specs.Phrases.{Phrase, Phrases, Uses, Act, Acts, Branches, Func_phrase, Proc_phrase, Script}
use Rattle.hera_rules.specs.Rules.{Typing, Step}
use Rattle.hera_rules.specs.Typing.{Elab, ElabAll, ElabUses, literal_is, name_is, operation_is, prefix_is, field_is, project_is, rename_is, group_is, test_is, fold_is, bulk_is, part_is, call_is, row_is, atom_is, line_is, lines_is, atoms_are, pair_is, walk_is, none_are, more_are, no_use_is, use_is}
use Rattle.hera_rules.specs.Commands.{Done, Armed}
use Rattle.hera_rules.specs.Statements.{ElabAct, ElabActs, ElabBranches, declare_is, assign_is, print_is, apply_is, assert_is, return_value_is, commit_is, rollback_is, return_is, perform_is, choose_is, loop_is, visit_is, no_act_is, act_is, no_branch_is, branch_is}
use Rattle.hera_rules.specs.Programs.{ElabFuncs, no_func_is, no_func_left, func_is, ElabProcs, no_proc_is, no_proc_left, proc_is, ElabScript, script_is}

-- ---- slots

-- a slot: its type, and the attributes of what the walk into it gathers, where there is one
pub record Slot : Type 0 where
  pub shape : Shape
  pub gathers : Option (List Attr)

abbrev pub held : Shape → Slot
held t = record { shape = t; gathers = None }

abbrev pub walked : Shape → List Attr → Slot
walked t s = record { shape = t; gathers = Some s }

abbrev pub attrs_of_tuple : Shape → List Attr
attrs_of_tuple (tuple s) = s
attrs_of_tuple _ = []

-- what a walk gathers, by the types of its variable and of its body
abbrev pub gathered : WalkKind → (variable body : Shape) → List Attr
gathered Keeping t b = attrs_of_tuple t
gathered Mapping t b = attrs_of_tuple b

-- ---- the slots that a phrase declares, in their order

abbrev mutual
  pub slots : {g : Env} {ls : List Local} {n : ℕ} {p : Phrase} {v : Typing} → Elab g ls n p v → List Slot
  slots literal_is = []
  slots (name_is r) = []
  slots (operation_is e u) = slots e ++ slots_uses u
  slots (prefix_is e r) = slots e
  slots (field_is e r) = slots e
  slots (project_is e r) = slots e
  slots (rename_is e r) = slots e
  slots (group_is e r) = slots e
  slots (test_is e r) = slots e
  slots (fold_is e r) = slots e
  slots (bulk_is e r) = slots e
  slots (part_is e r) = slots e
  slots (call_is e r) = slots_all e
  slots (row_is e r) = slots_all e
  slots (atom_is e r) = slots_all e
  slots (line_is e r) = slots_all e
  slots (lines_is e r) = slots_all e
  slots (atoms_are e) = slots_all e
  slots (pair_is e d r) = slots e ++ slots d
  slots (walk_is {walk = walk} {b = b} {l = l} e k d r) = walked l.shape (gathered walk l.shape b.type) ∷ (slots e ++ slots d)

  pub slots_all : {g : Env} {ls : List Local} {n : ℕ} {vs all : List Typing} {ps : Phrases} → ElabAll g ls n vs ps all → List Slot
  slots_all none_are = []
  slots_all (more_are e es) = slots e ++ slots_all es

  pub slots_uses : {g : Env} {ls : List Local} {n : ℕ} {t r : Shape} {us : Uses} {is all : List Step} → ElabUses g ls n t is us r all → List Slot
  slots_uses no_use_is = []
  slots_uses (use_is e j u) = slots e ++ slots_uses u

abbrev mutual
  pub slots_act : {g : Env} {r : Option Shape} {ls : List Local} {n : ℕ} {a : Act} {d : Done} → ElabAct g r ls n a d → List Slot
  slots_act (declare_is {t = t} k e row) = held t ∷ slots e
  slots_act (assign_is e row) = slots e
  slots_act (print_is e row) = slots e
  slots_act (apply_is e row) = slots e
  slots_act (assert_is e row) = slots e
  slots_act (return_value_is e row) = slots e
  slots_act (commit_is row) = []
  slots_act (rollback_is row) = []
  slots_act (return_is row) = []
  slots_act (perform_is e row) = slots_all e
  slots_act (choose_is b c) = slots_branches b ++ slots_acts c
  slots_act (loop_is e row c) = slots e ++ slots_acts c
  slots_act (visit_is {l = l} e row c) = walked l.shape (attrs_of_tuple l.shape) ∷ (slots e ++ slots_acts c)

  pub slots_acts : {g : Env} {r : Option Shape} {ls : List Local} {n : ℕ} {cs all : List Command} {ps : Acts} → ElabActs g r ls n cs ps all → List Slot
  slots_acts no_act_is = []
  slots_acts (act_is a rest) = slots_act a ++ slots_acts rest

  pub slots_branches : {g : Env} {r : Option Shape} {ls : List Local} {n : ℕ} {ready all : List Armed} {bs : Branches} → ElabBranches g r ls n ready bs all → List Slot
  slots_branches no_branch_is = []
  slots_branches (branch_is e row c rest) = (slots e ++ slots_acts c) ++ slots_branches rest

-- ---- bodies and scripts

abbrev pub param_slots : List Local → List Slot
param_slots ls = map (λ l. held l.shape) ls

-- a body's types: of its slots, which are these parameters and then those of its block, and of its result
abbrev pub types_with : List Local → List Slot → Option Shape → Body_types
types_with params declared result = record {
  slots = map (λ s. s.shape) (param_slots params ++ declared);
  gathers = map (λ s. s.gathers) (param_slots params ++ declared);
  result = result;
}

abbrev pub func_types : {g : Env} {bodies all : List Body_tree} {sigs : List FuncSig} {fs : List Func_phrase} → ElabFuncs g bodies sigs fs all → List Body_types
func_types no_func_is = []
func_types no_func_left = []
func_types (func_is {sig = sig} e r rest) = types_with sig.params (slots_acts e) (Some sig.result) ∷ func_types rest

abbrev pub proc_types : {g : Env} {bodies all : List Body_tree} {sigs : List ProcSig} {ps : List Proc_phrase} → ElabProcs g bodies sigs ps all → List Body_types
proc_types no_proc_is = []
proc_types no_proc_left = []
proc_types (proc_is {sig = sig} e rest) = types_with sig.params (slots_acts e) None ∷ proc_types rest

-- the bodies of a typed script: main, the funcs, the procs
abbrev pub types_found : {hosts : List Host} {s : Script} {p : Program_tree} → ElabScript hosts s p → List Body_types
types_found (script_is env funcs procs main) = types_with [] (slots_acts main) None ∷ (func_types funcs ++ proc_types procs)
