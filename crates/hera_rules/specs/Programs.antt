-- When a script is accepted: the four passes, each in the order of the text.
use Rattle.std.specs.Prelude.{◌≡◌, ℕ, Bool, true, false, cond, List, [], ◌∷◌, ◌++◌, map, length, Option, Some, None, Result, Ok, Err, ◌+◌, ◌||◌, nat_lt}
use Rattle.hera_sets.specs.Rows.{holds}
use Rattle.hera_meaning.specs.declared.schemas.TheConstants.{RELATIONS_LIMIT}
use Rattle.hera_meaning.specs.declared.schemas.RelDecl.{RelDecl}
use Rattle.hera_meaning.specs.declared.trees.Shape.{Shape}
use Rattle.hera_meaning.specs.Catalogues.{decl_name}
use Rattle.hera_meaning.specs.Trees.{Command, Body_tree, Program_tree}
use Rattle.hera_meaning.specs.Sound.{returns}
use Rattle.hera_host.specs.Tables.{Host}
use Rattle.hera_rules.specs.declared.words.Word.{Word}
use Rattle.hera_rules.specs.declared.env.Local.{Local}
use Rattle.hera_rules.specs.declared.env.FuncSig.{FuncSig}
use Rattle.hera_rules.specs.declared.env.ProcSig.{ProcSig}
use Rattle.hera_rules.specs.declared.fault.TypeFault.{TypeFault}
use Rattle.hera_rules.specs.declared.fault.TypeFault.TheVariants.{Repeated as repeated, NoReturn as no_return, TooMany as too_many}
use Rattle.hera_rules.specs.Environments.{Env}
use Rattle.hera_rules.specs.Phrases.{Acts, Relation_phrase, Param_phrase, Func_phrase, Proc_phrase, Script}
use Rattle.hera_rules.specs.Checked.{and_then}
use Rattle.hera_rules.specs.Commands.{fields_row, type_row, block_from}
use Rattle.hera_rules.specs.Statements.{slots_of_acts, ElabActs, FirstActs}

-- ---- pass 1: relations

-- the name of a relation: no earlier relation has it, and it is not the 257th
abbrev pub relation_name : List RelDecl → Word → Result (List ℕ) TypeFault
relation_name rels w = cond (holds (map decl_name rels) w.name) (Err (repeated w.at)) (cond (nat_lt (length rels) RELATIONS_LIMIT) (Ok w.name) (Err (too_many w.at)))

-- relations behind these: the attributes of each, then its name
abbrev pub relations_row : List RelDecl → List Relation_phrase → Result (List RelDecl) TypeFault
relations_row rels [] = Ok rels
relations_row rels (p ∷ ps) = and_then (fields_row [] p.attrs) (λ attrs. and_then (relation_name rels p.name) (λ name.
    relations_row (rels ++ record { name = name; schema = attrs } ∷ []) ps))

-- ---- pass 2: names of funcs and procs

-- a name that is none of these
abbrev pub new_name_row : List (List ℕ) → Word → Result (List ℕ) TypeFault
new_name_row seen w = cond (holds seen w.name) (Err (repeated w.at)) (Ok w.name)

-- the names behind these, each a new one
abbrev pub names_row : List (List ℕ) → List Word → Result (List (List ℕ)) TypeFault
names_row seen [] = Ok seen
names_row seen (w ∷ ws) = and_then (new_name_row seen w) (λ name. names_row (seen ++ name ∷ []) ws)

-- ---- pass 3: signatures

abbrev pub local_name : Local → List ℕ
local_name l = l.name

-- a parameter behind these; the global names are taken
abbrev pub param_row : List RelDecl → List (List ℕ) → List Local → Param_phrase → Result Local TypeFault
param_row rels taken ls p = and_then (type_row rels p.type) (λ t.
    cond (holds taken p.name.name || holds (map local_name ls) p.name.name) (Err (repeated p.name.at)) (Ok (record { name = p.name.name; slot = length ls; shape = t })))

abbrev pub params_row : List RelDecl → List (List ℕ) → List Local → List Param_phrase → Result (List Local) TypeFault
params_row rels taken ls [] = Ok ls
params_row rels taken ls (p ∷ ps) = and_then (param_row rels taken ls p) (λ l. params_row rels taken (ls ++ l ∷ []) ps)

-- the funcs behind these; bodies are numbered from 1, main being 0
abbrev pub func_row : List RelDecl → List (List ℕ) → (number : ℕ) → Func_phrase → Result FuncSig TypeFault
func_row rels taken number f = and_then (type_row rels f.type) (λ t. and_then (params_row rels taken [] f.params) (λ ls.
    Ok (record { name = f.name.name; number = number; result = t; params = ls })))

abbrev pub funcs_row : List RelDecl → List (List ℕ) → List FuncSig → List Func_phrase → Result (List FuncSig) TypeFault
funcs_row rels taken sigs [] = Ok sigs
funcs_row rels taken sigs (f ∷ fs) = and_then (func_row rels taken (1 + length sigs) f) (λ sig. funcs_row rels taken (sigs ++ sig ∷ []) fs)

-- the procs behind these, numbered behind the funcs
abbrev pub proc_row : List RelDecl → List (List ℕ) → (number : ℕ) → Proc_phrase → Result ProcSig TypeFault
proc_row rels taken number p = and_then (params_row rels taken [] p.params) (λ ls. Ok (record { name = p.name.name; number = number; params = ls }))

abbrev pub procs_row : List RelDecl → List (List ℕ) → (funcs : ℕ) → List ProcSig → List Proc_phrase → Result (List ProcSig) TypeFault
procs_row rels taken funcs sigs [] = Ok sigs
procs_row rels taken funcs sigs (p ∷ ps) = and_then (proc_row rels taken (1 + funcs + length sigs) p) (λ sig. procs_row rels taken funcs (sigs ++ sig ∷ []) ps)

-- what names mean, once the first three passes are through
abbrev pub env_row : List Host → Script → Result Env TypeFault
env_row hosts s = and_then (relations_row [] s.relations) (λ rels.
    and_then (names_row (map decl_name rels) (map (λ f. f.name) s.funcs)) (λ some. and_then (names_row some (map (λ p. p.name) s.procs)) (λ taken.
    and_then (funcs_row rels taken [] s.funcs) (λ funcs. and_then (procs_row rels taken (length funcs) [] s.procs) (λ procs.
    Ok (record { relations = rels; funcs = funcs; procs = procs; hosts = hosts }))))))

-- ---- pass 4: bodies

abbrev pub body_with : List Local → Bool → Acts → List Command → Body_tree
body_with params func block cs = record { params = length params; slots = length params + slots_of_acts block; func = func; block = block_from cs }

-- the block of a body with these parameters, which returns this, is typed
abbrev pub ElabBody : Env → Option Shape → List Local → Acts → List Command → Type 0
ElabBody g r params block cs = ElabActs g r params (length params) [] block cs

abbrev pub FirstBody : Env → Option Shape → List Local → Acts → TypeFault → Type 0
FirstBody g r params block f = FirstActs g r params (length params) [] block f

-- the last statement of a func returns
abbrev pub returns_row : ℕ → List Command → Result (List Command) TypeFault
returns_row at cs = cond (returns (block_from cs)) (Ok cs) (Err (no_return at))

-- the funcs with their signatures, one for each, have these bodies, behind others; where one list is
-- longer, which the passes before rule out, its rest is left
pub data ElabFuncs (g : Env) : List Body_tree → List FuncSig → List Func_phrase → List Body_tree → Type 0 where
  no_func_is : {bodies : List Body_tree} {fs : List Func_phrase} → ElabFuncs g bodies [] fs bodies
  no_func_left : {bodies : List Body_tree} {sig : FuncSig} {sigs : List FuncSig} → ElabFuncs g bodies (sig ∷ sigs) [] bodies
  func_is : {sig : FuncSig} {sigs : List FuncSig} {f : Func_phrase} {fs : List Func_phrase} {cs ds : List Command} {bodies all : List Body_tree} →
      ElabBody g (Some sig.result) sig.params f.block cs → returns_row f.name.at cs ≡ Ok ds →
      ElabFuncs g (bodies ++ body_with sig.params true f.block ds ∷ []) sigs fs all → ElabFuncs g bodies (sig ∷ sigs) (f ∷ fs) all

pub data ElabProcs (g : Env) : List Body_tree → List ProcSig → List Proc_phrase → List Body_tree → Type 0 where
  no_proc_is : {bodies : List Body_tree} {ps : List Proc_phrase} → ElabProcs g bodies [] ps bodies
  no_proc_left : {bodies : List Body_tree} {sig : ProcSig} {sigs : List ProcSig} → ElabProcs g bodies (sig ∷ sigs) [] bodies
  proc_is : {sig : ProcSig} {sigs : List ProcSig} {p : Proc_phrase} {ps : List Proc_phrase} {cs : List Command} {bodies all : List Body_tree} →
      ElabBody g None sig.params p.block cs → ElabProcs g (bodies ++ body_with sig.params false p.block cs ∷ []) sigs ps all → ElabProcs g bodies (sig ∷ sigs) (p ∷ ps) all

pub data FirstFuncs (g : Env) : List Body_tree → List FuncSig → List Func_phrase → TypeFault → Type 0 where
  in_func : {sig : FuncSig} {sigs : List FuncSig} {f : Func_phrase} {fs : List Func_phrase} {bodies : List Body_tree} {fault : TypeFault} →
      FirstBody g (Some sig.result) sig.params f.block fault → FirstFuncs g bodies (sig ∷ sigs) (f ∷ fs) fault
  func_breaks : {sig : FuncSig} {sigs : List FuncSig} {f : Func_phrase} {fs : List Func_phrase} {cs : List Command} {bodies : List Body_tree} {fault : TypeFault} →
      ElabBody g (Some sig.result) sig.params f.block cs → returns_row f.name.at cs ≡ Err fault → FirstFuncs g bodies (sig ∷ sigs) (f ∷ fs) fault
  in_later_func : {sig : FuncSig} {sigs : List FuncSig} {f : Func_phrase} {fs : List Func_phrase} {cs ds : List Command} {bodies : List Body_tree} {fault : TypeFault} →
      ElabBody g (Some sig.result) sig.params f.block cs → returns_row f.name.at cs ≡ Ok ds →
      FirstFuncs g (bodies ++ body_with sig.params true f.block ds ∷ []) sigs fs fault → FirstFuncs g bodies (sig ∷ sigs) (f ∷ fs) fault

pub data FirstProcs (g : Env) : List Body_tree → List ProcSig → List Proc_phrase → TypeFault → Type 0 where
  in_proc : {sig : ProcSig} {sigs : List ProcSig} {p : Proc_phrase} {ps : List Proc_phrase} {bodies : List Body_tree} {fault : TypeFault} →
      FirstBody g None sig.params p.block fault → FirstProcs g bodies (sig ∷ sigs) (p ∷ ps) fault
  in_later_proc : {sig : ProcSig} {sigs : List ProcSig} {p : Proc_phrase} {ps : List Proc_phrase} {cs : List Command} {bodies : List Body_tree} {fault : TypeFault} →
      ElabBody g None sig.params p.block cs → FirstProcs g (bodies ++ body_with sig.params false p.block cs ∷ []) sigs ps fault → FirstProcs g bodies (sig ∷ sigs) (p ∷ ps) fault

-- the program of a script: main, the funcs, the procs
abbrev pub program_with : Env → Script → List Command → List Body_tree → Program_tree
program_with g s cs bodies = record { relations = g.relations; bodies = body_with [] false s.main cs ∷ bodies }

-- the script is typed, and this is its program; main stands last in the text
pub data ElabScript (hosts : List Host) (s : Script) : Program_tree → Type 0 where
  script_is : {g : Env} {funcs all : List Body_tree} {cs : List Command} →
      env_row hosts s ≡ Ok g → ElabFuncs g [] g.funcs s.funcs funcs → ElabProcs g funcs g.procs s.procs all → ElabBody g None [] s.main cs →
      ElabScript hosts s (program_with g s cs all)

-- the first fault of a script
pub data FirstFault (hosts : List Host) (s : Script) : TypeFault → Type 0 where
  in_env : {f : TypeFault} → env_row hosts s ≡ Err f → FirstFault hosts s f
  in_funcs : {g : Env} {f : TypeFault} → env_row hosts s ≡ Ok g → FirstFuncs g [] g.funcs s.funcs f → FirstFault hosts s f
  in_procs : {g : Env} {funcs : List Body_tree} {f : TypeFault} →
      env_row hosts s ≡ Ok g → ElabFuncs g [] g.funcs s.funcs funcs → FirstProcs g funcs g.procs s.procs f → FirstFault hosts s f
  in_main : {g : Env} {funcs all : List Body_tree} {f : TypeFault} →
      env_row hosts s ≡ Ok g → ElabFuncs g [] g.funcs s.funcs funcs → ElabProcs g funcs g.procs s.procs all → FirstBody g None [] s.main f → FirstFault hosts s f
