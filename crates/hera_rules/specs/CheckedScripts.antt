-- Typing of a script as one function, in the order of work.
use Rattle.std.specs.Prelude.{List, [], ◌∷◌, ◌++◌, length, Option, Some, None, Result, Ok, true, false}
use Rattle.hera_meaning.specs.declared.trees.Shape.{Shape}
use Rattle.hera_meaning.specs.Trees.{Command, Body_tree, Program_tree}
use Rattle.hera_host.specs.Tables.{Host}
use Rattle.hera_rules.specs.declared.env.Local.{Local}
use Rattle.hera_rules.specs.declared.env.FuncSig.{FuncSig}
use Rattle.hera_rules.specs.declared.env.ProcSig.{ProcSig}
use Rattle.hera_rules.specs.declared.fault.TypeFault.{TypeFault}
use Rattle.hera_rules.specs.Environments.{Env}
use Rattle.hera_rules.specs.Phrases.{Acts, Func_phrase, Proc_phrase, Script}
use Rattle.hera_rules.specs.Checked.{and_then}
use Rattle.hera_rules.specs.CheckedActs.{check_acts}
use Rattle.hera_rules.specs.Programs.{env_row, body_with, returns_row, program_with}

abbrev pub check_body : Env → Option Shape → List Local → Acts → Result (List Command) TypeFault
check_body g r params block = check_acts g r params (length params) [] block

abbrev pub check_funcs : Env → List Body_tree → List FuncSig → List Func_phrase → Result (List Body_tree) TypeFault
check_funcs g bodies (sig ∷ sigs) (f ∷ fs) = and_then (check_body g (Some sig.result) sig.params f.block) (λ cs. and_then (returns_row f.name.at cs) (λ ds.
    check_funcs g (bodies ++ body_with sig.params true f.block ds ∷ []) sigs fs))
check_funcs g bodies [] fs = Ok bodies
check_funcs g bodies (sig ∷ sigs) [] = Ok bodies

abbrev pub check_procs : Env → List Body_tree → List ProcSig → List Proc_phrase → Result (List Body_tree) TypeFault
check_procs g bodies (sig ∷ sigs) (p ∷ ps) = and_then (check_body g None sig.params p.block) (λ cs.
    check_procs g (bodies ++ body_with sig.params false p.block cs ∷ []) sigs ps)
check_procs g bodies [] ps = Ok bodies
check_procs g bodies (sig ∷ sigs) [] = Ok bodies

abbrev pub check_script : List Host → Script → Result Program_tree TypeFault
check_script hosts s = and_then (env_row hosts s) (λ g. and_then (check_funcs g [] g.funcs s.funcs) (λ funcs. and_then (check_procs g funcs g.procs s.procs) (λ all.
    and_then (check_body g None [] s.main) (λ cs. Ok (program_with g s cs all)))))
