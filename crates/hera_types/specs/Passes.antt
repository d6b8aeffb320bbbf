-- The bodies of a script, row by row.
use Rattle.std.specs.Prelude.{List, map, Option, Some, Result, Ok, Vec, is_some, true}
use Rattle.std.specs.declared.alloc.Global.{Global}
use Rattle.hera_meaning.specs.declared.trees.Body.{Body}
use Rattle.hera_meaning.specs.declared.trees.Shape.{Shape}
use Rattle.hera_meaning.specs.Trees.{Body_tree}
use Rattle.hera_meaning.specs.Plain.{body_of}
use Rattle.hera_rules.specs.declared.env.Local.{Local}
use Rattle.hera_rules.specs.declared.env.FuncSig.{FuncSig}
use Rattle.hera_rules.specs.declared.fault.TypeFault.{TypeFault}
use Rattle.hera_rules.specs.Environments.{Env}
use Rattle.hera_rules.specs.Phrases.{Acts, Func_phrase}
use Rattle.hera_rules.specs.Checked.{and_then}
use Rattle.hera_rules.specs.CheckedScripts.{check_body}
use Rattle.hera_rules.specs.Programs.{returns_row, body_with}

-- a body with these parameters, which returns this
abbrev pub body_row : Env → Option Shape → List Local → Acts → Result Body_tree TypeFault
body_row g r params block = and_then (check_body g r params block) (λ cs. Ok (body_with params (is_some r) block cs))

-- the body of a func, whose last statement returns
abbrev pub func_body_row : Env → FuncSig → Func_phrase → Result Body_tree TypeFault
func_body_row g sig f =
    and_then (check_body g (Some sig.result) sig.params f.block) (λ cs. and_then (returns_row f.name.at cs) (λ ds. Ok (body_with sig.params true f.block ds)))

abbrev pub bodies_of : Vec Body Global → List Body_tree
bodies_of bs = map body_of bs.items
