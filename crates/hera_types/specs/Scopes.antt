-- What typing statements leaves of the scope.
use Rattle.std.specs.Prelude.{◌≡◌, ◌≢◌, ℕ, ◌+◌, ◌++◌, List, [], map, Option, Result, Ok, Err, Vec, Bool, true, false}
use Rattle.std.specs.declared.alloc.Global.{Global}
use Rattle.hera_meaning.specs.declared.trees.Stmt.{Stmt}
use Rattle.hera_meaning.specs.declared.trees.Arm.{Arm}
use Rattle.hera_meaning.specs.declared.trees.Shape.{Shape}
use Rattle.hera_meaning.specs.Trees.{Command}
use Rattle.hera_meaning.specs.Plain.{command_of, expr_of}
use Rattle.hera_syntax.specs.declared.tree.StmtTree.{StmtTree, If', While', Foreach'}
use Rattle.hera_rules.specs.declared.env.Local.{Local}
use Rattle.hera_rules.specs.declared.fault.TypeFault.{TypeFault}
use Rattle.hera_rules.specs.declared.fault.TypeFault.TheVariants.{Memory as memory}
use Rattle.hera_rules.specs.Environments.{Env}
use Rattle.hera_rules.specs.Phrases.{Phrase, Act, Acts}
use Rattle.hera_rules.specs.Checked.{and_then, check}
use Rattle.hera_rules.specs.Typing.{slots_of}
use Rattle.hera_rules.specs.Commands.{done, Armed, cond_row}
use Rattle.hera_rules.specs.CheckedActs.{check_act, check_acts}

-- whether a block is written in the statement
abbrev pub has_block : StmtTree → Bool
has_block (If' word bracket e brace shape stmts shape' elses last) = true
has_block (While' word bracket e brace shape stmts) = true
has_block (Foreach' word bracket n e brace shape stmts) = true
has_block _ = false

abbrev pub commands_in : List Stmt → List Command
commands_in ss = map command_of ss

abbrev pub commands_of : Vec Stmt Global → List Command
commands_of ss = commands_in ss.items

abbrev pub armed_of : Arm → Armed
armed_of a = record { cond = expr_of a.cond; block = commands_in a.block.items }

abbrev pub armed_in : List Arm → List Armed
armed_in arms = map armed_of arms

abbrev pub all_armed : Vec Arm Global → List Armed
all_armed arms = armed_in arms.items

-- the statement has this core, and leaves these locals; want of memory says nothing
abbrev pub ActGives : Result Stmt TypeFault → List Local → Env → Option Shape → List Local → ℕ → Act → Type 0
ActGives (Ok s) now g r ls n a = check_act g r ls n a ≡ Ok (done now (command_of s))
ActGives (Err f) now g r ls n a = f ≢ memory → check_act g r ls n a ≡ Err f

-- a condition with its block, from this slot on
abbrev pub arm_row : Env → Option Shape → List Local → ℕ → ℕ → Phrase → Acts → Result Armed TypeFault
arm_row g r ls n at c block =
    and_then (check g ls n c) (λ v. and_then (cond_row at v) (λ e. and_then (check_acts g r ls (n + slots_of c) [] block) (λ cs. Ok (record { cond = e; block = cs }))))

-- the locals go on from these
pub record Extends (old new : List Local) : Type 0 where
  pub more : List Local
  pub is : new ≡ old ++ more
