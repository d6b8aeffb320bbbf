-- The phrases of statements, declarations and a whole tree.
use Rattle.std.specs.Prelude.{ℕ, List, [], ◌∷◌, map, Option, Some, None}
use Rattle.hera_syntax.specs.declared.token.Token.{Token}
use Rattle.hera_syntax.specs.declared.expr.Expr.{Expr}
use Rattle.hera_syntax.specs.declared.expr.ArgTrees.{ArgTrees}
use Rattle.hera_syntax.specs.declared.tree.AttrTree.{AttrTree}
use Rattle.hera_syntax.specs.declared.tree.Attrs.{Attrs}
use Rattle.hera_syntax.specs.declared.tree.SchemaTree.{SchemaTree}
use Rattle.hera_syntax.specs.declared.tree.SchemaTree.TheVariants.{Name, Written}
use Rattle.hera_syntax.specs.declared.tree.TypeTree.{TypeTree}
use Rattle.hera_syntax.specs.declared.tree.TypeTree.TheVariants.{Kind, Delta, Rel, Tuple}
use Rattle.hera_syntax.specs.declared.tree.Param.{Param}
use Rattle.hera_syntax.specs.declared.tree.Params.{Params}
use Rattle.hera_syntax.specs.declared.tree.Block.{Block}
use Rattle.hera_syntax.specs.declared.tree.ElseIf.{ElseIf}
use Rattle.hera_syntax.specs.declared.tree.StmtTree.{StmtTree, Declare, Assign, Call, If', While', Foreach', Print, Apply, Assert, Commit, Rollback, Return, Row_of-StmtTree, end_of-StmtTree, more_of-StmtTree, Row_of-ElseIf, end_of-ElseIf, more_of-ElseIf, Held-StmtTree-If-5, None', Some'}
use Rattle.hera_syntax.specs.declared.tree.Relation.{Relation}
use Rattle.hera_syntax.specs.declared.tree.Func.{Func}
use Rattle.hera_syntax.specs.declared.tree.Proc.{Proc}
use Rattle.hera_syntax.specs.declared.tree.Main.{Main}
use Rattle.hera_syntax.specs.declared.tree.Tree.{Tree}
use Rattle.hera_rules.specs.declared.words.Field.{Field}
use Rattle.hera_rules.specs.Phrases.{Phrases, no_phrase, Schema_phrase, of_relation, written, Type_phrase, kind_type, delta_type, rel_type, tuple_type, Act, declaring, assigning, performing, choosing, looping, visiting, printing, applying, asserting, committing, rolling_back, returning, returning_value, Acts, no_act, act, Branches, no_branch, branch, Relation_phrase, Param_phrase, Func_phrase, Proc_phrase, Script}
use Rattle.hera_rules.specs.Read.{word_of, text_of, kind_word, expr_phrase, args_phrases}

abbrev pub field_of : AttrTree → Field
field_of a = record { name = word_of a.name; kind = kind_word a.kind.word.kind }

abbrev pub fields_of : Attrs → List Field
fields_of aa = field_of aa.first ∷ map field_of aa.rest.items

abbrev pub schema_phrase : SchemaTree → Schema_phrase
schema_phrase (Name t) = of_relation (word_of t)
schema_phrase (Written bracket attrs) = written (fields_of attrs)

abbrev pub type_phrase : TypeTree → Type_phrase
type_phrase (Kind k) = kind_type (kind_word k.word.kind)
type_phrase (Delta t) = delta_type
type_phrase (Rel word s) = rel_type (schema_phrase s)
type_phrase (Tuple word s) = tuple_type (schema_phrase s)

abbrev pub some_args : Option ArgTrees → Phrases
some_args None = no_phrase
some_args (Some args) = args_phrases args

abbrev pub return_act : Token → Option Expr → Act
return_act t None = returning t.at
return_act t (Some e) = returning_value t.at (expr_phrase e)

-- the bytes of a label
abbrev pub label_of : Option Token → Option (List ℕ)
label_of None = None
label_of (Some t) = Some (text_of t.kind)

unfoldable mutual
  pub act_of : StmtTree → Act
  act_of (Declare t n e) = declaring (type_phrase t) (word_of n) (expr_phrase e)
  act_of (Assign n e) = assigning (word_of n) (expr_phrase e)
  act_of (Call n bracket args) = performing (word_of n) (some_args args)
  act_of (If' word bracket e brace shape stmts shape' elses last) = choosing (branch word.at (expr_phrase e) (acts_of stmts) (branches_of elses)) (last_acts last)
  act_of (While' word bracket e brace shape stmts) = looping word.at (expr_phrase e) (acts_of stmts)
  act_of (Foreach' word bracket n e brace shape stmts) = visiting word.at (word_of n) (expr_phrase e) (acts_of stmts)
  act_of (Print word e) = printing word.at (expr_phrase e)
  act_of (Apply word e) = applying word.at (expr_phrase e)
  act_of (Assert word e) = asserting word.at (expr_phrase e)
  act_of (Commit word label) = committing word.at (label_of label)
  act_of (Rollback word) = rolling_back word.at
  act_of (Return word e) = return_act word e

  pub acts_of : {m : _} → Row_of-StmtTree m → Acts
  acts_of end_of-StmtTree = no_act
  acts_of (more_of-StmtTree s rest) = act (act_of s) (acts_of rest)

  pub branches_of : {m : _} → Row_of-ElseIf m → Branches
  branches_of end_of-ElseIf = no_branch
  branches_of (more_of-ElseIf word bracket e brace shape stmts rest) = branch word.at (expr_phrase e) (acts_of stmts) (branches_of rest)

  pub last_acts : Held-StmtTree-If-5 → Acts
  last_acts None' = no_act
  last_acts (Some' brace shape stmts) = acts_of stmts

-- statements in a Vec, and the block of a bracket
abbrev pub acts_in : List StmtTree → Acts
acts_in [] = no_act
acts_in (s ∷ rest) = act (act_of s) (acts_in rest)

abbrev pub block_acts : Block → Acts
block_acts b = acts_in b.stmts.items

abbrev pub branches_in : List ElseIf → Branches
branches_in [] = no_branch
branches_in (e ∷ rest) = branch e.word.at (expr_phrase e.condition) (block_acts e.block) (branches_in rest)

abbrev pub last_in : Option Block → Acts
last_in None = no_act
last_in (Some b) = block_acts b

-- ---- declarations

abbrev pub relation_phrase : Relation → Relation_phrase
relation_phrase r = record { name = word_of r.name; attrs = fields_of r.attrs }

abbrev pub param_phrase : Param → Param_phrase
param_phrase p = record { type = type_phrase p.type_tree; name = word_of p.name }

abbrev pub params_phrase : Params → List Param_phrase
params_phrase ps = param_phrase ps.first ∷ map param_phrase ps.rest.items

abbrev pub some_params : Option Params → List Param_phrase
some_params None = []
some_params (Some ps) = params_phrase ps

abbrev pub func_phrase : Func → Func_phrase
func_phrase f = record { type = type_phrase f.type_tree; name = word_of f.name; params = some_params f.params; block = block_acts f.block }

abbrev pub proc_phrase : Proc → Proc_phrase
proc_phrase p = record { name = word_of p.name; params = some_params p.params; block = block_acts p.block }

abbrev pub main_acts : Option Main → Acts
main_acts None = no_act
main_acts (Some m) = block_acts m.block

-- the phrase of a whole tree
abbrev pub script_of : Tree → Script
script_of t = record {
  relations = map relation_phrase t.relations.items;
  funcs = map func_phrase t.funcs.items;
  procs = map proc_phrase t.procs.items;
  main = main_acts t.main;
}
