-- The outlines of statements, declarations and programs.
use Rattle.std.specs.Prelude.{List, [], ◌++◌, Option, Some, None}
use Rattle.std.specs.List.{flat_map}
use Rattle.hera_syntax.specs.declared.token.Token.{Token}
use Rattle.hera_syntax.specs.declared.expr.Expr.{Expr}
use Rattle.hera_syntax.specs.declared.tree.KindTree.{KindTree}
use Rattle.hera_syntax.specs.declared.tree.AttrTree.{AttrTree}
use Rattle.hera_syntax.specs.declared.tree.Attrs.{Attrs}
use Rattle.hera_syntax.specs.declared.tree.SchemaTree.{SchemaTree}
use Rattle.hera_syntax.specs.declared.tree.SchemaTree.TheVariants.{Name, Written}
use Rattle.hera_syntax.specs.declared.tree.TypeTree.{TypeTree}
use Rattle.hera_syntax.specs.declared.tree.TypeTree.TheVariants.{Kind, Delta, Rel, Tuple}
use Rattle.hera_syntax.specs.declared.tree.Param.{Param}
use Rattle.hera_syntax.specs.declared.tree.Params.{Params}
use Rattle.hera_syntax.specs.declared.tree.Block.{Block}
use Rattle.hera_syntax.specs.declared.tree.ElseIf.{ElseIf}
use Rattle.hera_syntax.specs.declared.tree.StmtTree.{StmtTree, Declare, Assign, Call, If', While', Foreach', Print, Apply, Assert, Commit, Rollback, Return, Row_of-StmtTree, end_of-StmtTree, more_of-StmtTree, Row_of-ElseIf, end_of-ElseIf, more_of-ElseIf, Held-StmtTree-If-5, None', Some'}
use Rattle.hera_syntax.specs.declared.tree.Relation.{Relation}
use Rattle.hera_syntax.specs.declared.tree.Func.{Func}
use Rattle.hera_syntax.specs.declared.tree.Proc.{Proc}
use Rattle.hera_syntax.specs.declared.tree.Main.{Main}
use Rattle.hera_syntax.specs.declared.tree.Tree.{Tree}
use Rattle.hera_syntax.specs.Grammar as phrases
use Rattle.hera_syntax.specs.Outline.{Entry, node, hold, skip, expr_outline, some_args_outline}

abbrev pub kind_outline : KindTree → List Entry
kind_outline k = node phrases.kind 0 ++ hold k.word

abbrev pub attr_outline : AttrTree → List Entry
attr_outline a = node phrases.attr 0 ++ hold a.name ++ kind_outline a.kind

abbrev pub attr_row : AttrTree → List Entry
attr_row a = node phrases.more_attrs 0 ++ skip phrases.comma ++ attr_outline a

abbrev pub attrs_outline : Attrs → List Entry
attrs_outline aa = node phrases.attrs 0 ++ attr_outline aa.first ++ flat_map attr_row aa.rest.items ++ node phrases.more_attrs 1

abbrev pub schema_outline : SchemaTree → List Entry
schema_outline (Name t) = node phrases.schema 0 ++ hold t
schema_outline (Written b attrs) = node phrases.schema 1 ++ hold b ++ attrs_outline attrs ++ skip phrases.close_paren

abbrev pub type_outline : TypeTree → List Entry
type_outline (Kind k) = node phrases.type_tree 0 ++ kind_outline k
type_outline (Delta t) = node phrases.type_tree 1 ++ hold t
type_outline (Rel w s) = node phrases.type_tree 2 ++ hold w ++ schema_outline s
type_outline (Tuple w s) = node phrases.type_tree 3 ++ hold w ++ schema_outline s

abbrev pub param_outline : Param → List Entry
param_outline p = node phrases.param 0 ++ type_outline p.type_tree ++ hold p.name

abbrev pub param_row : Param → List Entry
param_row p = node phrases.more_params 0 ++ skip phrases.comma ++ param_outline p

abbrev pub params_outline : Params → List Entry
params_outline ps = node phrases.params 0 ++ param_outline ps.first ++ flat_map param_row ps.rest.items ++ node phrases.more_params 1

abbrev pub some_params_outline : Option Params → List Entry
some_params_outline None = node phrases.some_params 1
some_params_outline (Some ps) = node phrases.some_params 0 ++ params_outline ps

abbrev pub some_value_outline : Option Expr → List Entry
some_value_outline None = node phrases.some_value 1
some_value_outline (Some e) = node phrases.some_value 0 ++ expr_outline e

abbrev pub some_text_outline : Option Token → List Entry
some_text_outline None = node phrases.some_text 1
some_text_outline (Some t) = node phrases.some_text 0 ++ hold t

abbrev mutual
  pub stmt_outline : StmtTree → List Entry
  stmt_outline (Declare t n e) = node phrases.stmt 0 ++ type_outline t ++ hold n ++ skip phrases.equals ++ expr_outline e ++ skip phrases.semicolon
  stmt_outline (Assign n e) = node phrases.stmt 1 ++ hold n ++ node phrases.named 0 ++ skip phrases.equals ++ expr_outline e ++ skip phrases.semicolon
  stmt_outline (Call n b args) =
      node phrases.stmt 1 ++ hold n ++ node phrases.named 1 ++ hold b ++ some_args_outline args ++ skip phrases.close_paren ++ skip phrases.semicolon
  stmt_outline (If' w b e c shape stmts shape' elses last) =
      node phrases.stmt 2 ++ hold w ++ hold b ++ expr_outline e ++ skip phrases.close_paren ++ (node phrases.block 0 ++ hold c ++ stmts_rest stmts ++ node phrases.stmts 1 ++ skip phrases.close_brace)
      ++ elses_rest elses ++ last_outline last
  stmt_outline (While' w b e c shape stmts) =
      node phrases.stmt 3 ++ hold w ++ hold b ++ expr_outline e ++ skip phrases.close_paren ++ (node phrases.block 0 ++ hold c ++ stmts_rest stmts ++ node phrases.stmts 1 ++ skip phrases.close_brace)
  stmt_outline (Foreach' w b n e c shape stmts) =
      node phrases.stmt 4 ++ hold w ++ hold b ++ hold n ++ skip phrases.in_word ++ expr_outline e ++ skip phrases.close_paren
      ++ (node phrases.block 0 ++ hold c ++ stmts_rest stmts ++ node phrases.stmts 1 ++ skip phrases.close_brace)
  stmt_outline (Print w e) = node phrases.stmt 5 ++ hold w ++ expr_outline e ++ skip phrases.semicolon
  stmt_outline (Apply w e) = node phrases.stmt 6 ++ hold w ++ expr_outline e ++ skip phrases.semicolon
  stmt_outline (Assert w e) = node phrases.stmt 7 ++ hold w ++ expr_outline e ++ skip phrases.semicolon
  stmt_outline (Commit w label) = node phrases.stmt 8 ++ hold w ++ some_text_outline label ++ skip phrases.semicolon
  stmt_outline (Rollback w) = node phrases.stmt 9 ++ hold w ++ skip phrases.semicolon
  stmt_outline (Return w e) = node phrases.stmt 10 ++ hold w ++ some_value_outline e ++ skip phrases.semicolon

  pub stmts_rest : {m : _} → Row_of-StmtTree m → List Entry
  stmts_rest end_of-StmtTree = []
  stmts_rest (more_of-StmtTree s rest) = (node phrases.stmts 0 ++ stmt_outline s) ++ stmts_rest rest

  pub elses_rest : {m : _} → Row_of-ElseIf m → List Entry
  elses_rest end_of-ElseIf = []
  elses_rest (more_of-ElseIf w b e c shape stmts rest) =
      (node phrases.else_part 0 ++ skip phrases.else_word ++ node phrases.after_else 0 ++ hold w ++ hold b ++ expr_outline e ++ skip phrases.close_paren
      ++ (node phrases.block 0 ++ hold c ++ stmts_rest stmts ++ node phrases.stmts 1 ++ skip phrases.close_brace))
      ++ elses_rest rest

  pub last_outline : Held-StmtTree-If-5 → List Entry
  last_outline None' = node phrases.else_part 1
  last_outline (Some' c shape stmts) =
      node phrases.else_part 0 ++ skip phrases.else_word ++ node phrases.after_else 1
      ++ (node phrases.block 0 ++ hold c ++ stmts_rest stmts ++ node phrases.stmts 1 ++ skip phrases.close_brace)

-- one more statement of a block
abbrev pub stmt_row : StmtTree → List Entry
stmt_row s = node phrases.stmts 0 ++ stmt_outline s

abbrev pub block_outline : Block → List Entry
block_outline b = node phrases.block 0 ++ hold b.bracket ++ flat_map stmt_row b.stmts.items ++ node phrases.stmts 1 ++ skip phrases.close_brace

-- one more `else if`
abbrev pub else_if_row : ElseIf → List Entry
else_if_row e =
    node phrases.else_part 0 ++ skip phrases.else_word ++ node phrases.after_else 0 ++ hold e.word ++ hold e.bracket ++ expr_outline e.condition
    ++ skip phrases.close_paren ++ block_outline e.block

-- the last `else`, where there is one
abbrev pub last_else : Option Block → List Entry
last_else None = node phrases.else_part 1
last_else (Some b) = node phrases.else_part 0 ++ skip phrases.else_word ++ node phrases.after_else 1 ++ block_outline b

abbrev pub relation_outline : Relation → List Entry
relation_outline r = node phrases.relation 0 ++ hold r.word ++ hold r.name ++ hold r.bracket ++ attrs_outline r.attrs ++ skip phrases.close_paren ++ skip phrases.semicolon

abbrev pub func_outline : Func → List Entry
func_outline f =
    node phrases.func 0 ++ hold f.word ++ type_outline f.type_tree ++ hold f.name ++ hold f.bracket ++ some_params_outline f.params ++ skip phrases.close_paren
    ++ block_outline f.block

abbrev pub proc_outline : Proc → List Entry
proc_outline p =
    node phrases.proc 0 ++ hold p.word ++ hold p.name ++ hold p.bracket ++ some_params_outline p.params ++ skip phrases.close_paren ++ block_outline p.block

abbrev pub main_outline : Main → List Entry
main_outline m = node phrases.main 0 ++ hold m.word ++ block_outline m.block

abbrev pub last_main_outline : Option Main → List Entry
last_main_outline None = node phrases.last_main 1
last_main_outline (Some m) = node phrases.last_main 0 ++ main_outline m

abbrev pub relation_row : Relation → List Entry
relation_row r = node phrases.relations 0 ++ relation_outline r

abbrev pub func_row : Func → List Entry
func_row f = node phrases.funcs 0 ++ func_outline f

abbrev pub proc_row : Proc → List Entry
proc_row p = node phrases.procs 0 ++ proc_outline p

-- the plain form of a program
abbrev pub outline : Tree → List Entry
outline t =
    node phrases.program 0
    ++ flat_map relation_row t.relations.items ++ node phrases.relations 1
    ++ flat_map func_row t.funcs.items ++ node phrases.funcs 1
    ++ flat_map proc_row t.procs.items ++ node phrases.procs 1
    ++ last_main_outline t.main
