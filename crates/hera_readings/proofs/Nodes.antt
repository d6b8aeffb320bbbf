-- A value for each production: the tree of a phrase of it, with the phrase's outline. Where the tree has no type of
-- its own for a production, the value is what the tree around it takes.
use Rattle.std.proofs.Common.{List, [], ◌∷◌, ◌++◌, Option, Some, None, ◌⊎◌, inl, inr}
use Rattle.std.specs.List.{flat_map}
use Rattle.hera_syntax.specs.declared.token.Token.{Token}
use Rattle.hera_syntax.specs.declared.expr.Expr.{Expr}
use Rattle.hera_syntax.specs.declared.expr.Tail.{Tail}
use Rattle.hera_syntax.specs.declared.expr.Prime.{Prime}
use Rattle.hera_syntax.specs.declared.expr.ArgTrees.{ArgTrees}
use Rattle.hera_syntax.specs.declared.expr.Binding.{Binding}
use Rattle.hera_syntax.specs.declared.expr.Bindings.{Bindings}
use Rattle.hera_syntax.specs.declared.expr.Atom.{Atom}
use Rattle.hera_syntax.specs.declared.expr.Atoms.{Atoms}
use Rattle.hera_syntax.specs.declared.expr.LineTree.{LineTree}
use Rattle.hera_syntax.specs.declared.expr.LineTrees.{LineTrees}
use Rattle.hera_syntax.specs.declared.expr.Names.{Names}
use Rattle.hera_syntax.specs.declared.expr.Renaming.{Renaming}
use Rattle.hera_syntax.specs.declared.expr.Renamings.{Renamings}
use Rattle.hera_syntax.specs.declared.expr.AggTree.{AggTree}
use Rattle.hera_syntax.specs.declared.expr.NamedAgg.{NamedAgg}
use Rattle.hera_syntax.specs.declared.expr.NamedAggs.{NamedAggs}
use Rattle.hera_syntax.specs.declared.tree.KindTree.{KindTree}
use Rattle.hera_syntax.specs.declared.tree.AttrTree.{AttrTree}
use Rattle.hera_syntax.specs.declared.tree.Attrs.{Attrs}
use Rattle.hera_syntax.specs.declared.tree.SchemaTree.{SchemaTree}
use Rattle.hera_syntax.specs.declared.tree.TypeTree.{TypeTree}
use Rattle.hera_syntax.specs.declared.tree.Param.{Param}
use Rattle.hera_syntax.specs.declared.tree.Params.{Params}
use Rattle.hera_syntax.specs.declared.tree.Block.{Block}
use Rattle.hera_syntax.specs.declared.tree.ElseIf.{ElseIf}
use Rattle.hera_syntax.specs.declared.tree.StmtTree.{StmtTree}
use Rattle.hera_syntax.specs.declared.tree.Relation.{Relation}
use Rattle.hera_syntax.specs.declared.tree.Func.{Func}
use Rattle.hera_syntax.specs.declared.tree.Proc.{Proc}
use Rattle.hera_syntax.specs.declared.tree.Main.{Main}
use Rattle.hera_syntax.specs.declared.tree.Tree.{Tree}
use Rattle.hera_syntax.specs.Grammar.{Level, Production, Part, keep, leave, phrase}
use Rattle.hera_syntax.specs.Grammar as phrases
use Rattle.hera_syntax.specs.Outline.{Entry, node, hold, skip, agg_outline, agg_row, aggs_outline, args_outline, args_row, atom_outline, atoms_outline, atoms_row, binding_outline, bindings_outline, bindings_row, expr_outline, field_outline, line_outline, lines_outline, lines_row, name_row, named_agg_outline, names_outline, prefix_start, prime_outline, renaming_outline, renaming_row, renamings_outline, some_args_outline, some_atoms_outline, some_lines_outline, tail_outline}
use Rattle.hera_syntax.specs.Programs.{attr_outline, attr_row, attrs_outline, block_outline, else_if_row, func_outline, func_row, kind_outline, last_else, last_main_outline, main_outline, outline, param_outline, param_row, params_outline, proc_outline, proc_row, relation_outline, relation_row, schema_outline, some_params_outline, some_text_outline, some_value_outline, stmt_outline, stmt_row, type_outline}

-- an `else if` or the last `else`, with what follows
abbrev pub Elses : Type 0
Elses = List ElseIf × Option Block

abbrev pub Node : Production → Type 0
Node phrases.program = Tree
Node phrases.relations = List Relation
Node phrases.funcs = List Func
Node phrases.procs = List Proc
Node phrases.last_main = Option Main
Node phrases.relation = Relation
Node phrases.attrs = Attrs
Node phrases.more_attrs = List AttrTree
Node phrases.attr = AttrTree
Node phrases.kind = KindTree
Node phrases.type_tree = TypeTree
Node phrases.schema = SchemaTree
Node phrases.func = Func
Node phrases.proc = Proc
Node phrases.some_params = Option Params
Node phrases.params = Params
Node phrases.more_params = List Param
Node phrases.param = Param
Node phrases.main = Main
Node phrases.block = Block
Node phrases.stmts = List StmtTree
Node phrases.stmt = StmtTree
Node phrases.named = Expr ⊎ (Token × Option ArgTrees)
Node phrases.else_part = Elses
Node phrases.after_else = (ElseIf × Elses) ⊎ Block
Node phrases.some_value = Option Expr
Node phrases.some_text = Option Token
Node phrases.some_args = Option ArgTrees
Node phrases.args = ArgTrees
Node phrases.more_args = List Expr
Node (phrases.level l) = Expr
Node (phrases.more l) = List Tail
Node phrases.cmp = Expr
Node phrases.more_cmp = Option Tail
Node phrases.prefix = Option Token × (Prime × Option Token)
Node phrases.post = Prime × Option Token
Node phrases.field = Option Token
Node phrases.prime = Prime
Node phrases.call = Option (Token × Option ArgTrees)
Node phrases.bindings = Bindings
Node phrases.more_bindings = List Binding
Node phrases.binding = Binding
Node phrases.some_atoms = Option Atoms
Node phrases.atoms = Atoms
Node phrases.more_atoms = List Atom
Node phrases.atom = Atom
Node phrases.some_lines = Option LineTrees
Node phrases.lines = LineTrees
Node phrases.more_lines = List LineTree
Node phrases.line = LineTree
Node phrases.names = Names
Node phrases.more_names = List Token
Node phrases.renamings = Renamings
Node phrases.more_renamings = List Renaming
Node phrases.renaming = Renaming
Node phrases.aggs = NamedAggs
Node phrases.more_aggs = List NamedAgg
Node phrases.named_agg = NamedAgg
Node phrases.agg = AggTree

abbrev pub named_outline : Expr ⊎ (Token × Option ArgTrees) → List Entry
named_outline (inl e) = node phrases.named 0 ++ skip phrases.equals ++ expr_outline e ++ skip phrases.semicolon
named_outline (inr (b, args)) = node phrases.named 1 ++ hold b ++ some_args_outline args ++ skip phrases.close_paren ++ skip phrases.semicolon

abbrev pub elses_outline : Elses → List Entry
elses_outline (es, last) = flat_map else_if_row es ++ last_else last

abbrev pub after_else_outline : (ElseIf × Elses) ⊎ Block → List Entry
after_else_outline (inl (e, more)) =
    node phrases.after_else 0 ++ hold e.word ++ hold e.bracket ++ expr_outline e.condition ++ skip phrases.close_paren ++ block_outline e.block ++ elses_outline more
after_else_outline (inr b) = node phrases.after_else 1 ++ block_outline b

abbrev pub post_marks : Prime × Option Token → List Entry
post_marks (prime, field) = node phrases.post 0 ++ prime_outline prime ++ field_outline field

abbrev pub more_cmp_outline : Option Tail → List Entry
more_cmp_outline None = node phrases.more_cmp 1
more_cmp_outline (Some t) = node phrases.more_cmp 0 ++ tail_outline t

abbrev pub call_outline : Option (Token × Option ArgTrees) → List Entry
call_outline None = node phrases.call 1
call_outline (Some (b, args)) = node phrases.call 0 ++ hold b ++ some_args_outline args ++ skip phrases.close_paren

abbrev pub level_row : Level → Tail → List Entry
level_row l t = node (phrases.more l) 0 ++ tail_outline t

abbrev pub marks_of : (s : Production) → Node s → List Entry
marks_of phrases.program x = outline x
marks_of phrases.relations xs = flat_map relation_row xs ++ node phrases.relations 1
marks_of phrases.funcs xs = flat_map func_row xs ++ node phrases.funcs 1
marks_of phrases.procs xs = flat_map proc_row xs ++ node phrases.procs 1
marks_of phrases.last_main x = last_main_outline x
marks_of phrases.relation x = relation_outline x
marks_of phrases.attrs x = attrs_outline x
marks_of phrases.more_attrs xs = flat_map attr_row xs ++ node phrases.more_attrs 1
marks_of phrases.attr x = attr_outline x
marks_of phrases.kind x = kind_outline x
marks_of phrases.type_tree x = type_outline x
marks_of phrases.schema x = schema_outline x
marks_of phrases.func x = func_outline x
marks_of phrases.proc x = proc_outline x
marks_of phrases.some_params x = some_params_outline x
marks_of phrases.params x = params_outline x
marks_of phrases.more_params xs = flat_map param_row xs ++ node phrases.more_params 1
marks_of phrases.param x = param_outline x
marks_of phrases.main x = main_outline x
marks_of phrases.block x = block_outline x
marks_of phrases.stmts xs = flat_map stmt_row xs ++ node phrases.stmts 1
marks_of phrases.stmt x = stmt_outline x
marks_of phrases.named x = named_outline x
marks_of phrases.else_part x = elses_outline x
marks_of phrases.after_else x = after_else_outline x
marks_of phrases.some_value x = some_value_outline x
marks_of phrases.some_text x = some_text_outline x
marks_of phrases.some_args x = some_args_outline x
marks_of phrases.args x = args_outline x
marks_of phrases.more_args xs = flat_map args_row xs ++ node phrases.more_args 1
marks_of (phrases.level l) x = expr_outline x
marks_of (phrases.more l) xs = flat_map (level_row l) xs ++ node (phrases.more l) 1
marks_of phrases.cmp x = expr_outline x
marks_of phrases.more_cmp x = more_cmp_outline x
marks_of phrases.prefix x = prefix_start x.0 ++ post_marks x.1
marks_of phrases.post x = post_marks x
marks_of phrases.field x = field_outline x
marks_of phrases.prime x = prime_outline x
marks_of phrases.call x = call_outline x
marks_of phrases.bindings x = bindings_outline x
marks_of phrases.more_bindings xs = flat_map bindings_row xs ++ node phrases.more_bindings 1
marks_of phrases.binding x = binding_outline x
marks_of phrases.some_atoms x = some_atoms_outline x
marks_of phrases.atoms x = atoms_outline x
marks_of phrases.more_atoms xs = flat_map atoms_row xs ++ node phrases.more_atoms 1
marks_of phrases.atom x = atom_outline x
marks_of phrases.some_lines x = some_lines_outline x
marks_of phrases.lines x = lines_outline x
marks_of phrases.more_lines xs = flat_map lines_row xs ++ node phrases.more_lines 1
marks_of phrases.line x = line_outline x
marks_of phrases.names x = names_outline x
marks_of phrases.more_names xs = flat_map name_row xs ++ node phrases.more_names 1
marks_of phrases.renamings x = renamings_outline x
marks_of phrases.more_renamings xs = flat_map renaming_row xs ++ node phrases.more_renamings 1
marks_of phrases.renaming x = renaming_outline x
marks_of phrases.aggs x = aggs_outline x
marks_of phrases.more_aggs xs = flat_map agg_row xs ++ node phrases.more_aggs 1
marks_of phrases.named_agg x = named_agg_outline x
marks_of phrases.agg x = agg_outline x

-- the tokens that are kept and the values of the phrases of an alternative
abbrev pub Parts : List Part → Type 0
Parts [] = Unit {0}
Parts (keep ts ∷ q) = Token × Parts q
Parts (leave t ∷ q) = Parts q
Parts (phrase s ∷ q) = Node s × Parts q

-- the outline of an alternative behind what stands before it
abbrev pub spelled : List Entry → (q : List Part) → Parts q → List Entry
spelled front [] x = front
spelled front (keep ts ∷ q) (t, x) = spelled (front ++ hold t) q x
spelled front (leave t ∷ q) x = spelled (front ++ skip t) q x
spelled front (phrase s ∷ q) (y, x) = spelled (front ++ marks_of s y) q x
