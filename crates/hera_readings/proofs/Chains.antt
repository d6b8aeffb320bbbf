-- Expressions and lists of expressions that have a given outline.
use Rattle.std.proofs.Common.{◌≡◌, ◌≤◌, List, ◌++◌, length, sym, ap, subst, ◌∙◌, Vec, Global}
use Rattle.std.specs.List.{flat_map}
use Rattle.hera_syntax.specs.declared.expr.Expr.{Expr, Expr'}
use Rattle.hera_syntax.specs.declared.expr.Level.{Level}
use Rattle.hera_syntax.specs.declared.expr.Level.TheVariants as levels
use Rattle.hera_syntax.specs.declared.expr.OperandTree.{OperandTree}
use Rattle.hera_syntax.specs.declared.expr.OperandTree.TheBlock.{shape-the_row-Tail-3, hidden-the_row-Tail-3, items_hidden-the_row-Tail-3, shape-the_row-Expr-0, hidden-the_row-Expr-0, items_hidden-the_row-Expr-0, shape-the_row-Atom-1, hidden-the_row-Atom-1, items_hidden-the_row-Atom-1, shape-the_row-Binding-2, hidden-the_row-Binding-2, items_hidden-the_row-Binding-2, shape-the_row-LineTree-4, hidden-the_row-LineTree-4, items_hidden-the_row-LineTree-4}
use Rattle.hera_syntax.specs.declared.expr.Tail.{Tail}
use Rattle.hera_syntax.specs.declared.expr.ArgTrees.{ArgTrees, ArgTrees'}
use Rattle.hera_syntax.specs.declared.expr.Binding.{Binding}
use Rattle.hera_syntax.specs.declared.expr.Bindings.{Bindings, Bindings'}
use Rattle.hera_syntax.specs.declared.expr.Atom.{Atom}
use Rattle.hera_syntax.specs.declared.expr.Atoms.{Atoms, Atoms'}
use Rattle.hera_syntax.specs.declared.expr.LineTree.{LineTree}
use Rattle.hera_syntax.specs.declared.expr.LineTrees.{LineTrees, LineTrees'}
use Rattle.hera_syntax.specs.Grammar as phrases
use Rattle.hera_syntax.specs.Outline.{node, args_outline, args_row, atom_outline, atoms_outline, atoms_row, binding_outline, bindings_outline, bindings_row, comparison_rest, expr_outline, line_outline, lines_outline, lines_row, more_of, operand_outline, production_of, tail_row}
use Rattle.hera_syntax.proofs.Rows.{chain_rows, comparison_rows, args_rows, bindings_rows, atoms_rows, lines_rows}

pub expr_of : Level → OperandTree → Vec Tail Global → Expr
expr_of level first v = Expr' level first (shape-the_row-Tail-3 v) (hidden-the_row-Tail-3 v)

pub chain_of : (level : Level) (first : OperandTree) (v : Vec Tail Global) → ¬ (level ≡ levels.Comparisons) →
    expr_outline (expr_of level first v) ≡ node (production_of level) 0 ++ operand_outline first ++ flat_map (tail_row level) v.items ++ node (more_of level) 1
unfolding expr_of
chain_of level first v other =
    chain_rows level first _ (hidden-the_row-Tail-3 v) other
    ∙ ap (λ ts. node (production_of level) 0 ++ operand_outline first ++ flat_map (tail_row level) ts ++ node (more_of level) 1) (items_hidden-the_row-Tail-3 v)

pub comparison_of : (first : OperandTree) (v : Vec Tail Global) → length v.items ≤ 1 →
    expr_outline (expr_of levels.Comparisons first v) ≡ node phrases.cmp 0 ++ operand_outline first ++ comparison_rest v.items
unfolding expr_of
comparison_of first v few =
    comparison_rows (operand_outline first) _ (hidden-the_row-Tail-3 v) (subst (λ (ts : List Tail). length ts ≤ 1) (sym (items_hidden-the_row-Tail-3 v)) few)
    ∙ ap (λ ts. node phrases.cmp 0 ++ operand_outline first ++ comparison_rest ts) (items_hidden-the_row-Tail-3 v)

pub args_of : Expr → Vec Expr Global → ArgTrees
args_of first v = ArgTrees' first (shape-the_row-Expr-0 v) (hidden-the_row-Expr-0 v)

pub args_are : (first : Expr) (v : Vec Expr Global) → args_outline (args_of first v) ≡ node phrases.args 0 ++ expr_outline first ++ flat_map args_row v.items ++ node phrases.more_args 1
unfolding args_of
args_are first v = ap (λ r. node phrases.args 0 ++ expr_outline first ++ r ++ node phrases.more_args 1) (args_rows _ (hidden-the_row-Expr-0 v) ∙ ap (flat_map args_row) (items_hidden-the_row-Expr-0 v))

pub bindings_of : Binding → Vec Binding Global → Bindings
bindings_of first v = Bindings' first (shape-the_row-Binding-2 v) (hidden-the_row-Binding-2 v)

pub bindings_are : (first : Binding) (v : Vec Binding Global) →
    bindings_outline (bindings_of first v) ≡ node phrases.bindings 0 ++ binding_outline first ++ flat_map bindings_row v.items ++ node phrases.more_bindings 1
unfolding bindings_of
bindings_are first v =
    ap (λ r. node phrases.bindings 0 ++ binding_outline first ++ r ++ node phrases.more_bindings 1) (bindings_rows _ (hidden-the_row-Binding-2 v) ∙ ap (flat_map bindings_row) (items_hidden-the_row-Binding-2 v))

pub atoms_of : Atom → Vec Atom Global → Atoms
atoms_of first v = Atoms' first (shape-the_row-Atom-1 v) (hidden-the_row-Atom-1 v)

pub atoms_are : (first : Atom) (v : Vec Atom Global) → atoms_outline (atoms_of first v) ≡ node phrases.atoms 0 ++ atom_outline first ++ flat_map atoms_row v.items ++ node phrases.more_atoms 1
unfolding atoms_of
atoms_are first v = ap (λ r. node phrases.atoms 0 ++ atom_outline first ++ r ++ node phrases.more_atoms 1) (atoms_rows _ (hidden-the_row-Atom-1 v) ∙ ap (flat_map atoms_row) (items_hidden-the_row-Atom-1 v))

pub lines_of : LineTree → Vec LineTree Global → LineTrees
lines_of first v = LineTrees' first (shape-the_row-LineTree-4 v) (hidden-the_row-LineTree-4 v)

pub lines_are : (first : LineTree) (v : Vec LineTree Global) → lines_outline (lines_of first v) ≡ node phrases.lines 0 ++ line_outline first ++ flat_map lines_row v.items ++ node phrases.more_lines 1
unfolding lines_of
lines_are first v = ap (λ r. node phrases.lines 0 ++ line_outline first ++ r ++ node phrases.more_lines 1) (lines_rows _ (hidden-the_row-LineTree-4 v) ∙ ap (flat_map lines_row) (items_hidden-the_row-LineTree-4 v))
