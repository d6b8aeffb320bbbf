-- The rest of a chain or a list is its rows, one after the other.
use Rattle.std.proofs.Common.{◌≡◌, List, [], ◌∷◌, ◌++◌, ◌≤◌, length, arith, refl, ap, sym, ◌∙◌}
use Rattle.std.specs.List.{flat_map}
use Rattle.hera_syntax.specs.Grammar as phrases
use Rattle.hera_syntax.specs.declared.expr.ArgTrees.{Row_of-Expr, end_of-Expr, more_of-Expr, items-the_row-Expr}
use Rattle.hera_syntax.specs.declared.expr.Bindings.{Row_of-Binding, end_of-Binding, more_of-Binding, items-the_row-Binding}
use Rattle.hera_syntax.specs.declared.expr.Atoms.{Row_of-Atom, end_of-Atom, more_of-Atom, items-the_row-Atom}
use Rattle.hera_syntax.specs.declared.expr.LineTrees.{Row_of-LineTree, end_of-LineTree, more_of-LineTree, items-the_row-LineTree}
use Rattle.hera_syntax.specs.declared.tree.StmtTree.{Row_of-StmtTree, end_of-StmtTree, more_of-StmtTree, items-the_row-StmtTree, items_shown-the_row-StmtTree-0, items_hidden-the_row-StmtTree-0, Row_of-ElseIf, end_of-ElseIf, more_of-ElseIf, items-the_row-ElseIf, items_hidden-the_row-ElseIf-1, back-StmtTree-If-5}
use Rattle.hera_syntax.specs.declared.tree.StmtTree.TheBlock.{hidden-the_row-StmtTree-0, hidden-the_row-ElseIf-1, back-StmtTree-If-5}
use Rattle.std.proofs.Common.{Vec, Global, Option, Some, None}
use Rattle.hera_syntax.specs.declared.tree.ElseIf.{ElseIf}
use Rattle.hera_syntax.specs.declared.tree.Block.{Block}
use Rattle.hera_syntax.specs.Programs.{stmt_outline, stmts_rest, stmt_row, elses_rest, else_if_row, last_outline, last_else}
use Rattle.hera_syntax.specs.Outline.{Entry, args_rest, args_row, atom_outline, atoms_rest, atoms_row, binding_outline, bindings_rest, bindings_row, chain, comparison_rest, expr_outline, hold, line_outline, lines_rest, lines_row, more_of, node, operand_outline, production_of, skip, tail_row, tails_outline}
use Rattle.hera_syntax.specs.declared.expr.Level.{Level}
use Rattle.hera_syntax.specs.declared.expr.Level.TheVariants as levels
use Rattle.hera_syntax.specs.declared.expr.OperandTree.{OperandTree}
use Rattle.hera_syntax.specs.declared.expr.Expr.{Row_of-Tail, end_of-Tail, more_of-Tail, items-the_row-Tail}

pub tail_rows : (level : Level) (n : _) (k : Row_of-Tail n) → flat_map (λ tail. node (more_of level) 0 ++ tail) (tails_outline k) ≡ flat_map (tail_row level) (items-the_row-Tail n k)
tail_rows level n end_of-Tail = refl
tail_rows level n (more_of-Tail op operand rest) = ap (λ r. (node (more_of level) 0 ++ (hold op ++ operand_outline operand)) ++ r) (tail_rows level _ rest)

-- a chain that is no comparison
pub plain_chain : (level : Level) (first : List Entry) (tails : List (List Entry)) → ¬ (level ≡ levels.Comparisons) →
    chain level first tails ≡ node (production_of level) 0 ++ first ++ flat_map (λ tail. node (more_of level) 0 ++ tail) tails ++ node (more_of level) 1
plain_chain levels.Whens first tails h = refl
plain_chain levels.Ors first tails h = refl
plain_chain levels.Ands first tails h = refl
plain_chain levels.Comparisons first tails h = absurd (h refl)
plain_chain levels.Sums first tails h = refl
plain_chain levels.Terms first tails h = refl
plain_chain levels.Smashes first tails h = refl
plain_chain levels.Merges first tails h = refl

pub chain_rows : (level : Level) (first : OperandTree) (n : _) (k : Row_of-Tail n) → ¬ (level ≡ levels.Comparisons) →
    chain level (operand_outline first) (tails_outline k) ≡ node (production_of level) 0 ++ operand_outline first ++ flat_map (tail_row level) (items-the_row-Tail n k) ++ node (more_of level) 1
chain_rows level first n k h =
    plain_chain level (operand_outline first) (tails_outline k) h
    ∙ ap (λ r. node (production_of level) 0 ++ operand_outline first ++ r ++ node (more_of level) 1) (tail_rows level n k)

append_none : {A : Type 0} (xs : List A) → xs ++ [] ≡ xs
append_none [] = refl
append_none (x ∷ xs) = ap (λ r. x ∷ r) (append_none xs)

pub comparison_rows : (first : List Entry) (n : _) (k : Row_of-Tail n) → length (items-the_row-Tail n k) ≤ 1 →
    chain levels.Comparisons first (tails_outline k) ≡ node phrases.cmp 0 ++ first ++ comparison_rest (items-the_row-Tail n k)
comparison_rows first n end_of-Tail h = ap (λ r. r ++ node phrases.more_cmp 1) (append_none (node phrases.cmp 0 ++ first))
comparison_rows first n (more_of-Tail op operand end_of-Tail) h =
    let row : List Entry = node phrases.more_cmp 0 ++ (hold op ++ operand_outline operand) in
    append_none (node phrases.cmp 0 ++ first ++ (row ++ [])) ∙ ap (λ r. node phrases.cmp 0 ++ first ++ r) (append_none row)
comparison_rows first n (more_of-Tail op operand (more_of-Tail op' operand' rest)) h = absurd (omega (arith, h))

pub args_rows : (n : _) (k : Row_of-Expr n) → args_rest k ≡ flat_map args_row (items-the_row-Expr n k)
args_rows n end_of-Expr = refl
args_rows n (more_of-Expr e rest) = ap (λ r. (node phrases.more_args 0 ++ skip phrases.comma ++ expr_outline e) ++ r) (args_rows _ rest)

pub bindings_rows : (n : _) (k : Row_of-Binding n) → bindings_rest k ≡ flat_map bindings_row (items-the_row-Binding n k)
bindings_rows n end_of-Binding = refl
bindings_rows n (more_of-Binding e rest) = ap (λ r. (node phrases.more_bindings 0 ++ skip phrases.comma ++ binding_outline e) ++ r) (bindings_rows _ rest)

pub atoms_rows : (n : _) (k : Row_of-Atom n) → atoms_rest k ≡ flat_map atoms_row (items-the_row-Atom n k)
atoms_rows n end_of-Atom = refl
atoms_rows n (more_of-Atom e rest) = ap (λ r. (node phrases.more_atoms 0 ++ skip phrases.comma ++ atom_outline e) ++ r) (atoms_rows _ rest)

pub lines_rows : (n : _) (k : Row_of-LineTree n) → lines_rest k ≡ flat_map lines_row (items-the_row-LineTree n k)
lines_rows n end_of-LineTree = refl
lines_rows n (more_of-LineTree e rest) = ap (λ r. (node phrases.more_lines 0 ++ skip phrases.comma ++ line_outline e) ++ r) (lines_rows _ rest)

pub stmts_rows : (n : _) (k : Row_of-StmtTree n) → stmts_rest k ≡ flat_map stmt_row (items-the_row-StmtTree n k)
stmts_rows n end_of-StmtTree = refl
stmts_rows n (more_of-StmtTree s rest) = ap (λ r. (node phrases.stmts 0 ++ stmt_outline s) ++ r) (stmts_rows _ rest)

both : (f : List Entry → List Entry → List Entry) {a a' b b' : List Entry} → a ≡ a' → b ≡ b' → f a b ≡ f a' b'
both f {a} {a'} {b} {b'} e h = ap (λ x. f x b) e ∙ ap (f a') h

pub elses_rows : (n : _) (k : Row_of-ElseIf n) → elses_rest k ≡ flat_map else_if_row (items-the_row-ElseIf n k)
elses_rows n end_of-ElseIf = refl
elses_rows n (more_of-ElseIf w b e c shape stmts rest) =
    let inner : stmts_rest stmts ≡ flat_map stmt_row _ = stmts_rows _ stmts ∙ ap (flat_map stmt_row) (sym (items_shown-the_row-StmtTree-0 shape stmts)) in
    both (λ x r.
    (node phrases.else_part 0 ++ skip phrases.else_word ++ node phrases.after_else 0 ++ hold w ++ hold b ++ expr_outline e ++ skip phrases.close_paren
    ++ (node phrases.block 0 ++ hold c ++ x ++ node phrases.stmts 1 ++ skip phrases.close_brace)) ++ r) inner (elses_rows _ rest)

-- the statements of a block that lies in a statement
pub block_rows : (b : Block) → stmts_rest (hidden-the_row-StmtTree-0 b.stmts) ≡ flat_map stmt_row b.stmts.items
block_rows b = stmts_rows _ (hidden-the_row-StmtTree-0 b.stmts) ∙ ap (flat_map stmt_row) (items_hidden-the_row-StmtTree-0 b.stmts)

-- the `else if`s of a list that lies in a statement
pub else_ifs_rows : (es : Vec ElseIf Global) → elses_rest (hidden-the_row-ElseIf-1 es) ≡ flat_map else_if_row es.items
else_ifs_rows es = elses_rows _ (hidden-the_row-ElseIf-1 es) ∙ ap (flat_map else_if_row) (items_hidden-the_row-ElseIf-1 es)

pub all_three : (f : List Entry → List Entry → List Entry → List Entry) {a a' b b' c c' : List Entry} → a ≡ a' → b ≡ b' → c ≡ c' → f a b c ≡ f a' b' c'
all_three f {a} {a'} {b} {b'} {c} {c'} e h k = ap (λ x. f x b c) e ∙ (ap (λ x. f a' x c) h ∙ ap (f a' b') k)

-- the last `else` of an `if`
pub last_rows : (last : Option Block) → last_outline (back-StmtTree-If-5 last) ≡ last_else last
last_rows None = refl
last_rows (Some b) =
    ap (λ x. node phrases.else_part 0 ++ skip phrases.else_word ++ node phrases.after_else 1
    ++ (node phrases.block 0 ++ hold b.bracket ++ x ++ node phrases.stmts 1 ++ skip phrases.close_brace)) (block_rows b)
