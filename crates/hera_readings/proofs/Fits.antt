-- Lists of an outline are no longer than the tokens that it prints.
use Rattle.std.proofs.Common.{◌≡◌, ◌<◌, ◌≤◌, ◌+◌, ◌^◌, List, [], ◌∷◌, ◌++◌, length, arith, zero-lt-suc}
use Rattle.std.specs.List.{flat_map}
use Rattle.hera_syntax.specs.declared.tree.StmtTree.{StmtTree, Declare, Assign, Call, If', While', Foreach', Print, Apply, Assert, Commit, Rollback, Return}
use Rattle.hera_syntax.specs.declared.tree.TypeTree.TheVariants.{Kind, Delta, Rel, Tuple}
use Rattle.hera_syntax.specs.Outline.{Entry, at_node, kept, left_out}
use Rattle.hera_syntax.specs.Programs.{stmt_row}
use Rattle.hera_syntax.specs.Trees.{printed}

-- what prints fewer tokens than a `Vec` may have items
abbrev pub Short : List Entry → Type 0
Short ms = length (printed ms) < 2 ^ 63

-- what prints a token at least
abbrev pub Prints : List Entry → Type 0
Prints ms = 0 < length (printed ms)

pub long_printed : (a b : List Entry) → length (printed (a ++ b)) ≡ length (printed a) + length (printed b)
long_printed [] b = omega arith
long_printed (at_node s k ∷ a) b = long_printed a b
long_printed (kept t ∷ a) b = let rest = long_printed a b in omega (arith, rest)
long_printed (left_out t ∷ a) b = let rest = long_printed a b in omega (arith, rest)

pub rows_within : {A : Type 0} (f : A → List Entry) → ((x : A) → Prints (f x)) → (xs : List A) → length xs ≤ length (printed (flat_map f xs))
rows_within f each [] = omega arith
rows_within f each (x ∷ xs) =
    let here = each x in
    let rest = rows_within f each xs in
    let both = long_printed (f x) (flat_map f xs) in
    omega (arith, here, rest, both)

pub shorter : (a b : List Entry) → Short (a ++ b) → Short a
shorter a b short = let both = long_printed a b in omega (arith, both, short)

-- the items behind what stands before them fit in a `Vec`
pub fits : {A : Type 0} (f : A → List Entry) → ((x : A) → Prints (f x)) → (front : List Entry) (xs : List A) (end : List Entry) → Short (front ++ (flat_map f xs ++ end)) → length xs < 2 ^ 63
fits f each front xs end short =
    let all = long_printed front (flat_map f xs ++ end) in
    let rest = long_printed (flat_map f xs) end in
    let within = rows_within f each xs in
    omega (arith, all, rest, within, short)

pub stmt_prints : (s : StmtTree) → Prints (stmt_row s)
stmt_prints (Declare (Kind k) n e) = zero-lt-suc _
stmt_prints (Declare (Delta t) n e) = zero-lt-suc _
stmt_prints (Declare (Rel w s) n e) = zero-lt-suc _
stmt_prints (Declare (Tuple w s) n e) = zero-lt-suc _
stmt_prints (Assign n e) = zero-lt-suc _
stmt_prints (Call n b args) = zero-lt-suc _
stmt_prints (If' w b e c shape stmts shape' elses last) = zero-lt-suc _
stmt_prints (While' w b e c shape stmts) = zero-lt-suc _
stmt_prints (Foreach' w b n e c shape stmts) = zero-lt-suc _
stmt_prints (Print w e) = zero-lt-suc _
stmt_prints (Apply w e) = zero-lt-suc _
stmt_prints (Assert w e) = zero-lt-suc _
stmt_prints (Commit w label) = zero-lt-suc _
stmt_prints (Rollback w) = zero-lt-suc _
stmt_prints (Return w e) = zero-lt-suc _
