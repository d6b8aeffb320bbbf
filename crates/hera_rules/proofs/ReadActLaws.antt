-- The phrase of a statement that is read field by field.
use Rattle.std.proofs.Common.{◌≡◌, refl, sym, ap, ◌∙◌}
use Rattle.std.specs.Prelude.{Vec, Option, Some, None}
use Rattle.std.specs.declared.alloc.Global.{Global}
use Rattle.hera_syntax.specs.declared.token.Token.{Token}
use Rattle.hera_syntax.specs.declared.expr.Expr.{Expr}
use Rattle.hera_syntax.specs.declared.expr.ArgTrees.{ArgTrees}
use Rattle.hera_syntax.specs.declared.tree.TypeTree.{TypeTree}
use Rattle.hera_syntax.specs.declared.tree.Block.{Block}
use Rattle.hera_syntax.specs.declared.tree.ElseIf.{ElseIf}
use Rattle.hera_syntax.specs.declared.tree.StmtTree.{Row_of-StmtTree, end_of-StmtTree, more_of-StmtTree, items-the_row-StmtTree, items_shown-the_row-StmtTree-0, items_hidden-the_row-StmtTree-0, Row_of-ElseIf, end_of-ElseIf, more_of-ElseIf, items-the_row-ElseIf, items_hidden-the_row-ElseIf-1}
use Rattle.hera_syntax.specs.declared.tree.StmtTree.TheBlock.{hidden-the_row-StmtTree-0, hidden-the_row-ElseIf-1, back-StmtTree-If-5}
use Rattle.hera_syntax.specs.declared.tree.StmtTree.TheViews as view
use Rattle.hera_syntax.specs.declared.tree.StmtTree.TheVariants as variant
use Rattle.hera_rules.specs.Phrases.{Act, declaring, assigning, performing, choosing, looping, visiting, printing, applying, asserting, committing, rolling_back, Acts, act, Branches, branch}
use Rattle.hera_rules.specs.Read.{word_of, expr_phrase}
use Rattle.hera_rules.specs.ReadActs.{type_phrase, some_args, return_act, label_of, act_of, acts_of, branches_of, last_acts, acts_in, block_acts, branches_in, last_in}

act_rows : (n : _) (k : Row_of-StmtTree n) → acts_of k ≡ acts_in (items-the_row-StmtTree n k)
unfolding act_of
act_rows n end_of-StmtTree = refl
act_rows n (more_of-StmtTree s rest) = ap (λ r. act (act_of s) r) (act_rows _ rest)

pub act_of-Declare : (t : TypeTree) (n : Token) (e : Expr) → act_of (variant.Declare t n e) ≡ declaring (type_phrase t) (word_of n) (expr_phrase e)
unfolding act_of
act_of-Declare t n e = refl

pub act_of-Assign : (n : Token) (e : Expr) → act_of (variant.Assign n e) ≡ assigning (word_of n) (expr_phrase e)
unfolding act_of
act_of-Assign n e = refl

pub act_of-Call : (n b : Token) (args : Option ArgTrees) → act_of (variant.Call n b args) ≡ performing (word_of n) (some_args args)
unfolding act_of
act_of-Call n b args = refl

pub act_of-Print : (w : Token) (e : Expr) → act_of (variant.Print w e) ≡ printing w.at (expr_phrase e)
unfolding act_of
act_of-Print w e = refl

pub act_of-Apply : (w : Token) (e : Expr) → act_of (variant.Apply w e) ≡ applying w.at (expr_phrase e)
unfolding act_of
act_of-Apply w e = refl

pub act_of-Assert : (w : Token) (e : Expr) → act_of (variant.Assert w e) ≡ asserting w.at (expr_phrase e)
unfolding act_of
act_of-Assert w e = refl

pub act_of-Commit : (w : Token) (label : Option Token) → act_of (variant.Commit w label) ≡ committing w.at (label_of label)
unfolding act_of
act_of-Commit w label = refl

pub act_of-Rollback : (w : Token) → act_of (variant.Rollback w) ≡ rolling_back w.at
unfolding act_of
act_of-Rollback w = refl

pub act_of-Return : (w : Token) (e : Option Expr) → act_of (variant.Return w e) ≡ return_act w e
unfolding act_of
act_of-Return w e = refl

both : (f : Acts → Branches → Branches) {a a' : Acts} {b b' : Branches} → a ≡ a' → b ≡ b' → f a b ≡ f a' b'
both f {a} {a'} {b} {b'} e h = ap (λ x. f x b) e ∙ ap (f a') h

branch_rows : (n : _) (k : Row_of-ElseIf n) → branches_of k ≡ branches_in (items-the_row-ElseIf n k)
unfolding act_of
branch_rows n end_of-ElseIf = refl
branch_rows n (more_of-ElseIf w b e c shape stmts rest) =
    let inner : acts_of stmts ≡ acts_in _ = act_rows _ stmts ∙ ap acts_in (sym (items_shown-the_row-StmtTree-0 shape stmts)) in
    both (λ x r. branch w.at (expr_phrase e) x r) inner (branch_rows _ rest)

block_rows : (b : Block) → acts_of (hidden-the_row-StmtTree-0 b.stmts) ≡ block_acts b
unfolding act_of
block_rows b = act_rows _ (hidden-the_row-StmtTree-0 b.stmts) ∙ ap acts_in (items_hidden-the_row-StmtTree-0 b.stmts)

else_if_rows : (es : Vec ElseIf Global) → branches_of (hidden-the_row-ElseIf-1 es) ≡ branches_in es.items
unfolding act_of
else_if_rows es = branch_rows _ (hidden-the_row-ElseIf-1 es) ∙ ap branches_in (items_hidden-the_row-ElseIf-1 es)

last_rows : (last : Option Block) → last_acts (back-StmtTree-If-5 last) ≡ last_in last
unfolding act_of
last_rows None = refl
last_rows (Some b) = block_rows b

three : (f : Acts → Branches → Acts → Act) {a a' : Acts} {b b' : Branches} {c c' : Acts} → a ≡ a' → b ≡ b' → c ≡ c' → f a b c ≡ f a' b' c'
three f {a} {a'} {b} {b'} {c} {c'} e h k = ap (λ x. f x b c) e ∙ (ap (λ x. f a' x c) h ∙ ap (f a' b') k)

pub act_of-If : (w b : Token) (e : Expr) (block : Block) (es : Vec ElseIf Global) (last : Option Block) →
    act_of (view.If w b e block es last) ≡ choosing (branch w.at (expr_phrase e) (block_acts block) (branches_in es.items)) (last_in last)
unfolding act_of
act_of-If w b e block es last = three (λ x r y. choosing (branch w.at (expr_phrase e) x r) y) (block_rows block) (else_if_rows es) (last_rows last)

pub act_of-While : (w b : Token) (e : Expr) (block : Block) → act_of (view.While w b e block) ≡ looping w.at (expr_phrase e) (block_acts block)
unfolding act_of
act_of-While w b e block = ap (λ x. looping w.at (expr_phrase e) x) (block_rows block)

pub act_of-Foreach : (w b n : Token) (e : Expr) (block : Block) → act_of (view.Foreach w b n e block) ≡ visiting w.at (word_of n) (expr_phrase e) (block_acts block)
unfolding act_of
act_of-Foreach w b n e block = ap (λ x. visiting w.at (word_of n) (expr_phrase e) x) (block_rows block)

pub ruleset read_acts = (act_of-Declare, act_of-Assign, act_of-Call, act_of-Print, act_of-Apply, act_of-Assert, act_of-Commit, act_of-Rollback, act_of-Return, act_of-If, act_of-While, act_of-Foreach)
