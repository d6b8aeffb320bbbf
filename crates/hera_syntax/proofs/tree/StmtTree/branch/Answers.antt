use Rattle.std.proofs.Common.{◌++◌}
use Rattle.hera_syntax.specs.Grammar as phrases
use Rattle.hera_syntax.specs.Outline.{node, hold, skip, expr_outline}
use Rattle.hera_syntax.proofs.Rows.{block_rows, else_ifs_rows, all_three, last_rows}
use Rattle.hera_syntax.proofs.tree.StmtTree.branch.Goals as goal

pub returns : goal.returns
returns c =
    all_three (λ x y z. node phrases.stmt 2 ++ hold c.args.word ++ hold c.args.bracket ++ expr_outline c.args.condition ++ skip phrases.close_paren
    ++ (node phrases.block 0 ++ hold c.args.block.bracket ++ x ++ node phrases.stmts 1 ++ skip phrases.close_brace) ++ y ++ z)
    (block_rows c.args.block) (else_ifs_rows c.args.else_ifs) (last_rows c.args.last)
