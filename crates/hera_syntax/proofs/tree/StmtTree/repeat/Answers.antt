use Rattle.std.proofs.Common.{◌++◌, ap}
use Rattle.hera_syntax.specs.Grammar as phrases
use Rattle.hera_syntax.specs.Outline.{node, hold, skip, expr_outline}
use Rattle.hera_syntax.proofs.Rows.{block_rows}
use Rattle.hera_syntax.proofs.tree.StmtTree.repeat.Goals as goal

pub returns : goal.returns
returns c =
    ap (λ x. node phrases.stmt 3 ++ hold c.args.word ++ hold c.args.bracket ++ expr_outline c.args.condition ++ skip phrases.close_paren ++ (node phrases.block 0 ++ hold c.args.block.bracket ++ x ++ node phrases.stmts 1 ++ skip phrases.close_brace))
    (block_rows c.args.block)
