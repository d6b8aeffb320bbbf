use Rattle.std.proofs.Common.{◌++◌, ap}
use Rattle.hera_syntax.specs.Grammar as phrases
use Rattle.hera_syntax.specs.Outline.{node, hold, skip, expr_outline}
use Rattle.hera_syntax.proofs.Rows.{block_rows}
use Rattle.hera_syntax.proofs.tree.StmtTree.foreach.Goals as goal

pub returns : goal.returns
returns c =
    ap (λ x. node phrases.stmt 4 ++ hold c.args.word ++ hold c.args.bracket ++ hold c.args.name ++ skip phrases.in_word ++ expr_outline c.args.over ++ skip phrases.close_paren ++ (node phrases.block 0 ++ hold c.args.block.bracket ++ x ++ node phrases.stmts 1 ++ skip phrases.close_brace))
    (block_rows c.args.block)
