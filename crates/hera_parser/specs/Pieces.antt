-- A piece of an outline that is read by itself.
use Rattle.std.specs.Prelude.{List, ◌++◌}
use Rattle.hera_syntax.specs.declared.tree.ElseIf.{ElseIf}
use Rattle.hera_syntax.specs.Grammar as phrases
use Rattle.hera_syntax.specs.Outline.{Entry, hold, skip, expr_outline}
use Rattle.hera_syntax.specs.Programs.{block_outline}

-- an `else if` from its `if` on
abbrev pub else_if_rest : ElseIf → List Entry
else_if_rest e = hold e.word ++ hold e.bracket ++ expr_outline e.condition ++ skip phrases.close_paren ++ block_outline e.block
