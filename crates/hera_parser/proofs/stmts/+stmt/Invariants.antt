use Rattle.std.proofs.Common.{◌<◌, ◌≤◌, ◌+◌, ◌*◌, [], ◌∷◌, ◌++◌, length}
use Rattle.std.specs.List.{flat_map}
use Rattle.hera_syntax.specs.Grammar.{phrase, leave}
use Rattle.hera_syntax.specs.Grammar as phrases
use Rattle.hera_syntax.specs.Outline.{hold, node}
use Rattle.hera_syntax.specs.Programs.{else_if_row, stmt_row}
use Rattle.hera_parser_exprs.specs.Reading.{Gives}
use Rattle.hera_parser.proofs.stmts.+stmt.Given as goal

abbrev pub decreases-block : goal.decreases-block
decreases-block l = 64 * length l.parser.now + 3

abbrev pub invariant-block-stmts : goal.invariant-block-stmts
invariant-block-stmts l = record {
  reads : Gives (phrase phrases.block ∷ []) l.fn.parser (node phrases.block 0 ++ hold l.items.first ++ flat_map stmt_row l.items.rest.items) (phrase phrases.stmts ∷ leave phrases.close_brace ∷ []) l.parser;
  shorter : length l.parser < length l.fn.parser;
}

abbrev pub decreases-block-stmts : goal.decreases-block-stmts
decreases-block-stmts l = length l.parser

abbrev pub decreases-stmt : goal.decreases-stmt
decreases-stmt l = 64 * length l.parser.now + 2

abbrev pub decreases-guarded : goal.decreases-guarded
decreases-guarded l = 64 * length l.parser.now + 0

abbrev pub decreases-repeat : goal.decreases-repeat
decreases-repeat l = 64 * length l.parser.now + 1

abbrev pub decreases-foreach : goal.decreases-foreach
decreases-foreach l = 64 * length l.parser.now + 1

abbrev pub decreases-elses : goal.decreases-elses
decreases-elses l = 64 * length l.parser.now + 0

abbrev pub invariant-elses-elses : goal.invariant-elses-elses
invariant-elses-elses l = record {
  reads : Gives (phrase phrases.else_part ∷ []) l.fn.parser (flat_map else_if_row l.items.items) (phrase phrases.else_part ∷ []) l.parser;
  no_longer : length l.parser ≤ length l.fn.parser;
}

abbrev pub decreases-elses-elses : goal.decreases-elses-elses
decreases-elses-elses l = length l.parser

abbrev pub decreases-branch : goal.decreases-branch
decreases-branch l = 64 * length l.parser.now + 1
