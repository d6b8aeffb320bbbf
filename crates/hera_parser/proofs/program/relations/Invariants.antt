use Rattle.std.proofs.Common.{◌≤◌, [], ◌∷◌, length}
use Rattle.std.specs.List.{flat_map}
use Rattle.hera_syntax.specs.Grammar.{phrase}
use Rattle.hera_syntax.specs.Grammar as phrases
use Rattle.hera_syntax.specs.Programs.{relation_row}
use Rattle.hera_parser_exprs.specs.Reading.{Gives}
use Rattle.hera_parser.proofs.program.relations.Given as goal

abbrev pub invariant-all : goal.invariant-all
invariant-all l = record {
  reads : Gives (phrase phrases.relations ∷ []) l.fn.parser (flat_map relation_row l.all.items) (phrase phrases.relations ∷ []) l.parser;
  no_longer : length l.parser ≤ length l.fn.parser;
}

abbrev pub decreases-all : goal.decreases-all
decreases-all l = length l.parser
