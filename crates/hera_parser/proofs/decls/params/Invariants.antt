use Rattle.std.proofs.Common.{◌<◌, [], ◌∷◌, ◌++◌, length}
use Rattle.std.specs.List.{flat_map}
use Rattle.hera_syntax.specs.Grammar.{phrase}
use Rattle.hera_syntax.specs.Grammar as phrases
use Rattle.hera_syntax.specs.Outline.{node}
use Rattle.hera_syntax.specs.Programs.{param_outline, param_row}
use Rattle.hera_parser_exprs.specs.Reading.{Gives}
use Rattle.hera_parser.proofs.decls.params.Given as goal

abbrev pub invariant-rest : goal.invariant-rest
invariant-rest l = record {
  reads : Gives (phrase phrases.params ∷ []) l.fn.parser (node phrases.params 0 ++ param_outline l.items.first ++ flat_map param_row l.items.rest.items) (phrase phrases.more_params ∷ []) l.parser;
  shorter : length l.parser < length l.fn.parser;
}

abbrev pub decreases-rest : goal.decreases-rest
decreases-rest l = length l.parser
