use Rattle.std.proofs.Common.{◌<◌, [], ◌∷◌, ◌++◌, length}
use Rattle.std.specs.List.{flat_map}
use Rattle.hera_syntax.specs.Grammar.{phrase}
use Rattle.hera_syntax.specs.Grammar as phrases
use Rattle.hera_syntax.specs.Outline.{hold, name_row, node}
use Rattle.hera_parser_exprs.specs.Reading.{Gives}
use Rattle.hera_parser_exprs.proofs.parser.Parser.names.Given as goal

abbrev pub invariant-rest : goal.invariant-rest
invariant-rest l = record {
  reads : Gives (phrase phrases.names ∷ []) l.fn.self (node phrases.names 0 ++ hold l.items.first ++ flat_map name_row l.items.rest.items) (phrase phrases.more_names ∷ []) l.self;
  shorter : length l.self < length l.fn.self;
}

abbrev pub decreases-rest : goal.decreases-rest
decreases-rest l = length l.self
