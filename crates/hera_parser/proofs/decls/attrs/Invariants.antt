use Rattle.std.proofs.Common.{◌<◌, [], ◌∷◌, ◌++◌, length}
use Rattle.std.specs.List.{flat_map}
use Rattle.hera_syntax.specs.Grammar.{phrase}
use Rattle.hera_syntax.specs.Grammar as phrases
use Rattle.hera_syntax.specs.Outline.{node}
use Rattle.hera_syntax.specs.Programs.{attr_outline, attr_row}
use Rattle.hera_parser_exprs.specs.Reading.{Gives}
use Rattle.hera_parser.proofs.decls.attrs.Given as goal

abbrev pub invariant-rest : goal.invariant-rest
invariant-rest l = record {
  reads : Gives (phrase phrases.attrs ∷ []) l.fn.parser (node phrases.attrs 0 ++ attr_outline l.items.first ++ flat_map attr_row l.items.rest.items) (phrase phrases.more_attrs ∷ []) l.parser;
  shorter : length l.parser < length l.fn.parser;
}

abbrev pub decreases-rest : goal.decreases-rest
decreases-rest l = length l.parser
