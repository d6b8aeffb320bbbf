use Rattle.std.proofs.Common.{◌≤◌, [], ◌∷◌, length}
use Rattle.std.specs.List.{flat_map}
use Rattle.hera_syntax.specs.Grammar.{phrase}
use Rattle.hera_syntax.specs.Grammar as phrases
use Rattle.hera_syntax.specs.Programs.{proc_row}
use Rattle.hera_parser_exprs.specs.Reading.{Gives}
use Rattle.hera_parser.proofs.program.procs.Given as goal

abbrev pub invariant-all : goal.invariant-all
invariant-all l = record {
  reads : Gives (phrase phrases.procs ∷ []) l.fn.parser (flat_map proc_row l.all.items) (phrase phrases.procs ∷ []) l.parser;
  no_longer : length l.parser ≤ length l.fn.parser;
}

abbrev pub decreases-all : goal.decreases-all
decreases-all l = length l.parser
