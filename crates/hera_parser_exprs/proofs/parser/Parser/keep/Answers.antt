use Rattle.std.proofs.Common.{ap}
use Rattle.hera_syntax.specs.Outline.{hold}
use Rattle.hera_parser_exprs.proofs.Steps.{as_marks}
use Rattle.hera_parser_exprs.proofs.parser.Parser.keep.Goals as goal

pub returns-clause-reads : goal.returns-clause-reads
returns-clause-reads c = as_marks (ap hold c.in_ok-copy.ensures) c.in_ok-token.ensures.reads
