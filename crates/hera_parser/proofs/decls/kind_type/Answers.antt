use Rattle.std.proofs.Common.{rules}
use Rattle.hera_syntax.specs.Grammar as phrases
use Rattle.hera_parser_exprs.proofs.Steps.{choose, next, stops, as_marks}
use Rattle.hera_parser.proofs.decls.kind_type.Goals as goal

pub returns-in_err-kind-clause-sticks : goal.returns-in_err-kind-clause-sticks
returns-in_err-kind-clause-sticks c h = stops (choose phrases.type_tree 0 c.requires) (c.in_err-kind.ensures.sticks (search rules))

pub returns-clause-reads : goal.returns-clause-reads
returns-clause-reads c = as_marks c.kind-2.ensures (next (choose phrases.type_tree 0 c.requires) c.in_ok-kind.ensures.reads)
