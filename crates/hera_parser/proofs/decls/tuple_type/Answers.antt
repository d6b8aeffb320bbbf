use Rattle.std.proofs.Common.{rules}
use Rattle.hera_syntax.specs.Grammar as phrases
use Rattle.hera_parser_exprs.proofs.Steps.{choose, next, stops, as_marks}
use Rattle.hera_parser.proofs.decls.tuple_type.Goals as goal

pub returns-in_err-word-clause-sticks : goal.returns-in_err-word-clause-sticks
returns-in_err-word-clause-sticks c h = stops (choose phrases.type_tree 3 c.requires) (c.in_err-word.ensures.sticks (search rules))

pub returns-in_err-schema-clause-sticks : goal.returns-in_err-schema-clause-sticks
returns-in_err-schema-clause-sticks c h = stops (next (choose phrases.type_tree 3 c.requires) c.in_ok-word.ensures.reads) (c.in_err-schema.ensures.sticks (search rules))

pub returns-clause-reads : goal.returns-clause-reads
returns-clause-reads c = as_marks c.tuple.ensures (next (next (choose phrases.type_tree 3 c.requires) c.in_ok-word.ensures.reads) c.in_ok-schema.ensures.reads)
