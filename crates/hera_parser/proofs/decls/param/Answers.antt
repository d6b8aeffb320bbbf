use Rattle.std.proofs.Common.{rules, refl, ap}
use Rattle.hera_syntax.specs.Grammar as phrases
use Rattle.hera_syntax.specs.Programs.{type_outline}
use Rattle.hera_parser_exprs.proofs.Steps.{choose, next, stops, as_marks}
use Rattle.hera_parser.proofs.decls.param.Goals as goal

pub returns-in_err-type_tree-clause-sticks : goal.returns-in_err-type_tree-clause-sticks
returns-in_err-type_tree-clause-sticks c h = stops (choose phrases.param 0 (record { number = refl })) (c.in_err-type_tree.ensures.sticks (search rules))

pub returns-in_err-both-clause-sticks : goal.returns-in_err-both-clause-sticks
returns-in_err-both-clause-sticks c h = stops (next (choose phrases.param 0 (record { number = refl })) c.in_ok-type_tree.ensures.reads) (c.in_err-both.ensures.sticks (search rules))

pub returns-clause-reads : goal.returns-clause-reads
returns-clause-reads c = as_marks c.new.ensures (next (next (choose phrases.param 0 (record { number = refl })) (as_marks (ap type_outline c.in_ok-both.ensures.same) c.in_ok-type_tree.ensures.reads)) c.in_ok-both.ensures.reads)
