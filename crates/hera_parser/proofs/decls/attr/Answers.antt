use Rattle.std.proofs.Common.{rules, refl}
use Rattle.hera_syntax.specs.Grammar as phrases
use Rattle.hera_parser_exprs.proofs.Steps.{choose, next, stops, as_marks}
use Rattle.hera_parser.proofs.decls.attr.Goals as goal

pub returns-in_err-name-clause-sticks : goal.returns-in_err-name-clause-sticks
returns-in_err-name-clause-sticks c h = stops (choose phrases.attr 0 (record { number = refl })) (c.in_err-name.ensures.sticks (search rules))

pub returns-in_err-kind-clause-sticks : goal.returns-in_err-kind-clause-sticks
returns-in_err-kind-clause-sticks c h = stops (next (choose phrases.attr 0 (record { number = refl })) c.in_ok-name.ensures.reads) (c.in_err-kind.ensures.sticks (search rules))

pub returns-clause-reads : goal.returns-clause-reads
returns-clause-reads c = as_marks c.new.ensures (next (next (choose phrases.attr 0 (record { number = refl })) c.in_ok-name.ensures.reads) c.in_ok-kind.ensures.reads)
