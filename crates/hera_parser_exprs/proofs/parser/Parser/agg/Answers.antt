use Rattle.std.proofs.Common.{rules, refl, sym, ◌∙◌, []}
use Rattle.hera_syntax.specs.Grammar as phrases
use Rattle.hera_parser_exprs.proofs.Steps.{choose, next, stops, stops_list, join, before, as_marks}
use Rattle.hera_parser_exprs.proofs.Choices.{told, other}
use Rattle.hera_parser_exprs.proofs.parser.Parser.agg.Goals as goal

pub returns-in_err-count-clause-sticks : goal.returns-in_err-count-clause-sticks
returns-in_err-count-clause-sticks c h = stops (choose phrases.agg 0 (told phrases.agg 0 refl (sym c.next_is.ensures ∙ c.if-next_is.true))) (c.in_err-count.ensures.sticks (search rules))

pub returns-then-next_is-clause-reads : goal.returns-then-next_is-clause-reads
returns-then-next_is-clause-reads c = as_marks c.count.ensures (next (choose phrases.agg 0 (told phrases.agg 0 refl (sym c.next_is.ensures ∙ c.if-next_is.true))) c.in_ok-count.ensures.reads)

pub returns-in_err-head-clause-sticks : goal.returns-in_err-head-clause-sticks
returns-in_err-head-clause-sticks c h = stops_list [] (choose phrases.agg 1 (other phrases.agg ((sym c.next_is.ensures ∙ c.if-next_is.false), tt))) (c.in_err-head.ensures.sticks (search rules))

pub returns-clause-reads : goal.returns-clause-reads
returns-clause-reads c = as_marks c.of.ensures (join (choose phrases.agg 1 (other phrases.agg ((sym c.next_is.ensures ∙ c.if-next_is.false), tt))) (before [] c.in_ok-head.ensures.reads))
