use Rattle.std.proofs.Common.{rules, arith, refl, sym, ◌∙◌, ◌∷◌, []}
use Rattle.hera_syntax.specs.Grammar.{keep}
use Rattle.hera_syntax.specs.Grammar as phrases
use Rattle.hera_syntax.specs.Outline.{hold, name_row, node}
use Rattle.hera_parser_exprs.proofs.Steps.{choose, next, next_choose, stops, join, idle, as_marks, items_start, items_more}
use Rattle.hera_parser_exprs.proofs.JoinedParts.{got, shortened, reads_there}
use Rattle.hera_parser_exprs.proofs.Choices.{told, other}
use Rattle.hera_parser_exprs.proofs.parser.Parser.names.Goals as goal

pub returns-in_err-first-clause-sticks : goal.returns-in_err-first-clause-sticks
returns-in_err-first-clause-sticks c h = stops (choose phrases.names 0 (record { number = refl })) (c.in_err-first.ensures.sticks (search rules))

pub rest-init : goal.rest-init
rest-init c = record { reads = items_start hold name_row (node phrases.names 0) (next (choose phrases.names 0 (record { number = refl })) c.in_ok-first.ensures.reads) c.new-items.ensures.first c.new-items.ensures.alone; shorter = search rules }

pub returns-in_err-items-clause-sticks : goal.returns-in_err-items-clause-sticks
returns-in_err-items-clause-sticks c h = stops (join c.rest.invariant.reads (next (next_choose 0 idle (told phrases.more_names 0 refl (sym c.takes.ensures.told ∙ c.rest-test.true))) (c.takes.ensures.reads c.rest-test.true))) (c.keep-item.ensures.sticks (c.in_err-items.ensures.stops (search rules)))

pub rest-preserved : goal.rest-preserved
rest-preserved c = record {
  reads = items_more hold name_row (node phrases.names 0) c.rest.items.rest.items c.in_ok-items.ensures.one_more.item c.rest.invariant.reads (next (next (next_choose 0 idle (told phrases.more_names 0 refl (sym c.takes.ensures.told ∙ c.rest-test.true))) (c.takes.ensures.reads c.rest-test.true)) (got hold (keep phrases.name ∷ []) c.in_ok-items.ensures.one_more.was_read c.keep-item.ensures.reads)) c.in_ok-items.ensures.first c.in_ok-items.ensures.one_more.longer;
  shorter = omega (arith, c.rest.invariant.shorter, c.takes.ensures.shorter c.rest-test.true, shortened c.in_ok-items.ensures.one_more.was_read c.keep-item.ensures.shorter);
}

pub returns-clause-reads : goal.returns-clause-reads
returns-clause-reads c = as_marks c.new.ensures (reads_there (c.takes.ensures.stays c.rest-test.false) (join c.rest.invariant.reads (choose phrases.more_names 1 (other phrases.more_names ((sym c.takes.ensures.told ∙ c.rest-test.false), tt)))))
