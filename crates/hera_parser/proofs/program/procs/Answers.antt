use Rattle.std.proofs.Common.{rules, arith, refl, sym, ◌∙◌, ◌∷◌, []}
use Rattle.hera_syntax.specs.Grammar.{phrase}
use Rattle.hera_syntax.specs.Grammar as phrases
use Rattle.hera_syntax.specs.Programs.{proc_outline, proc_row}
use Rattle.hera_parser_exprs.proofs.Steps.{choose, next, next_choose, stops, join, idle, rows_first, rows_more}
use Rattle.hera_parser_exprs.proofs.JoinedParts.{got, shortened}
use Rattle.hera_parser_exprs.proofs.Choices.{told, other}
use Rattle.hera_parser.proofs.program.procs.Goals as goal

pub all-init : goal.all-init
all-init c = record { reads = rows_first proc_row c.new-all.ensures.items; no_longer = search rules }

pub returns-in_err-all-clause-sticks : goal.returns-in_err-all-clause-sticks
returns-in_err-all-clause-sticks c h = stops (join c.all.invariant.reads (next_choose 0 idle (told phrases.procs 0 refl (sym c.next_is.ensures ∙ c.all-test.true)))) (c.procedure-item.ensures.sticks (c.in_err-all.ensures.stops (search rules)))

pub all-preserved : goal.all-preserved
all-preserved c = record {
  reads = rows_more proc_row [] c.all.all.items c.in_ok-all.ensures.one_more.item c.all.invariant.reads (next (next_choose 0 idle (told phrases.procs 0 refl (sym c.next_is.ensures ∙ c.all-test.true))) (got proc_outline (phrase phrases.proc ∷ []) c.in_ok-all.ensures.one_more.was_read c.procedure-item.ensures.reads)) c.in_ok-all.ensures.one_more.longer;
  no_longer = omega (arith, c.all.invariant.no_longer, shortened c.in_ok-all.ensures.one_more.was_read c.procedure-item.ensures.shorter);
}

pub returns-clause-reads : goal.returns-clause-reads
returns-clause-reads c = join c.all.invariant.reads (choose phrases.procs 1 (other phrases.procs ((sym c.next_is.ensures ∙ c.all-test.false), tt)))
