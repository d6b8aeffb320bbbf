use Rattle.std.proofs.Common.{rules, arith, refl, sym, ap, ◌∙◌, ◌++◌, ◌∷◌, []}
use Rattle.hera_syntax.specs.declared.expr.Level.TheVariants as levels
use Rattle.hera_syntax.specs.declared.token.Token.{Token}
use Rattle.hera_syntax.specs.Grammar.{phrase, keep, leave}
use Rattle.hera_syntax.specs.Grammar as phrases
use Rattle.hera_syntax.specs.Operators.{operand_of, operators_of}
use Rattle.hera_syntax.specs.Outline.{aggs_outline, args_outline, args_row, atom_outline, atoms_outline, atoms_row, binding_outline, bindings_outline, bindings_row, expr_outline, hold, line_outline, lines_outline, lines_row, more_of, names_outline, node, operand_outline, post_outline, prime_outline, production_of, renamings_outline, skip, tail_outline, tail_row}
use Rattle.hera_parser_exprs.specs.declared.forms.PrimeForm.TheVariants as forms
use Rattle.hera_parser_exprs.specs.Reading.{next_terminal}
use Rattle.hera_parser_exprs.proofs.Steps.{choose, next, next_choose, stops, stops_list, join, idle, before, as_marks, items_start, items_more}
use Rattle.hera_parser_exprs.proofs.JoinedParts.{got, ok_two_on, ok_shorter, shortened, stops_in, reads_there}
use Rattle.hera_parser_exprs.proofs.Choices.{told, other}
use Rattle.hera_parser_exprs.proofs.Numbered.{as_form}
use Rattle.hera_parser_exprs.proofs.Levels.{begins, goes_on, ends, lower, told_by, keeps_as, sticks_as, compared_none, compared_one}
use Rattle.hera_parser_exprs.proofs.parser.Parser.+expr.Goals as goal

pub level-chain-requires : goal.level-chain-requires
level-chain-requires t c = (omega arith, c.in_default.not-Comparisons)

pub chain-returns-in_err-first-clause-sticks : goal.chain-returns-in_err-first-clause-sticks
chain-returns-in_err-first-clause-sticks t c h = stops (begins c.args.level) (c.in_err-first.ensures.sticks (search rules))

pub chain-rest-init : goal.chain-rest-init
chain-rest-init t c = record { reads = items_start operand_outline (tail_row c.args.level) (node (production_of c.args.level) 0) (next (begins c.args.level) c.in_ok-first.ensures.reads) c.new-items.ensures.first c.new-items.ensures.alone; shorter = search rules }

pub chain-returns-in_err-items-clause-sticks : goal.chain-returns-in_err-items-clause-sticks
chain-returns-in_err-items-clause-sticks t c h = stops_list (phrase (more_of c.args.level) ∷ []) (join c.rest.invariant.reads (goes_on c.args.level c.requires (told_by (next_terminal c.rest.self) c.next_is.ensures c.operators.ensures c.rest-test.true))) (c.tail-tail.ensures.sticks (c.in_err-items.ensures.stops (search rules)))

pub chain-rest-preserved : goal.chain-rest-preserved
chain-rest-preserved t c = record {
  reads = items_more operand_outline (tail_row c.args.level) (node (production_of c.args.level) 0) c.rest.items.rest.items c.in_ok-items.ensures.one_more.item c.rest.invariant.reads (join (goes_on c.args.level c.requires (told_by (next_terminal c.rest.self) c.next_is.ensures c.operators.ensures c.rest-test.true)) (before (phrase (more_of c.args.level) ∷ []) (got tail_outline (keep (operators_of c.args.level) ∷ phrase (operand_of c.args.level) ∷ []) c.in_ok-items.ensures.one_more.was_read c.tail-tail.ensures.reads))) c.in_ok-items.ensures.first c.in_ok-items.ensures.one_more.longer;
  shorter = omega (arith, c.rest.invariant.shorter, shortened c.in_ok-items.ensures.one_more.was_read c.tail-tail.ensures.shorter);
}

pub chain-returns-clause-reads : goal.chain-returns-clause-reads
chain-returns-clause-reads t c = as_marks c.chain.ensures (join c.rest.invariant.reads (ends c.args.level (told_by (next_terminal c.rest.self) c.next_is.ensures c.operators.ensures c.rest-test.false)))

pub comparison-returns-in_err-first-clause-sticks : goal.comparison-returns-in_err-first-clause-sticks
comparison-returns-in_err-first-clause-sticks t c h = stops (choose phrases.cmp 0 (record { number = refl })) (c.in_err-first.ensures.sticks (search rules))

pub comparison-returns-then-not-next_is-clause-reads : goal.comparison-returns-then-not-next_is-clause-reads
comparison-returns-then-not-next_is-clause-reads t c = as_marks (compared_none (node phrases.cmp 0 ++ operand_outline c.in_ok-first.first) c.comparison.ensures c.new.ensures.items) (next (next (choose phrases.cmp 0 (record { number = refl })) c.in_ok-first.ensures.reads) (choose phrases.more_cmp 1 (other phrases.more_cmp ((sym c.next_is.ensures ∙ c.if-not-next_is.true), tt))))

pub comparison-returns-in_err-items-clause-sticks : goal.comparison-returns-in_err-items-clause-sticks
comparison-returns-in_err-items-clause-sticks t c h = stops (next (choose phrases.cmp 0 (record { number = refl })) c.in_ok-first.ensures.reads) (stops_list [] (choose phrases.more_cmp 0 (told phrases.more_cmp 0 refl (sym c.next_is.ensures ∙ c.if-not-next_is.false))) (c.tail-tail.ensures.sticks (c.in_err-items.ensures.stops (search rules))))

pub comparison-returns-clause-reads : goal.comparison-returns-clause-reads
comparison-returns-clause-reads t c = as_marks (compared_one c.in_ok-first.first c.in_ok-items.ensures.one_more.item c.comparison-2.ensures (c.in_ok-items.ensures.first ∙ c.new-alone.ensures.first) c.in_ok-items.ensures.one_more.longer c.new-alone.ensures.alone) (next (next (choose phrases.cmp 0 (record { number = refl })) c.in_ok-first.ensures.reads) (join (choose phrases.more_cmp 0 (told phrases.more_cmp 0 refl (sym c.next_is.ensures ∙ c.if-not-next_is.false))) (before [] (got tail_outline (keep (operators_of levels.Comparisons) ∷ phrase (operand_of levels.Comparisons) ∷ []) c.in_ok-items.ensures.one_more.was_read c.tail-tail.ensures.reads))))

pub comparison-returns-clause-shorter : goal.comparison-returns-clause-shorter
comparison-returns-clause-shorter t c = omega (arith, c.in_ok-first.ensures.shorter, shortened c.in_ok-items.ensures.one_more.was_read c.tail-tail.ensures.shorter)

pub tail-returns-in_err-op-clause-sticks : goal.tail-returns-in_err-op-clause-sticks
tail-returns-in_err-op-clause-sticks t c h = stops idle (sticks_as c.operators.ensures (c.in_err-op.ensures.sticks (search rules)))

pub tail-returns-in_err-both-clause-sticks : goal.tail-returns-in_err-both-clause-sticks
tail-returns-in_err-both-clause-sticks t c h = stops (next idle (keeps_as c.operators.ensures c.in_ok-op.ensures.reads)) (c.operand-operand.ensures.sticks (c.in_err-both.ensures.stops (search rules)))

pub tail-returns-clause-reads : goal.tail-returns-clause-reads
tail-returns-clause-reads t c = as_marks c.new.ensures (next (next idle (keeps_as c.operators.ensures (as_marks (ap hold c.in_ok-both.ensures.same) c.in_ok-op.ensures.reads))) (got operand_outline (phrase (operand_of c.args.level) ∷ []) c.in_ok-both.ensures.read c.operand-operand.ensures.reads))

pub tail-returns-clause-shorter : goal.tail-returns-clause-shorter
tail-returns-clause-shorter t c = omega (arith, c.in_ok-op.ensures.shorter, shortened c.in_ok-both.ensures.read c.operand-operand.ensures.shorter)

pub operand-level-requires : goal.operand-level-requires
operand-level-requires t c = omega (arith, lower c.args.level c.in-Some.below (sym c.below.ensures ∙ c.in-Some.is))

pub prefix_level-returns-in_err-plain-clause-sticks : goal.prefix_level-returns-in_err-plain-clause-sticks
prefix_level-returns-in_err-plain-clause-sticks t c h = stops (choose phrases.prefix 1 (other phrases.prefix ((sym c.next_is.ensures ∙ c.if-not-next_is.true), tt))) (c.in_err-plain.ensures.sticks (search rules))

pub prefix_level-returns-then-not-next_is-clause-reads : goal.prefix_level-returns-then-not-next_is-clause-reads
prefix_level-returns-then-not-next_is-clause-reads t c = as_marks c.plain.ensures (next (choose phrases.prefix 1 (other phrases.prefix ((sym c.next_is.ensures ∙ c.if-not-next_is.true), tt))) c.in_ok-plain.ensures.reads)

pub prefix_level-returns-in_err-op-clause-sticks : goal.prefix_level-returns-in_err-op-clause-sticks
prefix_level-returns-in_err-op-clause-sticks t c h = stops (choose phrases.prefix 0 (told phrases.prefix 0 refl (sym c.next_is.ensures ∙ c.if-not-next_is.false))) (c.in_err-op.ensures.sticks (search rules))

pub prefix_level-returns-in_err-both-clause-sticks : goal.prefix_level-returns-in_err-both-clause-sticks
prefix_level-returns-in_err-both-clause-sticks t c h = stops (next (choose phrases.prefix 0 (told phrases.prefix 0 refl (sym c.next_is.ensures ∙ c.if-not-next_is.false))) c.in_ok-op.ensures.reads) (c.post-operand.ensures.sticks (c.in_err-both.ensures.stops (search rules)))

pub prefix_level-returns-clause-reads : goal.prefix_level-returns-clause-reads
prefix_level-returns-clause-reads t c = as_marks c.new.ensures (next (next (choose phrases.prefix 0 (told phrases.prefix 0 refl (sym c.next_is.ensures ∙ c.if-not-next_is.false))) (as_marks (ap hold c.in_ok-both.ensures.same) c.in_ok-op.ensures.reads)) (got post_outline (phrase phrases.post ∷ []) c.in_ok-both.ensures.read c.post-operand.ensures.reads))

pub prefix_level-returns-clause-shorter : goal.prefix_level-returns-clause-shorter
prefix_level-returns-clause-shorter t c = omega (arith, c.in_ok-op.ensures.shorter, shortened c.in_ok-both.ensures.read c.post-operand.ensures.shorter)

pub post-returns-in_err-operand-clause-sticks : goal.post-returns-in_err-operand-clause-sticks
post-returns-in_err-operand-clause-sticks t c h = stops (choose phrases.post 0 (record { number = refl })) (c.in_err-operand.ensures.sticks (search rules))

pub post-returns-in_err-both-clause-sticks : goal.post-returns-in_err-both-clause-sticks
post-returns-in_err-both-clause-sticks t c h = stops (next (choose phrases.post 0 (record { number = refl })) c.in_ok-operand.ensures.reads) (c.in_err-both.ensures.sticks (search rules))

pub post-returns-clause-reads : goal.post-returns-clause-reads
post-returns-clause-reads t c = as_marks c.new.ensures (next (next (choose phrases.post 0 (record { number = refl })) (as_marks (ap prime_outline c.in_ok-both.ensures.same) c.in_ok-operand.ensures.reads)) c.in_ok-both.ensures.reads)

pub paren-returns-in_err-bracket-clause-sticks : goal.paren-returns-in_err-bracket-clause-sticks
paren-returns-in_err-bracket-clause-sticks t c h = stops (choose phrases.prime 6 c.requires) (c.in_err-bracket.ensures.sticks (search rules))

pub paren-returns-in_err-part-clause-sticks : goal.paren-returns-in_err-part-clause-sticks
paren-returns-in_err-part-clause-sticks t c h = stops_in expr_outline (next (choose phrases.prime 6 c.requires) c.in_ok-bracket.ensures.reads) c.level-inner.ensures.reads c.level-inner.ensures.sticks (c.in_err-part.ensures.sticks (search rules))

pub paren-returns-clause-reads : goal.paren-returns-clause-reads
paren-returns-clause-reads t c = as_marks c.paren.ensures (next (next (next (choose phrases.prime 6 c.requires) (as_marks (ap hold c.in_ok-part.ensures.same) c.in_ok-bracket.ensures.reads)) (got expr_outline (phrase phrases.expr ∷ []) c.in_ok-part.ensures.read c.level-inner.ensures.reads)) c.in_ok-part.ensures.reads)

pub paren-returns-clause-shorter : goal.paren-returns-clause-shorter
paren-returns-clause-shorter t c = omega (arith, c.in_ok-bracket.ensures.shorter, shortened c.in_ok-part.ensures.read c.level-inner.ensures.shorter, c.in_ok-part.ensures.shorter)

pub row-returns-in_err-bracket-clause-sticks : goal.row-returns-in_err-bracket-clause-sticks
row-returns-in_err-bracket-clause-sticks t c h = stops (choose phrases.prime 7 c.requires) (c.in_err-bracket.ensures.sticks (search rules))

pub row-returns-in_err-part-clause-sticks : goal.row-returns-in_err-part-clause-sticks
row-returns-in_err-part-clause-sticks t c h = stops_in bindings_outline (next (choose phrases.prime 7 c.requires) c.in_ok-bracket.ensures.reads) c.bindings-bindings.ensures.reads c.bindings-bindings.ensures.sticks (c.in_err-part.ensures.sticks (search rules))

pub row-returns-clause-reads : goal.row-returns-clause-reads
row-returns-clause-reads t c = as_marks c.row.ensures (next (next (next (choose phrases.prime 7 c.requires) (as_marks (ap hold c.in_ok-part.ensures.same) c.in_ok-bracket.ensures.reads)) (got bindings_outline (phrase phrases.bindings ∷ []) c.in_ok-part.ensures.read c.bindings-bindings.ensures.reads)) c.in_ok-part.ensures.reads)

pub row-returns-clause-shorter : goal.row-returns-clause-shorter
row-returns-clause-shorter t c = omega (arith, c.in_ok-bracket.ensures.shorter, shortened c.in_ok-part.ensures.read c.bindings-bindings.ensures.shorter, c.in_ok-part.ensures.shorter)

pub delta-returns-in_err-bracket-clause-sticks : goal.delta-returns-in_err-bracket-clause-sticks
delta-returns-in_err-bracket-clause-sticks t c h = stops (choose phrases.prime 8 c.requires) (c.in_err-bracket.ensures.sticks (search rules))

pub delta-returns-in_err-empty-clause-sticks : goal.delta-returns-in_err-empty-clause-sticks
delta-returns-in_err-empty-clause-sticks t c h = stops (next_choose 1 (next (choose phrases.prime 8 c.requires) c.in_ok-bracket.ensures.reads) (other phrases.some_atoms ((sym c.next_is.ensures ∙ c.if-not-next_is.true), tt))) (c.in_err-empty.ensures.sticks (search rules))

pub delta-returns-then-not-next_is-clause-reads : goal.delta-returns-then-not-next_is-clause-reads
delta-returns-then-not-next_is-clause-reads t c = as_marks c.empty_delta.ensures (next (next_choose 1 (next (choose phrases.prime 8 c.requires) (as_marks (ap hold c.in_ok-empty.ensures.same) c.in_ok-bracket.ensures.reads)) (other phrases.some_atoms ((sym c.next_is.ensures ∙ c.if-not-next_is.true), tt))) c.in_ok-empty.ensures.reads)

pub delta-returns-in_err-part-clause-sticks : goal.delta-returns-in_err-part-clause-sticks
delta-returns-in_err-part-clause-sticks t c h = stops_in atoms_outline (next_choose 0 (next (choose phrases.prime 8 c.requires) c.in_ok-bracket.ensures.reads) (told phrases.some_atoms 0 refl (sym c.next_is.ensures ∙ c.if-not-next_is.false))) c.atoms-atoms.ensures.reads c.atoms-atoms.ensures.sticks (c.in_err-part.ensures.sticks (search rules))

pub delta-returns-clause-reads : goal.delta-returns-clause-reads
delta-returns-clause-reads t c = as_marks c.delta.ensures (next (next (next_choose 0 (next (choose phrases.prime 8 c.requires) (as_marks (ap hold c.in_ok-part.ensures.same) c.in_ok-bracket.ensures.reads)) (told phrases.some_atoms 0 refl (sym c.next_is.ensures ∙ c.if-not-next_is.false))) (got atoms_outline (phrase phrases.atoms ∷ []) c.in_ok-part.ensures.read c.atoms-atoms.ensures.reads)) c.in_ok-part.ensures.reads)

pub delta-returns-clause-shorter : goal.delta-returns-clause-shorter
delta-returns-clause-shorter t c = omega (arith, c.in_ok-bracket.ensures.shorter, shortened c.in_ok-part.ensures.read c.atoms-atoms.ensures.shorter, c.in_ok-part.ensures.shorter)

pub rows-returns-in_err-head-clause-sticks : goal.rows-returns-in_err-head-clause-sticks
rows-returns-in_err-head-clause-sticks t c h = stops_list (phrase phrases.some_lines ∷ leave phrases.close_brace ∷ []) (choose phrases.prime 9 c.requires) (c.in_err-head.ensures.sticks (search rules))

pub rows-returns-in_err-empty-clause-sticks : goal.rows-returns-in_err-empty-clause-sticks
rows-returns-in_err-empty-clause-sticks t c h = stops (next_choose 1 (join (choose phrases.prime 9 c.requires) (before (phrase phrases.some_lines ∷ leave phrases.close_brace ∷ []) c.in_ok-head.ensures.reads)) (other phrases.some_lines ((sym c.next_is.ensures ∙ c.if-not-next_is.true), tt))) (c.in_err-empty.ensures.sticks (search rules))

pub rows-returns-then-not-next_is-clause-reads : goal.rows-returns-then-not-next_is-clause-reads
rows-returns-then-not-next_is-clause-reads t c = as_marks c.empty_rows.ensures (next (next_choose 1 (join (choose phrases.prime 9 c.requires) (before (phrase phrases.some_lines ∷ leave phrases.close_brace ∷ []) (as_marks (ap (λ b. hold b.0.0.0 ++ hold b.0.0.1 ++ hold b.0.1 ++ skip phrases.close_paren ++ hold b.1) c.in_ok-empty.ensures.same) c.in_ok-head.ensures.reads))) (other phrases.some_lines ((sym c.next_is.ensures ∙ c.if-not-next_is.true), tt))) c.in_ok-empty.ensures.reads)

pub rows-returns-in_err-part-clause-sticks : goal.rows-returns-in_err-part-clause-sticks
rows-returns-in_err-part-clause-sticks t c h = stops_in lines_outline (next_choose 0 (join (choose phrases.prime 9 c.requires) (before (phrase phrases.some_lines ∷ leave phrases.close_brace ∷ []) c.in_ok-head.ensures.reads)) (told phrases.some_lines 0 refl (sym c.next_is.ensures ∙ c.if-not-next_is.false))) c.lines-lines.ensures.reads c.lines-lines.ensures.sticks (c.in_err-part.ensures.sticks (search rules))

pub rows-returns-clause-reads : goal.rows-returns-clause-reads
rows-returns-clause-reads t c = as_marks c.rows.ensures (next (next (next_choose 0 (join (choose phrases.prime 9 c.requires) (before (phrase phrases.some_lines ∷ leave phrases.close_brace ∷ []) (as_marks (ap (λ b. hold b.0.0.0 ++ hold b.0.0.1 ++ hold b.0.1 ++ skip phrases.close_paren ++ hold b.1) c.in_ok-part.ensures.same) c.in_ok-head.ensures.reads))) (told phrases.some_lines 0 refl (sym c.next_is.ensures ∙ c.if-not-next_is.false))) (got lines_outline (phrase phrases.lines ∷ []) c.in_ok-part.ensures.read c.lines-lines.ensures.reads)) c.in_ok-part.ensures.reads)

pub rows-returns-clause-shorter : goal.rows-returns-clause-shorter
rows-returns-clause-shorter t c = omega (arith, c.in_ok-head.ensures.shorter, shortened c.in_ok-part.ensures.read c.lines-lines.ensures.shorter, c.in_ok-part.ensures.shorter)

pub walk-returns-in_err-head-clause-sticks : goal.walk-returns-in_err-head-clause-sticks
walk-returns-in_err-head-clause-sticks t c h = stops_list (phrase phrases.expr ∷ leave phrases.colon ∷ phrase phrases.expr ∷ leave phrases.close_paren ∷ []) (choose phrases.prime 10 c.requires) (c.in_err-head.ensures.sticks (search rules))

pub walk-returns-in_err-part-clause-sticks : goal.walk-returns-in_err-part-clause-sticks
walk-returns-in_err-part-clause-sticks t c h = stops_in expr_outline (join (choose phrases.prime 10 c.requires) (before (phrase phrases.expr ∷ leave phrases.colon ∷ phrase phrases.expr ∷ leave phrases.close_paren ∷ []) c.in_ok-head.ensures.reads)) c.level-over.ensures.reads c.level-over.ensures.sticks (c.in_err-part.ensures.sticks (search rules))

pub walk-returns-in_err-part-2-clause-sticks : goal.walk-returns-in_err-part-2-clause-sticks
walk-returns-in_err-part-2-clause-sticks t c h = stops_in expr_outline (next (next (join (choose phrases.prime 10 c.requires) (before (phrase phrases.expr ∷ leave phrases.colon ∷ phrase phrases.expr ∷ leave phrases.close_paren ∷ []) c.in_ok-head.ensures.reads)) (got expr_outline (phrase phrases.expr ∷ []) c.in_ok-part.ensures.read c.level-over.ensures.reads)) c.in_ok-part.ensures.reads) c.level-body.ensures.reads c.level-body.ensures.sticks (c.in_err-part-2.ensures.sticks (search rules))

pub walk-returns-clause-reads : goal.walk-returns-clause-reads
walk-returns-clause-reads t c = as_marks c.walk.ensures (next (next (next (next (join (choose phrases.prime 10 c.requires) (before (phrase phrases.expr ∷ leave phrases.colon ∷ phrase phrases.expr ∷ leave phrases.close_paren ∷ []) (as_marks (ap (λ b. hold b.0.0.0 ++ hold b.0.0.1 ++ hold b.0.1 ++ skip phrases.in_word) c.in_ok-part-2.ensures.same ∙ ap (λ b. hold b.0.0 ++ hold b.0.1 ++ hold b.1 ++ skip phrases.in_word) c.in_ok-part.ensures.same) c.in_ok-head.ensures.reads))) (as_marks (ap (λ b. expr_outline b.1.value) c.in_ok-part-2.ensures.same) (got expr_outline (phrase phrases.expr ∷ []) c.in_ok-part.ensures.read c.level-over.ensures.reads))) c.in_ok-part.ensures.reads) (got expr_outline (phrase phrases.expr ∷ []) c.in_ok-part-2.ensures.read c.level-body.ensures.reads)) c.in_ok-part-2.ensures.reads)

pub walk-returns-clause-shorter : goal.walk-returns-clause-shorter
walk-returns-clause-shorter t c = omega (arith, c.in_ok-head.ensures.shorter, shortened c.in_ok-part.ensures.read c.level-over.ensures.shorter, c.in_ok-part.ensures.shorter, shortened c.in_ok-part-2.ensures.read c.level-body.ensures.shorter, c.in_ok-part-2.ensures.shorter)

pub opened-returns-in_err-head-clause-sticks : goal.opened-returns-in_err-head-clause-sticks
opened-returns-in_err-head-clause-sticks t c h = stops_list (phrase phrases.expr ∷ leave c.args.end ∷ []) idle (c.in_err-head.ensures.sticks (search rules))

pub opened-returns-clause-reads : goal.opened-returns-clause-reads
opened-returns-clause-reads t c = ok_two_on _ c.boxed_until.ensures.same c.boxed_until.ensures.read c.boxed_until.ensures.reads
    (λ part same read reads. next (next (join idle (before (phrase phrases.expr ∷ leave c.args.end ∷ []) (as_marks (ap (λ (b : Token × Token). hold b.0 ++ hold b.1) same) c.in_ok-head.ensures.reads))) (got expr_outline (phrase phrases.expr ∷ []) read c.level-over.ensures.reads)) reads)

pub opened-returns-clause-sticks : goal.opened-returns-clause-sticks
opened-returns-clause-sticks t c h = stops_in expr_outline (join idle (before (phrase phrases.expr ∷ leave c.args.end ∷ []) c.in_ok-head.ensures.reads)) c.level-over.ensures.reads c.level-over.ensures.sticks (c.boxed_until.ensures.sticks h)

pub opened-returns-clause-shorter : goal.opened-returns-clause-shorter
opened-returns-clause-shorter t c = ok_shorter _ _ _ _ _ _ _ c.boxed_until.ensures.read c.boxed_until.ensures.shorter c.level-over.ensures.shorter c.in_ok-head.ensures.shorter

pub project-returns-in_err-part-clause-sticks : goal.project-returns-in_err-part-clause-sticks
project-returns-in_err-part-clause-sticks t c h = stops_list (phrase phrases.names ∷ leave phrases.close_paren ∷ []) (choose phrases.prime 11 c.requires) (c.in_err-part.ensures.sticks (search rules))

pub project-returns-in_err-part-2-clause-sticks : goal.project-returns-in_err-part-2-clause-sticks
project-returns-in_err-part-2-clause-sticks t c h = stops_in names_outline (join (choose phrases.prime 11 c.requires) (before (phrase phrases.names ∷ leave phrases.close_paren ∷ []) c.in_ok-part.ensures.reads)) c.names-names.ensures.reads c.names-names.ensures.sticks (c.in_err-part-2.ensures.sticks (search rules))

pub project-returns-clause-reads : goal.project-returns-clause-reads
project-returns-clause-reads t c = as_marks c.project.ensures (next (next (join (choose phrases.prime 11 c.requires) (before (phrase phrases.names ∷ leave phrases.close_paren ∷ []) (as_marks (ap (λ b. hold b.0.0 ++ hold b.0.1 ++ expr_outline b.1.value ++ skip phrases.semicolon) c.in_ok-part-2.ensures.same) c.in_ok-part.ensures.reads))) (got names_outline (phrase phrases.names ∷ []) c.in_ok-part-2.ensures.read c.names-names.ensures.reads)) c.in_ok-part-2.ensures.reads)

pub project-returns-clause-shorter : goal.project-returns-clause-shorter
project-returns-clause-shorter t c = omega (arith, c.in_ok-part.ensures.shorter, shortened c.in_ok-part-2.ensures.read c.names-names.ensures.shorter, c.in_ok-part-2.ensures.shorter)

pub rename-returns-in_err-part-clause-sticks : goal.rename-returns-in_err-part-clause-sticks
rename-returns-in_err-part-clause-sticks t c h = stops_list (phrase phrases.renamings ∷ leave phrases.close_paren ∷ []) (choose phrases.prime 12 c.requires) (c.in_err-part.ensures.sticks (search rules))

pub rename-returns-in_err-part-2-clause-sticks : goal.rename-returns-in_err-part-2-clause-sticks
rename-returns-in_err-part-2-clause-sticks t c h = stops_in renamings_outline (join (choose phrases.prime 12 c.requires) (before (phrase phrases.renamings ∷ leave phrases.close_paren ∷ []) c.in_ok-part.ensures.reads)) c.renamings-renamings.ensures.reads c.renamings-renamings.ensures.sticks (c.in_err-part-2.ensures.sticks (search rules))

pub rename-returns-clause-reads : goal.rename-returns-clause-reads
rename-returns-clause-reads t c = as_marks c.rename.ensures (next (next (join (choose phrases.prime 12 c.requires) (before (phrase phrases.renamings ∷ leave phrases.close_paren ∷ []) (as_marks (ap (λ b. hold b.0.0 ++ hold b.0.1 ++ expr_outline b.1.value ++ skip phrases.semicolon) c.in_ok-part-2.ensures.same) c.in_ok-part.ensures.reads))) (got renamings_outline (phrase phrases.renamings ∷ []) c.in_ok-part-2.ensures.read c.renamings-renamings.ensures.reads)) c.in_ok-part-2.ensures.reads)

pub rename-returns-clause-shorter : goal.rename-returns-clause-shorter
rename-returns-clause-shorter t c = omega (arith, c.in_ok-part.ensures.shorter, shortened c.in_ok-part-2.ensures.read c.renamings-renamings.ensures.shorter, c.in_ok-part-2.ensures.shorter)

pub pair-returns-in_err-part-clause-sticks : goal.pair-returns-in_err-part-clause-sticks
pair-returns-in_err-part-clause-sticks t c h = stops_list (phrase phrases.expr ∷ leave phrases.close_paren ∷ []) (choose phrases.prime 13 c.requires) (c.in_err-part.ensures.sticks (search rules))

pub pair-returns-in_err-part-2-clause-sticks : goal.pair-returns-in_err-part-2-clause-sticks
pair-returns-in_err-part-2-clause-sticks t c h = stops_in expr_outline (join (choose phrases.prime 13 c.requires) (before (phrase phrases.expr ∷ leave phrases.close_paren ∷ []) c.in_ok-part.ensures.reads)) c.level-right.ensures.reads c.level-right.ensures.sticks (c.in_err-part-2.ensures.sticks (search rules))

pub pair-returns-clause-reads : goal.pair-returns-clause-reads
pair-returns-clause-reads t c = as_marks c.pair.ensures (next (next (join (choose phrases.prime 13 c.requires) (before (phrase phrases.expr ∷ leave phrases.close_paren ∷ []) (as_marks (ap (λ b. hold b.0.0 ++ hold b.0.1 ++ expr_outline b.1.value ++ skip phrases.comma) c.in_ok-part-2.ensures.same) c.in_ok-part.ensures.reads))) (got expr_outline (phrase phrases.expr ∷ []) c.in_ok-part-2.ensures.read c.level-right.ensures.reads)) c.in_ok-part-2.ensures.reads)

pub pair-returns-clause-shorter : goal.pair-returns-clause-shorter
pair-returns-clause-shorter t c = omega (arith, c.in_ok-part.ensures.shorter, shortened c.in_ok-part-2.ensures.read c.level-right.ensures.shorter, c.in_ok-part-2.ensures.shorter)

pub group-returns-in_err-part-clause-sticks : goal.group-returns-in_err-part-clause-sticks
group-returns-in_err-part-clause-sticks t c h = stops_list (leave phrases.by_word ∷ phrase phrases.names ∷ leave phrases.semicolon ∷ phrase phrases.aggs ∷ leave phrases.close_paren ∷ []) (choose phrases.prime 14 c.requires) (c.in_err-part.ensures.sticks (search rules))

pub group-returns-in_err-part-2-clause-sticks : goal.group-returns-in_err-part-2-clause-sticks
group-returns-in_err-part-2-clause-sticks t c h = stops (join (choose phrases.prime 14 c.requires) (before (leave phrases.by_word ∷ phrase phrases.names ∷ leave phrases.semicolon ∷ phrase phrases.aggs ∷ leave phrases.close_paren ∷ []) c.in_ok-part.ensures.reads)) (c.in_err-part-2.ensures.sticks (search rules))

pub group-returns-in_err-part-3-clause-sticks : goal.group-returns-in_err-part-3-clause-sticks
group-returns-in_err-part-3-clause-sticks t c h = stops_in names_outline (next (join (choose phrases.prime 14 c.requires) (before (leave phrases.by_word ∷ phrase phrases.names ∷ leave phrases.semicolon ∷ phrase phrases.aggs ∷ leave phrases.close_paren ∷ []) c.in_ok-part.ensures.reads)) c.in_ok-part-2.ensures.reads) c.names-names.ensures.reads c.names-names.ensures.sticks (c.in_err-part-3.ensures.sticks (search rules))

pub group-returns-in_err-part-4-clause-sticks : goal.group-returns-in_err-part-4-clause-sticks
group-returns-in_err-part-4-clause-sticks t c h = stops_in aggs_outline (next (next (next (join (choose phrases.prime 14 c.requires) (before (leave phrases.by_word ∷ phrase phrases.names ∷ leave phrases.semicolon ∷ phrase phrases.aggs ∷ leave phrases.close_paren ∷ []) c.in_ok-part.ensures.reads)) c.in_ok-part-2.ensures.reads) (got names_outline (phrase phrases.names ∷ []) c.in_ok-part-3.ensures.read c.names-names.ensures.reads)) c.in_ok-part-3.ensures.reads) c.aggs-aggs.ensures.reads c.aggs-aggs.ensures.sticks (c.in_err-part-4.ensures.sticks (search rules))

pub group-returns-clause-reads : goal.group-returns-clause-reads
group-returns-clause-reads t c = as_marks c.group.ensures (next (next (next (next (next (join (choose phrases.prime 14 c.requires) (before (leave phrases.by_word ∷ phrase phrases.names ∷ leave phrases.semicolon ∷ phrase phrases.aggs ∷ leave phrases.close_paren ∷ []) (as_marks (ap (λ b. hold b.0.0.0 ++ hold b.0.0.1 ++ expr_outline b.0.1.value ++ skip phrases.semicolon) c.in_ok-part-4.ensures.same ∙ (ap (λ b. hold b.0.0 ++ hold b.0.1 ++ expr_outline b.1.value ++ skip phrases.semicolon) c.in_ok-part-3.ensures.same ∙ ap (λ b. hold b.0.0 ++ hold b.0.1 ++ expr_outline b.1.value ++ skip phrases.semicolon) c.in_ok-part-2.ensures.same)) c.in_ok-part.ensures.reads))) c.in_ok-part-2.ensures.reads) (as_marks (ap (λ b. names_outline b.1) c.in_ok-part-4.ensures.same) (got names_outline (phrase phrases.names ∷ []) c.in_ok-part-3.ensures.read c.names-names.ensures.reads))) c.in_ok-part-3.ensures.reads) (got aggs_outline (phrase phrases.aggs ∷ []) c.in_ok-part-4.ensures.read c.aggs-aggs.ensures.reads)) c.in_ok-part-4.ensures.reads)

pub group-returns-clause-shorter : goal.group-returns-clause-shorter
group-returns-clause-shorter t c = omega (arith, c.in_ok-part.ensures.shorter, c.in_ok-part-2.ensures.shorter, shortened c.in_ok-part-3.ensures.read c.names-names.ensures.shorter, c.in_ok-part-3.ensures.shorter, shortened c.in_ok-part-4.ensures.read c.aggs-aggs.ensures.shorter, c.in_ok-part-4.ensures.shorter)

pub measure-returns-in_err-part-clause-sticks : goal.measure-returns-in_err-part-clause-sticks
measure-returns-in_err-part-clause-sticks t c h = stops_list [] (choose phrases.prime 15 c.requires) (c.in_err-part.ensures.sticks (search rules))

pub measure-returns-clause-reads : goal.measure-returns-clause-reads
measure-returns-clause-reads t c = as_marks c.measure.ensures (join (choose phrases.prime 15 c.requires) (before [] c.in_ok-part.ensures.reads))

pub fold-returns-in_err-part-clause-sticks : goal.fold-returns-in_err-part-clause-sticks
fold-returns-in_err-part-clause-sticks t c h = stops_list (keep phrases.name ∷ leave phrases.close_paren ∷ []) (choose phrases.prime 16 c.requires) (c.in_err-part.ensures.sticks (search rules))

pub fold-returns-in_err-part-2-clause-sticks : goal.fold-returns-in_err-part-2-clause-sticks
fold-returns-in_err-part-2-clause-sticks t c h = stops (join (choose phrases.prime 16 c.requires) (before (keep phrases.name ∷ leave phrases.close_paren ∷ []) c.in_ok-part.ensures.reads)) (c.in_err-part-2.ensures.sticks (search rules))

pub fold-returns-in_err-part-3-clause-sticks : goal.fold-returns-in_err-part-3-clause-sticks
fold-returns-in_err-part-3-clause-sticks t c h = stops (next (join (choose phrases.prime 16 c.requires) (before (keep phrases.name ∷ leave phrases.close_paren ∷ []) c.in_ok-part.ensures.reads)) c.in_ok-part-2.ensures.reads) (c.in_err-part-3.ensures.sticks (search rules))

pub fold-returns-clause-reads : goal.fold-returns-clause-reads
fold-returns-clause-reads t c = as_marks c.fold.ensures (next (next (join (choose phrases.prime 16 c.requires) (before (keep phrases.name ∷ leave phrases.close_paren ∷ []) (as_marks (ap (λ b. hold b.0.0.0 ++ hold b.0.0.1 ++ expr_outline b.0.1.value ++ skip phrases.comma) c.in_ok-part-3.ensures.same ∙ ap (λ b. hold b.0.0 ++ hold b.0.1 ++ expr_outline b.1.value ++ skip phrases.comma) c.in_ok-part-2.ensures.same) c.in_ok-part.ensures.reads))) (as_marks (ap (λ b. hold b.1) c.in_ok-part-3.ensures.same) c.in_ok-part-2.ensures.reads)) c.in_ok-part-3.ensures.reads)

pub bulk-returns-in_err-head-clause-sticks : goal.bulk-returns-in_err-head-clause-sticks
bulk-returns-in_err-head-clause-sticks t c h = stops_list (phrase phrases.expr ∷ leave phrases.close_paren ∷ []) (choose phrases.prime 17 c.requires) (c.in_err-head.ensures.sticks (search rules))

pub bulk-returns-in_err-part-clause-sticks : goal.bulk-returns-in_err-part-clause-sticks
bulk-returns-in_err-part-clause-sticks t c h = stops_in expr_outline (join (choose phrases.prime 17 c.requires) (before (phrase phrases.expr ∷ leave phrases.close_paren ∷ []) c.in_ok-head.ensures.reads)) c.level-over.ensures.reads c.level-over.ensures.sticks (c.in_err-part.ensures.sticks (search rules))

pub bulk-returns-clause-reads : goal.bulk-returns-clause-reads
bulk-returns-clause-reads t c = as_marks c.bulk.ensures (next (next (join (choose phrases.prime 17 c.requires) (before (phrase phrases.expr ∷ leave phrases.close_paren ∷ []) (as_marks (ap (λ b. hold b.0.0.0 ++ hold b.0.0.1 ++ hold b.0.1 ++ hold b.1 ++ skip phrases.comma) c.in_ok-part.ensures.same) c.in_ok-head.ensures.reads))) (got expr_outline (phrase phrases.expr ∷ []) c.in_ok-part.ensures.read c.level-over.ensures.reads)) c.in_ok-part.ensures.reads)

pub bulk-returns-clause-shorter : goal.bulk-returns-clause-shorter
bulk-returns-clause-shorter t c = omega (arith, c.in_ok-head.ensures.shorter, shortened c.in_ok-part.ensures.read c.level-over.ensures.shorter, c.in_ok-part.ensures.shorter)

pub part-returns-in_err-head-clause-sticks : goal.part-returns-in_err-head-clause-sticks
part-returns-in_err-head-clause-sticks t c h = stops_list (phrase phrases.expr ∷ leave phrases.close_paren ∷ []) (choose phrases.prime 18 c.requires) (c.in_err-head.ensures.sticks (search rules))

pub part-returns-in_err-part-clause-sticks : goal.part-returns-in_err-part-clause-sticks
part-returns-in_err-part-clause-sticks t c h = stops_in expr_outline (join (choose phrases.prime 18 c.requires) (before (phrase phrases.expr ∷ leave phrases.close_paren ∷ []) c.in_ok-head.ensures.reads)) c.level-over.ensures.reads c.level-over.ensures.sticks (c.in_err-part.ensures.sticks (search rules))

pub part-returns-clause-reads : goal.part-returns-clause-reads
part-returns-clause-reads t c = as_marks c.part.ensures (next (next (join (choose phrases.prime 18 c.requires) (before (phrase phrases.expr ∷ leave phrases.close_paren ∷ []) (as_marks (ap (λ b. hold b.0.0 ++ hold b.0.1 ++ hold b.1 ++ skip phrases.comma) c.in_ok-part.ensures.same) c.in_ok-head.ensures.reads))) (got expr_outline (phrase phrases.expr ∷ []) c.in_ok-part.ensures.read c.level-over.ensures.reads)) c.in_ok-part.ensures.reads)

pub part-returns-clause-shorter : goal.part-returns-clause-shorter
part-returns-clause-shorter t c = omega (arith, c.in_ok-head.ensures.shorter, shortened c.in_ok-part.ensures.read c.level-over.ensures.shorter, c.in_ok-part.ensures.shorter)

pub name_or_call-returns-in_err-name-clause-sticks : goal.name_or_call-returns-in_err-name-clause-sticks
name_or_call-returns-in_err-name-clause-sticks t c h = stops (choose phrases.prime 5 c.requires) (c.in_err-name.ensures.sticks (search rules))

pub name_or_call-returns-then-not-next_is-clause-reads : goal.name_or_call-returns-then-not-next_is-clause-reads
name_or_call-returns-then-not-next_is-clause-reads t c = as_marks c.name.ensures (next (next (choose phrases.prime 5 c.requires) c.in_ok-name.ensures.reads) (choose phrases.call 1 (other phrases.call ((sym c.next_is.ensures ∙ c.if-not-next_is.true), tt))))

pub name_or_call-returns-in_err-head-clause-sticks : goal.name_or_call-returns-in_err-head-clause-sticks
name_or_call-returns-in_err-head-clause-sticks t c h = stops (next_choose 0 (next (choose phrases.prime 5 c.requires) c.in_ok-name.ensures.reads) (told phrases.call 0 refl (sym c.next_is.ensures ∙ c.if-not-next_is.false))) (c.in_err-head.ensures.sticks (search rules))

pub name_or_call-returns-in_err-empty-clause-sticks : goal.name_or_call-returns-in_err-empty-clause-sticks
name_or_call-returns-in_err-empty-clause-sticks t c h = stops (next_choose 1 (next (next_choose 0 (next (choose phrases.prime 5 c.requires) c.in_ok-name.ensures.reads) (told phrases.call 0 refl (sym c.next_is.ensures ∙ c.if-not-next_is.false))) c.in_ok-head.ensures.reads) (other phrases.some_args ((sym c.next_is-2.ensures ∙ c.if-not-next_is-2.true), tt))) (c.in_err-empty.ensures.sticks (search rules))

pub name_or_call-returns-then-not-next_is-2-clause-reads : goal.name_or_call-returns-then-not-next_is-2-clause-reads
name_or_call-returns-then-not-next_is-2-clause-reads t c = as_marks c.empty_call.ensures (next (next_choose 1 (next (next_choose 0 (next (choose phrases.prime 5 c.requires) (as_marks (ap (λ b. hold b.0) c.in_ok-empty.ensures.same ∙ ap hold c.in_ok-head.ensures.same) c.in_ok-name.ensures.reads)) (told phrases.call 0 refl (sym c.next_is.ensures ∙ c.if-not-next_is.false))) (as_marks (ap (λ b. hold b.1) c.in_ok-empty.ensures.same) c.in_ok-head.ensures.reads)) (other phrases.some_args ((sym c.next_is-2.ensures ∙ c.if-not-next_is-2.true), tt))) c.in_ok-empty.ensures.reads)

pub name_or_call-returns-in_err-part-clause-sticks : goal.name_or_call-returns-in_err-part-clause-sticks
name_or_call-returns-in_err-part-clause-sticks t c h = stops_in args_outline (next_choose 0 (next (next_choose 0 (next (choose phrases.prime 5 c.requires) c.in_ok-name.ensures.reads) (told phrases.call 0 refl (sym c.next_is.ensures ∙ c.if-not-next_is.false))) c.in_ok-head.ensures.reads) (told phrases.some_args 0 refl (sym c.next_is-2.ensures ∙ c.if-not-next_is-2.false))) c.args-args.ensures.reads c.args-args.ensures.sticks (c.in_err-part.ensures.sticks (search rules))

pub name_or_call-returns-clause-reads : goal.name_or_call-returns-clause-reads
name_or_call-returns-clause-reads t c = as_marks c.call.ensures (next (next (next_choose 0 (next (next_choose 0 (next (choose phrases.prime 5 c.requires) (as_marks (ap (λ b. hold b.0) c.in_ok-part.ensures.same ∙ ap hold c.in_ok-head.ensures.same) c.in_ok-name.ensures.reads)) (told phrases.call 0 refl (sym c.next_is.ensures ∙ c.if-not-next_is.false))) (as_marks (ap (λ b. hold b.1) c.in_ok-part.ensures.same) c.in_ok-head.ensures.reads)) (told phrases.some_args 0 refl (sym c.next_is-2.ensures ∙ c.if-not-next_is-2.false))) (got args_outline (phrase phrases.args ∷ []) c.in_ok-part.ensures.read c.args-args.ensures.reads)) c.in_ok-part.ensures.reads)

pub name_or_call-returns-clause-shorter : goal.name_or_call-returns-clause-shorter
name_or_call-returns-clause-shorter t c = omega (arith, c.in_ok-name.ensures.shorter, c.in_ok-head.ensures.shorter, shortened c.in_ok-part.ensures.read c.args-args.ensures.shorter, c.in_ok-part.ensures.shorter)

pub prime-int-requires : goal.prime-int-requires
prime-int-requires t c = as_form forms.Int c.in-Int.is c.prime_form.ensures

pub prime-text-requires : goal.prime-text-requires
prime-text-requires t c = as_form forms.Text c.in-Text.is c.prime_form.ensures

pub prime-true_word-requires : goal.prime-true_word-requires
prime-true_word-requires t c = as_form forms.True c.in-True.is c.prime_form.ensures

pub prime-false_word-requires : goal.prime-false_word-requires
prime-false_word-requires t c = as_form forms.False c.in-False.is c.prime_form.ensures

pub prime-fail_word-requires : goal.prime-fail_word-requires
prime-fail_word-requires t c = as_form forms.Fail c.in-Fail.is c.prime_form.ensures

pub prime-name_or_call-requires : goal.prime-name_or_call-requires
prime-name_or_call-requires t c = (omega arith, as_form forms.Name c.in-Name.is c.prime_form.ensures)

pub prime-paren-requires : goal.prime-paren-requires
prime-paren-requires t c = (omega arith, as_form forms.Paren c.in-Paren.is c.prime_form.ensures)

pub prime-row-requires : goal.prime-row-requires
prime-row-requires t c = (omega arith, as_form forms.Row c.in-Row.is c.prime_form.ensures)

pub prime-delta-requires : goal.prime-delta-requires
prime-delta-requires t c = (omega arith, as_form forms.Delta c.in-Delta.is c.prime_form.ensures)

pub prime-rows-requires : goal.prime-rows-requires
prime-rows-requires t c = (omega arith, as_form forms.Rows c.in-Rows.is c.prime_form.ensures)

pub prime-walk-requires : goal.prime-walk-requires
prime-walk-requires t c = (omega arith, as_form forms.Walk c.in-Walk.is c.prime_form.ensures)

pub prime-project-requires : goal.prime-project-requires
prime-project-requires t c = (omega arith, as_form forms.Project c.in-Project.is c.prime_form.ensures)

pub prime-rename-requires : goal.prime-rename-requires
prime-rename-requires t c = (omega arith, as_form forms.Rename c.in-Rename.is c.prime_form.ensures)

pub prime-pair-requires : goal.prime-pair-requires
prime-pair-requires t c = (omega arith, as_form forms.Pair c.in-Pair.is c.prime_form.ensures)

pub prime-group-requires : goal.prime-group-requires
prime-group-requires t c = (omega arith, as_form forms.Group c.in-Group.is c.prime_form.ensures)

pub prime-measure-requires : goal.prime-measure-requires
prime-measure-requires t c = (omega arith, as_form forms.Measure c.in-Measure.is c.prime_form.ensures)

pub prime-fold-requires : goal.prime-fold-requires
prime-fold-requires t c = (omega arith, as_form forms.Fold c.in-Fold.is c.prime_form.ensures)

pub prime-bulk-requires : goal.prime-bulk-requires
prime-bulk-requires t c = (omega arith, as_form forms.Bulk c.in-Bulk.is c.prime_form.ensures)

pub prime-part-requires : goal.prime-part-requires
prime-part-requires t c = (omega arith, as_form forms.Part c.in-Part.is c.prime_form.ensures)

pub args-returns-in_err-first-clause-sticks : goal.args-returns-in_err-first-clause-sticks
args-returns-in_err-first-clause-sticks t c h = stops (choose phrases.args 0 (record { number = refl })) (c.in_err-first.ensures.sticks (search rules))

pub args-rest-init : goal.args-rest-init
args-rest-init t c = record { reads = items_start expr_outline args_row (node phrases.args 0) (next (choose phrases.args 0 (record { number = refl })) c.in_ok-first.ensures.reads) c.new-items.ensures.first c.new-items.ensures.alone; shorter = search rules }

pub args-returns-in_err-items-clause-sticks : goal.args-returns-in_err-items-clause-sticks
args-returns-in_err-items-clause-sticks t c h = stops (join c.rest.invariant.reads (next (next_choose 0 idle (told phrases.more_args 0 refl (sym c.takes.ensures.told ∙ c.rest-test.true))) (c.takes.ensures.reads c.rest-test.true))) (c.level-item.ensures.sticks (c.in_err-items.ensures.stops (search rules)))

pub args-rest-preserved : goal.args-rest-preserved
args-rest-preserved t c = record {
  reads = items_more expr_outline args_row (node phrases.args 0) c.rest.items.rest.items c.in_ok-items.ensures.one_more.item c.rest.invariant.reads (next (next (next_choose 0 idle (told phrases.more_args 0 refl (sym c.takes.ensures.told ∙ c.rest-test.true))) (c.takes.ensures.reads c.rest-test.true)) (got expr_outline (phrase phrases.expr ∷ []) c.in_ok-items.ensures.one_more.was_read c.level-item.ensures.reads)) c.in_ok-items.ensures.first c.in_ok-items.ensures.one_more.longer;
  shorter = omega (arith, c.rest.invariant.shorter, c.takes.ensures.shorter c.rest-test.true, shortened c.in_ok-items.ensures.one_more.was_read c.level-item.ensures.shorter);
}

pub args-returns-clause-reads : goal.args-returns-clause-reads
args-returns-clause-reads t c = as_marks c.new.ensures (reads_there (c.takes.ensures.stays c.rest-test.false) (join c.rest.invariant.reads (choose phrases.more_args 1 (other phrases.more_args ((sym c.takes.ensures.told ∙ c.rest-test.false), tt)))))

pub bindings-returns-in_err-first-clause-sticks : goal.bindings-returns-in_err-first-clause-sticks
bindings-returns-in_err-first-clause-sticks t c h = stops (choose phrases.bindings 0 (record { number = refl })) (c.in_err-first.ensures.sticks (search rules))

pub bindings-rest-init : goal.bindings-rest-init
bindings-rest-init t c = record { reads = items_start binding_outline bindings_row (node phrases.bindings 0) (next (choose phrases.bindings 0 (record { number = refl })) c.in_ok-first.ensures.reads) c.new-items.ensures.first c.new-items.ensures.alone; shorter = search rules }

pub bindings-returns-in_err-items-clause-sticks : goal.bindings-returns-in_err-items-clause-sticks
bindings-returns-in_err-items-clause-sticks t c h = stops (join c.rest.invariant.reads (next (next_choose 0 idle (told phrases.more_bindings 0 refl (sym c.takes.ensures.told ∙ c.rest-test.true))) (c.takes.ensures.reads c.rest-test.true))) (c.binding-item.ensures.sticks (c.in_err-items.ensures.stops (search rules)))

pub bindings-rest-preserved : goal.bindings-rest-preserved
bindings-rest-preserved t c = record {
  reads = items_more binding_outline bindings_row (node phrases.bindings 0) c.rest.items.rest.items c.in_ok-items.ensures.one_more.item c.rest.invariant.reads (next (next (next_choose 0 idle (told phrases.more_bindings 0 refl (sym c.takes.ensures.told ∙ c.rest-test.true))) (c.takes.ensures.reads c.rest-test.true)) (got binding_outline (phrase phrases.binding ∷ []) c.in_ok-items.ensures.one_more.was_read c.binding-item.ensures.reads)) c.in_ok-items.ensures.first c.in_ok-items.ensures.one_more.longer;
  shorter = omega (arith, c.rest.invariant.shorter, c.takes.ensures.shorter c.rest-test.true, shortened c.in_ok-items.ensures.one_more.was_read c.binding-item.ensures.shorter);
}

pub bindings-returns-clause-reads : goal.bindings-returns-clause-reads
bindings-returns-clause-reads t c = as_marks c.new.ensures (reads_there (c.takes.ensures.stays c.rest-test.false) (join c.rest.invariant.reads (choose phrases.more_bindings 1 (other phrases.more_bindings ((sym c.takes.ensures.told ∙ c.rest-test.false), tt)))))

pub atoms-returns-in_err-first-clause-sticks : goal.atoms-returns-in_err-first-clause-sticks
atoms-returns-in_err-first-clause-sticks t c h = stops (choose phrases.atoms 0 (record { number = refl })) (c.in_err-first.ensures.sticks (search rules))

pub atoms-rest-init : goal.atoms-rest-init
atoms-rest-init t c = record { reads = items_start atom_outline atoms_row (node phrases.atoms 0) (next (choose phrases.atoms 0 (record { number = refl })) c.in_ok-first.ensures.reads) c.new-items.ensures.first c.new-items.ensures.alone; shorter = search rules }

pub atoms-returns-in_err-items-clause-sticks : goal.atoms-returns-in_err-items-clause-sticks
atoms-returns-in_err-items-clause-sticks t c h = stops (join c.rest.invariant.reads (next (next_choose 0 idle (told phrases.more_atoms 0 refl (sym c.takes.ensures.told ∙ c.rest-test.true))) (c.takes.ensures.reads c.rest-test.true))) (c.atom-item.ensures.sticks (c.in_err-items.ensures.stops (search rules)))

pub atoms-rest-preserved : goal.atoms-rest-preserved
atoms-rest-preserved t c = record {
  reads = items_more atom_outline atoms_row (node phrases.atoms 0) c.rest.items.rest.items c.in_ok-items.ensures.one_more.item c.rest.invariant.reads (next (next (next_choose 0 idle (told phrases.more_atoms 0 refl (sym c.takes.ensures.told ∙ c.rest-test.true))) (c.takes.ensures.reads c.rest-test.true)) (got atom_outline (phrase phrases.atom ∷ []) c.in_ok-items.ensures.one_more.was_read c.atom-item.ensures.reads)) c.in_ok-items.ensures.first c.in_ok-items.ensures.one_more.longer;
  shorter = omega (arith, c.rest.invariant.shorter, c.takes.ensures.shorter c.rest-test.true, shortened c.in_ok-items.ensures.one_more.was_read c.atom-item.ensures.shorter);
}

pub atoms-returns-clause-reads : goal.atoms-returns-clause-reads
atoms-returns-clause-reads t c = as_marks c.new.ensures (reads_there (c.takes.ensures.stays c.rest-test.false) (join c.rest.invariant.reads (choose phrases.more_atoms 1 (other phrases.more_atoms ((sym c.takes.ensures.told ∙ c.rest-test.false), tt)))))

pub lines-returns-in_err-first-clause-sticks : goal.lines-returns-in_err-first-clause-sticks
lines-returns-in_err-first-clause-sticks t c h = stops (choose phrases.lines 0 (record { number = refl })) (c.in_err-first.ensures.sticks (search rules))

pub lines-rest-init : goal.lines-rest-init
lines-rest-init t c = record { reads = items_start line_outline lines_row (node phrases.lines 0) (next (choose phrases.lines 0 (record { number = refl })) c.in_ok-first.ensures.reads) c.new-items.ensures.first c.new-items.ensures.alone; shorter = search rules }

pub lines-returns-in_err-items-clause-sticks : goal.lines-returns-in_err-items-clause-sticks
lines-returns-in_err-items-clause-sticks t c h = stops (join c.rest.invariant.reads (next (next_choose 0 idle (told phrases.more_lines 0 refl (sym c.takes.ensures.told ∙ c.rest-test.true))) (c.takes.ensures.reads c.rest-test.true))) (c.line-item.ensures.sticks (c.in_err-items.ensures.stops (search rules)))

pub lines-rest-preserved : goal.lines-rest-preserved
lines-rest-preserved t c = record {
  reads = items_more line_outline lines_row (node phrases.lines 0) c.rest.items.rest.items c.in_ok-items.ensures.one_more.item c.rest.invariant.reads (next (next (next_choose 0 idle (told phrases.more_lines 0 refl (sym c.takes.ensures.told ∙ c.rest-test.true))) (c.takes.ensures.reads c.rest-test.true)) (got line_outline (phrase phrases.line ∷ []) c.in_ok-items.ensures.one_more.was_read c.line-item.ensures.reads)) c.in_ok-items.ensures.first c.in_ok-items.ensures.one_more.longer;
  shorter = omega (arith, c.rest.invariant.shorter, c.takes.ensures.shorter c.rest-test.true, shortened c.in_ok-items.ensures.one_more.was_read c.line-item.ensures.shorter);
}

pub lines-returns-clause-reads : goal.lines-returns-clause-reads
lines-returns-clause-reads t c = as_marks c.new.ensures (reads_there (c.takes.ensures.stays c.rest-test.false) (join c.rest.invariant.reads (choose phrases.more_lines 1 (other phrases.more_lines ((sym c.takes.ensures.told ∙ c.rest-test.false), tt)))))

pub binding-returns-in_err-head-clause-sticks : goal.binding-returns-in_err-head-clause-sticks
binding-returns-in_err-head-clause-sticks t c h = stops_list (phrase phrases.expr ∷ []) (choose phrases.binding 0 (record { number = refl })) (c.in_err-head.ensures.sticks (search rules))

pub binding-returns-in_err-part-clause-sticks : goal.binding-returns-in_err-part-clause-sticks
binding-returns-in_err-part-clause-sticks t c h = stops (join (choose phrases.binding 0 (record { number = refl })) (before (phrase phrases.expr ∷ []) c.in_ok-head.ensures.reads)) (c.level-value.ensures.sticks (c.in_err-part.ensures.stops (search rules)))

pub binding-returns-clause-reads : goal.binding-returns-clause-reads
binding-returns-clause-reads t c = as_marks c.new.ensures (next (join (choose phrases.binding 0 (record { number = refl })) (before (phrase phrases.expr ∷ []) (as_marks (ap (λ b. hold b ++ skip phrases.equals) c.in_ok-part.ensures.same) c.in_ok-head.ensures.reads))) (got expr_outline (phrase phrases.expr ∷ []) c.in_ok-part.ensures.read c.level-value.ensures.reads))

pub binding-returns-clause-shorter : goal.binding-returns-clause-shorter
binding-returns-clause-shorter t c = omega (arith, c.in_ok-head.ensures.shorter, shortened c.in_ok-part.ensures.read c.level-value.ensures.shorter)

pub atom-returns-in_err-head-clause-sticks : goal.atom-returns-in_err-head-clause-sticks
atom-returns-in_err-head-clause-sticks t c h = stops_list (phrase phrases.args ∷ leave phrases.close_paren ∷ []) (choose phrases.atom 0 (record { number = refl })) (c.in_err-head.ensures.sticks (search rules))

pub atom-returns-in_err-part-clause-sticks : goal.atom-returns-in_err-part-clause-sticks
atom-returns-in_err-part-clause-sticks t c h = stops_in args_outline (join (choose phrases.atom 0 (record { number = refl })) (before (phrase phrases.args ∷ leave phrases.close_paren ∷ []) c.in_ok-head.ensures.reads)) c.args-args.ensures.reads c.args-args.ensures.sticks (c.in_err-part.ensures.sticks (search rules))

pub atom-returns-clause-reads : goal.atom-returns-clause-reads
atom-returns-clause-reads t c = as_marks c.new.ensures (next (next (join (choose phrases.atom 0 (record { number = refl })) (before (phrase phrases.args ∷ leave phrases.close_paren ∷ []) (as_marks (ap (λ b. hold b.0.0 ++ hold b.0.1 ++ hold b.1) c.in_ok-part.ensures.same) c.in_ok-head.ensures.reads))) (got args_outline (phrase phrases.args ∷ []) c.in_ok-part.ensures.read c.args-args.ensures.reads)) c.in_ok-part.ensures.reads)

pub atom-returns-clause-shorter : goal.atom-returns-clause-shorter
atom-returns-clause-shorter t c = omega (arith, c.in_ok-head.ensures.shorter, shortened c.in_ok-part.ensures.read c.args-args.ensures.shorter, c.in_ok-part.ensures.shorter)

pub line-returns-in_err-bracket-clause-sticks : goal.line-returns-in_err-bracket-clause-sticks
line-returns-in_err-bracket-clause-sticks t c h = stops (choose phrases.line 0 (record { number = refl })) (c.in_err-bracket.ensures.sticks (search rules))

pub line-returns-in_err-part-clause-sticks : goal.line-returns-in_err-part-clause-sticks
line-returns-in_err-part-clause-sticks t c h = stops_in args_outline (next (choose phrases.line 0 (record { number = refl })) c.in_ok-bracket.ensures.reads) c.args-args.ensures.reads c.args-args.ensures.sticks (c.in_err-part.ensures.sticks (search rules))

pub line-returns-clause-reads : goal.line-returns-clause-reads
line-returns-clause-reads t c = as_marks c.new.ensures (next (next (next (choose phrases.line 0 (record { number = refl })) (as_marks (ap hold c.in_ok-part.ensures.same) c.in_ok-bracket.ensures.reads)) (got args_outline (phrase phrases.args ∷ []) c.in_ok-part.ensures.read c.args-args.ensures.reads)) c.in_ok-part.ensures.reads)

pub line-returns-clause-shorter : goal.line-returns-clause-shorter
line-returns-clause-shorter t c = omega (arith, c.in_ok-bracket.ensures.shorter, shortened c.in_ok-part.ensures.read c.args-args.ensures.shorter, c.in_ok-part.ensures.shorter)
