use Rattle.std.proofs.Common.{rules, arith, refl, sym, ap, drop, append_assoc, Some, ◌∙◌, ◌++◌, ◌∷◌, []}
use Rattle.std.specs.List.{flat_map}
use Rattle.hera_syntax.specs.declared.words.Keyword.TheVariants as keys
use Rattle.hera_syntax.specs.Grammar.{phrase, keep, leave, word}
use Rattle.hera_syntax.specs.Grammar as phrases
use Rattle.hera_syntax.specs.Outline.{expr_outline, hold, node, skip}
use Rattle.hera_syntax.specs.Programs.{block_outline, else_if_row, last_else, stmt_outline, stmt_row}
use Rattle.hera_parser.specs.declared.forms.StmtForm.TheVariants as forms
use Rattle.hera_parser.specs.Pieces.{else_if_rest}
use Rattle.hera_parser_exprs.proofs.Steps.{choose, next, next_choose, stops, stops_list, join, idle, before, as_marks, rows_first, rows_more, items_start, items_more}
use Rattle.hera_parser_exprs.proofs.JoinedParts.{got, shortened, stops_in, reads_there}
use Rattle.hera_parser_exprs.proofs.Choices.{told, other}
use Rattle.hera_parser.proofs.Numbered.{as_stmt_form}
use Rattle.hera_parser.proofs.stmts.+stmt.Goals as goal

pub block-returns-in_err-bracket-clause-sticks : goal.block-returns-in_err-bracket-clause-sticks
block-returns-in_err-bracket-clause-sticks t c h = stops (choose phrases.block 0 (record { number = refl })) (c.in_err-bracket.ensures.sticks (search rules))

pub block-stmts-init : goal.block-stmts-init
block-stmts-init t c = record { reads = items_start hold stmt_row (node phrases.block 0) (next (choose phrases.block 0 (record { number = refl })) c.in_ok-bracket.ensures.reads) c.new-items.ensures.first c.new-items.ensures.alone; shorter = search rules }

pub block-returns-in_err-items-clause-sticks : goal.block-returns-in_err-items-clause-sticks
block-returns-in_err-items-clause-sticks t c h = stops (join c.stmts.invariant.reads (next_choose 0 idle (told phrases.stmts 0 refl (sym c.next_is.ensures ∙ c.stmts-test.true)))) (c.stmt-stmt.ensures.sticks (c.in_err-items.ensures.stops (search rules)))

pub block-stmts-preserved : goal.block-stmts-preserved
block-stmts-preserved t c = record {
  reads = items_more hold stmt_row (node phrases.block 0) c.stmts.items.rest.items c.in_ok-items.ensures.one_more.item c.stmts.invariant.reads (next (next_choose 0 idle (told phrases.stmts 0 refl (sym c.next_is.ensures ∙ c.stmts-test.true))) (got stmt_outline (phrase phrases.stmt ∷ []) c.in_ok-items.ensures.one_more.was_read c.stmt-stmt.ensures.reads)) c.in_ok-items.ensures.first c.in_ok-items.ensures.one_more.longer;
  shorter = omega (arith, c.stmts.invariant.shorter, shortened c.in_ok-items.ensures.one_more.was_read c.stmt-stmt.ensures.shorter);
}

pub block-returns-in_err-all-clause-sticks : goal.block-returns-in_err-all-clause-sticks
block-returns-in_err-all-clause-sticks t c h = stops (next_choose 1 c.stmts.invariant.reads (other phrases.stmts ((sym c.next_is.ensures ∙ c.stmts-test.false), tt))) (c.in_err-all.ensures.sticks (search rules))

pub block-returns-clause-reads : goal.block-returns-clause-reads
block-returns-clause-reads t c = as_marks (c.new.ensures ∙ ap (λ i. node phrases.block 0 ++ hold i.first ++ flat_map stmt_row i.rest.items ++ node phrases.stmts 1 ++ skip phrases.close_brace) c.in_ok-all.ensures.same) (next (next_choose 1 c.stmts.invariant.reads (other phrases.stmts ((sym c.next_is.ensures ∙ c.stmts-test.false), tt))) c.in_ok-all.ensures.reads)

pub stmt-declare-requires : goal.stmt-declare-requires
stmt-declare-requires t c = as_stmt_form forms.Declare c.in-Declare.is c.stmt_form.ensures

pub stmt-named-requires : goal.stmt-named-requires
stmt-named-requires t c = as_stmt_form forms.Named c.in-Named.is c.stmt_form.ensures

pub stmt-branch-parser-requires : goal.stmt-branch-parser-requires
stmt-branch-parser-requires t c = (omega arith, as_stmt_form forms.If c.in-If.is c.stmt_form.ensures)

pub stmt-repeat-requires : goal.stmt-repeat-requires
stmt-repeat-requires t c = (omega arith, as_stmt_form forms.While c.in-While.is c.stmt_form.ensures)

pub stmt-foreach-requires : goal.stmt-foreach-requires
stmt-foreach-requires t c = (omega arith, as_stmt_form forms.Foreach c.in-Foreach.is c.stmt_form.ensures)

pub stmt-print-requires : goal.stmt-print-requires
stmt-print-requires t c = as_stmt_form forms.Print c.in-Print.is c.stmt_form.ensures

pub stmt-apply-requires : goal.stmt-apply-requires
stmt-apply-requires t c = as_stmt_form forms.Apply c.in-Apply.is c.stmt_form.ensures

pub stmt-assert-requires : goal.stmt-assert-requires
stmt-assert-requires t c = as_stmt_form forms.Assert c.in-Assert.is c.stmt_form.ensures

pub stmt-commit-requires : goal.stmt-commit-requires
stmt-commit-requires t c = as_stmt_form forms.Commit c.in-Commit.is c.stmt_form.ensures

pub stmt-rollback-requires : goal.stmt-rollback-requires
stmt-rollback-requires t c = as_stmt_form forms.Rollback c.in-Rollback.is c.stmt_form.ensures

pub stmt-give_back-requires : goal.stmt-give_back-requires
stmt-give_back-requires t c = as_stmt_form forms.Return c.in-Return.is c.stmt_form.ensures

pub guarded-returns-in_err-head-clause-sticks : goal.guarded-returns-in_err-head-clause-sticks
guarded-returns-in_err-head-clause-sticks t c h = stops_list (phrase phrases.expr ∷ leave phrases.close_paren ∷ phrase phrases.block ∷ []) idle (c.in_err-head.ensures.sticks (search rules))

pub guarded-returns-in_err-part-clause-sticks : goal.guarded-returns-in_err-part-clause-sticks
guarded-returns-in_err-part-clause-sticks t c h = stops_in expr_outline (join idle (before (phrase phrases.expr ∷ leave phrases.close_paren ∷ phrase phrases.block ∷ []) c.in_ok-head.ensures.reads)) c.expr-condition.ensures.reads c.expr-condition.ensures.sticks (c.in_err-part.ensures.sticks (search rules))

pub guarded-returns-in_err-part-2-clause-sticks : goal.guarded-returns-in_err-part-2-clause-sticks
guarded-returns-in_err-part-2-clause-sticks t c h = stops (next (next (join idle (before (phrase phrases.expr ∷ leave phrases.close_paren ∷ phrase phrases.block ∷ []) c.in_ok-head.ensures.reads)) (got expr_outline (phrase phrases.expr ∷ []) c.in_ok-part.ensures.read c.expr-condition.ensures.reads)) c.in_ok-part.ensures.reads) (c.block-block.ensures.sticks (c.in_err-part-2.ensures.stops (search rules)))

pub guarded-returns-clause-reads : goal.guarded-returns-clause-reads
guarded-returns-clause-reads t c = as_marks (ap (drop 3) c.new.ensures) (next (next (next (join idle (before (phrase phrases.expr ∷ leave phrases.close_paren ∷ phrase phrases.block ∷ []) (as_marks (ap (λ b. hold b.0.0 ++ hold b.0.1) c.in_ok-part-2.ensures.same ∙ ap (λ b. hold b.0 ++ hold b.1) c.in_ok-part.ensures.same) c.in_ok-head.ensures.reads))) (as_marks (ap (λ b. expr_outline b.1) c.in_ok-part-2.ensures.same) (got expr_outline (phrase phrases.expr ∷ []) c.in_ok-part.ensures.read c.expr-condition.ensures.reads))) c.in_ok-part.ensures.reads) (got block_outline (phrase phrases.block ∷ []) c.in_ok-part-2.ensures.read c.block-block.ensures.reads))

pub guarded-returns-clause-shorter : goal.guarded-returns-clause-shorter
guarded-returns-clause-shorter t c = omega (arith, c.in_ok-head.ensures.shorter, shortened c.in_ok-part.ensures.read c.expr-condition.ensures.shorter, c.in_ok-part.ensures.shorter, shortened c.in_ok-part-2.ensures.read c.block-block.ensures.shorter)

pub repeat-returns-in_err-head-clause-sticks : goal.repeat-returns-in_err-head-clause-sticks
repeat-returns-in_err-head-clause-sticks t c h = stops_list [] (choose phrases.stmt 3 c.requires) (c.in_err-head.ensures.sticks (search rules))

pub repeat-returns-clause-reads : goal.repeat-returns-clause-reads
repeat-returns-clause-reads t c = as_marks c.repeat.ensures (join (choose phrases.stmt 3 c.requires) (before [] c.in_ok-head.ensures.reads))

pub foreach-returns-in_err-head-clause-sticks : goal.foreach-returns-in_err-head-clause-sticks
foreach-returns-in_err-head-clause-sticks t c h = stops_list (phrase phrases.expr ∷ leave phrases.close_paren ∷ phrase phrases.block ∷ []) (choose phrases.stmt 4 c.requires) (c.in_err-head.ensures.sticks (search rules))

pub foreach-returns-in_err-part-clause-sticks : goal.foreach-returns-in_err-part-clause-sticks
foreach-returns-in_err-part-clause-sticks t c h = stops_in expr_outline (join (choose phrases.stmt 4 c.requires) (before (phrase phrases.expr ∷ leave phrases.close_paren ∷ phrase phrases.block ∷ []) c.in_ok-head.ensures.reads)) c.expr-over.ensures.reads c.expr-over.ensures.sticks (c.in_err-part.ensures.sticks (search rules))

pub foreach-returns-in_err-part-2-clause-sticks : goal.foreach-returns-in_err-part-2-clause-sticks
foreach-returns-in_err-part-2-clause-sticks t c h = stops (next (next (join (choose phrases.stmt 4 c.requires) (before (phrase phrases.expr ∷ leave phrases.close_paren ∷ phrase phrases.block ∷ []) c.in_ok-head.ensures.reads)) (got expr_outline (phrase phrases.expr ∷ []) c.in_ok-part.ensures.read c.expr-over.ensures.reads)) c.in_ok-part.ensures.reads) (c.block-block.ensures.sticks (c.in_err-part-2.ensures.stops (search rules)))

pub foreach-returns-clause-reads : goal.foreach-returns-clause-reads
foreach-returns-clause-reads t c = as_marks c.foreach.ensures (next (next (next (join (choose phrases.stmt 4 c.requires) (before (phrase phrases.expr ∷ leave phrases.close_paren ∷ phrase phrases.block ∷ []) (as_marks (ap (λ b. hold b.0.0.0 ++ hold b.0.0.1 ++ hold b.0.1 ++ skip phrases.in_word) c.in_ok-part-2.ensures.same ∙ ap (λ b. hold b.0.0 ++ hold b.0.1 ++ hold b.1 ++ skip phrases.in_word) c.in_ok-part.ensures.same) c.in_ok-head.ensures.reads))) (as_marks (ap (λ b. expr_outline b.1) c.in_ok-part-2.ensures.same) (got expr_outline (phrase phrases.expr ∷ []) c.in_ok-part.ensures.read c.expr-over.ensures.reads))) c.in_ok-part.ensures.reads) (got block_outline (phrase phrases.block ∷ []) c.in_ok-part-2.ensures.read c.block-block.ensures.reads))

pub foreach-returns-clause-shorter : goal.foreach-returns-clause-shorter
foreach-returns-clause-shorter t c = omega (arith, c.in_ok-head.ensures.shorter, shortened c.in_ok-part.ensures.read c.expr-over.ensures.shorter, c.in_ok-part.ensures.shorter, shortened c.in_ok-part-2.ensures.read c.block-block.ensures.shorter)

pub elses-elses-init : goal.elses-elses-init
elses-elses-init t c = record { reads = rows_first else_if_row c.new-items.ensures.items; no_longer = search rules }

pub elses-returns-in_err-end-clause-sticks : goal.elses-returns-in_err-end-clause-sticks
elses-returns-in_err-end-clause-sticks t c h = stops (join c.elses.invariant.reads (next_choose 1 (next (next_choose 0 idle (told phrases.else_part 0 refl (sym c.takes.ensures.told ∙ c.elses-test.true))) (c.takes.ensures.reads c.elses-test.true)) (other phrases.after_else ((sym c.next_is.ensures ∙ c.if-not-next_is.true), tt)))) (c.block-last.ensures.sticks (c.in_err-end.ensures.stops (search rules)))

pub elses-returns-then-not-next_is-clause-reads : goal.elses-returns-then-not-next_is-clause-reads
elses-returns-then-not-next_is-clause-reads t c = as_marks (ap (λ v. flat_map else_if_row v.items ++ last_else (Some c.in_ok-end.end.1)) c.in_ok-end.ensures.same) (join c.elses.invariant.reads (next (next_choose 1 (next (next_choose 0 idle (told phrases.else_part 0 refl (sym c.takes.ensures.told ∙ c.elses-test.true))) (c.takes.ensures.reads c.elses-test.true)) (other phrases.after_else ((sym c.next_is.ensures ∙ c.if-not-next_is.true), tt))) (got block_outline (phrase phrases.block ∷ []) c.in_ok-end.ensures.read c.block-last.ensures.reads)))

pub elses-returns-in_err-items-clause-sticks : goal.elses-returns-in_err-items-clause-sticks
elses-returns-in_err-items-clause-sticks t c h = stops_list (phrase phrases.else_part ∷ []) (join c.elses.invariant.reads (next_choose 0 (next (next_choose 0 idle (told phrases.else_part 0 refl (sym c.takes.ensures.told ∙ c.elses-test.true))) (c.takes.ensures.reads c.elses-test.true)) (told phrases.after_else 0 refl (sym c.next_is.ensures ∙ c.if-not-next_is.false)))) (c.guarded-item.ensures.sticks (c.in_err-items.ensures.stops (search rules)))

pub elses-elses-preserved : goal.elses-elses-preserved
elses-elses-preserved t c = record {
  reads = rows_more else_if_row [] c.elses.items.items c.in_ok-items.ensures.one_more.item c.elses.invariant.reads (join (next_choose 0 (next (next_choose 0 idle (told phrases.else_part 0 refl (sym c.takes.ensures.told ∙ c.elses-test.true))) (c.takes.ensures.reads c.elses-test.true)) (told phrases.after_else 0 refl (sym c.next_is.ensures ∙ c.if-not-next_is.false))) (before (phrase phrases.else_part ∷ []) (got else_if_rest (keep (word keys.If ∷ []) ∷ keep phrases.paren ∷ phrase phrases.expr ∷ leave phrases.close_paren ∷ phrase phrases.block ∷ []) c.in_ok-items.ensures.one_more.was_read c.guarded-item.ensures.reads))) c.in_ok-items.ensures.one_more.longer;
  no_longer = omega (arith, c.elses.invariant.no_longer, c.takes.ensures.shorter c.elses-test.true, shortened c.in_ok-items.ensures.one_more.was_read c.guarded-item.ensures.shorter);
}

pub elses-returns-clause-reads : goal.elses-returns-clause-reads
elses-returns-clause-reads t c = reads_there (c.takes.ensures.stays c.elses-test.false) (join c.elses.invariant.reads (choose phrases.else_part 1 (other phrases.else_part ((sym c.takes.ensures.told ∙ c.elses-test.false), tt))))

pub branch-returns-in_err-head-clause-sticks : goal.branch-returns-in_err-head-clause-sticks
branch-returns-in_err-head-clause-sticks t c h = stops_list (phrase phrases.else_part ∷ []) (choose phrases.stmt 2 c.requires) (c.in_err-head.ensures.sticks (search rules))

pub branch-returns-in_err-both-clause-sticks : goal.branch-returns-in_err-both-clause-sticks
branch-returns-in_err-both-clause-sticks t c h = stops (join (choose phrases.stmt 2 c.requires) (before (phrase phrases.else_part ∷ []) c.in_ok-head.ensures.reads)) (c.elses-rest.ensures.sticks (c.in_err-both.ensures.stops (search rules)))

pub branch-returns-clause-reads : goal.branch-returns-clause-reads
branch-returns-clause-reads t c = as_marks (c.branch-word.ensures ∙ append_assoc (node phrases.stmt 2 ++ hold c.in_ok-both.both.0.word ++ hold c.in_ok-both.both.0.bracket ++ expr_outline c.in_ok-both.both.0.condition ++ skip phrases.close_paren ++ block_outline c.in_ok-both.both.0.block) (flat_map else_if_row c.in_ok-both.both.1.0.items) (last_else c.in_ok-both.both.1.1)) (join (join (choose phrases.stmt 2 c.requires) (before (phrase phrases.else_part ∷ []) (as_marks (ap else_if_rest c.in_ok-both.ensures.same) c.in_ok-head.ensures.reads))) (got (λ o. flat_map else_if_row o.0.items ++ last_else o.1) (phrase phrases.else_part ∷ []) c.in_ok-both.ensures.read c.elses-rest.ensures.reads))
