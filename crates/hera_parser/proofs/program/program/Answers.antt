use Rattle.std.proofs.Common.{rules, arith, refl, ap, ◌∙◌, ◌++◌, ◌∷◌, []}
use Rattle.std.specs.List.{flat_map}
use Rattle.hera_syntax.specs.Grammar.{phrase}
use Rattle.hera_syntax.specs.Grammar as phrases
use Rattle.hera_syntax.specs.Outline.{node}
use Rattle.hera_syntax.specs.Programs.{func_row, last_main_outline, proc_row, relation_row}
use Rattle.hera_parser_exprs.proofs.Steps.{choose, next, stops, as_marks, regroup}
use Rattle.hera_parser_exprs.proofs.JoinedParts.{got, not_longer}
use Rattle.hera_parser.proofs.program.program.Goals as goal

pub returns-in_err-relations-clause-sticks : goal.returns-in_err-relations-clause-sticks
returns-in_err-relations-clause-sticks c h = stops (choose phrases.program 0 (record { number = refl })) (c.in_err-relations.ensures.sticks (search rules))

pub returns-in_err-parts-clause-sticks : goal.returns-in_err-parts-clause-sticks
returns-in_err-parts-clause-sticks c h = stops (next (choose phrases.program 0 (record { number = refl })) c.in_ok-relations.ensures.reads) (c.funcs-funcs.ensures.sticks (c.in_err-parts.ensures.stops (search rules)))

pub returns-in_err-parts-2-clause-sticks : goal.returns-in_err-parts-2-clause-sticks
returns-in_err-parts-2-clause-sticks c h = stops (next (next (choose phrases.program 0 (record { number = refl })) c.in_ok-relations.ensures.reads) (got (λ v. flat_map func_row v.items ++ node phrases.funcs 1) (phrase phrases.funcs ∷ []) c.in_ok-parts.ensures.read c.funcs-funcs.ensures.reads)) (c.procs-procs.ensures.sticks (c.in_err-parts-2.ensures.stops (search rules)))

pub returns-in_err-parts-3-clause-sticks : goal.returns-in_err-parts-3-clause-sticks
returns-in_err-parts-3-clause-sticks c h = stops (next (next (next (choose phrases.program 0 (record { number = refl })) c.in_ok-relations.ensures.reads) (got (λ v. flat_map func_row v.items ++ node phrases.funcs 1) (phrase phrases.funcs ∷ []) c.in_ok-parts.ensures.read c.funcs-funcs.ensures.reads)) (got (λ v. flat_map proc_row v.items ++ node phrases.procs 1) (phrase phrases.procs ∷ []) c.in_ok-parts-2.ensures.read c.procs-procs.ensures.reads)) (c.last_main-main.ensures.sticks (c.in_err-parts-3.ensures.stops (search rules)))

pub returns-clause-reads : goal.returns-clause-reads
returns-clause-reads c = as_marks (c.new.ensures ∙ regroup (node phrases.program 0) (flat_map relation_row c.in_ok-parts-3.parts.0.0.0.items) (node phrases.relations 1) (flat_map func_row c.in_ok-parts-3.parts.0.0.1.items) (node phrases.funcs 1) (flat_map proc_row c.in_ok-parts-3.parts.0.1.items) (node phrases.procs 1) (last_main_outline c.in_ok-parts-3.parts.1)) (next (next (next (next (choose phrases.program 0 (record { number = refl })) (as_marks (ap (λ b. flat_map relation_row b.0.0.items ++ node phrases.relations 1) c.in_ok-parts-3.ensures.same ∙ (ap (λ b. flat_map relation_row b.0.items ++ node phrases.relations 1) c.in_ok-parts-2.ensures.same ∙ ap (λ b. flat_map relation_row b.items ++ node phrases.relations 1) c.in_ok-parts.ensures.same)) c.in_ok-relations.ensures.reads)) (as_marks (ap (λ b. flat_map func_row b.0.1.items ++ node phrases.funcs 1) c.in_ok-parts-3.ensures.same ∙ ap (λ b. flat_map func_row b.1.items ++ node phrases.funcs 1) c.in_ok-parts-2.ensures.same) (got (λ v. flat_map func_row v.items ++ node phrases.funcs 1) (phrase phrases.funcs ∷ []) c.in_ok-parts.ensures.read c.funcs-funcs.ensures.reads))) (as_marks (ap (λ b. flat_map proc_row b.1.items ++ node phrases.procs 1) c.in_ok-parts-3.ensures.same) (got (λ v. flat_map proc_row v.items ++ node phrases.procs 1) (phrase phrases.procs ∷ []) c.in_ok-parts-2.ensures.read c.procs-procs.ensures.reads))) (got last_main_outline (phrase phrases.last_main ∷ []) c.in_ok-parts-3.ensures.read c.last_main-main.ensures.reads))

pub returns-clause-no_longer : goal.returns-clause-no_longer
returns-clause-no_longer c = omega (arith, c.in_ok-relations.ensures.no_longer, not_longer c.in_ok-parts.ensures.read c.funcs-funcs.ensures.no_longer, not_longer c.in_ok-parts-2.ensures.read c.procs-procs.ensures.no_longer, not_longer c.in_ok-parts-3.ensures.read c.last_main-main.ensures.no_longer)
