use Rattle.std.proofs.Common.{rules, arith, refl, sym, ap, ◌∙◌, ◌∷◌, []}
use Rattle.hera_syntax.specs.Grammar.{phrase}
use Rattle.hera_syntax.specs.Grammar as phrases
use Rattle.hera_syntax.specs.Outline.{expr_outline, hold, some_args_outline}
use Rattle.hera_parser_exprs.proofs.Steps.{choose, next, next_choose, stops, as_marks}
use Rattle.hera_parser_exprs.proofs.JoinedParts.{got, shortened, not_longer, stops_in}
use Rattle.hera_parser_exprs.proofs.Choices.{told, other}
use Rattle.hera_parser.proofs.simple.named.Goals as goal

pub returns-in_err-name-clause-sticks : goal.returns-in_err-name-clause-sticks
returns-in_err-name-clause-sticks c h = stops (choose phrases.stmt 1 c.requires) (c.in_err-name.ensures.sticks (search rules))

pub returns-in_err-target-clause-sticks : goal.returns-in_err-target-clause-sticks
returns-in_err-target-clause-sticks c h = stops (next_choose 0 (next (choose phrases.stmt 1 c.requires) c.in_ok-name.ensures.reads) (told phrases.named 0 refl (sym c.next_is.ensures ∙ c.if-next_is.true))) (c.in_err-target.ensures.sticks (search rules))

pub returns-in_err-assigned-clause-sticks : goal.returns-in_err-assigned-clause-sticks
returns-in_err-assigned-clause-sticks c h = stops_in expr_outline (next (next_choose 0 (next (choose phrases.stmt 1 c.requires) c.in_ok-name.ensures.reads) (told phrases.named 0 refl (sym c.next_is.ensures ∙ c.if-next_is.true))) c.in_ok-target.ensures.reads) c.expr-value.ensures.reads c.expr-value.ensures.sticks (c.in_err-assigned.ensures.sticks (search rules))

pub returns-then-next_is-clause-reads : goal.returns-then-next_is-clause-reads
returns-then-next_is-clause-reads c = as_marks c.assign.ensures (next (next (next (next_choose 0 (next (choose phrases.stmt 1 c.requires) (as_marks (ap hold c.in_ok-assigned.ensures.same ∙ ap hold c.in_ok-target.ensures.same) c.in_ok-name.ensures.reads)) (told phrases.named 0 refl (sym c.next_is.ensures ∙ c.if-next_is.true))) c.in_ok-target.ensures.reads) (got expr_outline (phrase phrases.expr ∷ []) c.in_ok-assigned.ensures.read c.expr-value.ensures.reads)) c.in_ok-assigned.ensures.reads)

pub returns-then-next_is-clause-shorter : goal.returns-then-next_is-clause-shorter
returns-then-next_is-clause-shorter c = omega (arith, c.in_ok-name.ensures.shorter, c.in_ok-target.ensures.shorter, shortened c.in_ok-assigned.ensures.read c.expr-value.ensures.shorter, c.in_ok-assigned.ensures.shorter)

pub returns-in_err-head-clause-sticks : goal.returns-in_err-head-clause-sticks
returns-in_err-head-clause-sticks c h = stops (next_choose 1 (next (choose phrases.stmt 1 c.requires) c.in_ok-name.ensures.reads) (other phrases.named ((sym c.next_is.ensures ∙ c.if-next_is.false), tt))) (c.in_err-head.ensures.sticks (search rules))

pub returns-in_err-part-clause-sticks : goal.returns-in_err-part-clause-sticks
returns-in_err-part-clause-sticks c h = stops_in some_args_outline (next (next_choose 1 (next (choose phrases.stmt 1 c.requires) c.in_ok-name.ensures.reads) (other phrases.named ((sym c.next_is.ensures ∙ c.if-next_is.false), tt))) c.in_ok-head.ensures.reads) c.some_args-args.ensures.reads c.some_args-args.ensures.sticks (c.in_err-part.ensures.sticks (search rules))

pub returns-in_err-part-2-clause-sticks : goal.returns-in_err-part-2-clause-sticks
returns-in_err-part-2-clause-sticks c h = stops (next (next (next (next_choose 1 (next (choose phrases.stmt 1 c.requires) c.in_ok-name.ensures.reads) (other phrases.named ((sym c.next_is.ensures ∙ c.if-next_is.false), tt))) c.in_ok-head.ensures.reads) (got some_args_outline (phrase phrases.some_args ∷ []) c.in_ok-part.ensures.read c.some_args-args.ensures.reads)) c.in_ok-part.ensures.reads) (c.in_err-part-2.ensures.sticks (search rules))

pub returns-clause-reads : goal.returns-clause-reads
returns-clause-reads c = as_marks c.call.ensures (next (next (next (next (next_choose 1 (next (choose phrases.stmt 1 c.requires) (as_marks (ap (λ b. hold b.0.0) c.in_ok-part-2.ensures.same ∙ (ap (λ b. hold b.0) c.in_ok-part.ensures.same ∙ ap hold c.in_ok-head.ensures.same)) c.in_ok-name.ensures.reads)) (other phrases.named ((sym c.next_is.ensures ∙ c.if-next_is.false), tt))) (as_marks (ap (λ b. hold b.0.1) c.in_ok-part-2.ensures.same ∙ ap (λ b. hold b.1) c.in_ok-part.ensures.same) c.in_ok-head.ensures.reads)) (as_marks (ap (λ b. some_args_outline b.1) c.in_ok-part-2.ensures.same) (got some_args_outline (phrase phrases.some_args ∷ []) c.in_ok-part.ensures.read c.some_args-args.ensures.reads))) c.in_ok-part.ensures.reads) c.in_ok-part-2.ensures.reads)

pub returns-clause-shorter : goal.returns-clause-shorter
returns-clause-shorter c = omega (arith, c.in_ok-name.ensures.shorter, c.in_ok-head.ensures.shorter, not_longer c.in_ok-part.ensures.read c.some_args-args.ensures.no_longer, c.in_ok-part.ensures.shorter, c.in_ok-part-2.ensures.shorter)
