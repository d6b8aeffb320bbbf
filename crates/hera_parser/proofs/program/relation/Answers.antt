use Rattle.std.proofs.Common.{rules, arith, refl, ap, ◌∙◌, ◌∷◌, []}
use Rattle.hera_syntax.specs.Grammar.{phrase}
use Rattle.hera_syntax.specs.Grammar as phrases
use Rattle.hera_syntax.specs.Outline.{hold}
use Rattle.hera_syntax.specs.Programs.{attrs_outline}
use Rattle.hera_parser_exprs.proofs.Steps.{choose, next, stops, as_marks}
use Rattle.hera_parser_exprs.proofs.JoinedParts.{got, shortened, stops_in}
use Rattle.hera_parser.proofs.program.relation.Goals as goal

pub returns-in_err-word-clause-sticks : goal.returns-in_err-word-clause-sticks
returns-in_err-word-clause-sticks c h = stops (choose phrases.relation 0 (record { number = refl })) (c.in_err-word.ensures.sticks (search rules))

pub returns-in_err-head-clause-sticks : goal.returns-in_err-head-clause-sticks
returns-in_err-head-clause-sticks c h = stops (next (choose phrases.relation 0 (record { number = refl })) c.in_ok-word.ensures.reads) (c.in_err-head.ensures.sticks (search rules))

pub returns-in_err-head-2-clause-sticks : goal.returns-in_err-head-2-clause-sticks
returns-in_err-head-2-clause-sticks c h = stops (next (next (choose phrases.relation 0 (record { number = refl })) c.in_ok-word.ensures.reads) c.in_ok-head.ensures.reads) (c.in_err-head-2.ensures.sticks (search rules))

pub returns-in_err-part-clause-sticks : goal.returns-in_err-part-clause-sticks
returns-in_err-part-clause-sticks c h = stops_in attrs_outline (next (next (next (choose phrases.relation 0 (record { number = refl })) c.in_ok-word.ensures.reads) c.in_ok-head.ensures.reads) c.in_ok-head-2.ensures.reads) c.attrs-attrs.ensures.reads c.attrs-attrs.ensures.sticks (c.in_err-part.ensures.sticks (search rules))

pub returns-in_err-part-2-clause-sticks : goal.returns-in_err-part-2-clause-sticks
returns-in_err-part-2-clause-sticks c h = stops (next (next (next (next (next (choose phrases.relation 0 (record { number = refl })) c.in_ok-word.ensures.reads) c.in_ok-head.ensures.reads) c.in_ok-head-2.ensures.reads) (got attrs_outline (phrase phrases.attrs ∷ []) c.in_ok-part.ensures.read c.attrs-attrs.ensures.reads)) c.in_ok-part.ensures.reads) (c.in_err-part-2.ensures.sticks (search rules))

pub returns-clause-reads : goal.returns-clause-reads
returns-clause-reads c = as_marks c.new.ensures (next (next (next (next (next (next (choose phrases.relation 0 (record { number = refl })) (as_marks (ap (λ b. hold b.0.0.0) c.in_ok-part-2.ensures.same ∙ (ap (λ b. hold b.0.0) c.in_ok-part.ensures.same ∙ (ap (λ b. hold b.0) c.in_ok-head-2.ensures.same ∙ ap hold c.in_ok-head.ensures.same))) c.in_ok-word.ensures.reads)) (as_marks (ap (λ b. hold b.0.0.1) c.in_ok-part-2.ensures.same ∙ (ap (λ b. hold b.0.1) c.in_ok-part.ensures.same ∙ ap (λ b. hold b.1) c.in_ok-head-2.ensures.same)) c.in_ok-head.ensures.reads)) (as_marks (ap (λ b. hold b.0.1) c.in_ok-part-2.ensures.same ∙ ap (λ b. hold b.1) c.in_ok-part.ensures.same) c.in_ok-head-2.ensures.reads)) (as_marks (ap (λ b. attrs_outline b.1) c.in_ok-part-2.ensures.same) (got attrs_outline (phrase phrases.attrs ∷ []) c.in_ok-part.ensures.read c.attrs-attrs.ensures.reads))) c.in_ok-part.ensures.reads) c.in_ok-part-2.ensures.reads)

pub returns-clause-shorter : goal.returns-clause-shorter
returns-clause-shorter c = omega (arith, c.in_ok-word.ensures.shorter, c.in_ok-head.ensures.shorter, c.in_ok-head-2.ensures.shorter, shortened c.in_ok-part.ensures.read c.attrs-attrs.ensures.shorter, c.in_ok-part.ensures.shorter, c.in_ok-part-2.ensures.shorter)
