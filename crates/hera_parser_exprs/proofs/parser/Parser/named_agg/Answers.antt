use Rattle.std.proofs.Common.{rules, arith, refl, ap, ◌++◌, ◌∷◌, []}
use Rattle.hera_syntax.specs.Grammar.{phrase}
use Rattle.hera_syntax.specs.Grammar as phrases
use Rattle.hera_syntax.specs.Outline.{hold, agg_outline, skip}
use Rattle.hera_parser_exprs.proofs.Steps.{choose, next, stops, stops_list, join, before, as_marks}
use Rattle.hera_parser_exprs.proofs.JoinedParts.{got, shortened}
use Rattle.hera_parser_exprs.proofs.parser.Parser.named_agg.Goals as goal

pub returns-in_err-head-clause-sticks : goal.returns-in_err-head-clause-sticks
returns-in_err-head-clause-sticks c h = stops_list (phrase phrases.agg ∷ []) (choose phrases.named_agg 0 (record { number = refl })) (c.in_err-head.ensures.sticks (search rules))

pub returns-in_err-both-clause-sticks : goal.returns-in_err-both-clause-sticks
returns-in_err-both-clause-sticks c h = stops (join (choose phrases.named_agg 0 (record { number = refl })) (before (phrase phrases.agg ∷ []) c.in_ok-head.ensures.reads)) (c.agg-agg.ensures.sticks (c.in_err-both.ensures.stops (search rules)))

pub returns-clause-reads : goal.returns-clause-reads
returns-clause-reads c = as_marks c.new.ensures (next (join (choose phrases.named_agg 0 (record { number = refl })) (before (phrase phrases.agg ∷ []) (as_marks (ap (λ b. hold b ++ skip phrases.equals) c.in_ok-both.ensures.same) c.in_ok-head.ensures.reads))) (got agg_outline (phrase phrases.agg ∷ []) c.in_ok-both.ensures.read c.agg-agg.ensures.reads))

pub returns-clause-shorter : goal.returns-clause-shorter
returns-clause-shorter c = omega (arith, c.in_ok-head.ensures.shorter, shortened c.in_ok-both.ensures.read c.agg-agg.ensures.shorter)
