use Rattle.std.proofs.Common.{rules, arith, refl, ap, ◌++◌, ◌∷◌, []}
use Rattle.hera_syntax.specs.Grammar.{keep}
use Rattle.hera_syntax.specs.Grammar as phrases
use Rattle.hera_syntax.specs.Outline.{hold, skip}
use Rattle.hera_parser_exprs.proofs.Steps.{choose, next, stops, stops_list, join, before, as_marks}
use Rattle.hera_parser_exprs.proofs.JoinedParts.{got, shortened}
use Rattle.hera_parser_exprs.proofs.parser.Parser.renaming.Goals as goal

pub returns-in_err-new-clause-sticks : goal.returns-in_err-new-clause-sticks
returns-in_err-new-clause-sticks c h = stops_list (keep phrases.name ∷ []) (choose phrases.renaming 0 (record { number = refl })) (c.in_err-new.ensures.sticks (search rules))

pub returns-in_err-both-clause-sticks : goal.returns-in_err-both-clause-sticks
returns-in_err-both-clause-sticks c h = stops (join (choose phrases.renaming 0 (record { number = refl })) (before (keep phrases.name ∷ []) c.in_ok-new.ensures.reads)) (c.keep-old.ensures.sticks (c.in_err-both.ensures.stops (search rules)))

pub returns-clause-reads : goal.returns-clause-reads
returns-clause-reads c = as_marks c.new.ensures (next (join (choose phrases.renaming 0 (record { number = refl })) (before (keep phrases.name ∷ []) (as_marks (ap (λ b. hold b ++ skip phrases.equals) c.in_ok-both.ensures.same) c.in_ok-new.ensures.reads))) (got hold (keep phrases.name ∷ []) c.in_ok-both.ensures.read c.keep-old.ensures.reads))

pub returns-clause-shorter : goal.returns-clause-shorter
returns-clause-shorter c = omega (arith, c.in_ok-new.ensures.shorter, shortened c.in_ok-both.ensures.read c.keep-old.ensures.shorter)
