use Rattle.std.proofs.Common.{rules, refl}
use Rattle.hera_parser_exprs.specs.Parts.{inside, behind}
use Rattle.hera_parser_exprs.proofs.parser.Parser.joined_until.Goals as goal

pub returns-in_err-part-clause-sticks : goal.returns-in_err-part-clause-sticks
returns-in_err-part-clause-sticks g c h = inside (search rules) refl

pub returns-in_err-skip-clause-sticks : goal.returns-in_err-skip-clause-sticks
returns-in_err-skip-clause-sticks g c h = behind c.in_ok-part.part (search rules) (c.in_err-skip.ensures.sticks (search rules))
