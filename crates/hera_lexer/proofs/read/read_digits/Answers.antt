use Rattle.std.proofs.Common.{◌∙◌, rules, w64, SFits}
use Rattle.std.proofs.lemmas.Int.{to_z-of_z}
use Rattle.hera_lexer.proofs.Values.{digits_text, digits_int, digits_refused, digits_no_between}
use Rattle.hera_lexer.proofs.read.read_digits.Goals as goal

pub number-requires-clause-digits : goal.number-requires-clause-digits
number-requires-clause-digits c = (digits_text c.args.digits.now c.utf8.digits c.requires).1

pub number-requires-clause-some : goal.number-requires-clause-some
number-requires-clause-some c = (digits_text c.args.digits.now c.utf8.digits c.requires).2

pub returns-in-Some : goal.returns-in-Some
returns-in-Some c =
    let fits : SFits w64 c.in-Some.n = search rules in
    digits_int c.args.digits.now _ c.utf8.digits c.requires (to_z-of_z w64 c.in-Some.n fits ∙ c.in-Some.ensures.0) c.in-Some.ensures.1

pub returns-in-None : goal.returns-in-None
returns-in-None c = (digits_no_between, digits_refused c.args.digits.now c.utf8.digits c.requires c.in-None.ensures)
