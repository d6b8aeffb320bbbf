-- What a form tells of the next token.
use Rattle.std.proofs.Common.{◌≡◌, List, subst}
use Rattle.hera_syntax.specs.declared.token.Token.{Token}
use Rattle.hera_syntax.specs.Grammar as phrases
use Rattle.hera_parser_exprs.specs.declared.forms.PrimeForm.{PrimeForm}
use Rattle.hera_parser_exprs.specs.Numbers.{prime_number}
use Rattle.hera_parser_exprs.specs.Reading.{Tells}

pub as_form : (form : PrimeForm) {other : PrimeForm} {a : List Token} → other ≡ form → Tells phrases.prime (prime_number other) a → Tells phrases.prime (prime_number form) a
as_form form {a = a} e h = subst (λ f. Tells phrases.prime (prime_number f) a) e h
