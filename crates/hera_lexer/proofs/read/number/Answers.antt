use Rattle.std.proofs.Common.{◌≡◌, ℕ, ◌+◌, ◌-◌, ◌*◌, ◌<◌, ◌≤◌, true, rules, w64, pos, arith, Result, Ok, Err}
use Rattle.std.specs.Prelude.{ℤ, MatchOption}
use Rattle.std.specs.List.{fold}
use Rattle.std.specs.Result.{OkIff, result_ok}
use Rattle.std.specs.Str.{all_ascii_digits}
use Rattle.std.proofs.lemmas.Bool.{cases_lt}
use Rattle.std.proofs.lemmas.Str.Parse.{IsNumeralModel, numerals_by_fold, parse_signed_digits}
use Rattle.hera_syntax.specs.Lexemes.{number_of}
use Rattle.hera_lexer.proofs.read.number.Goals as goal

own : IsNumeralModel (λ ds. all_ascii_digits ds ≡ true) number_of
own = numerals_by_fold (λ ds. all_ascii_digits ds ≡ true) (search rules) (λ n cs. fold (λ n c. n * 10 + (c - 48)) n cs) (search rules)

from_parse : {E : Type 0} (r : Result ℤ E) (n len v : ℕ) → OkIff r ((0 < len) × (v < n)) (pos v) → 0 < len → MatchOption (result_ok r) (n ≤ v) (λ x. (x ≡ pos v) × (v < n))
from_parse (Ok x) n len v h some = (h.1, h.0.1)
from_parse (Err e) n len v h some = omega (arith, h_of n len v h some) where
  h_of : (n len v : ℕ) → ((0 < len) × (v < n) → ⊥) → 0 < len → n ≤ v
  h_of n len v h some = Rattle.std.proofs.Common.⊎_elim (λ low. absurd (h (some, low))) (λ high. high) (cases_lt v n)

pub returns : goal.returns
returns c =
    let h = parse_signed_digits own w64 c.args.digits.now _ c.parse.ensures.value.0 c.requires.digits in
    rw c.ok.ensures.value (from_parse _ _ _ _ h c.requires.some)
