-- The tests on the way are those of the definition.
use Rattle.std.proofs.Common.{◌≡◌, ℕ, ◌^◌, ◌<◌, ◌≤◌, true, List, None, Err, length, ⊎_elim, arith, rules}
use Rattle.std.specs.List.{list_all}
use Rattle.std.specs.Char.{is_ascii_digit}
use Rattle.std.specs.Str.Parse.{digits_value}
use Rattle.std.proofs.lemmas.Str.Parse.{IsNumeralModel, numerals_by_value, parse_digits}
use Rattle.std.proofs.lemmas.Bool.{cases_lt}
use Rattle.std.proofs.lemmas.Bool.Decides.{nat_tests}
use Rattle.hera_words.specs.Numbers.{turns_of}
use Rattle.hera_words.proofs.form.turns.Goals as goal

own : IsNumeralModel (λ ds. list_all is_ascii_digit ds ≡ true) (digits_value 10)
own = numerals_by_value _ (search rules)

too_long : (word : List ℕ) → 20 < length word → None ≡ turns_of word
too_long word long = grind (arith, nat_tests)

empty : (word : List ℕ) → length word ≤ 0 → None ≡ turns_of word
empty word low = grind (arith, nat_tests)

beyond : (word : List ℕ) → 2 ^ 64 ≤ digits_value 10 word → None ≡ turns_of word
beyond word high = grind (arith, nat_tests)

out_of_range : (word : List ℕ) → ((0 < length word) × (digits_value 10 word < 2 ^ 64) → ⊥) → None ≡ turns_of word
out_of_range word bad =
    ⊎_elim
    (λ (some : 0 < length word).
    ⊎_elim
    (λ (fits : digits_value 10 word < 2 ^ 64). absurd (bad (some, fits)))
    (λ (high : 2 ^ 64 ≤ digits_value 10 word). beyond word high)
    (cases_lt (digits_value 10 word) (2 ^ 64)))
    (λ (low : length word ≤ 0). empty word low)
    (cases_lt 0 (length word))

pub returns-then-word-gt20 : goal.returns-then-word-gt20
returns-then-word-gt20 c = too_long c.args.word.now (omega arith)

pub returns-in-Err : goal.returns-in-Err
returns-in-Err c =
    let digits : list_all is_ascii_digit c.args.word.now ≡ true = search rules in
    out_of_range c.args.word.now (parse_digits own 64 c.args.word.now (Err c.in-Err.field-0) c.in-Err.ensures.value.0 digits)
