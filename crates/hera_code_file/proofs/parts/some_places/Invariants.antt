use Rattle.std.proofs.Common.{◌≡◌, ◌-◌, []}
use Rattle.hera_code_file.specs.Reading.{many, word_at}
use Rattle.hera_code_file.proofs.parts.some_places.Given as goal

abbrev pub invariant-loop : goal.invariant-loop
invariant-loop l = many (λ before. word_at) (l.count - l.counter) l.places.items l.rest ≡ many (λ before. word_at) l.count [] l.bytes
