use Rattle.std.proofs.Common.{◌≡◌, ◌-◌, []}
use Rattle.hera_code_file.specs.Reading.{many, agg_at}
use Rattle.hera_code_file.proofs.parts.some_aggs.Given as goal

abbrev pub invariant-loop : goal.invariant-loop
invariant-loop l = many (λ before. agg_at) (l.count - l.counter) l.aggs.items l.rest ≡ many (λ before. agg_at) l.count [] l.bytes
