use Rattle.std.proofs.Common.{◌≡◌, ◌-◌, []}
use Rattle.hera_code_file.specs.Reading.{many, attr_at}
use Rattle.hera_code_file.proofs.schemas.attrs.Given as goal

abbrev pub invariant-loop : goal.invariant-loop
invariant-loop l = many attr_at (l.count - l.counter) l.attrs.items l.rest ≡ many attr_at l.count [] l.bytes
