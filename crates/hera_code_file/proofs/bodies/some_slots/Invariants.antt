use Rattle.std.proofs.Common.{◌≡◌, ◌-◌, []}
use Rattle.hera_code_file.specs.Reading.{many, slot_at}
use Rattle.hera_code_file.proofs.bodies.some_slots.Given as goal

abbrev pub invariant-loop : goal.invariant-loop
invariant-loop l = many (λ before. slot_at) (l.count - l.counter) l.slots.items l.rest ≡ many (λ before. slot_at) l.count [] l.bytes
