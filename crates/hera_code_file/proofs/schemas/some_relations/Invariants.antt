use Rattle.std.proofs.Common.{◌≡◌, ◌-◌, []}
use Rattle.hera_code_file.specs.Reading.{many, relation_at}
use Rattle.hera_code_file.proofs.schemas.some_relations.Given as goal

abbrev pub invariant-loop : goal.invariant-loop
invariant-loop l = many relation_at (l.count - l.counter) l.relations.items l.rest ≡ many relation_at l.count [] l.bytes
