use Rattle.std.proofs.Common.{◌≡◌, ◌-◌, []}
use Rattle.hera_code_file.specs.Reading.{many, body_at}
use Rattle.hera_code_file.specs.Files.{file_bodies, AreNoted}
use Rattle.hera_code_file.proofs.bodies.some_bodies.Given as goal

abbrev pub invariant-loop : goal.invariant-loop
invariant-loop l = record {
  so_far : many (λ before. body_at) (l.count - l.counter) (file_bodies l.infos.items l.notes.items) l.rest ≡ many (λ before. body_at) l.count [] l.bytes;
  noted : AreNoted l.infos.items l.notes.items;
}
