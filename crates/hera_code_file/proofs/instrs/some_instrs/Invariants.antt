use Rattle.std.proofs.Common.{◌≡◌, ◌-◌, []}
use Rattle.hera_code_file.specs.Reading.{many, instr_at}
use Rattle.hera_code_file.proofs.instrs.some_instrs.Given as goal

abbrev pub invariant-loop : goal.invariant-loop
invariant-loop l = many (λ before. instr_at) (l.count - l.counter) l.instrs l.rest ≡ many (λ before. instr_at) l.count [] l.bytes
