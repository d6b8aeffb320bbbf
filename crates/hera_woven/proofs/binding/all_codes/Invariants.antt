use Rattle.std.proofs.Common.{◌≡◌, take, map}
use Rattle.hera_meaning.specs.Plain.{program_of}
use Rattle.hera_woven.specs.Binding.{codes_of}
use Rattle.hera_woven.proofs.binding.all_codes.Given as goal

abbrev pub invariant-loop-program : goal.invariant-loop-program
invariant-loop-program l = l.codes.items ≡ codes_of (map program_of (take l.program-index l.programs))
