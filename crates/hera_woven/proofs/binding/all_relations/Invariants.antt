use Rattle.std.proofs.Common.{◌≡◌, take, map}
use Rattle.hera_meaning.specs.Plain.{program_of}
use Rattle.hera_woven.specs.Weaving.{relations_of}
use Rattle.hera_woven.proofs.binding.all_relations.Given as goal

abbrev pub invariant-loop-program : goal.invariant-loop-program
invariant-loop-program l = l.decls.items ≡ relations_of (map program_of (take l.program-index l.programs))
