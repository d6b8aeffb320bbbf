use Rattle.hera_typed.specs.Notes.{notes_of}
use Rattle.hera_verify.specs.Looks.{Finds, FirstFineTo}
use Rattle.hera_verify.proofs.bodies.look.Given as goal

abbrev pub invariant-loop-k : goal.invariant-loop-k
invariant-loop-k l = Finds (FirstFineTo l.code (notes_of l.notes) l.k) l.found
