use Rattle.hera_host.specs.Tables.{specs_of}
use Rattle.hera_typed.specs.Notes.{notes_of}
use Rattle.hera_typed.specs.Pass.{Found}
use Rattle.hera_verify.specs.Tables.{IsWalked}
use Rattle.hera_verify.proofs.flow.look.Given as goal

abbrev pub invariant-loop-a : goal.invariant-loop-a
invariant-loop-a g l = (f : Found) × IsWalked l.around.code.now l.around.relations.now (specs_of l.around.hosts.now.names) (notes_of l.around.notes.now) l.stacks l.walker l.a f
