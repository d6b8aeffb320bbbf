use Rattle.hera_woven.proofs.Sessions.{AreBound}
use Rattle.hera_woven.proofs.binding.bind_all.Given as goal

abbrev pub invariant-loop-program : goal.invariant-loop-program
invariant-loop-program l = AreBound l.catalogue l.yielded l.all.items
