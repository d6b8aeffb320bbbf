use Rattle.hera_woven.proofs.Sessions.{AreMade}
use Rattle.hera_woven.proofs.binding.all_sessions.Given as goal

abbrev pub invariant-loop-i : goal.invariant-loop-i
invariant-loop-i l = AreMade l.programs l.turns l.i l.sessions.items
