use Rattle.std.proofs.Common.{take}
use Rattle.hera_weave.specs.Looms.{AreFresh}
use Rattle.hera_weave.proofs.weave.seats_of.Given as goal

abbrev pub invariant-loop-session : goal.invariant-loop-session
invariant-loop-session l = AreFresh (take l.session-index l.sessions) l.seats.items
