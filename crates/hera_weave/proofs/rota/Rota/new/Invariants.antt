use Rattle.std.proofs.Common.{◌≡◌, replicate}
use Rattle.hera_sessions.specs.Weaving.{waiting}
use Rattle.hera_sessions.specs.Turns.{open_from}
use Rattle.hera_weave.proofs.rota.Rota.new.Given as goal

abbrev pub invariant-loop-session : goal.invariant-loop-session
invariant-loop-session l = l.opens.items ≡ open_from 0 (replicate l.session waiting)
