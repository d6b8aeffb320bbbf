use Rattle.std.proofs.Common.{◌+◌, take, List, Option, sym, subst}
use Rattle.hera_weave.specs.Seats.{Sitting}
use Rattle.hera_weave.specs.Looms.{AreFresh}
use Rattle.hera_weave.proofs.Looming.{fresh_more}
use Rattle.hera_weave.proofs.weave.seats_of.Goals as goal

pub loop-session-preserved : goal.loop-session-preserved
loop-session-preserved c =
    subst (λ (l : List (Option Sitting)). AreFresh (take (c.loop-session.session-index + 1) c.args.sessions.now) l) (sym c.in_ok-push.ensures.items)
    (fresh_more c.args.sessions.now c.loop-session.session-index c.session-item.result c.loop-session.seats.items c.in_ok-seat.seat c.loop-session-test.true c.session-item.is c.loop-session.invariant c.in_ok-seat.ensures)
