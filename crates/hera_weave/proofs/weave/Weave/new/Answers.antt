use Rattle.std.proofs.Common.{List, false, subst}
use Rattle.hera_weave.specs.declared.weave.Session.{Session}
use Rattle.hera_weave.specs.Looms.{Loom, AreFresh}
use Rattle.hera_weave.proofs.Looming.{stands_new, fresh_long}
use Rattle.hera_weave.proofs.weave.Weave.new.Goals as goal

pub returns-clause-stands : goal.returns-clause-stands
returns-clause-stands c = λ hosts base all long.
    let w : Loom = record { seats = c.in_ok-seats.seats.items; start = c.args.start; failed = false } in
    stands_new hosts base all c.args.sessions.items w (subst (λ (l : List Session). AreFresh l c.in_ok-seats.seats.items) c.deref.ensures.value c.in_ok-seats.ensures) long

pub returns-clause-sessions : goal.returns-clause-sessions
returns-clause-sessions c = fresh_long c.args.sessions.items c.in_ok-seats.seats.items (subst (λ (l : List Session). AreFresh l c.in_ok-seats.seats.items) c.deref.ensures.value c.in_ok-seats.ensures)
