use Rattle.std.proofs.Common.{◌≡◌, length, refl, arith}
use Rattle.hera_weave.specs.Seats.{Sitting}
use Rattle.hera_weave.proofs.Sitting.{commits_from}
use Rattle.hera_weave.proofs.seat.Seat.commit.Goals as goal

pub returns-clause-kept : goal.returns-clause-kept
returns-clause-kept c = λ d waits.
    let inside : Sitting = record { code = c.self.inside.code.now; machine = c.self.inside.machine; begun = c.self.inside.begun; own = c.self.inside.own.items; levels = c.self.inside.levels; text = c.self.inside.text.items } in
    let now : Sitting = record { code = c.self.inside.code.now; machine = c.take_pending-delta.new.self; begun = c.self.inside.begun; own = c.push.new.self.items; levels = c.push_level.new.levels; text = c.put_commit.new.text.items } in
    let long : c.len.result ≡ length c.push.new.self.items = omega (arith, c.len.ensures, c.push.new.self.ok.0) in
    commits_from c.put_commit.result c.args.prefix.now d c.take_pending-delta.result c.args.self.now inside now c.deref.result.now c.len.result c.self.view_is waits
    c.take_pending-delta.ensures.delta c.take_pending-delta.ensures.known c.take_pending-delta.ensures.taken c.in_ok-push.ensures.items c.deref.ensures.value
    c.in_ok-push_level.ensures.does c.in_ok-push_level.ensures.known long c.put_commit.ensures refl refl
