use Rattle.std.proofs.Common.{[], ◌≡◌, ap, sym, subst, arith}
use Rattle.std.specs.Prelude.{Result, IfOk, slice_get}
use Rattle.std.specs.declared.alloc.AllocError.{AllocError}
use Rattle.std.proofs.lemmas.Option.{slice_get_past}
use Rattle.hera_code.specs.Machine.{current_state, pushes, rows_value}
use Rattle.hera_reads.specs.Branched.{pending_of, under}
use Rattle.hera_reads.proofs.Naming.{read-length}
use Rattle.hera_steps.specs.declared.events.Told.{Told}
use Rattle.hera_steps.specs.Working.{machine_at}
use Rattle.hera_steps.specs.Telling.{step_at}
use Rattle.hera_steps.proofs.Instructing.{named_told}
use Rattle.hera_steps.proofs.running.Running.rel.Goals as goal

pub returns-then-from-len-clause-step : goal.returns-then-from-len-clause-step
returns-then-from-len-clause-step c =
    let s = c.args.stored.now.state in
    let m = machine_at s c.args.self.now in
    let t = current_state s m in
    let long = read-length c.args.stored.now.state [] (pending_of c.args.self.now.layers) (under c.args.self.now.layers c.args.self.now.tip) in
    subst (λ (res : Result Told AllocError). IfOk res (λ told. step_at s told c.args.self.now ≡ pushes (rows_value (slice_get t c.args.r.0)) m)) (sym c.stuck.ensures)
    (ap (λ o. pushes (rows_value o) m) (sym (slice_get_past t c.args.r.0 (omega (arith, long, c.len.ensures.relations, c.len.ensures.count, c.from.ensures, c.if-from-len.true)))))

pub returns-clause-step : goal.returns-clause-step
returns-clause-step c =
    let s = c.args.stored.now.state in
    let now = c.self.inside in
    let long = read-length c.args.stored.now.state [] (pending_of now.changes.layers) (under now.changes.layers now.changes.tip) in
    named_told s _ c.args.self.now c.tip.result c.args.r.0 c.push_named.new.self.items c.push_named.new.self.spare c.self.view_is c.tip.ensures.tip c.in_ok-push_named.ensures.ok
    (omega (arith, long, c.len.ensures.relations, c.len.ensures.count, c.from.ensures, c.if-from-len.false))
