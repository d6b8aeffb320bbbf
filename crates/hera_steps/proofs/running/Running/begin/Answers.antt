use Rattle.std.proofs.Common.{◌+◌, ◌-◌, ap, arith, refl}
use Rattle.hera_steps.specs.Working.{Work}
use Rattle.hera_frames.specs.declared.frames.Point.{Point}
use Rattle.hera_steps.proofs.Sights.{the_view}
use Rattle.hera_steps.proofs.Calling.{called, upheld_called}
use Rattle.hera_steps.proofs.running.Running.begin.Goals as goal

pub invariant_of-self-2 : goal.invariant_of-self-2
invariant_of-self-2 c =
    let now = c.self.inside in
    let point : Point = record { at = now.at + 1; tip = c.tip.result; own = now.own; floor = now.floor; names_below = now.names_below } in
    upheld_called now.changes now.own now.floor now.operands.items now.walks now.names_below c.any_names-names.result now.callers c.call.new.self c.args.body.now point now.locals c.call.new.locals
    c.len-self-inside.result c.call.new.operands.items c.call.new.walks c.len-self-inside.ensures.count c.in_ok-call.ensures.no_operands c.in_ok-call.ensures.no_walks
    c.tip.ensures.tip refl refl refl c.any_names-names.ensures.below c.any_names-names.ensures.operands c.any_names-names.ensures.walks c.in_ok-call.ensures.called c.self.invariant

pub returns-clause-step : goal.returns-clause-step
returns-clause-step c = λ s.
    let now = c.self.inside in
    let point : Point = record { at = now.at + 1; tip = c.tip.result; own = now.own; floor = now.floor; names_below = now.names_below } in
    called s (the_view now) c.args.self.now c.args.body.now point c.call.new.operands.items c.call.new.operands.spare (now.turns - 1) c.call.new.locals c.call.new.walks c.call.new.self
    c.self.view_is c.requires.fit (omega (arith, c.requires.turn, ap (λ (w : Work). w.turns) c.self.view_is)) refl c.tip.ensures.tip refl c.in_ok-call.ensures.no_operands c.in_ok-call.ensures.no_walks
    c.in_ok-call.ensures.called
