use Rattle.hera_meaning.specs.declared.schemas.RelDecl.{RelDecl}
use Rattle.hera_meaning.specs.Fits.{is_delta_of}
use Rattle.std.proofs.Common.{List, ◌+◌, ◌∙◌, ap, sym, arith}
use Rattle.hera_code.specs.Machine.{quiet}
use Rattle.hera_frames.specs.Items.{item_of}
use Rattle.hera_steps.proofs.Sights.{the_view}
use Rattle.hera_steps.specs.Working.{Work, machine_at}
use Rattle.hera_steps.proofs.Instructing.{enter_told}
use Rattle.hera_steps.proofs.running.Running.enter.Goals as goal

pub overflow_add-self : goal.overflow_add-self
overflow_add-self c =
    let old = ap (λ (w : Work). w.at) c.self.view_is in
    let new = ap (λ (w : Work). w.at) c.self-2.view_is in
    omega (arith, old, new, c.in_ok-enter_layer.ensures.at, c.requires)

pub returns-clause-step : goal.returns-clause-step
returns-clause-step c = λ s.
    let now = c.self.inside in
    ap (λ (w : Work). quiet (machine_at s (record w { at = w.at + 1 }))) c.self-2.view_is
    ∙ enter_told s c.args.self.now.relations c.args.at c.pop.new.self.spare c.args.self.now (the_view now) c.enter_layer.new.self (item_of c.in-Some.v) c.pop.new.self.items c.in-Some-2.delta
    c.self.view_is c.in-Some.ensures.items (sym (c.in_ok-delta.ensures s now.changes.layers) ∙ c.in-Some-2.is) (sym c.is_fail.ensures.fails ∙ c.if-is_fail.false)
    (ap (λ (rs : List RelDecl). is_delta_of rs c.in-Some-2.delta) (sym (c.catalogue.ensures ∙ ap (λ (w : Work). w.relations) c.self.view_is)) ∙ sym c.is_delta_of.ensures ∙ c.if-not-is_delta_of.false) (c.in_ok-enter_layer.ensures.over s)
