use Rattle.hera_meaning.specs.declared.schemas.RelDecl.{RelDecl}
use Rattle.hera_meaning.specs.Fits.{is_delta_of}
use Rattle.std.specs.Option.{option_copied}
use Rattle.std.proofs.Common.{List, ◌+◌, ◌∙◌, ap, sym}
use Rattle.hera_code.specs.Machine.{quiet}
use Rattle.hera_frames.specs.Items.{item_of}
use Rattle.hera_steps.proofs.Sights.{the_view}
use Rattle.hera_steps.specs.Working.{Work, machine_at}
use Rattle.hera_steps.proofs.Instructing.{apply_told}
use Rattle.hera_steps.proofs.running.Running.apply.Goals as goal

pub returns-clause-step : goal.returns-clause-step
returns-clause-step c =
    let s = c.args.stored.now.state in
    let now = c.self.inside in
    ap (λ (w : Work). quiet (machine_at s (record w { at = w.at + 1 }))) c.self-2.view_is
    ∙ apply_told s c.args.self.now.relations c.args.at c.pop.new.self.spare c.args.self.now (the_view now) c.apply_delta.new.self (item_of c.in-Some.v) c.pop.new.self.items c.in-Some-delta.change.now
    c.self.view_is c.in-Some.ensures.items (sym (c.delta.ensures s now.changes.layers) ∙ ap option_copied c.in-Some-delta.is) (sym c.is_fail.ensures.fails ∙ c.if-is_fail.false)
    (ap (λ (rs : List RelDecl). is_delta_of rs c.in-Some-delta.change.now) (sym (c.catalogue.ensures ∙ ap (λ (w : Work). w.relations) c.self.view_is)) ∙ sym c.is_delta_of.ensures ∙ c.if-not-is_delta_of.false) c.in_ok-apply_delta.ensures.over
