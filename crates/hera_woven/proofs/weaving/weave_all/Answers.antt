use Rattle.std.proofs.Common.{◌∙◌, ◌++◌, ◌∷◌, [], sym}
use Rattle.hera_host.specs.Tables.{specs_of}
use Rattle.hera_outcome.specs.Passages.{passage}
use Rattle.hera_run.proofs.Results.{err_is}
use Rattle.hera_woven.specs.Going.{IsHeldUp}
use Rattle.hera_woven.proofs.Behind.{carried_next, held_up, all_woven}
use Rattle.hera_woven.proofs.weaving.weave_all.Goals as goal

pub steps-preserved : goal.steps-preserved
steps-preserved g c = λ plan start.
    let hosts = specs_of c.args.hosts.now.names in
    let i = c.steps.invariant plan start in (
      i.0 ++ c.in-Some.session ∷ [],
      c.in_ok-step_on.ensures.behind plan i.0 i.1,
      carried_next hosts plan i.0 c.steps.weave c.steps.rota c.steps.folder i.1 g.W.Output g.W.Outside c.args.outside.now c.steps.outside c.step_on.new.outside c.in-Some.session i.2
          c.in_ok-step_on.field-0 c.step_on.new.folder.store (c.in_ok-step_on.ensures.carries plan i.0 i.1),
    )

pub returns-in_err-step_on-clause-held_up : goal.returns-in_err-step_on-clause-held_up
returns-in_err-step_on-clause-held_up g c = λ plan start.
    let hosts = specs_of c.args.hosts.now.names in
    let i = c.steps.invariant plan start in
    err_is (IsHeldUp hosts plan c.step_on.new.folder.store (passage g.W.Output g.W.Outside c.args.outside.now c.step_on.new.outside)) c.from_residual.result c.in_err-step_on.field-0.0 c.from_residual.ensures.1
    (held_up hosts plan i.0 c.steps.weave c.steps.rota c.steps.folder i.1 g.W.Output g.W.Outside c.args.outside.now c.steps.outside c.step_on.new.outside c.in-Some.session i.2
    c.in_err-step_on.field-0.0 c.step_on.new.folder.store (sym c.next.ensures ∙ c.in-Some.is) (c.in_err-step_on.ensures.carries plan i.0 i.1))

pub returns-clause-woven : goal.returns-clause-woven
returns-clause-woven g c = λ plan start.
    let hosts = specs_of c.args.hosts.now.names in
    let i = c.steps.invariant plan start in
    all_woven hosts plan i.0 c.steps.weave c.steps.rota c.steps.folder (passage g.W.Output g.W.Outside c.args.outside.now c.steps.outside) i.1 i.2 (sym c.next.ensures ∙ c.in_default.is)
