use Rattle.std.proofs.Common.{◌∙◌, List, Option, Ok, is_some, ap, subst}
use Rattle.hera_host.specs.Tables.{specs_of}
use Rattle.hera_meaning.specs.Worlds.{Event}
use Rattle.hera_sessions.specs.Weaving.{Outcome}
use Rattle.hera_outcome.specs.Passages.{passage}
use Rattle.hera_weave.specs.Standing.{outcome_in, commits_in}
use Rattle.hera_woven.specs.Going.{Carries, events_next}
use Rattle.hera_woven.proofs.Carrying.{carries_none}
use Rattle.hera_woven.proofs.Behind.{seat_there, told_here, stands_on, proper_on, closing_is, behind_next}
use Rattle.hera_woven.proofs.weaving.step_on.Goals as goal

pub step-requires-clause-there : goal.step-requires-clause-there
step-requires-clause-there g c =
    let s = c.requires.behind in
    (seat_there (specs_of c.args.hosts.now.names) s.plan s.schedule c.args.weave.now c.args.rota.now c.args.folder.now s.behind c.args.session c.requires.due).0

pub step-requires-clause-goes_on : goal.step-requires-clause-goes_on
step-requires-clause-goes_on g c = λ works.
    let s = c.requires.behind in
    (seat_there (specs_of c.args.hosts.now.names) s.plan s.schedule c.args.weave.now c.args.rota.now c.args.folder.now s.behind c.args.session c.requires.due).1

pub returns-in_err-event-clause-carries : goal.returns-in_err-event-clause-carries
returns-in_err-event-clause-carries g c = λ plan schedule b.
    carries_none g.W.Output g.W.Outside (events_next (specs_of c.args.hosts.now.names) plan schedule c.args.session) c.args.folder.now.store c.args.outside.now c.from_residual.result c.from_residual.ensures.1

pub returns-clause-behind : goal.returns-clause-behind
returns-clause-behind g c = λ plan schedule b.
    let hosts = specs_of c.args.hosts.now.names in
    let w = c.args.weave.now in
    let r = c.args.rota.now in
    let f = c.args.folder.now in
    let i = c.args.session in
    let e = c.in_ok-event.event in
    let base = c.base.result.now in
    let told = told_here hosts plan schedule w r f b base c.deref.result.now c.base.ensures.base c.deref.ensures.value i (outcome_in e) c.in_ok-event.ensures.told in
    behind_next hosts plan schedule w r f b i (commits_in e) c.step.new.self c.pass.new.self c.close.new.self c.in_ok-close.field-0 (passage g.W.Output g.W.Outside c.args.outside.now c.close.new.outside)
    (stands_on hosts plan schedule w r f b base c.deref.result.now (commits_in e) c.base.ensures.base c.deref.ensures.value i c.step.new.self c.in_ok-event.ensures.stands)
    c.step.ensures.start c.in_ok-event.ensures.works (proper_on hosts plan schedule w r f b base (commits_in e) c.base.ensures.base c.in_ok-event.ensures.proper) c.in_ok-close.ensures.commits
    (c.pass.ensures.due plan.tasks plan.from.state hosts schedule b.due (c.has_closed-closes.ensures ∙ ap (λ (o : Option Outcome). is_some o) told)) c.pass.ensures.order
    (subst (λ (es : List Event). Carries es f.store c.close.new.self.store (Ok c.in_ok-close.field-0) (passage g.W.Output g.W.Outside c.args.outside.now c.close.new.outside)) (closing_is hosts plan schedule w r f b i (outcome_in e) told) c.in_ok-close.ensures.carries)
