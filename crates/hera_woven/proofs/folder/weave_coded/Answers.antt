use Rattle.std.proofs.Common.{◌≡◌, ◌∙◌, [], List, length, map, sym, subst, arith}
use Rattle.hera_meaning.specs.Plain.{program_of}
use Rattle.hera_host.specs.Tables.{specs_of}
use Rattle.hera_sessions.specs.Sessions.{Task}
use Rattle.hera_store.specs.Standing.{database_of}
use Rattle.hera_outcome.specs.Passages.{passage}
use Rattle.hera_outcome.specs.declared.answer.Stop.TheVariants.{Memory}
use Rattle.hera_run.proofs.Results.{err_is}
use Rattle.hera_weave.specs.Looms.{StandsFor}
use Rattle.hera_woven.specs.Weaving.{tasks_of}
use Rattle.hera_woven.specs.Going.{plan_over, IsBehind, IsHeldUp}
use Rattle.hera_woven.proofs.Sessions.{are_tasks, long_all}
use Rattle.hera_woven.proofs.Starting.{behind_start, held_none}
use Rattle.hera_woven.proofs.folder.weave_coded.Goals as goal

pub returns-in_err-rota-clause-held_up : goal.returns-in_err-rota-clause-held_up
returns-in_err-rota-clause-held_up g c =
    let hosts = specs_of c.args.hosts.now.names in
    let plan = plan_over (tasks_of c.args.warp.now.turns (map program_of c.args.warp.now.programs.now)) c.args.warp.now.order c.args.folder.now.store in
    err_is (IsHeldUp hosts plan c.args.folder.now.store (passage g.W.Output g.W.Outside c.args.outside.now c.args.outside.now)) c.from_residual.result Memory c.from_residual.ensures.1
    (held_none hosts plan g.W.Output g.W.Outside c.args.outside.now c.args.folder.now.store)

pub returns-in_err-sessions-clause-held_up : goal.returns-in_err-sessions-clause-held_up
returns-in_err-sessions-clause-held_up g c =
    let hosts = specs_of c.args.hosts.now.names in
    let plan = plan_over (tasks_of c.args.warp.now.turns (map program_of c.args.warp.now.programs.now)) c.args.warp.now.order c.args.folder.now.store in
    err_is (IsHeldUp hosts plan c.args.folder.now.store (passage g.W.Output g.W.Outside c.args.outside.now c.args.outside.now)) c.from_residual-in_err-sessions.result Memory c.from_residual-in_err-sessions.ensures.1
    (held_none hosts plan g.W.Output g.W.Outside c.args.outside.now c.args.folder.now.store)

pub returns-in_err-weave-clause-held_up : goal.returns-in_err-weave-clause-held_up
returns-in_err-weave-clause-held_up g c =
    let hosts = specs_of c.args.hosts.now.names in
    let plan = plan_over (tasks_of c.args.warp.now.turns (map program_of c.args.warp.now.programs.now)) c.args.warp.now.order c.args.folder.now.store in
    err_is (IsHeldUp hosts plan c.args.folder.now.store (passage g.W.Output g.W.Outside c.args.outside.now c.args.outside.now)) c.from_residual-in_err-weave.result Memory c.from_residual-in_err-weave.ensures.1
    (held_none hosts plan g.W.Output g.W.Outside c.args.outside.now c.args.folder.now.store)

pub weave_all-requires-clause-behind : goal.weave_all-requires-clause-behind
weave_all-requires-clause-behind g c =
    let hosts = specs_of c.args.hosts.now.names in
    let folder = c.args.folder.now in
    let ps = map program_of c.args.warp.now.programs.now in
    let tasks = tasks_of c.args.warp.now.turns ps in
    let w = c.in_ok-weave.weave in
    let long : length folder.commits.items ≡ c.len.result = omega (arith, c.len.ensures, folder.commits.ok.0) in
    let stands : StandsFor tasks hosts folder.store.base.state folder.commits.items [] w =
    subst (λ (ts : List Task). StandsFor ts hosts folder.store.base.state folder.commits.items [] w) c.in_ok-sessions.ensures.tasks (c.in_ok-weave.ensures.stands hosts folder.store.base.state folder.commits.items long) in
    let begins : IsBehind hosts (plan_over tasks c.args.warp.now.order folder.store) [] w c.in_ok-rota.rota folder =
    behind_start hosts tasks c.args.warp.now.order folder w c.in_ok-rota.rota (are_tasks hosts folder.store.base.catalogue c.args.warp.now.turns ps c.requires.sound c.requires.relations) c.requires.opens.unclosed c.requires.does c.requires.proper
    stands (c.in_ok-weave.ensures.start ∙ sym long) c.in_ok-weave.ensures.works (c.in_ok-rota.ensures.due tasks (database_of folder.store).state hosts (long_all c.args.warp.now.turns c.args.warp.now.programs.now)) c.in_ok-rota.ensures.order in
    (plan_over tasks c.args.warp.now.order folder.store, begins)

pub returns-clause-woven : goal.returns-clause-woven
returns-clause-woven g c =
    let hosts = specs_of c.args.hosts.now.names in
    let folder = c.args.folder.now in
    let ps = map program_of c.args.warp.now.programs.now in
    let tasks = tasks_of c.args.warp.now.turns ps in
    let w = c.in_ok-weave.weave in
    let long : length folder.commits.items ≡ c.len.result = omega (arith, c.len.ensures, folder.commits.ok.0) in
    let stands : StandsFor tasks hosts folder.store.base.state folder.commits.items [] w =
    subst (λ (ts : List Task). StandsFor ts hosts folder.store.base.state folder.commits.items [] w) c.in_ok-sessions.ensures.tasks (c.in_ok-weave.ensures.stands hosts folder.store.base.state folder.commits.items long) in
    let begins : IsBehind hosts (plan_over tasks c.args.warp.now.order folder.store) [] w c.in_ok-rota.rota folder =
    behind_start hosts tasks c.args.warp.now.order folder w c.in_ok-rota.rota (are_tasks hosts folder.store.base.catalogue c.args.warp.now.turns ps c.requires.sound c.requires.relations) c.requires.opens.unclosed c.requires.does c.requires.proper
    stands (c.in_ok-weave.ensures.start ∙ sym long) c.in_ok-weave.ensures.works (c.in_ok-rota.ensures.due tasks (database_of folder.store).state hosts (long_all c.args.warp.now.turns c.args.warp.now.programs.now)) c.in_ok-rota.ensures.order in
    c.weave_all.ensures.woven (plan_over tasks c.args.warp.now.order folder.store) begins

pub returns-clause-held_up : goal.returns-clause-held_up
returns-clause-held_up g c =
    let hosts = specs_of c.args.hosts.now.names in
    let folder = c.args.folder.now in
    let ps = map program_of c.args.warp.now.programs.now in
    let tasks = tasks_of c.args.warp.now.turns ps in
    let w = c.in_ok-weave.weave in
    let long : length folder.commits.items ≡ c.len.result = omega (arith, c.len.ensures, folder.commits.ok.0) in
    let stands : StandsFor tasks hosts folder.store.base.state folder.commits.items [] w =
    subst (λ (ts : List Task). StandsFor ts hosts folder.store.base.state folder.commits.items [] w) c.in_ok-sessions.ensures.tasks (c.in_ok-weave.ensures.stands hosts folder.store.base.state folder.commits.items long) in
    let begins : IsBehind hosts (plan_over tasks c.args.warp.now.order folder.store) [] w c.in_ok-rota.rota folder =
    behind_start hosts tasks c.args.warp.now.order folder w c.in_ok-rota.rota (are_tasks hosts folder.store.base.catalogue c.args.warp.now.turns ps c.requires.sound c.requires.relations) c.requires.opens.unclosed c.requires.does c.requires.proper
    stands (c.in_ok-weave.ensures.start ∙ sym long) c.in_ok-weave.ensures.works (c.in_ok-rota.ensures.due tasks (database_of folder.store).state hosts (long_all c.args.warp.now.turns c.args.warp.now.programs.now)) c.in_ok-rota.ensures.order in
    c.weave_all.ensures.held_up (plan_over tasks c.args.warp.now.order folder.store) begins
