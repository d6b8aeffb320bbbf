use Rattle.std.proofs.Common.{◌≡◌, ◌<◌, ◌++◌, ◌∷◌, [], None, Some, suc, length, true, false, not, Err, ⊎_elim, refl, sym, ap, ◌∙◌, subst, arith}
use Rattle.std.specs.List.{list_all}
use Rattle.std.proofs.KnownBytes.{Appends-nil}
use Rattle.std.specs.Io.KnownBytes.{Appends}
use Rattle.hera_meaning.specs.Deltas.{State, apply_of}
use Rattle.hera_meaning.specs.Fits.{is_delta_of}
use Rattle.hera_meaning.specs.Worlds.{out}
use Rattle.hera_meaning.specs.Run.{printed, state_after}
use Rattle.hera_host.specs.Tables.{specs_of}
use Rattle.hera_code.specs.Machine.{commits}
use Rattle.hera_code.specs.Reached.{stores}
use Rattle.hera_machine.specs.declared.events.Event.TheVariants as events
use Rattle.hera_machine.specs.Over.{state_over}
use Rattle.hera_machine.proofs.Counted.{counted_same, counted_quiet, counted_out, counted_commit}
use Rattle.hera_machine.specs.Standing.{Standing, machine_over, commit_over, WaitsBy}
use Rattle.hera_steps.specs.Descends.{left}
use Rattle.rel_pages.specs.Stored.{Stored}
use Rattle.hera_volume.specs.Time.{LeavesOnly}
use Rattle.hera_volume.proofs.Moments.{leaves-none, leaves-on}
use Rattle.hera_store.specs.Databases.{Database}
use Rattle.hera_outcome.specs.declared.answer.Stop.TheVariants.{Memory}
use Rattle.hera_outcome.specs.Answers.{IsSpoken}
use Rattle.hera_outcome.specs.Passages.{passage}
use Rattle.hera_outcome.proofs.Passing.{memory_faults, faults_by, stop_faults, keeps_none}
use Rattle.hera_run.specs.Fitting.{fits}
use Rattle.hera_run.specs.Running.{Job, job, turns_of, ending_of, IsCodeCut, IsStopped}
use Rattle.hera_run.proofs.Fittings.{true_or_false}
use Rattle.hera_run.proofs.Results.{err_is, keeps_on, line_never_full}
use Rattle.hera_run.proofs.Stopped.{stopped_for_memory}
use Rattle.hera_run.proofs.Steps.{comes_nearer, at_start, stepped, at_quiet, at_out, at_commit, committing, carried_out, carried_commit, stores_out, stores_commit, commits_next, refusal_here, adds_out, adds_commit, adds_refused, adds_end, cut_next, cut_commit, part_next, part_here, part_out, part_commit, said_out, said_commit, all_done, refused_at, done_up_to, proper_commit, ending_fits}
use Rattle.hera_run.proofs.run.carry_all.Goals as goal

pub steps-init : goal.steps-init
steps-init g c =
    let work : Job = job g.K.Keeper c.args.keeper.now c.args.machine.now.code c.args.machine.now.relations (specs_of c.args.hosts.now.names) (turns_of c.args.machine.now) in
    record {
      events = [];
      at = at_start work c.args.machine.now c.requires.start.starts c.requires.start.works refl refl;
      taken = c.requires.start.taken;
      kept_ready = c.requires.ready;
      carried = record { kept = refl; fit = refl; ends = refl; pass = refl; same = refl };
      count = refl;
      counted = c.requires.counted;
      said = Appends-nil _;
      stood = c.requires.stands;
      found = λ told files s own. own;
      any_moment = λ told. leaves-none _ _ _ _;
      device = refl;
      output = refl;
      keeps = λ apart. keeps_none g.W.Output g.W.Outside c.args.outside.now;
    }

pub advance-requires-clause-commits : goal.advance-requires-clause-commits
advance-requires-clause-commits g c =
    subst (λ (b : Stored). list_all (is_delta_of b.catalogue) c.deltas.result.now ≡ true) (sym c.base.ensures.base) (c.deltas.ensures.known c.steps.invariant.kept_ready)

pub advance-requires-clause-counted : goal.advance-requires-clause-counted
advance-requires-clause-counted g c =
    let i = c.steps.invariant in
    let old = g.K.Keeper.database c.steps.keeper in
    let reads : state_over c.base.result.now.state c.deltas.result.now ≡ old.state = ap (λ (b : Stored). state_over b.state c.deltas.result.now) c.base.ensures.base ∙ c.deltas.ensures.state i.kept_ready in
    counted_same _ _ c.steps.machine _ (sym reads) i.counted

pub returns-in_err-advance-clause-stopped : goal.returns-in_err-advance-clause-stopped
returns-in_err-advance-clause-stopped g c =
    let i = c.steps.invariant in
    let work : Job = job g.K.Keeper c.args.keeper.now c.args.machine.now.code c.args.machine.now.relations (specs_of c.args.hosts.now.names) (turns_of c.args.machine.now) in
    let old = g.K.Keeper.database c.steps.keeper in
    let start = g.W.Output.emitted c.args.outside.now in
    let mid = g.W.Output.emitted c.steps.outside in
    err_is (λ stop. IsStopped work g.K.Keeper.apart start (g.W.Output.emitted c.steps.outside) (g.K.Keeper.database c.steps.keeper) (g.W.Outside.told → g.K.Keeper.stands (g.W.Outside.disk c.steps.outside) c.steps.keeper) stop) c.from_residual.result Memory c.from_residual.ensures.1 (stopped_for_memory work g.K.Keeper.apart start mid (g.K.Keeper.database c.steps.keeper) (g.W.Outside.told → g.K.Keeper.stands (g.W.Outside.disk c.steps.outside) c.steps.keeper) (part_here work i.events c.steps.machine start mid i.at i.carried.pass i.carried.fit i.said))

pub returns-in_err-advance-clause-faults : goal.returns-in_err-advance-clause-faults
returns-in_err-advance-clause-faults g c =
    memory_faults c.from_residual.result (passage g.W.Output g.W.Outside c.args.outside.now c.steps.outside) c.from_residual.ensures.1 c.steps.invariant.output c.steps.invariant.device

pub returns-in_err-next-in-Commit-clause-stopped : goal.returns-in_err-next-in-Commit-clause-stopped
returns-in_err-next-in-Commit-clause-stopped g c =
    let i = c.steps.invariant in
    let work : Job = job g.K.Keeper c.args.keeper.now c.args.machine.now.code c.args.machine.now.relations (specs_of c.args.hosts.now.names) (turns_of c.args.machine.now) in
    let old = g.K.Keeper.database c.steps.keeper in
    let start = g.W.Output.emitted c.args.outside.now in
    let mid = g.W.Output.emitted c.steps.outside in
    err_is (λ stop. IsStopped work g.K.Keeper.apart start (g.W.Output.emitted c.steps.outside) (g.K.Keeper.database c.steps.keeper) (g.W.Outside.told → g.K.Keeper.stands (g.W.Outside.disk c.steps.outside) c.steps.keeper) stop) c.from_residual-in_err-next-in-Commit.result Memory c.from_residual-in_err-next-in-Commit.ensures.1 (stopped_for_memory work g.K.Keeper.apart start mid (g.K.Keeper.database c.steps.keeper) (g.W.Outside.told → g.K.Keeper.stands (g.W.Outside.disk c.steps.outside) c.steps.keeper) (part_here work i.events c.steps.machine start mid i.at i.carried.pass i.carried.fit i.said))

pub returns-in_err-next-in-Commit-clause-faults : goal.returns-in_err-next-in-Commit-clause-faults
returns-in_err-next-in-Commit-clause-faults g c =
    memory_faults c.from_residual-in_err-next-in-Commit.result (passage g.W.Output g.W.Outside c.args.outside.now c.steps.outside) c.from_residual-in_err-next-in-Commit.ensures.1 c.steps.invariant.output c.steps.invariant.device

pub returns-in_err-test-in-Commit-clause-stopped : goal.returns-in_err-test-in-Commit-clause-stopped
returns-in_err-test-in-Commit-clause-stopped g c =
    let i = c.steps.invariant in
    let work : Job = job g.K.Keeper c.args.keeper.now c.args.machine.now.code c.args.machine.now.relations (specs_of c.args.hosts.now.names) (turns_of c.args.machine.now) in
    let old = g.K.Keeper.database c.steps.keeper in
    let start = g.W.Output.emitted c.args.outside.now in
    let mid = g.W.Output.emitted c.steps.outside in
    err_is (λ stop. IsStopped work g.K.Keeper.apart start (g.W.Output.emitted c.steps.outside) (g.K.Keeper.database c.steps.keeper) (g.W.Outside.told → g.K.Keeper.stands (g.W.Outside.disk c.steps.outside) c.steps.keeper) stop) c.from_residual-in_err-test-in-Commit.result Memory c.from_residual-in_err-test-in-Commit.ensures.1 (stopped_for_memory work g.K.Keeper.apart start mid (g.K.Keeper.database c.steps.keeper) (g.W.Outside.told → g.K.Keeper.stands (g.W.Outside.disk c.steps.outside) c.steps.keeper) (part_here work i.events c.steps.machine start mid i.at i.carried.pass i.carried.fit i.said))

pub returns-in_err-test-in-Commit-clause-faults : goal.returns-in_err-test-in-Commit-clause-faults
returns-in_err-test-in-Commit-clause-faults g c =
    memory_faults c.from_residual-in_err-test-in-Commit.result (passage g.W.Output g.W.Outside c.args.outside.now c.steps.outside) c.from_residual-in_err-test-in-Commit.ensures.1 c.steps.invariant.output c.steps.invariant.device

pub steps-preserved-in-Quiet : goal.steps-preserved-in-Quiet
steps-preserved-in-Quiet g c =
    let i = c.steps.invariant in
    let work : Job = job g.K.Keeper c.args.keeper.now c.args.machine.now.code c.args.machine.now.relations (specs_of c.args.hosts.now.names) (turns_of c.args.machine.now) in
    let old = g.K.Keeper.database c.steps.keeper in
    let start = g.W.Output.emitted c.args.outside.now in
    let mid = g.W.Output.emitted c.steps.outside in
    let m = c.steps.machine in
    let n = c.advance.new.self in
    let ens = c.in_ok-advance.ensures in
    let reads : state_over c.base.result.now.state c.deltas.result.now ≡ old.state = ap (λ (b : Stored). state_over b.state c.deltas.result.now) c.base.ensures.base ∙ c.deltas.ensures.state i.kept_ready in
    let to = stepped work i.events m n (state_over c.base.result.now.state c.deltas.result.now) c.in_ok-advance.field-0 (events.Quiet) i.at (reads ∙ ap (λ (x : Database). x.state) i.carried.kept) c.in-Quiet.is (ens.tells i.at.works) ens.status ens.code ens.relations in
    record {
      events = i.events;
      at = at_quiet work i.events m n to;
      taken = subst (λ e. WaitsBy n.waits e) c.in-Quiet.is ens.waits;
      kept_ready = i.kept_ready;
      carried = i.carried;
      count = i.count;
      counted = counted_same _ _ n _ reads (counted_quiet _ _ n c.in_ok-advance.field-0 (ens.counted i.at.works) c.in-Quiet.is);
      said = i.said;
      stood = i.stood;
      found = i.found;
      any_moment = i.any_moment;
      device = i.device;
      output = i.output;
      keeps = i.keeps;
    }

pub steps-preserved-in-Continue-branch-3 : goal.steps-preserved-in-Continue-branch-3
steps-preserved-in-Continue-branch-3 g c =
    let i = c.steps.invariant in
    let work : Job = job g.K.Keeper c.args.keeper.now c.args.machine.now.code c.args.machine.now.relations (specs_of c.args.hosts.now.names) (turns_of c.args.machine.now) in
    let old = g.K.Keeper.database c.steps.keeper in
    let start = g.W.Output.emitted c.args.outside.now in
    let mid = g.W.Output.emitted c.steps.outside in
    let m = c.steps.machine in
    let n = c.advance.new.self in
    let ens = c.in_ok-advance.ensures in
    let reads : state_over c.base.result.now.state c.deltas.result.now ≡ old.state = ap (λ (b : Stored). state_over b.state c.deltas.result.now) c.base.ensures.base ∙ c.deltas.ensures.state i.kept_ready in
    let to = stepped work i.events m n (state_over c.base.result.now.state c.deltas.result.now) c.in_ok-advance.field-0 (events.Out c.in-Out.line) i.at (reads ∙ ap (λ (x : Database). x.state) i.carried.kept) c.in-Out.is (ens.tells i.at.works) ens.status ens.code ens.relations in
    let adds = adds_out work i.events m n c.in-Out.line to i.carried.pass in
    let done = c.in_ok-carry_out-in-Out.ensures in
    record {
      events = i.events ++ out c.in-Out.line ∷ [];
      at = at_out work i.events m n c.in-Out.line to;
      taken = subst (λ e. WaitsBy n.waits e) c.in-Out.is ens.waits;
      kept_ready = done.ready;
      carried = carried_out work.from work.gate work.refusal i.events old (g.K.Keeper.database c.carry_out.new.keeper) (g.K.Keeper.gate c.steps.keeper) (g.K.Keeper.gate c.carry_out.new.keeper) (g.K.Keeper.refusal c.steps.keeper) (g.K.Keeper.refusal c.carry_out.new.keeper) i.carried c.in-Out.line done.kept done.gate done.refusal;
      count = stores_out i.events c.in-Out.line _ i.count;
      counted = counted_same _ _ n _ (reads ∙ sym (ap (λ (x : Database). x.state) done.kept)) (counted_out _ _ n c.in_ok-advance.field-0 (ens.counted i.at.works) c.in-Out.line c.in-Out.is);
      said = said_out work i.events c.in-Out.line start mid _ i.said done.whole;
      stood = λ told. done.stands told;
      found = λ told files s own. i.found told files s (done.finds told files s own);
      any_moment = λ told. leaves-on _ _ (i.any_moment told) (c.carry_out.ensures.any_moment told) (λ image cut. cut_next work (g.K.Keeper.finds c.args.keeper.now (g.W.Outside.disk c.args.outside.now)) (g.K.Keeper.finds c.steps.keeper (g.W.Outside.disk c.steps.outside)) i.events (out c.in-Out.line ∷ []) m old start mid image adds i.carried.fit refl i.carried.kept i.said (i.found told) cut);
      device = done.faults.1 ∙ i.device;
      output = done.faults.0 ∙ i.output;
      keeps = λ apart. keeps_on g.W.Output g.W.Outside c.args.outside.now c.steps.outside c.carry_out.new.outside (i.keeps apart) (c.carry_out.ensures.keeps apart);
    }

pub returns-in_err-carry_out-in-Out-clause-stopped : goal.returns-in_err-carry_out-in-Out-clause-stopped
returns-in_err-carry_out-in-Out-clause-stopped g c =
    let i = c.steps.invariant in
    let work : Job = job g.K.Keeper c.args.keeper.now c.args.machine.now.code c.args.machine.now.relations (specs_of c.args.hosts.now.names) (turns_of c.args.machine.now) in
    let old = g.K.Keeper.database c.steps.keeper in
    let start = g.W.Output.emitted c.args.outside.now in
    let mid = g.W.Output.emitted c.steps.outside in
    let m = c.steps.machine in
    let n = c.advance.new.self in
    let ens = c.in_ok-advance.ensures in
    let reads : state_over c.base.result.now.state c.deltas.result.now ≡ old.state = ap (λ (b : Stored). state_over b.state c.deltas.result.now) c.base.ensures.base ∙ c.deltas.ensures.state i.kept_ready in
    let to = stepped work i.events m n (state_over c.base.result.now.state c.deltas.result.now) c.in_ok-advance.field-0 (events.Out c.in-Out.line) i.at (reads ∙ ap (λ (x : Database). x.state) i.carried.kept) c.in-Out.is (ens.tells i.at.works) ens.status ens.code ens.relations in
    let adds = adds_out work i.events m n c.in-Out.line to i.carried.pass in
    err_is (λ stop. IsStopped work g.K.Keeper.apart start (g.W.Output.emitted c.carry_out.new.outside) (g.K.Keeper.database c.carry_out.new.keeper) (g.W.Outside.told → g.K.Keeper.stands (g.W.Outside.disk c.carry_out.new.outside) c.carry_out.new.keeper) stop) c.from_residual-in_err-carry_out-in-Out.result c.in_err-carry_out-in-Out.field-0.0 c.from_residual-in_err-carry_out-in-Out.ensures.1 (record {
      part = part_out work i.events m c.in-Out.line start mid _ adds i.carried.fit i.said c.in_err-carry_out-in-Out.ensures.part;
      full = λ is. absurd (line_never_full (c.carry_out.ensures.full (c.in_err-carry_out-in-Out.was ∙ ap Err is)));
      spoken = c.in_err-carry_out-in-Out.ensures.spoken;
    })

pub returns-in_err-carry_out-in-Out-clause-any_moment : goal.returns-in_err-carry_out-in-Out-clause-any_moment
returns-in_err-carry_out-in-Out-clause-any_moment g c =
    let i = c.steps.invariant in
    let work : Job = job g.K.Keeper c.args.keeper.now c.args.machine.now.code c.args.machine.now.relations (specs_of c.args.hosts.now.names) (turns_of c.args.machine.now) in
    let old = g.K.Keeper.database c.steps.keeper in
    let start = g.W.Output.emitted c.args.outside.now in
    let mid = g.W.Output.emitted c.steps.outside in
    let m = c.steps.machine in
    let n = c.advance.new.self in
    let ens = c.in_ok-advance.ensures in
    let reads : state_over c.base.result.now.state c.deltas.result.now ≡ old.state = ap (λ (b : Stored). state_over b.state c.deltas.result.now) c.base.ensures.base ∙ c.deltas.ensures.state i.kept_ready in
    let to = stepped work i.events m n (state_over c.base.result.now.state c.deltas.result.now) c.in_ok-advance.field-0 (events.Out c.in-Out.line) i.at (reads ∙ ap (λ (x : Database). x.state) i.carried.kept) c.in-Out.is (ens.tells i.at.works) ens.status ens.code ens.relations in
    let adds = adds_out work i.events m n c.in-Out.line to i.carried.pass in
    λ told. leaves-on _ _ (i.any_moment told) (c.carry_out.ensures.any_moment told) (λ image cut. cut_next work (g.K.Keeper.finds c.args.keeper.now (g.W.Outside.disk c.args.outside.now)) (g.K.Keeper.finds c.steps.keeper (g.W.Outside.disk c.steps.outside)) i.events (out c.in-Out.line ∷ []) m old start mid image adds i.carried.fit refl i.carried.kept i.said (i.found told) cut)

pub returns-in_err-carry_out-in-Out-clause-faults : goal.returns-in_err-carry_out-in-Out-clause-faults
returns-in_err-carry_out-in-Out-clause-faults g c =
    let i = c.steps.invariant in
    faults_by g.W.Output g.W.Outside c.args.outside.now c.steps.outside i.device i.output c.from_residual-in_err-carry_out-in-Out.result c.carry_out.new.outside
    (stop_faults c.from_residual-in_err-carry_out-in-Out.result c.in_err-carry_out-in-Out.field-0.0 (passage g.W.Output g.W.Outside c.steps.outside c.carry_out.new.outside) c.from_residual-in_err-carry_out-in-Out.ensures.1 c.in_err-carry_out-in-Out.ensures.faults)

pub returns-in_err-carry_out-in-Out-clause-keeps : goal.returns-in_err-carry_out-in-Out-clause-keeps
returns-in_err-carry_out-in-Out-clause-keeps g c =
    let i = c.steps.invariant in
    λ apart. keeps_on g.W.Output g.W.Outside c.args.outside.now c.steps.outside c.carry_out.new.outside (i.keeps apart) (c.carry_out.ensures.keeps apart)

pub commit-requires-clause-proper : goal.commit-requires-clause-proper
commit-requires-clause-proper g c =
    let i = c.steps.invariant in
    let work : Job = job g.K.Keeper c.args.keeper.now c.args.machine.now.code c.args.machine.now.relations (specs_of c.args.hosts.now.names) (turns_of c.args.machine.now) in
    let old = g.K.Keeper.database c.steps.keeper in
    let start = g.W.Output.emitted c.args.outside.now in
    let mid = g.W.Output.emitted c.steps.outside in
    let m = c.steps.machine in
    let n = c.advance.new.self in
    let ens = c.in_ok-advance.ensures in
    let reads : state_over c.base.result.now.state c.deltas.result.now ≡ old.state = ap (λ (b : Stored). state_over b.state c.deltas.result.now) c.base.ensures.base ∙ c.deltas.ensures.state i.kept_ready in
    let to = stepped work i.events m n (state_over c.base.result.now.state c.deltas.result.now) c.in_ok-advance.field-0 (events.Commit) i.at (reads ∙ ap (λ (x : Database). x.state) i.carried.kept) c.in-Commit.is (ens.tells i.at.works) ens.status ens.code ens.relations in
    let d = c.take_pending-delta.result in
    let waits : commit_over (state_after work.from.state i.events) n.waits n ≡ commits d (machine_over (apply_of (state_after work.from.state i.events) d) n) = ap (λ o. commit_over (state_after work.from.state i.events) o n) c.take_pending-delta.ensures.delta in
    let next = commits_next work i.events m n d to waits in
    proper_commit work i.events m d old.catalogue next (ap (λ (x : Database). x.catalogue) i.carried.kept) c.requires.proper

pub test-requires-clause-proper : goal.test-requires-clause-proper
test-requires-clause-proper g c =
    let i = c.steps.invariant in
    let work : Job = job g.K.Keeper c.args.keeper.now c.args.machine.now.code c.args.machine.now.relations (specs_of c.args.hosts.now.names) (turns_of c.args.machine.now) in
    let old = g.K.Keeper.database c.steps.keeper in
    let start = g.W.Output.emitted c.args.outside.now in
    let mid = g.W.Output.emitted c.steps.outside in
    let m = c.steps.machine in
    let n = c.advance.new.self in
    let ens = c.in_ok-advance.ensures in
    let reads : state_over c.base.result.now.state c.deltas.result.now ≡ old.state = ap (λ (b : Stored). state_over b.state c.deltas.result.now) c.base.ensures.base ∙ c.deltas.ensures.state i.kept_ready in
    let to = stepped work i.events m n (state_over c.base.result.now.state c.deltas.result.now) c.in_ok-advance.field-0 (events.Commit) i.at (reads ∙ ap (λ (x : Database). x.state) i.carried.kept) c.in-Commit.is (ens.tells i.at.works) ens.status ens.code ens.relations in
    let d = c.take_pending-delta.result in
    let waits : commit_over (state_after work.from.state i.events) n.waits n ≡ commits d (machine_over (apply_of (state_after work.from.state i.events) d) n) = ap (λ o. commit_over (state_after work.from.state i.events) o n) c.take_pending-delta.ensures.delta in
    let next = commits_next work i.events m n d to waits in
    proper_commit work i.events m d old.catalogue next (ap (λ (x : Database). x.catalogue) i.carried.kept) c.requires.proper

pub steps-preserved : goal.steps-preserved
steps-preserved g c =
    let i = c.steps.invariant in
    let work : Job = job g.K.Keeper c.args.keeper.now c.args.machine.now.code c.args.machine.now.relations (specs_of c.args.hosts.now.names) (turns_of c.args.machine.now) in
    let old = g.K.Keeper.database c.steps.keeper in
    let start = g.W.Output.emitted c.args.outside.now in
    let mid = g.W.Output.emitted c.steps.outside in
    let m = c.steps.machine in
    let n = c.advance.new.self in
    let ens = c.in_ok-advance.ensures in
    let reads : state_over c.base.result.now.state c.deltas.result.now ≡ old.state = ap (λ (b : Stored). state_over b.state c.deltas.result.now) c.base.ensures.base ∙ c.deltas.ensures.state i.kept_ready in
    let to = stepped work i.events m n (state_over c.base.result.now.state c.deltas.result.now) c.in_ok-advance.field-0 (events.Commit) i.at (reads ∙ ap (λ (x : Database). x.state) i.carried.kept) c.in-Commit.is (ens.tells i.at.works) ens.status ens.code ens.relations in
    let d = c.take_pending-delta.result in
    let waits : commit_over (state_after work.from.state i.events) n.waits n ≡ commits d (machine_over (apply_of (state_after work.from.state i.events) d) n) = ap (λ o. commit_over (state_after work.from.state i.events) o n) c.take_pending-delta.ensures.delta in
    let next = commits_next work i.events m n d to waits in
    let allowed = refusal_here work i.events d old (g.K.Keeper.refusal c.steps.keeper) None i.carried.kept i.carried.same (sym c.in-None.is ∙ c.in_ok-test-in-Commit.ensures.refusal) in
    let adds = adds_commit work i.events m d next i.carried.pass allowed in
    let number = c.in_ok-next-in-Commit.next in
    let count : number ≡ suc (stores i.events) = omega (arith, c.in_ok-next-in-Commit.ensures, i.count) in
    let done = c.in_ok-commit-in-None.ensures in
    let yes = done.fits in
    record {
      events = i.events ++ committing work i.events d;
      at = at_commit work i.events m n c.take_pending-delta.new.self d to waits c.take_pending-delta.ensures.taken;
      taken = ap (λ (x : Standing). x.waits) c.take_pending-delta.ensures.taken;
      kept_ready = done.ready;
      carried = carried_commit work.from work.gate work.refusal i.events old (g.K.Keeper.database c.commit.new.keeper) (g.K.Keeper.gate c.steps.keeper) (g.K.Keeper.gate c.commit.new.keeper) (g.K.Keeper.refusal c.steps.keeper) (g.K.Keeper.refusal c.commit.new.keeper) i.carried d _ done.kept done.gate yes allowed done.refusal;
      count = stores_commit i.events _ d _ _ number i.count c.in_ok-next-in-Commit.ensures;
      counted = counted_same _ _ c.take_pending-delta.new.self _ (ap (λ (x : State). apply_of x d) reads ∙ sym (ap (λ (x : Database). x.state) done.kept))
          (counted_commit _ _ n c.in_ok-advance.field-0 (ens.counted i.at.works) d c.take_pending-delta.new.self c.in-Commit.is c.take_pending-delta.ensures.delta c.take_pending-delta.ensures.taken);
      said = said_commit work i.events d number start mid _ count i.said done.whole;
      stood = λ told. done.stands told;
      found = λ told files s own. i.found told files s (done.finds told files s own);
      any_moment = λ told. leaves-on _ _ (i.any_moment told) (c.commit.ensures.any_moment told) (λ image cut. cut_commit work (g.K.Keeper.finds c.args.keeper.now (g.W.Outside.disk c.args.outside.now)) (g.K.Keeper.finds c.steps.keeper (g.W.Outside.disk c.steps.outside)) i.events m d number old start mid image adds i.carried.fit (ap (λ k. fits k d) (sym i.carried.ends) ∙ yes) i.carried.kept count i.said (i.found told) cut);
      device = done.faults.1 ∙ i.device;
      output = done.faults.0 ∙ i.output;
      keeps = λ apart. keeps_on g.W.Output g.W.Outside c.args.outside.now c.steps.outside c.commit.new.outside (i.keeps apart) (c.commit.ensures.keeps apart);
    }

pub returns-in_err-commit-in-None-clause-stopped : goal.returns-in_err-commit-in-None-clause-stopped
returns-in_err-commit-in-None-clause-stopped g c =
    let i = c.steps.invariant in
    let work : Job = job g.K.Keeper c.args.keeper.now c.args.machine.now.code c.args.machine.now.relations (specs_of c.args.hosts.now.names) (turns_of c.args.machine.now) in
    let old = g.K.Keeper.database c.steps.keeper in
    let start = g.W.Output.emitted c.args.outside.now in
    let mid = g.W.Output.emitted c.steps.outside in
    let m = c.steps.machine in
    let n = c.advance.new.self in
    let ens = c.in_ok-advance.ensures in
    let reads : state_over c.base.result.now.state c.deltas.result.now ≡ old.state = ap (λ (b : Stored). state_over b.state c.deltas.result.now) c.base.ensures.base ∙ c.deltas.ensures.state i.kept_ready in
    let to = stepped work i.events m n (state_over c.base.result.now.state c.deltas.result.now) c.in_ok-advance.field-0 (events.Commit) i.at (reads ∙ ap (λ (x : Database). x.state) i.carried.kept) c.in-Commit.is (ens.tells i.at.works) ens.status ens.code ens.relations in
    let d = c.take_pending-delta.result in
    let waits : commit_over (state_after work.from.state i.events) n.waits n ≡ commits d (machine_over (apply_of (state_after work.from.state i.events) d) n) = ap (λ o. commit_over (state_after work.from.state i.events) o n) c.take_pending-delta.ensures.delta in
    let next = commits_next work i.events m n d to waits in
    let allowed = refusal_here work i.events d old (g.K.Keeper.refusal c.steps.keeper) None i.carried.kept i.carried.same (sym c.in-None.is ∙ c.in_ok-test-in-Commit.ensures.refusal) in
    let adds = adds_commit work i.events m d next i.carried.pass allowed in
    let number = c.in_ok-next-in-Commit.next in
    let count : number ≡ suc (stores i.events) = omega (arith, c.in_ok-next-in-Commit.ensures, i.count) in
    err_is (λ stop. IsStopped work g.K.Keeper.apart start (g.W.Output.emitted c.commit.new.outside) (g.K.Keeper.database c.commit.new.keeper) (g.W.Outside.told → g.K.Keeper.stands (g.W.Outside.disk c.commit.new.outside) c.commit.new.keeper) stop) c.from_residual-in_err-commit-in-None.result c.in_err-commit-in-None.field-0.0 c.from_residual-in_err-commit-in-None.ensures.1 (record {
      part = ⊎_elim
          (λ (yes : fits (g.K.Keeper.gate c.steps.keeper) d ≡ true). part_commit work i.events m d number start mid _ adds i.carried.fit (ap (λ k. fits k d) (sym i.carried.ends) ∙ yes) count i.said c.in_err-commit-in-None.ensures.part)
          (λ (no : fits (g.K.Keeper.gate c.steps.keeper) d ≡ false). part_here work i.events m start _ i.at i.carried.pass i.carried.fit (subst (λ x. Appends start (g.W.Output.emitted x) (printed i.events)) (sym (c.commit.ensures.nothing_done no)) i.said))
          (true_or_false (fits (g.K.Keeper.gate c.steps.keeper) d));
      full = λ is.
          let no : fits (g.K.Keeper.gate c.steps.keeper) d ≡ false = c.commit.ensures.full (c.in_err-commit-in-None.was ∙ ap Err is) in (
            done_up_to work i.events (committing work i.events d) m (g.K.Keeper.database c.commit.new.keeper) start (g.W.Output.emitted c.commit.new.outside) adds i.carried.fit
                (ap not (ap (λ k. fits k d) (sym i.carried.ends) ∙ no))
                (c.commit.ensures.full_kept (c.in_err-commit-in-None.was ∙ ap Err is) ∙ i.carried.kept)
                (subst (λ x. Appends start (g.W.Output.emitted x) (printed i.events)) (sym (c.commit.ensures.nothing_done no)) i.said),
            λ told. c.commit.ensures.full_stands told (c.in_err-commit-in-None.was ∙ ap Err is),
          );
      spoken = c.in_err-commit-in-None.ensures.spoken;
    })

pub returns-in_err-commit-in-None-clause-any_moment : goal.returns-in_err-commit-in-None-clause-any_moment
returns-in_err-commit-in-None-clause-any_moment g c =
    let i = c.steps.invariant in
    let work : Job = job g.K.Keeper c.args.keeper.now c.args.machine.now.code c.args.machine.now.relations (specs_of c.args.hosts.now.names) (turns_of c.args.machine.now) in
    let old = g.K.Keeper.database c.steps.keeper in
    let start = g.W.Output.emitted c.args.outside.now in
    let mid = g.W.Output.emitted c.steps.outside in
    let m = c.steps.machine in
    let n = c.advance.new.self in
    let ens = c.in_ok-advance.ensures in
    let reads : state_over c.base.result.now.state c.deltas.result.now ≡ old.state = ap (λ (b : Stored). state_over b.state c.deltas.result.now) c.base.ensures.base ∙ c.deltas.ensures.state i.kept_ready in
    let to = stepped work i.events m n (state_over c.base.result.now.state c.deltas.result.now) c.in_ok-advance.field-0 (events.Commit) i.at (reads ∙ ap (λ (x : Database). x.state) i.carried.kept) c.in-Commit.is (ens.tells i.at.works) ens.status ens.code ens.relations in
    let d = c.take_pending-delta.result in
    let waits : commit_over (state_after work.from.state i.events) n.waits n ≡ commits d (machine_over (apply_of (state_after work.from.state i.events) d) n) = ap (λ o. commit_over (state_after work.from.state i.events) o n) c.take_pending-delta.ensures.delta in
    let next = commits_next work i.events m n d to waits in
    let allowed = refusal_here work i.events d old (g.K.Keeper.refusal c.steps.keeper) None i.carried.kept i.carried.same (sym c.in-None.is ∙ c.in_ok-test-in-Commit.ensures.refusal) in
    let adds = adds_commit work i.events m d next i.carried.pass allowed in
    let number = c.in_ok-next-in-Commit.next in
    let count : number ≡ suc (stores i.events) = omega (arith, c.in_ok-next-in-Commit.ensures, i.count) in
    λ told. ⊎_elim
    (λ (yes : fits (g.K.Keeper.gate c.steps.keeper) d ≡ true). leaves-on _ _ (i.any_moment told) (c.commit.ensures.any_moment told) (λ image cut. cut_commit work (g.K.Keeper.finds c.args.keeper.now (g.W.Outside.disk c.args.outside.now)) (g.K.Keeper.finds c.steps.keeper (g.W.Outside.disk c.steps.outside)) i.events m d number old start mid image adds i.carried.fit (ap (λ k. fits k d) (sym i.carried.ends) ∙ yes) i.carried.kept count i.said (i.found told) cut))
    (λ (no : fits (g.K.Keeper.gate c.steps.keeper) d ≡ false). subst (λ x. LeavesOnly g.W.Outside.moment g.W.Outside.left_since c.args.outside.now x (IsCodeCut (g.K.Keeper.finds c.args.keeper.now (g.W.Outside.disk c.args.outside.now)) work start)) (sym (c.commit.ensures.nothing_done no)) (i.any_moment told))
    (true_or_false (fits (g.K.Keeper.gate c.steps.keeper) d))

pub returns-in_err-commit-in-None-clause-faults : goal.returns-in_err-commit-in-None-clause-faults
returns-in_err-commit-in-None-clause-faults g c =
    let i = c.steps.invariant in
    faults_by g.W.Output g.W.Outside c.args.outside.now c.steps.outside i.device i.output c.from_residual-in_err-commit-in-None.result c.commit.new.outside
    (stop_faults c.from_residual-in_err-commit-in-None.result c.in_err-commit-in-None.field-0.0 (passage g.W.Output g.W.Outside c.steps.outside c.commit.new.outside) c.from_residual-in_err-commit-in-None.ensures.1 c.in_err-commit-in-None.ensures.faults)

pub returns-in_err-commit-in-None-clause-keeps : goal.returns-in_err-commit-in-None-clause-keeps
returns-in_err-commit-in-None-clause-keeps g c =
    let i = c.steps.invariant in
    λ apart. keeps_on g.W.Output g.W.Outside c.args.outside.now c.steps.outside c.commit.new.outside (i.keeps apart) (c.commit.ensures.keeps apart)

pub returns-in_err-carry_out-in-Some-clause-stopped : goal.returns-in_err-carry_out-in-Some-clause-stopped
returns-in_err-carry_out-in-Some-clause-stopped g c =
    let i = c.steps.invariant in
    let work : Job = job g.K.Keeper c.args.keeper.now c.args.machine.now.code c.args.machine.now.relations (specs_of c.args.hosts.now.names) (turns_of c.args.machine.now) in
    let old = g.K.Keeper.database c.steps.keeper in
    let start = g.W.Output.emitted c.args.outside.now in
    let mid = g.W.Output.emitted c.steps.outside in
    let m = c.steps.machine in
    let n = c.advance.new.self in
    let ens = c.in_ok-advance.ensures in
    let reads : state_over c.base.result.now.state c.deltas.result.now ≡ old.state = ap (λ (b : Stored). state_over b.state c.deltas.result.now) c.base.ensures.base ∙ c.deltas.ensures.state i.kept_ready in
    let to = stepped work i.events m n (state_over c.base.result.now.state c.deltas.result.now) c.in_ok-advance.field-0 (events.Commit) i.at (reads ∙ ap (λ (x : Database). x.state) i.carried.kept) c.in-Commit.is (ens.tells i.at.works) ens.status ens.code ens.relations in
    let d = c.take_pending-delta.result in
    let waits : commit_over (state_after work.from.state i.events) n.waits n ≡ commits d (machine_over (apply_of (state_after work.from.state i.events) d) n) = ap (λ o. commit_over (state_after work.from.state i.events) o n) c.take_pending-delta.ensures.delta in
    let next = commits_next work i.events m n d to waits in
    let line = c.in-Some.line in
    let refused = refusal_here work i.events d old (g.K.Keeper.refusal c.steps.keeper) (Some line) i.carried.kept i.carried.same (sym c.in-Some.is ∙ c.in_ok-test-in-Commit.ensures.refusal) in
    let adds = adds_refused work i.events m d line next i.carried.pass refused in
    err_is (λ stop. IsStopped work g.K.Keeper.apart start (g.W.Output.emitted c.carry_out-in-Some.new.outside) (g.K.Keeper.database c.carry_out-in-Some.new.keeper) (g.W.Outside.told → g.K.Keeper.stands (g.W.Outside.disk c.carry_out-in-Some.new.outside) c.carry_out-in-Some.new.keeper) stop) c.from_residual-in_err-carry_out-in-Some.result c.in_err-carry_out-in-Some.field-0.0 c.from_residual-in_err-carry_out-in-Some.ensures.1 (record {
      part = part_out work i.events m line start mid _ adds i.carried.fit i.said c.in_err-carry_out-in-Some.ensures.part;
      full = λ is. absurd (line_never_full (c.carry_out-in-Some.ensures.full (c.in_err-carry_out-in-Some.was ∙ ap Err is)));
      spoken = c.in_err-carry_out-in-Some.ensures.spoken;
    })

pub returns-in_err-carry_out-in-Some-clause-any_moment : goal.returns-in_err-carry_out-in-Some-clause-any_moment
returns-in_err-carry_out-in-Some-clause-any_moment g c =
    let i = c.steps.invariant in
    let work : Job = job g.K.Keeper c.args.keeper.now c.args.machine.now.code c.args.machine.now.relations (specs_of c.args.hosts.now.names) (turns_of c.args.machine.now) in
    let old = g.K.Keeper.database c.steps.keeper in
    let start = g.W.Output.emitted c.args.outside.now in
    let mid = g.W.Output.emitted c.steps.outside in
    let m = c.steps.machine in
    let n = c.advance.new.self in
    let ens = c.in_ok-advance.ensures in
    let reads : state_over c.base.result.now.state c.deltas.result.now ≡ old.state = ap (λ (b : Stored). state_over b.state c.deltas.result.now) c.base.ensures.base ∙ c.deltas.ensures.state i.kept_ready in
    let to = stepped work i.events m n (state_over c.base.result.now.state c.deltas.result.now) c.in_ok-advance.field-0 (events.Commit) i.at (reads ∙ ap (λ (x : Database). x.state) i.carried.kept) c.in-Commit.is (ens.tells i.at.works) ens.status ens.code ens.relations in
    let d = c.take_pending-delta.result in
    let waits : commit_over (state_after work.from.state i.events) n.waits n ≡ commits d (machine_over (apply_of (state_after work.from.state i.events) d) n) = ap (λ o. commit_over (state_after work.from.state i.events) o n) c.take_pending-delta.ensures.delta in
    let next = commits_next work i.events m n d to waits in
    let line = c.in-Some.line in
    let refused = refusal_here work i.events d old (g.K.Keeper.refusal c.steps.keeper) (Some line) i.carried.kept i.carried.same (sym c.in-Some.is ∙ c.in_ok-test-in-Commit.ensures.refusal) in
    let adds = adds_refused work i.events m d line next i.carried.pass refused in
    λ told. leaves-on _ _ (i.any_moment told) (c.carry_out-in-Some.ensures.any_moment told) (λ image cut. cut_next work (g.K.Keeper.finds c.args.keeper.now (g.W.Outside.disk c.args.outside.now)) (g.K.Keeper.finds c.steps.keeper (g.W.Outside.disk c.steps.outside)) i.events (out line ∷ []) m old start mid image adds i.carried.fit refl i.carried.kept i.said (i.found told) cut)

pub returns-in_err-carry_out-in-Some-clause-faults : goal.returns-in_err-carry_out-in-Some-clause-faults
returns-in_err-carry_out-in-Some-clause-faults g c =
    let i = c.steps.invariant in
    faults_by g.W.Output g.W.Outside c.args.outside.now c.steps.outside i.device i.output c.from_residual-in_err-carry_out-in-Some.result c.carry_out-in-Some.new.outside
    (stop_faults c.from_residual-in_err-carry_out-in-Some.result c.in_err-carry_out-in-Some.field-0.0 (passage g.W.Output g.W.Outside c.steps.outside c.carry_out-in-Some.new.outside) c.from_residual-in_err-carry_out-in-Some.ensures.1 c.in_err-carry_out-in-Some.ensures.faults)

pub returns-in_err-carry_out-in-Some-clause-keeps : goal.returns-in_err-carry_out-in-Some-clause-keeps
returns-in_err-carry_out-in-Some-clause-keeps g c =
    let i = c.steps.invariant in
    λ apart. keeps_on g.W.Output g.W.Outside c.args.outside.now c.steps.outside c.carry_out-in-Some.new.outside (i.keeps apart) (c.carry_out-in-Some.ensures.keeps apart)

pub returns-in-Some-clause-over : goal.returns-in-Some-clause-over
returns-in-Some-clause-over g c =
    let i = c.steps.invariant in
    let work : Job = job g.K.Keeper c.args.keeper.now c.args.machine.now.code c.args.machine.now.relations (specs_of c.args.hosts.now.names) (turns_of c.args.machine.now) in
    let old = g.K.Keeper.database c.steps.keeper in
    let start = g.W.Output.emitted c.args.outside.now in
    let mid = g.W.Output.emitted c.steps.outside in
    let m = c.steps.machine in
    let n = c.advance.new.self in
    let ens = c.in_ok-advance.ensures in
    let reads : state_over c.base.result.now.state c.deltas.result.now ≡ old.state = ap (λ (b : Stored). state_over b.state c.deltas.result.now) c.base.ensures.base ∙ c.deltas.ensures.state i.kept_ready in
    let to = stepped work i.events m n (state_over c.base.result.now.state c.deltas.result.now) c.in_ok-advance.field-0 (events.Commit) i.at (reads ∙ ap (λ (x : Database). x.state) i.carried.kept) c.in-Commit.is (ens.tells i.at.works) ens.status ens.code ens.relations in
    let d = c.take_pending-delta.result in
    let waits : commit_over (state_after work.from.state i.events) n.waits n ≡ commits d (machine_over (apply_of (state_after work.from.state i.events) d) n) = ap (λ o. commit_over (state_after work.from.state i.events) o n) c.take_pending-delta.ensures.delta in
    let next = commits_next work i.events m n d to waits in
    let line = c.in-Some.line in
    let refused = refusal_here work i.events d old (g.K.Keeper.refusal c.steps.keeper) (Some line) i.carried.kept i.carried.same (sym c.in-Some.is ∙ c.in_ok-test-in-Commit.ensures.refusal) in
    let adds = adds_refused work i.events m d line next i.carried.pass refused in
    refused_at work i.events m d line (g.K.Keeper.database c.carry_out-in-Some.new.keeper) start mid (g.W.Output.emitted c.carry_out-in-Some.new.outside) next i.carried.pass refused i.carried.fit (c.in_ok-carry_out-in-Some.ensures.kept ∙ i.carried.kept) i.said c.in_ok-carry_out-in-Some.ensures.whole

pub returns-in-Some-clause-any_moment : goal.returns-in-Some-clause-any_moment
returns-in-Some-clause-any_moment g c =
    let i = c.steps.invariant in
    let work : Job = job g.K.Keeper c.args.keeper.now c.args.machine.now.code c.args.machine.now.relations (specs_of c.args.hosts.now.names) (turns_of c.args.machine.now) in
    let old = g.K.Keeper.database c.steps.keeper in
    let start = g.W.Output.emitted c.args.outside.now in
    let mid = g.W.Output.emitted c.steps.outside in
    let m = c.steps.machine in
    let n = c.advance.new.self in
    let ens = c.in_ok-advance.ensures in
    let reads : state_over c.base.result.now.state c.deltas.result.now ≡ old.state = ap (λ (b : Stored). state_over b.state c.deltas.result.now) c.base.ensures.base ∙ c.deltas.ensures.state i.kept_ready in
    let to = stepped work i.events m n (state_over c.base.result.now.state c.deltas.result.now) c.in_ok-advance.field-0 (events.Commit) i.at (reads ∙ ap (λ (x : Database). x.state) i.carried.kept) c.in-Commit.is (ens.tells i.at.works) ens.status ens.code ens.relations in
    let d = c.take_pending-delta.result in
    let waits : commit_over (state_after work.from.state i.events) n.waits n ≡ commits d (machine_over (apply_of (state_after work.from.state i.events) d) n) = ap (λ o. commit_over (state_after work.from.state i.events) o n) c.take_pending-delta.ensures.delta in
    let next = commits_next work i.events m n d to waits in
    let line = c.in-Some.line in
    let refused = refusal_here work i.events d old (g.K.Keeper.refusal c.steps.keeper) (Some line) i.carried.kept i.carried.same (sym c.in-Some.is ∙ c.in_ok-test-in-Commit.ensures.refusal) in
    let adds = adds_refused work i.events m d line next i.carried.pass refused in
    λ told. leaves-on _ _ (i.any_moment told) (c.carry_out-in-Some.ensures.any_moment told) (λ image cut. cut_next work (g.K.Keeper.finds c.args.keeper.now (g.W.Outside.disk c.args.outside.now)) (g.K.Keeper.finds c.steps.keeper (g.W.Outside.disk c.steps.outside)) i.events (out line ∷ []) m old start mid image adds i.carried.fit refl i.carried.kept i.said (i.found told) cut)

pub returns-in-Some-clause-faults : goal.returns-in-Some-clause-faults
returns-in-Some-clause-faults g c =
    let i = c.steps.invariant in
    (c.in_ok-carry_out-in-Some.ensures.faults.0 ∙ i.output, c.in_ok-carry_out-in-Some.ensures.faults.1 ∙ i.device)

pub returns-in-Some-clause-keeps : goal.returns-in-Some-clause-keeps
returns-in-Some-clause-keeps g c =
    let i = c.steps.invariant in
    λ apart. keeps_on g.W.Output g.W.Outside c.args.outside.now c.steps.outside c.carry_out-in-Some.new.outside (i.keeps apart) (c.carry_out-in-Some.ensures.keeps apart)

pub returns-in_err-say_end-in-Ended-clause-stopped : goal.returns-in_err-say_end-in-Ended-clause-stopped
returns-in_err-say_end-in-Ended-clause-stopped g c =
    let i = c.steps.invariant in
    let work : Job = job g.K.Keeper c.args.keeper.now c.args.machine.now.code c.args.machine.now.relations (specs_of c.args.hosts.now.names) (turns_of c.args.machine.now) in
    let old = g.K.Keeper.database c.steps.keeper in
    let start = g.W.Output.emitted c.args.outside.now in
    let mid = g.W.Output.emitted c.steps.outside in
    let m = c.steps.machine in
    let n = c.advance.new.self in
    let ens = c.in_ok-advance.ensures in
    let reads : state_over c.base.result.now.state c.deltas.result.now ≡ old.state = ap (λ (b : Stored). state_over b.state c.deltas.result.now) c.base.ensures.base ∙ c.deltas.ensures.state i.kept_ready in
    let to = stepped work i.events m n (state_over c.base.result.now.state c.deltas.result.now) c.in_ok-advance.field-0 (events.Ended c.in-Ended.end) i.at (reads ∙ ap (λ (x : Database). x.state) i.carried.kept) c.in-Ended.is (ens.tells i.at.works) ens.status ens.code ens.relations in
    let adds = adds_end work i.events m n c.in-Ended.end to i.carried.pass in
    err_is (λ stop. IsStopped work g.K.Keeper.apart start (g.W.Output.emitted c.say_end.new.outside) (g.K.Keeper.database c.steps.keeper) (g.W.Outside.told → g.K.Keeper.stands (g.W.Outside.disk c.say_end.new.outside) c.steps.keeper) stop) c.from_residual-in_err-say_end-in-Ended.result c.in_err-say_end-in-Ended.field-0.0 c.from_residual-in_err-say_end-in-Ended.ensures.1 (record {
      part = part_next work i.events (ending_of c.in-Ended.end) m start mid _ adds i.carried.fit (ending_fits _ c.in-Ended.end) i.said c.in_err-say_end-in-Ended.ensures.part;
      full = λ is. absurd (subst IsSpoken is c.in_err-say_end-in-Ended.ensures.spoken);
      spoken = λ apart. c.in_err-say_end-in-Ended.ensures.spoken;
    })

pub returns-in_err-say_end-in-Ended-clause-any_moment : goal.returns-in_err-say_end-in-Ended-clause-any_moment
returns-in_err-say_end-in-Ended-clause-any_moment g c =
    let i = c.steps.invariant in
    let work : Job = job g.K.Keeper c.args.keeper.now c.args.machine.now.code c.args.machine.now.relations (specs_of c.args.hosts.now.names) (turns_of c.args.machine.now) in
    let old = g.K.Keeper.database c.steps.keeper in
    let start = g.W.Output.emitted c.args.outside.now in
    let mid = g.W.Output.emitted c.steps.outside in
    let m = c.steps.machine in
    let n = c.advance.new.self in
    let ens = c.in_ok-advance.ensures in
    let reads : state_over c.base.result.now.state c.deltas.result.now ≡ old.state = ap (λ (b : Stored). state_over b.state c.deltas.result.now) c.base.ensures.base ∙ c.deltas.ensures.state i.kept_ready in
    let to = stepped work i.events m n (state_over c.base.result.now.state c.deltas.result.now) c.in_ok-advance.field-0 (events.Ended c.in-Ended.end) i.at (reads ∙ ap (λ (x : Database). x.state) i.carried.kept) c.in-Ended.is (ens.tells i.at.works) ens.status ens.code ens.relations in
    let adds = adds_end work i.events m n c.in-Ended.end to i.carried.pass in
    λ told. leaves-on _ _ (i.any_moment told) (c.say_end.ensures.any_moment told) (λ image cut. cut_next work (g.K.Keeper.finds c.args.keeper.now (g.W.Outside.disk c.args.outside.now)) (g.K.Keeper.finds c.steps.keeper (g.W.Outside.disk c.steps.outside)) i.events (ending_of c.in-Ended.end) m old start mid image adds i.carried.fit (ending_fits _ c.in-Ended.end) i.carried.kept i.said (i.found told) cut)

pub returns-in_err-say_end-in-Ended-clause-faults : goal.returns-in_err-say_end-in-Ended-clause-faults
returns-in_err-say_end-in-Ended-clause-faults g c =
    let i = c.steps.invariant in
    faults_by g.W.Output g.W.Outside c.args.outside.now c.steps.outside i.device i.output c.from_residual-in_err-say_end-in-Ended.result c.say_end.new.outside
    (stop_faults c.from_residual-in_err-say_end-in-Ended.result c.in_err-say_end-in-Ended.field-0.0 (passage g.W.Output g.W.Outside c.steps.outside c.say_end.new.outside) c.from_residual-in_err-say_end-in-Ended.ensures.1 c.in_err-say_end-in-Ended.ensures.faults)

pub returns-in_err-say_end-in-Ended-clause-keeps : goal.returns-in_err-say_end-in-Ended-clause-keeps
returns-in_err-say_end-in-Ended-clause-keeps g c =
    let i = c.steps.invariant in
    λ apart. keeps_on g.W.Output g.W.Outside c.args.outside.now c.steps.outside c.say_end.new.outside (i.keeps apart) (c.say_end.ensures.keeps)

pub returns-in-Ended-clause-over : goal.returns-in-Ended-clause-over
returns-in-Ended-clause-over g c =
    let i = c.steps.invariant in
    let work : Job = job g.K.Keeper c.args.keeper.now c.args.machine.now.code c.args.machine.now.relations (specs_of c.args.hosts.now.names) (turns_of c.args.machine.now) in
    let old = g.K.Keeper.database c.steps.keeper in
    let start = g.W.Output.emitted c.args.outside.now in
    let mid = g.W.Output.emitted c.steps.outside in
    let m = c.steps.machine in
    let n = c.advance.new.self in
    let ens = c.in_ok-advance.ensures in
    let reads : state_over c.base.result.now.state c.deltas.result.now ≡ old.state = ap (λ (b : Stored). state_over b.state c.deltas.result.now) c.base.ensures.base ∙ c.deltas.ensures.state i.kept_ready in
    let to = stepped work i.events m n (state_over c.base.result.now.state c.deltas.result.now) c.in_ok-advance.field-0 (events.Ended c.in-Ended.end) i.at (reads ∙ ap (λ (x : Database). x.state) i.carried.kept) c.in-Ended.is (ens.tells i.at.works) ens.status ens.code ens.relations in
    let adds = adds_end work i.events m n c.in-Ended.end to i.carried.pass in
    all_done work i.events m n c.in-Ended.end old start mid _ to i.carried.pass i.carried.fit i.carried.kept i.said c.in_ok-say_end-in-Ended.ensures.whole

pub returns-in-Ended-clause-any_moment : goal.returns-in-Ended-clause-any_moment
returns-in-Ended-clause-any_moment g c =
    let i = c.steps.invariant in
    let work : Job = job g.K.Keeper c.args.keeper.now c.args.machine.now.code c.args.machine.now.relations (specs_of c.args.hosts.now.names) (turns_of c.args.machine.now) in
    let old = g.K.Keeper.database c.steps.keeper in
    let start = g.W.Output.emitted c.args.outside.now in
    let mid = g.W.Output.emitted c.steps.outside in
    let m = c.steps.machine in
    let n = c.advance.new.self in
    let ens = c.in_ok-advance.ensures in
    let reads : state_over c.base.result.now.state c.deltas.result.now ≡ old.state = ap (λ (b : Stored). state_over b.state c.deltas.result.now) c.base.ensures.base ∙ c.deltas.ensures.state i.kept_ready in
    let to = stepped work i.events m n (state_over c.base.result.now.state c.deltas.result.now) c.in_ok-advance.field-0 (events.Ended c.in-Ended.end) i.at (reads ∙ ap (λ (x : Database). x.state) i.carried.kept) c.in-Ended.is (ens.tells i.at.works) ens.status ens.code ens.relations in
    let adds = adds_end work i.events m n c.in-Ended.end to i.carried.pass in
    λ told. leaves-on _ _ (i.any_moment told) (c.say_end.ensures.any_moment told) (λ image cut. cut_next work (g.K.Keeper.finds c.args.keeper.now (g.W.Outside.disk c.args.outside.now)) (g.K.Keeper.finds c.steps.keeper (g.W.Outside.disk c.steps.outside)) i.events (ending_of c.in-Ended.end) m old start mid image adds i.carried.fit (ending_fits _ c.in-Ended.end) i.carried.kept i.said (i.found told) cut)

pub steps-smaller-in-Continue-branch-3 : goal.steps-smaller-in-Continue-branch-3
steps-smaller-in-Continue-branch-3 g c =
    comes_nearer c.args.machine.now.code c.steps.machine c.advance.new.self c.in_ok-advance.field-0 (events.Out c.in-Out.line) c.steps.invariant.at.code_is c.requires.forward c.in_ok-advance.ensures.less c.in-Out.is

pub steps-smaller : goal.steps-smaller
steps-smaller g c =
    let m = c.steps.machine in
    let n = c.advance.new.self in
    let lower : left (length c.args.machine.now.code.instrs) n.state < left (length c.args.machine.now.code.instrs) m.state =
    comes_nearer c.args.machine.now.code c.steps.machine c.advance.new.self c.in_ok-advance.field-0 (events.Commit) c.steps.invariant.at.code_is c.requires.forward c.in_ok-advance.ensures.less c.in-Commit.is in
    subst (λ (x : Standing). left (length c.args.machine.now.code.instrs) x.state < left (length c.args.machine.now.code.instrs) m.state) (sym c.take_pending-delta.ensures.taken) lower
