use Rattle.std.proofs.Common.{List, ◌++◌, sym, subst, inr}
use Rattle.std.proofs.Math.ListN.{drop_of_length-le}
use Rattle.std.proofs.lemmas.Result.{err_from_is_err_and}
use Rattle.std.proofs.lemmas.List.Elements.{All-nil, All-push}
use Rattle.hera_guard.specs.declared.table.Guard.{Guard}
use Rattle.hera_guard.specs.Guards.{IsGuard, AreGuards}
use Rattle.hera_guard_lines.specs.declared.lines.GuardLine.{GuardLine}
use Rattle.hera_guard_lines.specs.Naming.{Mean, FirstFault}
use Rattle.hera_guard_lines.proofs.Named.{item_here, mean_more, fault_more, fault_here, mean_end}
use Rattle.hera_guard_lines.proofs.naming.guards_of.Goals as goal

pub loop-line-init : goal.loop-line-init
loop-line-init g c =
    let rels = c.args.catalogue.now in
    let hosts = c.args.hosts.now.names in
    record {
      mean = λ more m. subst (λ (t : List Guard). Mean rels hosts c.items-items.result.now (t ++ more)) (sym c.new-table.ensures) m;
      fault = λ f h. h;
      are = subst (λ (t : List Guard). AreGuards rels hosts t) (sym c.new-table.ensures) (All-nil (IsGuard rels hosts));
    }

pub returns-in_err-guard-clause-refused : goal.returns-in_err-guard-clause-refused
returns-in_err-guard-clause-refused g c =
    let rels = c.args.catalogue.now in
    let hosts = c.args.hosts.now.names in
    let p = err_from_is_err_and c.from_residual.result c.from_residual.ensures.1 in
    let item = item_here c.items-items.result.now c.loop-line.line-index c.line-item.result c.loop-line-test.true c.line-item.is in
    rw (p.1, p.2) (inr (subst (λ (ls : List GuardLine). FirstFault rels hosts ls c.in_err-guard.field-0.0) c.items-items.ensures (fault_here rels hosts c.items-items.result.now _ _ c.line-item.result c.in_err-guard.field-0.0 item c.in_err-guard.ensures.faulty c.loop-line.invariant.fault)))

pub loop-line-preserved : goal.loop-line-preserved
loop-line-preserved g c =
    let rels = c.args.catalogue.now in
    let hosts = c.args.hosts.now.names in
    let item = item_here c.items-items.result.now c.loop-line.line-index c.line-item.result c.loop-line-test.true c.line-item.is in
    record {
      mean = mean_more rels hosts c.items-items.result.now _ _ c.line-item.result c.loop-line.table c.add.new.self c.in_ok-guard.guard item c.in_ok-guard.ensures.means c.in_ok-add.ensures.added c.loop-line.invariant.mean;
      fault = fault_more rels hosts c.items-items.result.now _ _ c.line-item.result c.in_ok-guard.guard item c.in_ok-guard.ensures.means c.loop-line.invariant.fault;
      are = subst (λ (t : List Guard). AreGuards rels hosts t) (sym c.in_ok-add.ensures.added) (All-push (IsGuard rels hosts) c.loop-line.table c.in_ok-guard.guard c.loop-line.invariant.are c.in_ok-guard.ensures.suits);
    }

pub returns-clause-mean : goal.returns-clause-mean
returns-clause-mean g c =
    let rels = c.args.catalogue.now in
    let hosts = c.args.hosts.now.names in
    subst (λ (ls : List GuardLine). Mean rels hosts ls c.loop-line.table) c.items-items.ensures
    (mean_end rels hosts c.items-items.result.now _ c.loop-line.table (drop_of_length-le c.items-items.result.now c.loop-line-test.false) c.loop-line.invariant.mean)
