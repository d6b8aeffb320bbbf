use Rattle.std.proofs.Common.{◌≤◌, ap, Err, sym, subst, List, ℕ, length}
use Rattle.hera_syntax.specs.Tokens.{script_limit}
use Rattle.hera_outcome.specs.Answers.{stop_of_script}
use Rattle.hera_run.proofs.Results.{err_is}
use Rattle.hera_top.specs.Sources.{seen, IsRead}
use Rattle.hera_top.specs.Stopping.{IsStopped}
use Rattle.hera_top.proofs.Reading.{missing_stopped, fault_stopped}
use Rattle.hera_top.proofs.weaves.read_script.Goals as goal

pub returns-in_err-script-clause-stopped : goal.returns-in_err-script-clause-stopped
returns-in_err-script-clause-stopped g c =
    let before = seen g.S.Source.left g.S.Source.faults c.args.source.now in
    let now = seen g.S.Source.left g.S.Source.faults c.read_source.new.source in
    err_is (IsStopped c.args.hosts.now.names before now) c.from_residual.result c.in_err-script.field-0.0 c.from_residual.ensures.1 (missing_stopped before now c.args.hosts.now.names _ c.in_err-script.ensures.missing)

pub read_program-requires : goal.read_program-requires
read_program-requires g c = subst (λ (l : List ℕ). length l ≤ script_limit) (sym c.deref.ensures.value) c.in_ok-script.ensures.whole.short

pub returns-in_err-program-clause-stopped : goal.returns-in_err-program-clause-stopped
returns-in_err-program-clause-stopped g c =
    let before = seen g.S.Source.left g.S.Source.faults c.args.source.now in
    let now = seen g.S.Source.left g.S.Source.faults c.read_source.new.source in
    let read = subst (λ (l : List ℕ). IsRead script_limit before now l) (sym c.deref.ensures.value) c.in_ok-script.ensures.whole.read in
    err_is (IsStopped c.args.hosts.now.names before now) c.from_residual-in_err-program.result (stop_of_script c.in_err-program.field-0.0) c.from_residual-in_err-program.ensures.1
    (fault_stopped before now c.args.hosts.now.names c.deref.result.now c.in_err-program.field-0.0 read (λ cause at is. c.in_err-program.ensures.refused cause at (ap Err is)))

pub returns-clause-read : goal.returns-clause-read
returns-clause-read g c =
    let before = seen g.S.Source.left g.S.Source.faults c.args.source.now in
    let now = seen g.S.Source.left g.S.Source.faults c.read_source.new.source in
    let whole = c.in_ok-script.ensures.whole in
    record {
      script = c.deref.result.now;
      read = subst (λ (l : List ℕ). IsRead script_limit before now l) (sym c.deref.ensures.value) whole.read;
      short = subst (λ (l : List ℕ). length l ≤ script_limit) (sym c.deref.ensures.value) whole.short;
      accepted = c.in_ok-program.ensures.accepted;
    }
