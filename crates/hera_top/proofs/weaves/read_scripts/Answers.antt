use Rattle.std.proofs.Common.{arith, sym, subst}
use Rattle.std.specs.Prelude.{slice_set}
use Rattle.hera_run.proofs.Results.{err_is}
use Rattle.hera_top.specs.Stopping.{AreStopped}
use Rattle.hera_top.specs.Sources.{seen_of}
use Rattle.hera_top.proofs.Weaving.{one_on, at_end, stops_at, short_at, later_at, later_end}
use Rattle.hera_top.proofs.weaves.read_scripts.Goals as goal

pub returns-in_err-program-clause-stopped : goal.returns-in_err-program-clause-stopped
returns-in_err-program-clause-stopped g c =
    err_is (AreStopped c.args.hosts.now.names (seen_of g.S.Source.left g.S.Source.faults c.args.sources.now.items) (seen_of g.S.Source.left g.S.Source.faults (slice_set c.loop-i.sources.items c.loop-i.i c.read_script.new.source))) c.from_residual.result c.in_err-program.field-0.0 c.from_residual.ensures.1
    (stops_at g.S.Source.left g.S.Source.faults c.args.hosts.now.names c.args.sources.now.items c.loop-i.i c.loop-i.sources.items c.loop-i.programs.items c.index_mut.result.now c.read_script.new.source c.in_err-program.field-0.0 c.loop-i.invariant.0 (omega (arith, c.loop-i-test.true, c.len-i-end.ensures)) c.index_mut.ensures.value c.in_err-program.ensures.stopped)

pub returns-in_err-program-clause-later : goal.returns-in_err-program-clause-later
returns-in_err-program-clause-later g c =
    later_at g.S.Source.left g.S.Source.faults c.args.hosts.now.names c.args.sources.now.items c.loop-i.i c.loop-i.sources.items c.loop-i.programs.items c.index_mut.result.now c.read_script.new.source c.loop-i.invariant.0 (omega (arith, c.loop-i-test.true, c.len-i-end.ensures)) c.index_mut.ensures.value c.read_script.ensures.later

pub returns-in_err-put-clause-stopped : goal.returns-in_err-put-clause-stopped
returns-in_err-put-clause-stopped g c =
    err_is (AreStopped c.args.hosts.now.names (seen_of g.S.Source.left g.S.Source.faults c.args.sources.now.items) (seen_of g.S.Source.left g.S.Source.faults (slice_set c.loop-i.sources.items c.loop-i.i c.read_script.new.source))) c.from_residual-in_err-put.result c.in_err-put.field-0.0 c.from_residual-in_err-put.ensures.1
    (subst (AreStopped c.args.hosts.now.names (seen_of g.S.Source.left g.S.Source.faults c.args.sources.now.items) (seen_of g.S.Source.left g.S.Source.faults (slice_set c.loop-i.sources.items c.loop-i.i c.read_script.new.source))) (sym c.in_err-put.ensures.short)
    (short_at g.S.Source.left g.S.Source.faults c.args.hosts.now.names c.args.sources.now.items c.loop-i.i c.loop-i.sources.items c.loop-i.programs.items c.index_mut.result.now c.read_script.new.source c.in_ok-program.program c.loop-i.invariant.0 (omega (arith, c.loop-i-test.true, c.len-i-end.ensures)) c.index_mut.ensures.value c.in_ok-program.ensures.read))

pub returns-in_err-put-clause-later : goal.returns-in_err-put-clause-later
returns-in_err-put-clause-later g c =
    later_at g.S.Source.left g.S.Source.faults c.args.hosts.now.names c.args.sources.now.items c.loop-i.i c.loop-i.sources.items c.loop-i.programs.items c.index_mut.result.now c.read_script.new.source c.loop-i.invariant.0 (omega (arith, c.loop-i-test.true, c.len-i-end.ensures)) c.index_mut.ensures.value c.read_script.ensures.later

pub loop-i-preserved : goal.loop-i-preserved
loop-i-preserved g c = (
  one_on g.S.Source.left g.S.Source.faults c.args.hosts.now.names c.args.sources.now.items c.loop-i.i c.loop-i.sources.items c.loop-i.programs.items c.put.new.items.items c.index_mut.result.now c.read_script.new.source c.in_ok-program.program c.loop-i.invariant.0 (omega (arith, c.loop-i-test.true, c.len-i-end.ensures)) c.index_mut.ensures.value c.in_ok-program.ensures.read c.in_ok-program.ensures.sound c.in_ok-put.ensures.put,
  λ none. absurd (omega (arith, c.loop-i-test.true, c.len-i-end.ensures, none)),
)

pub returns-clause-read : goal.returns-clause-read
returns-clause-read g c = at_end g.S.Source.left g.S.Source.faults c.args.hosts.now.names c.args.sources.now.items c.loop-i.i c.loop-i.sources.items c.loop-i.programs.items c.loop-i.invariant.0 (omega (arith, c.loop-i-test.false))

pub returns-clause-later : goal.returns-clause-later
returns-clause-later g c = later_end g.S.Source.left g.S.Source.faults c.args.hosts.now.names c.args.sources.now.items c.loop-i.i c.loop-i.sources.items c.loop-i.programs.items c.loop-i.invariant.0
