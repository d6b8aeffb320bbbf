use Rattle.std.proofs.Common.{◌≡◌, [], None}
use Rattle.hera_machine.specs.Counted.{AreCountsOver}
use Rattle.hera_machine.specs.Over.{state_over}
use Rattle.hera_machine.specs.declared.events.Status.TheVariants.{Working}
use Rattle.machine_trials.proofs.machine.printed.Given as goal

abbrev pub invariant-steps : goal.invariant-steps
invariant-steps g l = record {
  waits : l.machine.waits ≡ None;
  works : l.machine.status ≡ Working;
  counted : AreCountsOver (state_over l.base.state []) l.machine l.counts;
}
