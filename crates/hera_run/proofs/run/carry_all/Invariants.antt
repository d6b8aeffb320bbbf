use Rattle.std.proofs.Common.{◌≡◌, ℕ, List, None, length}
use Rattle.std.specs.Io.KnownBytes.{Appends}
use Rattle.hera_meaning.specs.Deltas.{State}
use Rattle.hera_meaning.specs.Worlds.{Event}
use Rattle.hera_meaning.specs.Run.{printed}
use Rattle.hera_code.specs.Reached.{stores}
use Rattle.hera_host.specs.Tables.{specs_of}
use Rattle.hera_steps.specs.Descends.{left}
use Rattle.hera_machine.specs.Counted.{AreCountsOver}
use Rattle.hera_volume.specs.Time.{LeavesOnly}
use Rattle.hera_volume.specs.declared.file_id.FileId.{FileId}
use Rattle.hera_outcome.specs.Passages.{passage, KeepsFiles}
use Rattle.hera_run.specs.Running.{Job, job, turns_of, IsCodeCut}
use Rattle.hera_run.proofs.Steps.{IsAt, IsCarried}
use Rattle.hera_run.proofs.run.carry_all.Given as goal

abbrev pub invariant-steps : goal.invariant-steps
invariant-steps g l =
    let work : Job = job g.K.Keeper l.initial.keeper l.initial.machine.code l.initial.machine.relations (specs_of l.hosts.names) (turns_of l.initial.machine) in
    record {
      events : List Event;
      at : IsAt work events l.machine;
      taken : l.machine.waits ≡ None;
      kept_ready : g.K.Keeper.ready l.keeper;
      carried : IsCarried (g.K.Keeper.database l.initial.keeper) (g.K.Keeper.gate l.initial.keeper) (g.K.Keeper.refusal l.initial.keeper) events (g.K.Keeper.database l.keeper) (g.K.Keeper.gate l.keeper) (g.K.Keeper.refusal l.keeper);
      count : l.number ≡ stores events;
      counted : AreCountsOver (g.K.Keeper.database l.keeper).state l.machine l.counts;
      said : Appends (g.W.Output.emitted l.initial.outside) (g.W.Output.emitted l.outside) (printed events);
      stood : g.W.Outside.told → g.K.Keeper.stands (g.W.Outside.disk l.outside) l.keeper;
      found : g.W.Outside.told → (files : FileId → List ℕ) (s : State) → g.K.Keeper.finds l.keeper (g.W.Outside.disk l.outside) files s → g.K.Keeper.finds l.initial.keeper (g.W.Outside.disk l.initial.outside) files s;
      any_moment : g.W.Outside.told → LeavesOnly g.W.Outside.moment g.W.Outside.left_since l.initial.outside l.outside (IsCodeCut (g.K.Keeper.finds l.initial.keeper (g.W.Outside.disk l.initial.outside)) work (g.W.Output.emitted l.initial.outside));
      device : g.W.Outside.device_faults l.outside ≡ g.W.Outside.device_faults l.initial.outside;
      output : g.W.Output.output_faults l.outside ≡ g.W.Output.output_faults l.initial.outside;
      keeps : g.K.Keeper.apart → KeepsFiles (passage g.W.Output g.W.Outside l.initial.outside l.outside);
    }

abbrev pub decreases-steps : goal.decreases-steps
decreases-steps g l = left (length l.initial.machine.code.instrs) l.machine.state
