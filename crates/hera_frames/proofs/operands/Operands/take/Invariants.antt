use Rattle.std.proofs.Common.{◌≡◌, ◌≤◌, [], ◌-◌}
use Rattle.hera_code.specs.Machine.{taken}
use Rattle.hera_frames.specs.Items.{operands_at, reach}
use Rattle.hera_frames.proofs.operands.Operands.take.Given as goal

abbrev pub invariant-loop : goal.invariant-loop
invariant-loop l =
    let s = l.stored.state in
    record {
      taking : taken (l.n - l.counter) l.args (operands_at s l.changes.layers l.self.items) ≡ taken l.n [] (operands_at s l.changes.layers l.initial.self.items);
      within : reach l.self.items ≤ reach l.initial.self.items;
      spare : l.initial.self.spare ≤ l.self.spare;
    }
