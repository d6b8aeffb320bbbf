use Rattle.std.proofs.Common.{◌≡◌, ◌≤◌, ◌+◌, ◌*◌, ◌^◌, drop}
use Rattle.delta_atoms.proofs.Sides.{total}
use Rattle.delta_atoms.proofs.parts.count.Given as goal

-- what is counted, and what is to come
abbrev pub invariant-loop-part : goal.invariant-loop-part
invariant-loop-part l = record {
  counted : l.count + total (drop l.part-index l.parts) ≡ total l.parts;
  small : l.count ≤ 2 ^ 65 * l.part-index;
}
