use Rattle.std.specs.Prelude.{◌≡◌, ◌≤◌, ◌-◌, length}
use Rattle.rel_format.specs.Pages.{Format}
use Rattle.rel_format.specs.Table.{at_rels}
use Rattle.rel_format.specs.Places.{Reaches}
use Rattle.rel_format.proofs.header.header_at.Given as goal

abbrev pub invariant-loop : goal.invariant-loop
invariant-loop l = record {
  within : l.at ≤ length l.bytes;
  count : length l.rels ≡ l.counter;
  read : (f : Format) → f.magic ≡ l.magic → Reaches f l.bytes l.at (at_rels l.rels (l.count - l.counter));
}
