use Rattle.std.specs.Prelude.{◌≤◌, ◌*◌}
use Rattle.rel_pages.proofs.Evens.{AreEven}
use Rattle.rel_pages.proofs.page_rel.one_width.Given as goal

abbrev pub invariant-loop-place : goal.invariant-loop-place
invariant-loop-place l = record {
  even : AreEven l.schema l.place l.width;
  small : l.width ≤ 8 * l.place;
}
