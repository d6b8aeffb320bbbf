use Rattle.std.specs.Prelude.{◌≡◌, ◌-◌}
use Rattle.std.specs.List.{find}
use Rattle.rel_pages.specs.Rels.{passes}
use Rattle.rel_pages.specs.Rels.{rows_from, IsRun}
use Rattle.rel_pages.proofs.page_rel.first_of.Given as goal

abbrev pub invariant-loop-place : goal.invariant-loop-place
invariant-loop-place l = record {
  run : IsRun l.schema (l.count - l.place) l.left;
  next : find (passes l.bound) (rows_from l.schema (l.count - l.before) l.bytes) ≡ find (passes l.bound) (rows_from l.schema (l.count - l.place) l.left);
}
