use Rattle.std.specs.Prelude.{◌≡◌, ◌-◌}
use Rattle.std.specs.List.{find}
use Rattle.hera_sets.specs.Rows.{IsAscending}
use Rattle.rel_pages.specs.Rels.{passes}
use Rattle.rel_pages.specs.Rels.{pages_rows, ArePagesOf}
use Rattle.rel_pages.proofs.page_rel.first_in_pages.Given as goal

abbrev pub invariant-loop-number : goal.invariant-loop-number
invariant-loop-number l = record {
  pages : ArePagesOf l.schema l.page (l.count - l.number) l.left;
  ascending : IsAscending (pages_rows l.schema l.page (l.count - l.number) l.left);
  next : find (passes l.bound) (pages_rows l.schema l.page (l.count - l.before) l.pages) ≡ find (passes l.bound) (pages_rows l.schema l.page (l.count - l.number) l.left);
}
