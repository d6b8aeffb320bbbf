use Rattle.std.specs.Prelude.{◌≡◌, ◌+◌, ◌-◌, length}
use Rattle.rel_pages.specs.Rels.{pages_rows, ArePagesOf}
use Rattle.rel_pages.proofs.page_rel.count_in_pages.Given as goal

-- the rows counted and those of the pages left are all rows
abbrev pub invariant-loop : goal.invariant-loop
invariant-loop l = record {
  pages : ArePagesOf l.schema l.page (l.count - l.counter) l.rest;
  sum : l.rows + length (pages_rows l.schema l.page (l.count - l.counter) l.rest) ≡ length (pages_rows l.schema l.page l.count l.pages);
}
