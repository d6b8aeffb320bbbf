use Rattle.std.proofs.Common.{◌≤◌, ◌+◌, length}
use Rattle.std.specs.List.{filter}
use Rattle.std.specs.Option.{option_copied}
use Rattle.hera_sets.specs.Rows.{is_past}
use Rattle.half_writer.specs.Paging.{Task, IsPaging}
use Rattle.half_writer.proofs.adding.add_pages.Given as goal

-- the pages so far, and the rows past the last one still to come
abbrev pub invariant-loop-row : goal.invariant-loop-row
invariant-loop-row g l =
    let rows = g.S.Sorted.rows l.rows in
    let task : Task = record { front = l.fn.bytes.items; first = l.before; rel = l.rel; all = rows } in
    record {
      paging : IsPaging task (filter (is_past (option_copied l.last)) rows) l.bytes.items l.page;
      before : l.page.before ≤ length l.bytes.items;
      room : l.head + length l.bytes.items ≤ l.limit;
    }

abbrev pub decreases-loop-row : goal.decreases-loop-row
decreases-loop-row g l = length (filter (is_past (option_copied l.last)) (g.S.Sorted.rows l.rows))
