use Rattle.std.specs.Prelude.{◌≡◌, ◌≤◌, ◌+◌, ◌-◌, ℕ, [], length, drop}
use Rattle.std.specs.Option.{option_map}
use Rattle.hera_meaning.specs.Deltas.{schema_of}
use Rattle.rel_format.specs.Pages.{Format}
use Rattle.rel_format.specs.Table.{Book, Stand, behind_row, page_before}
use Rattle.rel_format.specs.Places.{Reaches}
use Rattle.rel_pages.specs.Reading.{told, RowsTo}
use Rattle.rel_pages.specs.Starts.{passed, AreMoreRead}
use Rattle.rel_pages.proofs.pages.rows_at.Given as goal

abbrev pub invariant-loop-number : goal.invariant-loop-number
invariant-loop-number l = record {
  within : l.at ≤ length l.bytes;
  used : l.used ≤ l.page;
  place : l.at + 4 ≡ l.fn.at + l.used;
  passed : l.at ≡ l.fn.at + passed l.schema l.number (drop l.fn.at l.bytes);
  more : AreMoreRead l.schema l.head.rel l.bytes l.fn.starts.items l.starts.items;
  read : (f : Format) (b : Book) (left rel : ℕ) → f.page ≡ l.page → schema_of b.rels rel ≡ l.schema → page_before b.last rel ≡ option_map told l.head.earlier → Reaches f l.bytes l.fn.at (behind_row b left (record { rel = rel; rows = [] }) l.head.count) →
      (t : Stand) × RowsTo b left rel (l.used, l.last) (l.head.count - l.number) t × Reaches f l.bytes l.at t;
}
