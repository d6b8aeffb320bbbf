-- What the reader of pages keeps of them.
use Rattle.std.specs.Prelude.{◌≡◌, ℕ, ◌+◌, List, [], ◌∷◌, map}
use Rattle.hera_sets.specs.Rows.{Row}
use Rattle.hera_meaning.specs.declared.schemas.RelDecl.{RelDecl}
use Rattle.rel_format.specs.Pages.{used_by}
use Rattle.rel_format.specs.Fields.{PageEnd}
use Rattle.rel_format.specs.Table.{Book, Stand, at_page, behind_row, end_of_page, last_row, with_page}
use Rattle.rel_pages.specs.declared.fields.PageEnd.{PageEnd as CodeEnd}

abbrev pub told : CodeEnd → PageEnd
told e = record { rel = e.rel; used = e.used; row = e.row.now }

abbrev pub row_told : PageEnd → Row
row_told e = e.row

abbrev pub used_told : PageEnd → ℕ
used_told e = e.used

-- rows of a page were read: so many of its bytes are used, and this is the last row
pub record RowsTo (b : Book) (left rel : ℕ) (x : ℕ × Row) (more : ℕ) (t : Stand) : Type 0 where
  pub first : Row
  pub rest : List Row
  pub used : used_by (first ∷ rest) ≡ x.0
  pub last : last_row (first ∷ rest) ≡ x.1
  pub stand : t ≡ behind_row b left (record { rel = rel; rows = first ∷ rest }) more

-- a page with this end was read
pub record PageTo (b : Book) (left : ℕ) (e : CodeEnd) (t : Stand) : Type 0 where
  pub rows : List Row
  pub end : end_of_page (record { rel = e.rel; rows = rows }) ≡ told e
  pub stand : t ≡ at_page (with_page b (record { rel = e.rel; rows = rows })) left

-- the bytes of so many pages
abbrev pub pages_len : ℕ → List (List Row) → ℕ
pages_len page [] = 0
pages_len page (rows ∷ pages) = page + pages_len page pages

-- all pages of these relations were read, and this is how many bytes those of each have
pub record PagesTo (page : ℕ) (rels : List RelDecl) (lens : List ℕ) (t : Stand) : Type 0 where
  pub book : Book
  pub own : book.rels ≡ rels
  pub told : lens ≡ map (pages_len page) book.pages
  pub stand : t ≡ at_page book 0
