-- Pages of a relation as they are written.
use Rattle.std.specs.Prelude.{◌≡◌, ℕ, ◌+◌, List, ◌++◌, length}
use Rattle.rel_format.specs.declared.version.TheConstants.{PAGE_TWO}
use Rattle.hera_sets.specs.Rows.{Row}
use Rattle.rel_format.specs.Pages.{joined, paged, rel_bytes}
use Rattle.half_writer.specs.declared.open_page.OpenPage.{OpenPage}
use Rattle.half_writer.specs.Written.{pages_size}

-- behind these bytes, with so many pages, come the rows of this relation
pub record Task : Type 0 where
  pub front : List ℕ
  pub first : ℕ
  pub rel : ℕ
  pub all : List Row

-- the bytes so far and the pages of the open page's rows and those still to come are all pages
pub record IsPaging (t : Task) (rest : List Row) (bytes : List ℕ) (page : OpenPage) : Type 0 where
  pub held : List Row
  pub rows : page.rows.items ≡ joined held
  pub count : page.count ≡ length held
  pub printed : bytes ++ rel_bytes PAGE_TWO t.rel (held ++ rest) ≡ t.front ++ rel_bytes PAGE_TWO t.rel t.all
  pub done : ℕ
  pub before : page.before ≡ t.first + done
  pub pages : done + length (paged PAGE_TWO (held ++ rest)) ≡ length (paged PAGE_TWO t.all)
  pub size : length bytes ≡ length t.front + pages_size PAGE_TWO done

-- the open page with a row more
pub record IsPut (page : OpenPage) (row : Row) (next : OpenPage) : Type 0 where
  pub rows : next.rows.items ≡ page.rows.items ++ row
  pub count : next.count ≡ page.count + 1
  pub before : next.before ≡ page.before
