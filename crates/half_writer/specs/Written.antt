-- What contracts see of a writer of halves.
use Rattle.std.specs.Prelude.{◌≡◌, ◌≤◌, ◌<◌, ◌⊎◌, ℕ, zero, suc, ◌+◌, List, [], ◌∷◌, ◌++◌, length, All}
use Rattle.std.specs.Int.{to_be_bytes, w32}
use Rattle.hera_sets.specs.Rows.{Row}
use Rattle.hera_meaning.specs.declared.schemas.Attr.{Attr}
use Rattle.hera_meaning.specs.declared.schemas.RelDecl.{RelDecl}
use Rattle.hera_meaning.specs.Schemas.{IsSchema}
use Rattle.hera_meaning.specs.Rows.{IsRow}
use Rattle.hera_meaning.specs.Deltas.{State}
use Rattle.half_writer.specs.declared.pages.HalfFault.{HalfFault}
use Rattle.half_writer.specs.declared.pages.HalfFault.TheVariants.{Full, Memory}
use Rattle.rel_format.specs.Pages.{Format, paged, rel_bytes, rels_bytes, page_count, header_of}

-- the header before the page count, how many relations and pages were added, the bytes of the pages, and the most bytes of the half
pub record Written : Type 0 where
  pub header : List ℕ
  pub added : ℕ
  pub count : ℕ
  pub pages : List ℕ
  pub limit : ℕ

-- once relations with the rows of this state were added
abbrev pub written_of : Format → List RelDecl → ℕ → State → Written
written_of f rels limit state = record { header = header_of f rels; added = length state; count = page_count f.page state; pages = rels_bytes f.page 0 state; limit = limit }

-- with the pages of the next relation
abbrev pub with_rel : ℕ → Written → List Row → Written
with_rel page w rows = record w { added = w.added + 1; count = w.count + length (paged page rows); pages = w.pages ++ rel_bytes page w.added rows }

-- the bytes of the half with these pages and a closed gate
abbrev pub finished : Written → List ℕ
finished w = w.header ++ to_be_bytes w32 w.count ++ w.pages ++ 0 ∷ []

-- how many bytes the half needs
abbrev pub need_of : Written → ℕ
need_of w = length w.header + 5 + length w.pages

-- the rows are rows of some schema
pub record AreRows (rows : List Row) : Type 0 where
  pub schema : List Attr
  pub valid : IsSchema schema
  pub each : All (IsRow schema) rows

-- the bytes of so many pages
abbrev pub pages_size : ℕ → ℕ → ℕ
pages_size page zero = 0
pages_size page (suc k) = page + pages_size page k

-- the first need past the limit as so many pages are added
pub record IsFirstPast (page from count limit need : ℕ) : Type 0 where
  pub added : ℕ
  pub few : added ≤ count
  pub sum : need ≡ from + pages_size page added
  pub past : limit < need
  pub first : (added ≡ 0) ⊎ (need ≤ limit + page)

-- a want of room tells this need, which passes the limit
abbrev pub IsFullAt : ℕ → ℕ → HalfFault → Type 0
IsFullAt need limit (Full n l) = (n ≡ need) × (l ≡ limit) × (limit < need)
IsFullAt need limit Memory = Unit {0}

-- a want of room tells the first need past the limit
abbrev pub IsFirstFull : ℕ → ℕ → ℕ → ℕ → HalfFault → Type 0
IsFirstFull page from count limit (Full n l) = IsFirstPast page from count limit n × (l ≡ limit)
IsFirstFull page from count limit Memory = Unit {0}
