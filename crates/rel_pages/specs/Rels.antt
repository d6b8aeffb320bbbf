-- The rows of one relation, read from its pages.
use Rattle.std.specs.Prelude.{◌≡◌, ◌≤◌, ℕ, zero, suc, ◌/◌, Bool, true, not, List, [], ◌∷◌, ◌++◌, Option, None, Some, length, take, drop, All}
use Rattle.std.specs.Int.{from_be_bytes, w16}
use Rattle.hera_sets.specs.Rows.{Row, IsAscending, is_below}
use Rattle.hera_meaning.specs.declared.schemas.Attr.{Attr}
use Rattle.hera_meaning.specs.Rows.{IsRow}
use Rattle.hera_row.specs.Reading.{row_len_of}
use Rattle.rel_format.specs.Pages.{page_head, rel_bytes}
use Rattle.rel_pages.specs.declared.page_rel.Bound.{Bound}
use Rattle.rel_pages.specs.declared.page_rel.Bound.TheVariants.{Any, Past, From}

-- the bytes of a row of this length, none where there is none
abbrev pub cut : Option ℕ → List ℕ → Row
cut None bytes = []
cut (Some n) bytes = take n bytes

-- the row with which the bytes begin
abbrev pub leading : List Attr → List ℕ → Row
leading schema bytes = cut (row_len_of schema bytes) bytes

-- so many rows, one behind another
abbrev pub rows_from : List Attr → ℕ → List ℕ → List Row
rows_from schema zero bytes = []
rows_from schema (suc n) bytes = leading schema bytes ∷ rows_from schema n (drop (length (leading schema bytes)) bytes)

abbrev pub rows_counted : List ℕ → ℕ
rows_counted page = from_be_bytes w16 (take 2 (drop 2 page))

abbrev pub page_rows : List Attr → List ℕ → List Row
page_rows schema bytes = rows_from schema (rows_counted bytes) (drop page_head bytes)

abbrev pub pages_rows : List Attr → ℕ → ℕ → List ℕ → List Row
pages_rows schema page zero bytes = []
pages_rows schema page (suc n) bytes = page_rows schema (take page bytes) ++ pages_rows schema page n (drop page bytes)

-- the rows of whole pages
abbrev pub rows_in : List Attr → ℕ → List ℕ → List Row
rows_in schema page bytes = pages_rows schema page (length bytes / page) bytes

-- so many rows stand in front
abbrev pub IsRun : List Attr → ℕ → List ℕ → Type 0
IsRun schema zero bytes = Unit {0}
IsRun schema (suc n) bytes = (len : ℕ) × (row_len_of schema bytes ≡ Some len) × IsRun schema n (drop len bytes)

-- a page's rows stand behind its head
pub record IsPage (schema : List Attr) (page : List ℕ) : Type 0 where
  pub head : page_head ≤ length page
  pub some : 1 ≤ rows_counted page
  pub run : IsRun schema (rows_counted page) (drop page_head page)

-- so many whole pages
abbrev pub ArePagesOf : List Attr → ℕ → ℕ → List ℕ → Type 0
ArePagesOf schema page zero bytes = Unit {0}
ArePagesOf schema page (suc n) bytes = (page ≤ length bytes) × IsPage schema (take page bytes) × ArePagesOf schema page n (drop page bytes)

-- the bytes are the pages of one relation with this schema
pub record IsPaged (schema : List Attr) (page : ℕ) (bytes : List ℕ) : Type 0 where
  pub sized : 1 ≤ page
  pub pages : ArePagesOf schema page (length bytes / page) bytes
  pub rel : ℕ
  pub ascending : IsAscending (rows_in schema page bytes)
  pub rows : All (IsRow schema) (rows_in schema page bytes)
  pub printed : bytes ≡ rel_bytes page rel (rows_in schema page bytes)

-- a row is one of those that are looked for
abbrev pub passes : Bound → Row → Bool
passes Any r = true
passes (Past b) r = is_below b.now r
passes (From b) r = not (is_below r b.now)
