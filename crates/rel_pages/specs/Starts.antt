-- Where rows begin in the pages of a relation.
use Rattle.std.specs.Prelude.{◌≡◌, ◌≤◌, ◌<◌, ◌⊎◌, ℕ, zero, suc, ◌+◌, ◌-◌, ◌*◌, ◌/◌, List, [], ◌∷◌, ◌++◌, Option, None, Some, length, take, drop, All, Vec}
use Rattle.std.specs.Global.{Global}
use Rattle.std.specs.List.{slice_get}
use Rattle.hera_sets.specs.Rows.{Row}
use Rattle.hera_meaning.specs.declared.schemas.Attr.{Attr}
use Rattle.hera_meaning.specs.declared.schemas.RelDecl.{RelDecl}
use Rattle.rel_pages.specs.declared.parts.RelationPages.{RelationPages}
use Rattle.rel_pages.specs.declared.starts.ReadStart.{ReadStart}
use Rattle.rel_pages.specs.declared.starts.RowStart.{RowStart}
use Rattle.rel_pages.specs.Rels.{rows_counted, rows_from, page_rows, leading, IsRun}
use Rattle.rel_pages.specs.Parts.{part_bytes}

-- the page of a number
abbrev pub page_of : ℕ → List ℕ → ℕ → List ℕ
page_of page bytes number = take page (drop (number * page) bytes)

-- the bytes of a page from a row's beginning on
abbrev pub start_bytes : ℕ → List ℕ → RowStart → List ℕ
start_bytes page bytes s = drop s.at (page_of page bytes s.page)

-- how many rows of its page are not before it
abbrev pub rows_left : ℕ → List ℕ → RowStart → ℕ
rows_left page bytes s = rows_counted (page_of page bytes s.page) - s.row

-- the row that begins there
abbrev pub start_row : List Attr → ℕ → List ℕ → RowStart → Row
start_row schema page bytes s = leading schema (start_bytes page bytes s)

-- a row begins there: it and the rows behind it are the last rows of the page
pub record IsStart (schema : List Attr) (page : ℕ) (bytes : List ℕ) (s : RowStart) : Type 0 where
  pub there : s.page < length bytes / page
  pub within : s.at ≤ length (page_of page bytes s.page)
  pub row : s.row < rows_counted (page_of page bytes s.page)
  pub run : IsRun schema (rows_left page bytes s) (start_bytes page bytes s)
  pub before : List Row
  pub rows : page_rows schema (page_of page bytes s.page) ≡ before ++ rows_from schema (rows_left page bytes s) (start_bytes page bytes s)

-- what is there of what was looked for
abbrev pub listed : Option RowStart → List RowStart
listed None = []
listed (Some s) = s ∷ []

-- so many bytes have the first rows
abbrev pub passed : List Attr → ℕ → List ℕ → ℕ
passed schema zero bytes = 0
passed schema (suc n) bytes = length (leading schema bytes) + passed schema n (drop (length (leading schema bytes)) bytes)

-- so many bytes have the rows before the one that was read there
abbrev pub IsReadAt : List Attr → List ℕ → ReadStart → Type 0
IsReadAt schema bytes r = r.at ≡ passed schema r.row (drop r.rows bytes)

-- so it is for the schema of its relation
abbrev pub IsRead : List RelDecl → List ℕ → ReadStart → Type 0
IsRead rels bytes r = (d : RelDecl) → slice_get rels r.rel ≡ Some d → IsReadAt d.schema bytes r

-- a list as it was, or with one more
abbrev pub IsOneMore : List ReadStart → ReadStart → List ReadStart → Type 0
IsOneMore before r after = (after ≡ before) ⊎ (after ≡ before ++ r ∷ [])

-- behind these stand rows of this relation that were read
abbrev pub AreMoreRead : List Attr → ℕ → List ℕ → List ReadStart → List ReadStart → Type 0
AreMoreRead schema rel bytes before after = (more : List ReadStart) × (after ≡ before ++ more) × All (λ r. (r.rel ≡ rel) × IsReadAt schema bytes r) more

-- rows of the relation of this number begin at these
abbrev pub AreStartsOf : ℕ → List RelDecl → List RelationPages → List ℕ → ℕ → List RowStart → Type 0
AreStartsOf page rels parts bytes rel starts = (d : RelDecl) (p : RelationPages) → slice_get rels rel ≡ Some d → slice_get parts rel ≡ Some p → All (IsStart d.schema page (part_bytes bytes p)) starts

-- rows of each relation begin at those of its list
abbrev pub AreStarts : ℕ → List RelDecl → List RelationPages → List ℕ → List (Vec RowStart Global) → Type 0
AreStarts page rels parts bytes lists = (rel : ℕ) (starts : Vec RowStart Global) → slice_get lists rel ≡ Some starts → AreStartsOf page rels parts bytes rel starts.items
