-- The bytes of a half, printed.
use Rattle.std.specs.Prelude.{◌≤◌, All, ℕ, zero, suc, ◌+◌, ◌-◌, cond, nat_le, List, [], ◌∷◌, ◌++◌, length}
use Rattle.std.specs.List.{flat_map}
use Rattle.std.specs.Int.{to_be_bytes, w16, w32}
use Rattle.hera_sets.specs.Rows.{Row}
use Rattle.hera_meaning.specs.declared.scalars.Kind.{Kind}
use Rattle.hera_meaning.specs.declared.scalars.Kind.TheVariants.{Int as int_kind, Bool as bool_kind, Text as text_kind}
use Rattle.hera_meaning.specs.declared.schemas.Attr.{Attr}
use Rattle.hera_meaning.specs.declared.schemas.RelDecl.{RelDecl}
use Rattle.hera_meaning.specs.Deltas.{State}
use Rattle.rel_format.specs.declared.version.TheConstants.{PAGE_ONE, PAGE_TWO, PAGE_HEAD}

-- what sets the formats apart
pub record Format : Type 0 where
  pub magic : List ℕ
  pub page : ℕ

-- HERA0001, pages of 8,192 bytes
abbrev pub format_one : Format
format_one = record { magic = 72 ∷ 69 ∷ 82 ∷ 65 ∷ 48 ∷ 48 ∷ 48 ∷ 49 ∷ []; page = PAGE_ONE }

-- HERA0002, pages of 32,768 bytes
abbrev pub format_two : Format
format_two = record { magic = 72 ∷ 69 ∷ 82 ∷ 65 ∷ 48 ∷ 48 ∷ 48 ∷ 50 ∷ []; page = PAGE_TWO }

-- a name behind its length
abbrev pub name_bytes : List ℕ → List ℕ
name_bytes name = length name ∷ name

abbrev pub kind_byte : Kind → ℕ
kind_byte int_kind = 1
kind_byte bool_kind = 2
kind_byte text_kind = 3

abbrev pub attr_bytes : Attr → List ℕ
attr_bytes a = name_bytes a.name ++ kind_byte a.kind ∷ []

abbrev pub decl_bytes : RelDecl → List ℕ
decl_bytes d = name_bytes d.name ++ length d.schema ∷ flat_map attr_bytes d.schema

-- the header, before the page count
abbrev pub header_of : Format → List RelDecl → List ℕ
header_of f rels = f.magic ++ to_be_bytes w16 (length rels) ++ flat_map decl_bytes rels

-- ---- pages

-- the bytes of a page before its rows
abbrev pub page_head : ℕ
page_head = PAGE_HEAD

-- a row in front of the first page's
abbrev pub with_row : Row → List (List Row) → List (List Row)
with_row r [] = (r ∷ []) ∷ []
with_row r (rows ∷ pages) = (r ∷ rows) ∷ pages

-- the rows that come behind the bytes used in a page: those of them that the page takes, and the
-- rows of the pages behind it
abbrev pub fill_from : ℕ → ℕ → List Row → List (List Row)
fill_from page used [] = [] ∷ []
fill_from page used (r ∷ rows) = cond (nat_le (used + length r) page) (with_row r (fill_from page (used + length r) rows)) ([] ∷ with_row r (fill_from page (page_head + length r) rows))

-- the rows of each page of a relation: a row stands in the page before it where it fits
abbrev pub paged : ℕ → List Row → List (List Row)
paged page [] = []
paged page (r ∷ rows) = with_row r (fill_from page (page_head + length r) rows)

abbrev pub joined : List Row → List ℕ
joined rows = flat_map (λ r. r) rows

-- a page has room for the row
abbrev pub FitsIn : ℕ → Row → Type 0
FitsIn page r = page_head + length r ≤ page

-- a page has room for each of the rows
abbrev pub Fit : ℕ → State → Type 0
Fit page [] = Unit {0}
Fit page (rows ∷ state) = All (FitsIn page) rows × Fit page state

-- the bytes of a page with these rows before its fill
abbrev pub used_by : List Row → ℕ
used_by rows = page_head + length (joined rows)

abbrev pub zeros : ℕ → List ℕ
zeros zero = []
zeros (suc n) = 0 ∷ zeros n

abbrev pub page_bytes : ℕ → ℕ → List Row → List ℕ
page_bytes page rel rows = to_be_bytes w16 rel ++ to_be_bytes w16 (length rows) ++ joined rows ++ zeros (page - used_by rows)

-- the pages of the relation of this number
abbrev pub rel_bytes : ℕ → ℕ → List Row → List ℕ
rel_bytes page rel rows = flat_map (page_bytes page rel) (paged page rows)

-- the pages of the relations from this number on
abbrev pub rels_bytes : ℕ → ℕ → State → List ℕ
rels_bytes page rel [] = []
rels_bytes page rel (rows ∷ state) = rel_bytes page rel rows ++ rels_bytes page (suc rel) state

abbrev pub page_count : ℕ → State → ℕ
page_count page [] = 0
page_count page (rows ∷ state) = length (paged page rows) + page_count page state

abbrev pub pages_of : Format → List RelDecl → State → List ℕ
pages_of f rels state = header_of f rels ++ to_be_bytes w32 (page_count f.page state) ++ rels_bytes f.page 0 state

abbrev pub half_of : Format → List RelDecl → State → List ℕ
half_of f rels state = pages_of f rels state ++ 0 ∷ []
