-- The fields of a half before its journal, one after another: how many bytes the next one has, and what comes behind it.
use Rattle.std.specs.Prelude.{ℕ, zero, suc, ◌-◌, ◌==◌, Bool, true, false, cond, List, [], ◌∷◌, ◌++◌, Option, None, Some, length, map}
use Rattle.std.specs.Int.{w32}
use Rattle.hera_sets.specs.Rows.{Row}
use Rattle.hera_meaning.specs.declared.schemas.Attr.{Attr}
use Rattle.hera_meaning.specs.declared.schemas.RelDecl.{RelDecl}
use Rattle.hera_meaning.specs.Schemas.{names_of}
use Rattle.hera_meaning.specs.Catalogues.{decl_name}
use Rattle.hera_meaning.specs.Deltas.{schema_of}
use Rattle.rel_format.specs.Pages.{Format, used_by}
use Rattle.rel_format.specs.Fields.{PageEnd, number, count_field, length_field, width_field, kind_field, magic_field, new_name, rel_field, row_count_field, row_field, fill_field}

-- a relation of which the name and some attributes are read
pub record RelationSoFar : Type 0 where
  -- the relations before it, and how many come behind it
  pub rels : List RelDecl
  pub left : ℕ
  pub name : List ℕ
  -- its attributes so far
  pub attrs : List Attr

-- the whole pages so far
pub record Book : Type 0 where
  pub rels : List RelDecl
  -- for each relation the rows of each of its pages
  pub pages : List (List (List Row))
  -- the end of the previous page
  pub last : Option PageEnd

-- a page: its relation and its rows so far
pub record Page : Type 0 where
  pub rel : ℕ
  pub rows : List Row

-- what was read, and with it which field comes next
pub data Stand : Type 0 where
  at_magic : Stand
  at_count : Stand
  -- the name's length of the first of so many relations, or the page count
  at_rels : List RelDecl → ℕ → Stand
  -- a name of this length, and so many relations behind its own
  at_name : List RelDecl → ℕ → ℕ → Stand
  -- the number of attributes of the relation of this name
  at_width : List RelDecl → ℕ → List ℕ → Stand
  -- an attribute, and so many behind it: its name's length, its name, its kind
  at_attr : RelationSoFar → ℕ → Stand
  at_attr_name : RelationSoFar → ℕ → ℕ → Stand
  at_kind : RelationSoFar → ℕ → List ℕ → Stand
  -- the relation of the first of so many pages, or the first gate
  at_page : Book → ℕ → Stand
  -- the row count of a page of this relation, and so many pages behind it
  at_row_count : Book → ℕ → ℕ → Stand
  -- a row of the page that has these rows, and so many rows behind it
  at_row : Book → ℕ → Page → ℕ → Stand
  -- the fill of a page
  at_fill : Book → ℕ → Page → Stand

-- behind an attribute, with so many to come
abbrev pub behind_attr : RelationSoFar → ℕ → Stand
behind_attr p zero = at_rels (p.rels ++ record { name = p.name; schema = p.attrs } ∷ []) p.left
behind_attr p (suc n) = at_attr p n

abbrev pub with_attr : RelationSoFar → Attr → RelationSoFar
with_attr p a = record p { attrs = p.attrs ++ a ∷ [] }

abbrev pub with_attrs : RelationSoFar → List Attr → RelationSoFar
with_attrs p attrs = record p { attrs = attrs }

-- ---- pages

-- no relation has pages
abbrev pub no_pages : List RelDecl → Book
no_pages rels = record { rels = rels; pages = map (λ d. []) rels; last = None }

-- a page behind the others of its relation
abbrev pub add_page : List (List (List Row)) → ℕ → List Row → List (List (List Row))
add_page [] rel rows = []
add_page (pages ∷ more) zero rows = (pages ++ rows ∷ []) ∷ more
add_page (pages ∷ more) (suc rel) rows = pages ∷ add_page more rel rows

-- the last row of a page
abbrev pub last_row : List Row → Row
last_row [] = []
last_row (r ∷ []) = r
last_row (r ∷ s ∷ rows) = last_row (s ∷ rows)

abbrev pub end_of_page : Page → PageEnd
end_of_page p = record { rel = p.rel; used = used_by p.rows; row = last_row p.rows }

abbrev pub with_page : Book → Page → Book
with_page b p = record { rels = b.rels; pages = add_page b.pages p.rel p.rows; last = Some (end_of_page p) }

abbrev pub with_row_in : Page → Row → Page
with_row_in p r = record p { rows = p.rows ++ r ∷ [] }

-- the page before, where it has the same relation
abbrev pub page_before : Option PageEnd → ℕ → Option PageEnd
page_before None rel = None
page_before (Some e) rel = cond (e.rel == rel) (Some e) None

-- the row before, in this page or in the page before
abbrev pub row_before : List Row → Option PageEnd → Option Row
row_before [] None = None
row_before [] (Some e) = Some e.row
row_before (r ∷ rows) before = Some (last_row (r ∷ rows))

-- the bytes used in the page before, where the page has no row yet
abbrev pub used_before : List Row → Option PageEnd → Option ℕ
used_before [] (Some e) = Some e.used
used_before _ _ = None

-- behind a row, with so many rows to come
abbrev pub behind_row : Book → ℕ → Page → ℕ → Stand
behind_row b left p zero = at_fill b left p
behind_row b left p (suc n) = at_row b left p n

abbrev pub row_in : Format → Book → Page → List ℕ → Option Row
row_in f b p bytes = row_field f.page (schema_of b.rels p.rel) (used_by p.rows) (row_before p.rows (page_before b.last p.rel)) (used_before p.rows (page_before b.last p.rel)) bytes

-- ---- the table

-- the pages are whole
abbrev pub is_whole : Stand → Bool
is_whole (at_page b zero) = true
is_whole _ = false

-- a field of so many bytes, and what comes behind it
abbrev pub field : {A : Type 0} → ℕ → (A → Stand) → Option A → Option (ℕ × Stand)
field n behind None = None
field n behind (Some x) = Some (n, behind x)

-- a field as long as its value
abbrev pub long_field : (List ℕ → Stand) → Option (List ℕ) → Option (ℕ × Stand)
long_field behind None = None
long_field behind (Some x) = Some (length x, behind x)

-- the field with which the bytes begin, where it keeps its rule and lies wholly in them
abbrev pub next : Format → Stand → List ℕ → Option (ℕ × Stand)
next f at_magic bytes = field 8 (λ m. at_count) (magic_field f.magic bytes)
next f at_count bytes = field 2 (at_rels []) (count_field bytes)
next f (at_rels rels zero) bytes = field 4 (at_page (no_pages rels)) (number w32 bytes)
next f (at_rels rels (suc left)) bytes = field 1 (at_name rels left) (length_field bytes)
next f (at_name rels left n) bytes = field n (at_width rels left) (new_name (map decl_name rels) n bytes)
next f (at_width rels left name) bytes = field 1 (behind_attr (record { rels = rels; left = left; name = name; attrs = [] })) (width_field bytes)
next f (at_attr p more) bytes = field 1 (at_attr_name p more) (length_field bytes)
next f (at_attr_name p more n) bytes = field n (at_kind p more) (new_name (names_of p.attrs) n bytes)
next f (at_kind p more name) bytes = field 1 (λ kind. behind_attr (with_attr p (record { name = name; kind = kind })) more) (kind_field bytes)
next f (at_page b zero) bytes = None
next f (at_page b (suc left)) bytes = field 2 (at_row_count b left) (rel_field (length b.rels) b.last bytes)
next f (at_row_count b left rel) bytes = field 2 (behind_row b left (record { rel = rel; rows = [] })) (row_count_field bytes)
next f (at_row b left p more) bytes = long_field (λ r. behind_row b left (with_row_in p r) more) (row_in f b p bytes)
next f (at_fill b left p) bytes = long_field (λ z. at_page (with_page b p) left) (fill_field (f.page - used_by p.rows) bytes)
