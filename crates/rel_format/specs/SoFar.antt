-- The bytes of the fields read so far, printed again.
use Rattle.std.specs.Prelude.{ℕ, suc, ◌+◌, List, [], ◌∷◌, ◌++◌, length}
use Rattle.std.specs.List.{flat_map}
use Rattle.std.specs.Int.{to_be_bytes, w16, w32}
use Rattle.hera_sets.specs.Rows.{Row}
use Rattle.hera_meaning.specs.declared.schemas.RelDecl.{RelDecl}
use Rattle.rel_format.specs.Pages.{Format, name_bytes, attr_bytes, decl_bytes, header_of, page_bytes, joined}
use Rattle.rel_format.specs.Table.{Stand, RelationSoFar, Book, Page, at_magic, at_count, at_rels, at_name, at_width, at_attr, at_attr_name, at_kind, at_page, at_row_count, at_row, at_fill}

-- the header up to these relations, with so many to come
abbrev pub rels_front : Format → List RelDecl → ℕ → List ℕ
rels_front f rels left = f.magic ++ to_be_bytes w16 (length rels + left) ++ flat_map decl_bytes rels

-- and up to these attributes of the next relation, which has so many
abbrev pub part_front : Format → RelationSoFar → ℕ → List ℕ
part_front f p width = rels_front f p.rels (suc p.left) ++ (name_bytes p.name ++ width ∷ flat_map attr_bytes p.attrs)

-- the pages of the relations from this number on
abbrev pub groups_bytes : ℕ → ℕ → List (List (List Row)) → List ℕ
groups_bytes page rel [] = []
groups_bytes page rel (pages ∷ more) = flat_map (page_bytes page rel) pages ++ groups_bytes page (suc rel) more

abbrev pub pages_counted : List (List (List Row)) → ℕ
pages_counted [] = 0
pages_counted (pages ∷ more) = length pages + pages_counted more

-- the pages so far, with so many to come
abbrev pub book_front : Format → Book → ℕ → List ℕ
book_front f b left = header_of f b.rels ++ to_be_bytes w32 (pages_counted b.pages + left) ++ groups_bytes f.page 0 b.pages

-- and up to the rows of the next page, with so many rows to come
abbrev pub open_page : Format → Book → ℕ → Page → ℕ → List ℕ
open_page f b left p more = book_front f b (suc left) ++ (to_be_bytes w16 p.rel ++ to_be_bytes w16 (length p.rows + more) ++ joined p.rows)

abbrev pub so_far : Format → Stand → List ℕ
so_far f at_magic = []
so_far f at_count = f.magic
so_far f (at_rels rels left) = rels_front f rels left
so_far f (at_name rels left n) = rels_front f rels (suc left) ++ n ∷ []
so_far f (at_width rels left name) = rels_front f rels (suc left) ++ name_bytes name
so_far f (at_attr p more) = part_front f p (length p.attrs + suc more)
so_far f (at_attr_name p more n) = part_front f p (length p.attrs + suc more) ++ n ∷ []
so_far f (at_kind p more name) = part_front f p (length p.attrs + suc more) ++ name_bytes name
so_far f (at_page b left) = book_front f b left
so_far f (at_row_count b left rel) = book_front f b (suc left) ++ to_be_bytes w16 rel
so_far f (at_row b left p more) = open_page f b left p (suc more)
so_far f (at_fill b left p) = open_page f b left p 0
