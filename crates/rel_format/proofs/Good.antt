-- Pages that keep the rules: what holds of them wherever reading comes.
use Rattle.std.proofs.Common.{◌≡◌, ◌≢◌, ◌≤◌, ◌<◌, ℕ, zero, suc, ◌+◌, Bool, true, false, cond, ◌==◌, ◌&&◌, List, [], ◌∷◌, ◌++◌, length, map, Option, Some, None, All, refl, sym, ap, subst, ◌∙◌, append_assoc, arith}
use Rattle.std.specs.Prelude.{nat_le}
use Rattle.std.proofs.lemmas.Bool.{eqb-true, leb-true, ltb-true, and_parts, both_ways, eq-eqb}
use Rattle.std.proofs.lemmas.List.{length-append, append-nil}
use Rattle.std.proofs.lemmas.List.Concat.{flat_map-append}
use Rattle.std.proofs.lemmas.List.Elements.{All-push}
use Rattle.hera_sets.specs.Rows.{Row, is_below, is_past, IsAscending}
use Rattle.hera_sets.proofs.Lists.{all_below_trans}
use Rattle.hera_meaning.specs.declared.schemas.Attr.{Attr}
use Rattle.hera_meaning.specs.declared.schemas.RelDecl.{RelDecl}
use Rattle.hera_meaning.specs.Rows.{IsRow}
use Rattle.hera_meaning.specs.Deltas.{schema_of}
use Rattle.rel_format.specs.Pages.{Format, page_head, joined, used_by}
use Rattle.rel_format.specs.Fields.{PageEnd, follows, row_keeps, had_no_room}
use Rattle.rel_format.specs.Table.{Book, Page, no_pages, add_page, last_row, with_page, with_row_in, page_before, row_before, used_before}
use Rattle.rel_format.specs.Greedy.{all_rows, Follow, ArePages}

-- ---- rows at the end of ascending rows

abbrev pub last_in : List Row → Option Row
last_in [] = None
last_in (x ∷ []) = Some x
last_in (x ∷ y ∷ ys) = last_in (y ∷ ys)

pub ascending_push : (xs : List Row) (r : Row) → IsAscending xs → is_past (last_in xs) r ≡ true → IsAscending (xs ++ r ∷ [])
ascending_push [] r up below = (tt, tt)
ascending_push (x ∷ []) r up below = ((below, tt), (tt, tt))
ascending_push (x ∷ y ∷ ys) r up below = let more = ascending_push (y ∷ ys) r up.1 below in ((up.0.0, all_below_trans x y (ys ++ r ∷ []) up.0.0 more.0), more)

last_of_rows : (q : Row) (qs : List Row) → last_in (q ∷ qs) ≡ Some (last_row (q ∷ qs))
last_of_rows q [] = refl
last_of_rows q (r ∷ qs) = last_of_rows r qs

pub last_in_behind : (xs : List Row) (q : Row) (qs : List Row) → last_in (xs ++ q ∷ qs) ≡ Some (last_row (q ∷ qs))
last_in_behind [] q qs = last_of_rows q qs
last_in_behind (x ∷ []) q qs = last_of_rows q qs
last_in_behind (x ∷ y ∷ xs) q qs = last_in_behind (y ∷ xs) q qs

pub all_rows-push : (g : List (List Row)) (rows : List Row) → all_rows (g ++ rows ∷ []) ≡ all_rows g ++ rows
all_rows-push g rows = flat_map-append (λ (p : List Row). p) g (rows ∷ []) ∙ ap (λ (t : List Row). all_rows g ++ t) (append-nil rows)

pub joined-push : (rows : List Row) (r : Row) → joined (rows ++ r ∷ []) ≡ joined rows ++ r
joined-push rows r = flat_map-append (λ (p : Row). p) rows (r ∷ []) ∙ ap (λ (t : List ℕ). joined rows ++ t) (append-nil r)

pub used-push : (rows : List Row) (r : Row) → used_by (rows ++ r ∷ []) ≡ used_by rows + length r
used-push rows r = let same = ap (λ (t : List ℕ). length t) (joined-push rows r) in omega (arith, same, length-append (joined rows) r)

-- ---- the pages of one relation

-- a row more in the last page
follow_grow : (page used : ℕ) (g : List (List Row)) (q : Row) (qs : List Row) (r : Row) → used_by (q ∷ qs) + length r ≤ page → Follow page used (g ++ (q ∷ qs) ∷ []) → Follow page used (g ++ (q ∷ (qs ++ r ∷ [])) ∷ [])
follow_grow page used [] q qs r fits h = (h.0, let size = used-push (q ∷ qs) r in omega (arith, size, fits), tt)
follow_grow page used ([] ∷ g) q qs r fits h = absurd h
follow_grow page used ((x ∷ xs) ∷ g) q qs r fits h = (h.0, h.1, follow_grow page (page_head + length (joined (x ∷ xs))) g q qs r fits h.2)

pages_grow : (page : ℕ) (g : List (List Row)) (q : Row) (qs : List Row) (r : Row) → used_by (q ∷ qs) + length r ≤ page → ArePages page (g ++ (q ∷ qs) ∷ []) → ArePages page (g ++ (q ∷ (qs ++ r ∷ [])) ∷ [])
pages_grow page [] q qs r fits h = (let size = used-push (q ∷ qs) r in omega (arith, size, fits), tt)
pages_grow page ([] ∷ g) q qs r fits h = absurd h
pages_grow page ((x ∷ xs) ∷ g) q qs r fits h = (h.0, follow_grow page (page_head + length (joined (x ∷ xs))) g q qs r fits h.1)

-- a page behind the last one, which had no room for its row
follow_start : (page used : ℕ) (g : List (List Row)) (q : Row) (qs : List Row) (r : Row) → page < used_by (q ∷ qs) + length r → page_head + length r ≤ page → Follow page used (g ++ (q ∷ qs) ∷ []) → Follow page used ((g ++ (q ∷ qs) ∷ []) ++ (r ∷ []) ∷ [])
follow_start page used [] q qs r over fits h = (h.0, h.1, (over, omega (arith, length-append r [], fits), tt))
follow_start page used ([] ∷ g) q qs r over fits h = absurd h
follow_start page used ((x ∷ xs) ∷ g) q qs r over fits h = (h.0, h.1, follow_start page (page_head + length (joined (x ∷ xs))) g q qs r over fits h.2)

pages_start : (page : ℕ) (g : List (List Row)) (q : Row) (qs : List Row) (r : Row) → page < used_by (q ∷ qs) + length r → page_head + length r ≤ page → ArePages page (g ++ (q ∷ qs) ∷ []) → ArePages page ((g ++ (q ∷ qs) ∷ []) ++ (r ∷ []) ∷ [])
pages_start page [] q qs r over fits h = (h.0, (over, omega (arith, length-append r [], fits), tt))
pages_start page ([] ∷ g) q qs r over fits h = absurd h
pages_start page ((x ∷ xs) ∷ g) q qs r over fits h = (h.0, follow_start page (page_head + length (joined (x ∷ xs))) g q qs r over fits h.1)

-- pages of ascending rows of a schema, each full before the next
pub record GoodRows (page : ℕ) (schema : List Attr) (g : List (List Row)) : Type 0 where
  pub pages : ArePages page g
  pub ascending : IsAscending (all_rows g)
  pub rows : All (IsRow schema) (all_rows g)

pub good_more : (page : ℕ) (schema : List Attr) (g : List (List Row)) (q : Row) (qs : List Row) (r : Row) → GoodRows page schema (g ++ (q ∷ qs) ∷ []) → used_by (q ∷ qs) + length r ≤ page → is_past (Some (last_row (q ∷ qs))) r ≡ true → IsRow schema r → GoodRows page schema (g ++ (q ∷ (qs ++ r ∷ [])) ∷ [])
good_more page schema g q qs r h fits past row =
    let old = all_rows-push g (q ∷ qs) in
    let new : all_rows (g ++ (q ∷ (qs ++ r ∷ [])) ∷ []) ≡ (all_rows g ++ (q ∷ qs)) ++ r ∷ [] = all_rows-push g (q ∷ (qs ++ r ∷ [])) ∙ sym (append_assoc (all_rows g) (q ∷ qs) (r ∷ [])) in
    record {
      pages = pages_grow page g q qs r fits h.pages;
      ascending = subst IsAscending (sym new) (ascending_push (all_rows g ++ (q ∷ qs)) r (subst IsAscending old h.ascending) (ap (λ (o : Option Row). is_past o r) (last_in_behind (all_rows g) q qs) ∙ past));
      rows = subst (All (IsRow schema)) (sym new) (All-push (IsRow schema) (all_rows g ++ (q ∷ qs)) r (subst (All (IsRow schema)) old h.rows) row);
    }

pub good_first : (page : ℕ) (schema : List Attr) (r : Row) → page_head + length r ≤ page → IsRow schema r → GoodRows page schema ((r ∷ []) ∷ [])
good_first page schema r fits row = record {
  pages = (omega (arith, length-append r [], fits), tt);
  ascending = (tt, tt);
  rows = All-push (IsRow schema) [] r (λ k d h. absurd (omega (arith, h))) row;
}

pub good_next : (page : ℕ) (schema : List Attr) (g : List (List Row)) (q : Row) (qs : List Row) (r : Row) → GoodRows page schema (g ++ (q ∷ qs) ∷ []) → page < used_by (q ∷ qs) + length r → page_head + length r ≤ page → is_past (Some (last_row (q ∷ qs))) r ≡ true → IsRow schema r → GoodRows page schema ((g ++ (q ∷ qs) ∷ []) ++ (r ∷ []) ∷ [])
good_next page schema g q qs r h over fits past row =
    let old = all_rows-push g (q ∷ qs) in
    let new : all_rows ((g ++ (q ∷ qs) ∷ []) ++ (r ∷ []) ∷ []) ≡ (all_rows g ++ (q ∷ qs)) ++ r ∷ [] = all_rows-push (g ++ (q ∷ qs) ∷ []) (r ∷ []) ∙ ap (λ (t : List Row). t ++ r ∷ []) old in
    record {
      pages = pages_start page g q qs r over fits h.pages;
      ascending = subst IsAscending (sym new) (ascending_push (all_rows g ++ (q ∷ qs)) r (subst IsAscending old h.ascending) (ap (λ (o : Option Row). is_past o r) (last_in_behind (all_rows g) q qs) ∙ past));
      rows = subst (All (IsRow schema)) (sym new) (All-push (IsRow schema) (all_rows g ++ (q ∷ qs)) r (subst (All (IsRow schema)) old h.rows) row);
    }

-- ---- the pages of all relations

abbrev pub group_at : List (List (List Row)) → ℕ → List (List Row)
group_at [] r = []
group_at (g ∷ gs) zero = g
group_at (g ∷ gs) (suc r) = group_at gs r

abbrev pub IsFew : List Row → Type 0
IsFew rows = length rows < 65536

abbrev pub GoodGroups : ℕ → List RelDecl → List (List (List Row)) → Type 0
GoodGroups page [] [] = Unit {0}
GoodGroups page (d ∷ rels) (g ∷ gs) = GoodRows page d.schema g × All IsFew g × GoodGroups page rels gs
GoodGroups page _ _ = ⊥

-- the end of a relation's pages
pub record EndsIn (e : PageEnd) (g : List (List Row)) : Type 0 where
  pub front : List (List Row)
  pub first : Row
  pub rest : List Row
  pub is : g ≡ front ++ (first ∷ rest) ∷ []
  pub used : used_by (first ∷ rest) ≡ e.used
  pub row : last_row (first ∷ rest) ≡ e.row

abbrev pub Ends : Option PageEnd → List (List Row) → Type 0
Ends None g = g ≡ []
Ends (Some e) g = EndsIn e g

abbrev pub IsLast : Option PageEnd → List (List (List Row)) → Type 0
IsLast None gs = (r : ℕ) → group_at gs r ≡ []
IsLast (Some e) gs = EndsIn e (group_at gs e.rel) × ((r : ℕ) → e.rel < r → group_at gs r ≡ [])

pub record GoodBook (f : Format) (b : Book) : Type 0 where
  pub groups : GoodGroups f.page b.rels b.pages
  pub last : IsLast b.last b.pages

-- the end of the pages of the relation of the next page
pub ends_of : (last : Option PageEnd) (gs : List (List (List Row))) (rel : ℕ) → IsLast last gs → follows last rel ≡ true → Ends (page_before last rel) (group_at gs rel)
ends_of None gs rel h g = h rel
ends_of (Some e) gs rel h g = by (e.rel == rel) refl
  where
    by : (b : Bool) → (e.rel == rel) ≡ b → Ends (cond b (Some e) None) (group_at gs rel)
    by true t = subst (λ (r : ℕ). EndsIn e (group_at gs r)) (eqb-true e.rel rel t) h.0
    by false t =
        let le = leb-true e.rel rel g in
        let ne : e.rel ≢ rel = λ s. both_ways _ t (eq-eqb e.rel rel s) in
        h.1 rel (omega (arith, le, ne))

pub none_behind : (last : Option PageEnd) (gs : List (List (List Row))) (rel : ℕ) → IsLast last gs → follows last rel ≡ true → (r : ℕ) → rel < r → group_at gs r ≡ []
none_behind None gs rel h g r lt = h r
none_behind (Some e) gs rel h g r lt = let le = leb-true e.rel rel g in h.1 r (omega (arith, le, lt))

pub group_no_pages : (rels : List RelDecl) (r : ℕ) → group_at (map (λ (d : RelDecl). []) rels) r ≡ []
group_no_pages [] r = refl
group_no_pages (d ∷ rels) zero = refl
group_no_pages (d ∷ rels) (suc r) = group_no_pages rels r

groups_no_pages : (page : ℕ) (rels : List RelDecl) → GoodGroups page rels (map (λ (d : RelDecl). []) rels)
groups_no_pages page [] = tt
groups_no_pages page (d ∷ rels) = (record { pages = tt; ascending = tt; rows = λ k e h. absurd (omega (arith, h)) }, λ k e h. absurd (omega (arith, h)), groups_no_pages page rels)

pub good_no_pages : (f : Format) (rels : List RelDecl) → GoodBook f (no_pages rels)
good_no_pages f rels = record { groups = groups_no_pages f.page rels; last = group_no_pages rels }

pub groups_length : (page : ℕ) (rels : List RelDecl) (gs : List (List (List Row))) → GoodGroups page rels gs → length gs ≡ length rels
groups_length page [] [] h = refl
groups_length page [] (g ∷ gs) h = absurd h
groups_length page (d ∷ rels) [] h = absurd h
groups_length page (d ∷ rels) (g ∷ gs) h = ap suc (groups_length page rels gs h.2)

pub good_group : (page : ℕ) (rels : List RelDecl) (gs : List (List (List Row))) (rel : ℕ) → GoodGroups page rels gs → rel < length rels → GoodRows page (schema_of rels rel) (group_at gs rel)
good_group page [] [] rel h lt = absurd (omega (arith, lt))
good_group page [] (g ∷ gs) rel h lt = absurd h
good_group page (d ∷ rels) [] rel h lt = absurd h
good_group page (d ∷ rels) (g ∷ gs) zero h lt = h.0
good_group page (d ∷ rels) (g ∷ gs) (suc rel) h lt = good_group page rels gs rel h.2 (omega (arith, lt))

pub groups_add : (page : ℕ) (rels : List RelDecl) (gs : List (List (List Row))) (rel : ℕ) (rows : List Row) → GoodGroups page rels gs → rel < length rels → GoodRows page (schema_of rels rel) (group_at gs rel ++ rows ∷ []) → IsFew rows → GoodGroups page rels (add_page gs rel rows)
groups_add page [] [] rel rows h lt good few = tt
groups_add page [] (g ∷ gs) rel rows h lt good few = absurd h
groups_add page (d ∷ rels) [] rel rows h lt good few = absurd h
groups_add page (d ∷ rels) (g ∷ gs) zero rows h lt good few = (good, All-push IsFew g rows h.1 few, h.2)
groups_add page (d ∷ rels) (g ∷ gs) (suc rel) rows h lt good few = (h.0, h.1, groups_add page rels gs rel rows h.2 (omega (arith, lt)) good few)

pub group_added : (gs : List (List (List Row))) (rel : ℕ) (rows : List Row) → rel < length gs → group_at (add_page gs rel rows) rel ≡ group_at gs rel ++ rows ∷ []
group_added [] rel rows lt = absurd (omega (arith, lt))
group_added (g ∷ gs) zero rows lt = refl
group_added (g ∷ gs) (suc rel) rows lt = group_added gs rel rows (omega (arith, lt))

pub group_other : (gs : List (List (List Row))) (rel : ℕ) (rows : List Row) (r : ℕ) → rel < r → group_at (add_page gs rel rows) r ≡ group_at gs r
group_other [] rel rows r lt = refl
group_other (g ∷ gs) zero rows zero lt = absurd (omega (arith, lt))
group_other (g ∷ gs) zero rows (suc r) lt = refl
group_other (g ∷ gs) (suc rel) rows zero lt = absurd (omega (arith, lt))
group_other (g ∷ gs) (suc rel) rows (suc r) lt = group_other gs rel rows r (omega (arith, lt))

-- ---- an open page

abbrev pub GoodOpen : ℕ → List Attr → List (List Row) → List Row → Type 0
GoodOpen page schema g [] = Unit {0}
GoodOpen page schema g (r ∷ rows) = GoodRows page schema (g ++ (r ∷ rows) ∷ [])

pub record GoodPage (f : Format) (b : Book) (p : Page) : Type 0 where
  pub book : GoodBook f b
  pub known : p.rel < length b.rels
  pub follows : follows b.last p.rel ≡ true
  pub rows : GoodOpen f.page (schema_of b.rels p.rel) (group_at b.pages p.rel) p.rows

pub record Keeps (page used : ℕ) (before : Option Row) (full : Option ℕ) (r : Row) : Type 0 where
  pub fits : used + length r ≤ page
  pub past : is_past before r ≡ true
  pub room : had_no_room page full (length r) ≡ true

pub keeps_is : (page used : ℕ) (before : Option Row) (full : Option ℕ) (r : Row) → row_keeps page used before full r ≡ true → Keeps page used before full r
keeps_is page used before full r h =
    let one = and_parts (nat_le (used + length r) page) (is_past before r && had_no_room page full (length r)) h in
    let two = and_parts (is_past before r) (had_no_room page full (length r)) one.1 in
    record { fits = leb-true (used + length r) page one.0; past = two.0; room = two.1 }

open_first : (page : ℕ) (schema : List Attr) (g : List (List Row)) (o : Option PageEnd) (r : Row) → GoodRows page schema g → Ends o g → Keeps page (used_by []) (row_before [] o) (used_before [] o) r → IsRow schema r → GoodRows page schema (g ++ (r ∷ []) ∷ [])
open_first page schema g None r good end keeps row = subst (λ (x : List (List Row)). GoodRows page schema (x ++ (r ∷ []) ∷ [])) (sym end) (good_first page schema r (omega (arith, keeps.fits)) row)
open_first page schema g (Some e) r good end keeps row =
    let over = ltb-true page (e.used + length r) keeps.room in
    subst (λ (x : List (List Row)). GoodRows page schema (x ++ (r ∷ []) ∷ [])) (sym end.is)
    (good_next page schema end.front end.first end.rest r (subst (GoodRows page schema) end.is good) (omega (arith, over, end.used)) (omega (arith, keeps.fits)) (ap (λ (x : Row). is_below x r) end.row ∙ keeps.past) row)

pub open_more : (page : ℕ) (schema : List Attr) (g : List (List Row)) (o : Option PageEnd) (rows : List Row) (r : Row) → GoodRows page schema g → Ends o g → GoodOpen page schema g rows → Keeps page (used_by rows) (row_before rows o) (used_before rows o) r → IsRow schema r → GoodOpen page schema g (rows ++ r ∷ [])
open_more page schema g o [] r good end held keeps row = open_first page schema g o r good end keeps row
open_more page schema g o (q ∷ qs) r good end held keeps row = good_more page schema g q qs r held keeps.fits keeps.past row

pub page_more : (f : Format) (b : Book) (p : Page) (r : Row) → GoodPage f b p → row_keeps f.page (used_by p.rows) (row_before p.rows (page_before b.last p.rel)) (used_before p.rows (page_before b.last p.rel)) r ≡ true → IsRow (schema_of b.rels p.rel) r → GoodPage f b (with_row_in p r)
page_more f b p r h keeps row = record {
  book = h.book;
  known = h.known;
  follows = h.follows;
  rows = open_more f.page (schema_of b.rels p.rel) (group_at b.pages p.rel) (page_before b.last p.rel) p.rows r (good_group f.page b.rels b.pages p.rel h.book.groups h.known)
      (ends_of b.last b.pages p.rel h.book.last h.follows) h.rows (keeps_is f.page _ _ _ r keeps) row;
}

closed_page : (f : Format) (b : Book) (rel : ℕ) (rows : List Row) → GoodPage f b (record { rel = rel; rows = rows }) → 1 ≤ length rows → IsFew rows → GoodBook f (with_page b (record { rel = rel; rows = rows }))
closed_page f b rel [] h some few = absurd (omega (arith, some))
closed_page f b rel (q ∷ qs) h some few =
    let lt : rel < length b.pages = omega (arith, h.known, groups_length f.page b.rels b.pages h.book.groups) in
    record {
      groups = groups_add f.page b.rels b.pages rel (q ∷ qs) h.book.groups h.known h.rows few;
      last = (
        record { front = group_at b.pages rel; first = q; rest = qs; is = group_added b.pages rel (q ∷ qs) lt; used = refl; row = refl },
        λ r after. group_other b.pages rel (q ∷ qs) r after ∙ none_behind b.last b.pages rel h.book.last h.follows r after,
      );
    }

pub page_closed : (f : Format) (b : Book) (p : Page) → GoodPage f b p → 1 ≤ length p.rows → IsFew p.rows → GoodBook f (with_page b p)
page_closed f b p h some few = closed_page f b p.rel p.rows h some few
