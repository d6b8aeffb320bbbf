-- Pages that are printed are walked to their end.
use Rattle.std.proofs.Common.{◌≡◌, ◌≤◌, ◌<◌, ℕ, zero, suc, ◌+◌, ◌-◌, Bool, true, cond, ◌&&◌, List, [], ◌∷◌, ◌++◌, length, drop, map, Option, Some, None, refl, sym, ap, subst, ◌∙◌, append_assoc, arith}
use Rattle.std.specs.Prelude.{nat_le, All}
use Rattle.std.specs.List.{flat_map}
use Rattle.std.specs.Int.{w16, w32, to_be_bytes}
use Rattle.std.proofs.lemmas.Bool.{le-leb, lt-ltb, and_from, eq-eqb, ne_eqb}
use Rattle.std.proofs.lemmas.List.{length-append, append-nil}
use Rattle.std.proofs.lemmas.List.Elements.{All-head, All-tail}
use Rattle.hera_sets.specs.Rows.{Row, is_below, is_past, IsAscending}
use Rattle.hera_sets.proofs.Lists.{ascending_front}
use Rattle.hera_meaning.specs.declared.schemas.Attr.{Attr}
use Rattle.hera_meaning.specs.declared.schemas.RelDecl.{RelDecl}
use Rattle.hera_meaning.specs.Schemas.{IsSchema}
use Rattle.hera_meaning.specs.Catalogues.{IsDecl, IsCatalogue}
use Rattle.hera_meaning.specs.Rows.{IsRow}
use Rattle.hera_meaning.specs.Deltas.{State, IsState, schema_of}
use Rattle.rel_format.specs.Pages.{Format, Fit, page_head, header_of, joined, used_by, zeros, page_bytes, rel_bytes, rels_bytes, paged, page_count, pages_of}
use Rattle.rel_format.specs.Journal.{half_limit}
use Rattle.rel_format.specs.Fields.{PageEnd, number, rel_field, row_count_field, row_field, had_no_room, fill_field, follows}
use Rattle.rel_format.specs.Greedy.{all_rows, Follow, ArePages}
use Rattle.rel_format.specs.Table.{Book, Page, at_rels, at_page, at_row, at_fill, no_pages, add_page, last_row, end_of_page, with_page, with_row_in, page_before, row_before, used_before, behind_row, row_in, field, long_field}
use Rattle.rel_format.specs.Places.{Reaches}
use Rattle.rel_format.proofs.Steps.{step}
use Rattle.rel_pages.proofs.Prints.{all_front, all_back}
use Rattle.rel_pages.proofs.PageSteps.{to_row_count, to_rows}
use Rattle.half_writer.proofs.RowSizes.{FitsPage, fits_page}
use Rattle.half_laws.specs.Formats.{IsFormat}
use Rattle.rel_format.proofs.Printing.{behind, number32_printed, rel_printed, row_count_printed, row_printed, fill_printed}
use Rattle.rel_format.proofs.Headers.{header_read}
use Rattle.half_laws.proofs.Pagings.{paged_rows, paged_pages, joined_long, counted_long, used_more}

-- ---- ascending rows

after_rows : (x : Row) (xs : List Row) (y : Row) (ys : List Row) → IsAscending ((x ∷ xs) ++ y ∷ ys) → is_below (last_row (x ∷ xs)) y ≡ true
after_rows x [] y ys up = up.0.0
after_rows x (z ∷ xs) y ys up = after_rows z xs y ys up.1

ascending_back : (xs ys : List Row) → IsAscending (xs ++ ys) → IsAscending ys
ascending_back [] ys up = up
ascending_back (x ∷ xs) ys up = ascending_back xs ys up.1

all_fit : (schema : List Attr) (rows : List Row) → IsSchema schema → All (IsRow schema) rows → All FitsPage rows
all_fit schema rows valid all = λ k d h. fits_page schema _ valid (all k d h)

-- ---- a page

abbrev page_of : ℕ → List Row → Page
page_of rel rows = record { rel = rel; rows = rows }

-- what the first row of a page has to keep to
record StartsPage (page : ℕ) (o : Option PageEnd) (r : Row) : Type 0 where
  past : is_past (row_before [] o) r ≡ true
  room : had_no_room page (used_before [] o) (length r) ≡ true

module _ (f : Format) (bytes : List ℕ) (b : Book) (left rel : ℕ) (schema : List Attr) (o : Option PageEnd) (known : schema_of b.rels rel ≡ schema) (before : page_before b.last rel ≡ o) where
  row_read : (at : ℕ) (xs : List Row) (more : ℕ) (r : Row) (tail : List ℕ) → used_by xs + length r ≤ f.page → is_past (row_before xs o) r ≡ true → had_no_room f.page (used_before xs o) (length r) ≡ true → IsRow schema r → drop at bytes ≡ r ++ tail →
      Reaches f bytes at (at_row b left (page_of rel xs) more) → Reaches f bytes (at + length r) (behind_row b left (page_of rel (xs ++ r ∷ [])) more)
  row_read at xs more r tail fits past room row e reached =
      let p = page_of rel xs in
      let keeps = and_from (nat_le (used_by xs + length r) f.page) (is_past (row_before xs o) r && had_no_room f.page (used_before xs o) (length r)) (le-leb (used_by xs + length r) f.page fits) (and_from (is_past (row_before xs o) r) (had_no_room f.page (used_before xs o) (length r)) past room) in
      let is : row_in f b p (drop at bytes) ≡ Some r =
      ap (row_in f b p) e
      ∙ ap (λ (s : List Attr). row_field f.page s (used_by xs) (row_before xs (page_before b.last rel)) (used_before xs (page_before b.last rel)) (r ++ tail)) known
      ∙ ap (λ (q : Option PageEnd). row_field f.page schema (used_by xs) (row_before xs q) (used_before xs q) (r ++ tail)) before
      ∙ row_printed f.page schema (used_by xs) (row_before xs o) (used_before xs o) r tail row keeps in
      step f bytes at (at_row b left p more) (length r) (behind_row b left (page_of rel (xs ++ r ∷ [])) more) reached (ap (long_field (λ (x : List ℕ). behind_row b left (with_row_in p x) more)) is)

  rows_read : (at : ℕ) (x : Row) (xs ys : List Row) (tail : List ℕ) → used_by ((x ∷ xs) ++ ys) ≤ f.page → IsAscending ((x ∷ xs) ++ ys) → All (IsRow schema) ys → drop at bytes ≡ joined ys ++ tail →
      Reaches f bytes at (behind_row b left (page_of rel (x ∷ xs)) (length ys)) → Reaches f bytes (at + length (joined ys)) (at_fill b left (page_of rel ((x ∷ xs) ++ ys)))
  rows_read at x xs [] tail fits up all e reached =
      let place : at ≡ at + 0 = omega arith in
      subst (λ (n : ℕ). Reaches f bytes n (at_fill b left (page_of rel ((x ∷ xs) ++ [])))) place
      (subst (λ (l : List Row). Reaches f bytes at (at_fill b left (page_of rel l))) (sym (append-nil (x ∷ xs))) reached)
  rows_read at x xs (y ∷ ys) tail fits up all e reached =
      let rest = joined ys ++ tail in
      let same : ((x ∷ xs) ++ y ∷ []) ++ ys ≡ (x ∷ xs) ++ y ∷ ys = append_assoc (x ∷ xs) (y ∷ []) ys in
      let here : drop at bytes ≡ y ++ rest = e ∙ append_assoc y (joined ys) tail in
      let size = used_more (x ∷ xs) y ys in
      let one = row_read at (x ∷ xs) (length ys) y rest (omega (arith, size, fits)) (after_rows x xs y ys up) refl (All-head (IsRow schema) y ys all) here reached in
      let more = rows_read (at + length y) x (xs ++ y ∷ []) ys tail (subst (λ (l : List Row). used_by l ≤ f.page) (sym same) fits) (subst IsAscending (sym same) up) (All-tail (IsRow schema) y ys all) (behind bytes at (length y) y rest refl here) one in
      let place : at + length y + length (joined ys) ≡ at + length (joined (y ∷ ys)) = omega (arith, length-append y (joined ys)) in
      subst (λ (n : ℕ). Reaches f bytes n (at_fill b left (page_of rel ((x ∷ xs) ++ y ∷ ys)))) place
      (subst (λ (l : List Row). Reaches f bytes (at + length y + length (joined ys)) (at_fill b left (page_of rel l))) same more)

  regroup : (a c r d z t : List ℕ) → (((a ++ c) ++ (r ++ d)) ++ z) ++ t ≡ a ++ (c ++ (r ++ (d ++ (z ++ t))))
  regroup a c r d z t = simp append_assoc

  page_read : (at : ℕ) (r : Row) (rs : List Row) (tail : List ℕ) → rel < length b.rels → length b.rels ≤ 65536 → follows b.last rel ≡ true → length (r ∷ rs) < 65536 → used_by (r ∷ rs) ≤ f.page → StartsPage f.page o r → IsAscending (r ∷ rs) → All (IsRow schema) (r ∷ rs) →
      drop at bytes ≡ page_bytes f.page rel (r ∷ rs) ++ tail → Reaches f bytes at (at_page b (suc left)) → Reaches f bytes (at + length (page_bytes f.page rel (r ∷ rs))) (at_page (with_page b (page_of rel (r ∷ rs))) left)
  page_read at r rs tail there few after short fits starts up all e reached =
      let number = to_be_bytes w16 rel in
      let count = to_be_bytes w16 (length (r ∷ rs)) in
      let z = zeros (f.page - used_by (r ∷ rs)) in
      let d = joined rs in
      let first : drop at bytes ≡ number ++ (count ++ (r ++ (d ++ (z ++ tail)))) = e ∙ regroup number count r d z tail in
      let second : drop (at + 2) bytes ≡ count ++ (r ++ (d ++ (z ++ tail))) = behind bytes at 2 number (count ++ (r ++ (d ++ (z ++ tail)))) refl first in
      let third : drop (at + 2 + 2) bytes ≡ r ++ (d ++ (z ++ tail)) = behind bytes (at + 2) 2 count (r ++ (d ++ (z ++ tail))) refl second in
      let fourth : drop (at + 2 + 2 + length r) bytes ≡ d ++ (z ++ tail) = behind bytes (at + 2 + 2) (length r) r (d ++ (z ++ tail)) refl third in
      let fifth : drop (at + 2 + 2 + length r + length d) bytes ≡ z ++ tail = behind bytes (at + 2 + 2 + length r) (length d) d (z ++ tail) refl fourth in
      let one = to_row_count f bytes at b left b.rels b.last rel refl refl (sym (ap (rel_field (length b.rels) b.last) first ∙ rel_printed (length b.rels) b.last rel (count ++ (r ++ (d ++ (z ++ tail)))) there few after)) reached in
      let two = to_rows f bytes (at + 2) b left rel (length (r ∷ rs)) (sym (ap row_count_field second ∙ row_count_printed (length (r ∷ rs)) (r ++ (d ++ (z ++ tail))) (omega arith) short)) one in
      let size : used_by (r ∷ rs) ≡ page_head + length r + length d = used_more [] r rs in
      let three = row_read (at + 2 + 2) [] (length rs) r (d ++ (z ++ tail)) (omega (arith, size, fits)) starts.past starts.room (All-head (IsRow schema) r rs all) third two in
      let four = rows_read (at + 2 + 2 + length r) r [] rs (z ++ tail) fits up (All-tail (IsRow schema) r rs all) fourth three in
      let fill : fill_field (f.page - used_by (r ∷ rs)) (drop (at + 2 + 2 + length r + length d) bytes) ≡ Some z = ap (fill_field (f.page - used_by (r ∷ rs))) fifth ∙ fill_printed (f.page - used_by (r ∷ rs)) tail in
      let five = step f bytes (at + 2 + 2 + length r + length d) (at_fill b left (page_of rel (r ∷ rs))) (length z) (at_page (with_page b (page_of rel (r ∷ rs))) left) four (ap (long_field (λ (x : List ℕ). at_page (with_page b (page_of rel (r ∷ rs))) left)) fill) in
      let place : at + 2 + 2 + length r + length d + length z ≡ at + length (page_bytes f.page rel (r ∷ rs)) =
      omega (arith, length-append (number ++ count ++ (r ++ d)) z, length-append (number ++ count) (r ++ d), length-append number count, length-append r d) in
      subst (λ (n : ℕ). Reaches f bytes n (at_page (with_page b (page_of rel (r ∷ rs))) left)) place five

-- ---- the pages of a relation

abbrev book : List RelDecl → List (List (List Row)) → Option PageEnd → Book
book rels pages last = record { rels = rels; pages = pages; last = last }

add_at : (front : List (List (List Row))) (g : List (List Row)) (later : List (List (List Row))) (rel : ℕ) (rows : List Row) → length front ≡ rel → add_page (front ++ g ∷ later) rel rows ≡ front ++ (g ++ rows ∷ []) ∷ later
add_at [] g later zero rows h = refl
add_at [] g later (suc rel) rows h = absurd (omega (arith, h))
add_at (x ∷ front) g later zero rows h = absurd (omega (arith, h))
add_at (x ∷ front) g later (suc rel) rows h = ap (λ (t : List (List (List Row))). x ∷ t) (add_at front g later rel rows (omega (arith, h)))

-- the previous page is one of the first so many relations
abbrev IsBelow : Option PageEnd → ℕ → Type 0
IsBelow None n = Unit {0}
IsBelow (Some e) n = e.rel < n

below_follows : (last : Option PageEnd) (rel : ℕ) → IsBelow last rel → follows last rel ≡ true
below_follows None rel h = refl
below_follows (Some e) rel h = le-leb e.rel rel (omega (arith, h))

below_apart : (last : Option PageEnd) (rel : ℕ) → IsBelow last rel → page_before last rel ≡ None
below_apart None rel h = refl
below_apart (Some e) rel h = ap (λ (v : Bool). cond v (Some e) None) (ne_eqb e.rel rel (λ (s : e.rel ≡ rel). omega (arith, h, s)))

module _ (f : Format) (bytes : List ℕ) (rels : List RelDecl) (rel : ℕ) (schema : List Attr) (format : IsFormat f) (few : length rels ≤ 65536) (there : rel < length rels) (known : schema_of rels rel ≡ schema) (valid : IsSchema schema) (front later : List (List (List Row))) (place : length front ≡ rel) where
  short : (rows : List Row) → All (IsRow schema) rows → used_by rows ≤ f.page → length rows < 65536
  short rows all fits = omega (arith, joined_long rows (all_fit schema rows valid all), fits, format.counted)

  one_page : (at : ℕ) (g : List (List Row)) (last o : Option PageEnd) (r : Row) (rs : List Row) (left : ℕ) (tail : List ℕ) → page_before last rel ≡ o → follows last rel ≡ true → used_by (r ∷ rs) ≤ f.page → StartsPage f.page o r → IsAscending (r ∷ rs) → All (IsRow schema) (r ∷ rs) →
      drop at bytes ≡ page_bytes f.page rel (r ∷ rs) ++ tail → Reaches f bytes at (at_page (book rels (front ++ g ∷ later) last) (suc left)) →
      Reaches f bytes (at + length (page_bytes f.page rel (r ∷ rs))) (at_page (book rels (front ++ (g ++ (r ∷ rs) ∷ []) ∷ later) (Some (end_of_page (page_of rel (r ∷ rs))))) left)
  one_page at g last o r rs left tail before after fits starts up all e reached =
      subst (λ (pages : List (List (List Row))). Reaches f bytes (at + length (page_bytes f.page rel (r ∷ rs))) (at_page (book rels pages (Some (end_of_page (page_of rel (r ∷ rs))))) left)) (add_at front g later rel (r ∷ rs) place)
      (page_read f bytes (book rels (front ++ g ∷ later) last) left rel schema o known before at r rs tail there few after (short (r ∷ rs) all fits) fits starts up all e reached)

  abbrev Ends : ℕ → List (List Row) → ℕ → Type 0
  Ends at g left = (e : Option PageEnd) × IsBelow e (suc rel) × Reaches f bytes at (at_page (book rels (front ++ g ∷ later) e) left)

  later_pages : (at : ℕ) (g : List (List Row)) (q : Row) (qs : List Row) (more : List (List Row)) (left : ℕ) (tail : List ℕ) → Follow f.page (used_by (q ∷ qs)) more → IsAscending ((q ∷ qs) ++ all_rows more) → All (IsRow schema) (all_rows more) →
      drop at bytes ≡ flat_map (page_bytes f.page rel) more ++ tail → Reaches f bytes at (at_page (book rels (front ++ g ∷ later) (Some (end_of_page (page_of rel (q ∷ qs))))) (length more + left)) →
      Ends (at + length (flat_map (page_bytes f.page rel) more)) (g ++ more) left
  later_pages at g q qs [] left tail follow up all e reached =
      let end = Some (end_of_page (page_of rel (q ∷ qs))) in
      let same : at ≡ at + 0 = omega arith in
      let none : 0 + left ≡ left = omega arith in (
        end,
        omega arith,
        subst (λ (n : ℕ). Reaches f bytes n (at_page (book rels (front ++ (g ++ []) ∷ later) end) left)) same
            (subst (λ (x : List (List Row)). Reaches f bytes at (at_page (book rels (front ++ x ∷ later) end) left)) (sym (append-nil g))
            (subst (λ (n : ℕ). Reaches f bytes at (at_page (book rels (front ++ g ∷ later) end) n)) none reached)),
      )
  later_pages at g q qs ([] ∷ more) left tail follow up all e reached = absurd follow
  later_pages at g q qs ((r ∷ rs) ∷ more) left tail follow up all e reached =
      let one = page_bytes f.page rel (r ∷ rs) in
      let rest = flat_map (page_bytes f.page rel) more in
      let end : PageEnd = end_of_page (page_of rel (q ∷ qs)) in
      let before : page_before (Some end) rel ≡ Some end = ap (λ (v : Bool). cond v (Some end) None) (eq-eqb rel rel refl) in
      let starts : StartsPage f.page (Some end) r = record { past = after_rows q qs r (rs ++ all_rows more) up; room = lt-ltb f.page (used_by (q ∷ qs) + length r) follow.0 } in
      let here : drop at bytes ≡ one ++ (rest ++ tail) = e ∙ append_assoc one rest tail in
      let ours = ascending_back (q ∷ qs) ((r ∷ rs) ++ all_rows more) up in
      let counted : suc (length more) + left ≡ suc (length more + left) = omega arith in
      let first = one_page at g (Some end) (Some end) r rs (length more + left) (rest ++ tail) before (le-leb rel rel (omega arith)) follow.1 starts (ascending_front (r ∷ rs) (all_rows more) ours) (all_front (IsRow schema) (r ∷ rs) (all_rows more) all) here
      (subst (λ (n : ℕ). Reaches f bytes at (at_page (book rels (front ++ g ∷ later) (Some end)) n)) counted reached) in
      let others = later_pages (at + length one) (g ++ (r ∷ rs) ∷ []) r rs more left tail follow.2 ours (all_back (IsRow schema) (r ∷ rs) (all_rows more) all) (behind bytes at (length one) one (rest ++ tail) refl here) first in
      let same : at + length one + length rest ≡ at + length (one ++ rest) = omega (arith, length-append one rest) in
      subst (λ (n : ℕ). Ends n (g ++ (r ∷ rs) ∷ more) left) same
      (subst (λ (x : List (List Row)). Ends (at + length one + length rest) x left) (append_assoc g ((r ∷ rs) ∷ []) more) others)

  rel_read : (at : ℕ) (last : Option PageEnd) (pages : List (List Row)) (left : ℕ) (tail : List ℕ) → ArePages f.page pages → IsAscending (all_rows pages) → All (IsRow schema) (all_rows pages) → IsBelow last rel →
      drop at bytes ≡ flat_map (page_bytes f.page rel) pages ++ tail → Reaches f bytes at (at_page (book rels (front ++ [] ∷ later) last) (length pages + left)) → Ends (at + length (flat_map (page_bytes f.page rel) pages)) pages left
  rel_read at last [] left tail are up all below e reached =
      let same : at ≡ at + 0 = omega arith in
      let none : 0 + left ≡ left = omega arith in (
        last,
        wider last below,
        subst (λ (n : ℕ). Reaches f bytes n (at_page (book rels (front ++ [] ∷ later) last) left)) same
            (subst (λ (n : ℕ). Reaches f bytes at (at_page (book rels (front ++ [] ∷ later) last) n)) none reached),
      )
    where
      wider : (o : Option PageEnd) → IsBelow o rel → IsBelow o (suc rel)
      wider None h = tt
      wider (Some p) h = omega (arith, h)
  rel_read at last ([] ∷ pages) left tail are up all below e reached = absurd are
  rel_read at last ((r ∷ rs) ∷ pages) left tail are up all below e reached =
      let one = page_bytes f.page rel (r ∷ rs) in
      let rest = flat_map (page_bytes f.page rel) pages in
      let here : drop at bytes ≡ one ++ (rest ++ tail) = e ∙ append_assoc one rest tail in
      let counted : suc (length pages) + left ≡ suc (length pages + left) = omega arith in
      let first = one_page at [] last None r rs (length pages + left) (rest ++ tail) (below_apart last rel below) (below_follows last rel below) are.0 (record { past = refl; room = refl }) (ascending_front (r ∷ rs) (all_rows pages) up) (all_front (IsRow schema) (r ∷ rs) (all_rows pages) all) here
      (subst (λ (n : ℕ). Reaches f bytes at (at_page (book rels (front ++ [] ∷ later) last) n)) counted reached) in
      let others = later_pages (at + length one) ((r ∷ rs) ∷ []) r rs pages left tail are.1 up (all_back (IsRow schema) (r ∷ rs) (all_rows pages) all) (behind bytes at (length one) one (rest ++ tail) refl here) first in
      let same : at + length one + length rest ≡ at + length (one ++ rest) = omega (arith, length-append one rest) in
      subst (λ (n : ℕ). Ends n ((r ∷ rs) ∷ pages) left) same others

-- ---- the pages of all relations

schema_at : (done : List RelDecl) (d : RelDecl) (ds : List RelDecl) → schema_of (done ++ d ∷ ds) (length done) ≡ d.schema
schema_at [] d ds = refl
schema_at (x ∷ done) d ds = schema_at done d ds

module _ (f : Format) (bytes : List ℕ) (rels : List RelDecl) (format : IsFormat f) (few : length rels ≤ 256) where
  abbrev AllEnd : ℕ → List (List (List Row)) → Type 0
  AllEnd at pages = (e : Option PageEnd) × Reaches f bytes at (at_page (book rels pages e) 0)

  rels_read : (at n : ℕ) (done ds : List RelDecl) (s : State) (front : List (List (List Row))) (last : Option PageEnd) (tail : List ℕ) → rels ≡ done ++ ds → length done ≡ n → length front ≡ n → IsState ds s → Fit f.page s → All IsDecl ds → IsBelow last n →
      drop at bytes ≡ rels_bytes f.page n s ++ tail → Reaches f bytes at (at_page (book rels (front ++ map (λ (d : RelDecl). []) ds) last) (page_count f.page s)) → AllEnd (at + length (rels_bytes f.page n s)) (front ++ map (paged f.page) s)
  rels_read at n done [] [] front last tail is size place state fit decls below e reached =
      let same : at ≡ at + 0 = omega arith in
      (last, subst (λ (m : ℕ). Reaches f bytes m (at_page (book rels (front ++ []) last) 0)) same reached)
  rels_read at n done [] (rows ∷ s) front last tail is size place state fit decls below e reached = absurd state
  rels_read at n done (d ∷ ds) [] front last tail is size place state fit decls below e reached = absurd state
  rels_read at n done (d ∷ ds) (rows ∷ s) front last tail is size place state fit decls below e reached =
      let decl = All-head IsDecl d ds decls in
      let schema = d.schema in
      let pages = paged f.page rows in
      let one = rel_bytes f.page n rows in
      let rest = rels_bytes f.page (suc n) s in
      let long = ap (λ (l : List RelDecl). length l) is in
      let there : n < length rels = omega (arith, long, size, length-append done (d ∷ ds)) in
      let known : schema_of rels n ≡ schema = ap (λ (l : List RelDecl). schema_of l n) is ∙ ap (schema_of (done ++ d ∷ ds)) (sym size) ∙ schema_at done d ds in
      let same_rows = paged_rows f.page rows in
      let here : drop at bytes ≡ one ++ (rest ++ tail) = e ∙ append_assoc one rest tail in
      let first = rel_read f bytes rels n schema format (omega (arith, few)) there known decl.schema front (map (λ (x : RelDecl). []) ds) place at last pages (page_count f.page s) (rest ++ tail)
      (paged_pages f.page rows fit.0) (subst IsAscending (sym same_rows) state.0.0) (subst (All (IsRow schema)) (sym same_rows) state.0.1) below here reached in
      let next_done : rels ≡ (done ++ d ∷ []) ++ ds = is ∙ sym (append_assoc done (d ∷ []) ds) in
      let regrouped = sym (append_assoc front (pages ∷ []) (map (λ (x : RelDecl). []) ds)) in
      let others = rels_read (at + length one) (suc n) (done ++ d ∷ []) ds s (front ++ pages ∷ []) first.0 tail next_done (omega (arith, size, length-append done (d ∷ []))) (omega (arith, place, length-append front (pages ∷ []))) state.1 fit.1 (All-tail IsDecl d ds decls) first.1
      (behind bytes at (length one) one (rest ++ tail) refl here)
      (subst (λ (x : List (List (List Row))). Reaches f bytes (at + length one) (at_page (book rels x first.0) (page_count f.page s))) regrouped first.2) in
      let same : at + length one + length rest ≡ at + length (one ++ rest) = omega (arith, length-append one rest) in
      subst (λ (m : ℕ). AllEnd m (front ++ pages ∷ map (paged f.page) s)) same
      (subst (AllEnd (at + length one + length rest)) (append_assoc front (pages ∷ []) (map (paged f.page) s)) others)

  regroup_all : (a b c t : List ℕ) → ((a ++ b) ++ c) ++ t ≡ a ++ (b ++ (c ++ t))
  regroup_all a b c t = simp append_assoc

  -- the pages of a catalogue and a state are walked to their end
  pub pages_walked : (s : State) (tail : List ℕ) → IsCatalogue rels → IsState rels s → Fit f.page s → length bytes ≤ half_limit → bytes ≡ pages_of f rels s ++ tail → AllEnd (length (pages_of f rels s)) (map (paged f.page) s)
  pages_walked s tail valid state fit small e =
      let header = header_of f rels in
      let count = to_be_bytes w32 (page_count f.page s) in
      let pages = rels_bytes f.page 0 s in
      let first : bytes ≡ header ++ (count ++ (pages ++ tail)) = e ∙ regroup_all header count pages tail in
      let long = ap (λ (l : List ℕ). length l) e in
      let at = length header in
      let from_start : bytes ≡ drop 0 bytes = refl in
      let second : drop (0 + at) bytes ≡ count ++ (pages ++ tail) = behind bytes 0 at header (count ++ (pages ++ tail)) refl first in
      let zero_at : 0 + at ≡ at = omega arith in
      let counted : drop at bytes ≡ count ++ (pages ++ tail) = ap (λ (n : ℕ). drop n bytes) (sym zero_at) ∙ second in
      let third : drop (at + 4) bytes ≡ pages ++ tail = behind bytes at 4 count (pages ++ tail) refl counted in
      let fits : page_count f.page s ≤ 4294967295 = omega (arith, counted_long f.page 0 s, small, long, length-append (header ++ count ++ pages) tail, length-append (header ++ count) pages) in
      let one = header_read f bytes rels (count ++ (pages ++ tail)) format.magic valid first in
      let two = step f bytes at (at_rels rels zero) 4 (at_page (no_pages rels) (page_count f.page s)) one (ap (field 4 (at_page (no_pages rels))) (ap (number w32) counted ∙ number32_printed (page_count f.page s) (pages ++ tail) fits)) in
      let all = rels_read (at + 4) 0 [] rels s [] None tail refl refl refl state fit valid.decls tt third two in
      let place : at + 4 + length pages ≡ length (pages_of f rels s) = omega (arith, length-append (header ++ count) pages, length-append header count) in
      subst (λ (n : ℕ). AllEnd n (map (paged f.page) s)) place all
