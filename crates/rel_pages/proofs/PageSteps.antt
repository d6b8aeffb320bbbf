-- Walking on by the fields of pages.
use Rattle.std.proofs.Common.{◌≡◌, ◌≤◌, ◌<◌, ℕ, zero, suc, ◌+◌, ◌-◌, List, [], ◌∷◌, ◌++◌, length, map, set, get_or, take, drop, Option, Some, None, Err, refl, sym, ap, subst, ◌∙◌, arith}
use Rattle.std.specs.Int.{w32}
use Rattle.std.specs.Prelude.{slice_get, replicate}
use Rattle.std.proofs.lemmas.Option.{none-some, same_Some}
use Rattle.std.proofs.lemmas.List.{length-take}
use Rattle.hera_sets.specs.Rows.{Row}
use Rattle.hera_meaning.specs.declared.schemas.RelDecl.{RelDecl}
use Rattle.hera_meaning.specs.Deltas.{schema_of}
use Rattle.rel_format.specs.declared.header.PageFault.{PageFault}
use Rattle.rel_format.specs.declared.header.PageFault.TheVariants.{Damaged, Memory}
use Rattle.rel_format.specs.Pages.{Format, used_by}
use Rattle.rel_format.specs.Fields.{PageEnd, number, rel_field, row_count_field, fill_field}
use Rattle.rel_format.specs.Table.{Book, Page, Stand, at_magic, at_rels, at_page, at_row_count, at_fill, behind_row, with_page, no_pages, add_page, last_row, field, long_field, next}
use Rattle.rel_format.specs.Places.{Reaches, Stops, Finds}
use Rattle.rel_format.proofs.Walks.{step_by}
use Rattle.rel_pages.specs.Reading.{RowsTo, PageTo, PagesTo, pages_len, told}
use Rattle.rel_pages.specs.declared.fields.PageEnd.{PageEnd as CodeEnd}

-- a fault behind fields is a fault
pub fault_found : {A B : Type 0} (f : Format) (bytes : List ℕ) (at place : ℕ) (s t : Stand) (One : A → Stand → Type 0) (All : B → Stand → Type 0) (e : PageFault) → (Reaches f bytes at s → Reaches f bytes place t) → Finds f bytes place t One (Err e) → Finds f bytes at s All (Err e)
fault_found f bytes at place s t One All (Damaged n) go h = λ r. h (go r)
fault_found f bytes at place s t One All Memory go h = tt

pub schema_here : (rels : List RelDecl) (rel : ℕ) (d : RelDecl) → slice_get rels rel ≡ Some d → schema_of rels rel ≡ d.schema
schema_here [] rel d h = absurd (none-some d h)
schema_here (x ∷ rels) zero d h = ap (λ (y : RelDecl). y.schema) (same_Some x d h)
schema_here (x ∷ rels) (suc rel) d h = schema_here rels rel d h

rel_here : (b : Book) (rels : List RelDecl) (last : Option PageEnd) (rest : List ℕ) → b.rels ≡ rels → b.last ≡ last → rel_field (length b.rels) b.last rest ≡ rel_field (length rels) last rest
rel_here b rels last rest h g = ap (λ (x : List RelDecl). rel_field (length x) b.last rest) h ∙ ap (λ (x : Option PageEnd). rel_field (length rels) x rest) g

pub to_row_count : (f : Format) (bytes : List ℕ) (at : ℕ) (b : Book) (left : ℕ) (rels : List RelDecl) (last : Option PageEnd) (rel : ℕ) → b.rels ≡ rels → b.last ≡ last → Some rel ≡ rel_field (length rels) last (drop at bytes) → Reaches f bytes at (at_page b (suc left)) → Reaches f bytes (at + 2) (at_row_count b left rel)
to_row_count f bytes at b left rels last rel h g e r = step_by (next f) bytes (0, at_magic) at (at_page b (suc left)) 2 (at_row_count b left rel) r (ap (field 2 (at_row_count b left)) (rel_here b rels last (drop at bytes) h g ∙ sym e))

pub no_page_rel : (f : Format) (bytes : List ℕ) (at : ℕ) (b : Book) (left : ℕ) (rels : List RelDecl) (last : Option PageEnd) → b.rels ≡ rels → b.last ≡ last → None ≡ rel_field (length rels) last (drop at bytes) → Reaches f bytes at (at_page b (suc left)) → Stops f bytes at
no_page_rel f bytes at b left rels last h g e r = (at_page b (suc left), r, ap (field 2 (at_row_count b left)) (rel_here b rels last (drop at bytes) h g ∙ sym e), refl)

abbrev pub opened : ℕ → Page
opened rel = record { rel = rel; rows = [] }

pub to_rows : (f : Format) (bytes : List ℕ) (at : ℕ) (b : Book) (left rel n : ℕ) → Some n ≡ row_count_field (drop at bytes) → Reaches f bytes at (at_row_count b left rel) → Reaches f bytes (at + 2) (behind_row b left (opened rel) n)
to_rows f bytes at b left rel n e r = step_by (next f) bytes (0, at_magic) at (at_row_count b left rel) 2 (behind_row b left (opened rel) n) r (ap (field 2 (behind_row b left (opened rel))) (sym e))

pub no_row_count : (f : Format) (bytes : List ℕ) (at : ℕ) (b : Book) (left rel : ℕ) → None ≡ row_count_field (drop at bytes) → Reaches f bytes at (at_row_count b left rel) → Stops f bytes at
no_row_count f bytes at b left rel e r = (at_row_count b left rel, r, ap (field 2 (behind_row b left (opened rel))) (sym e), refl)

-- both fields in front of a page's rows
pub head_read : (f : Format) (bytes : List ℕ) (at : ℕ) (b : Book) (left : ℕ) (rels : List RelDecl) (last : Option PageEnd) (rel n : ℕ) → b.rels ≡ rels → b.last ≡ last → Some rel ≡ rel_field (length rels) last (drop at bytes) → Some n ≡ row_count_field (drop (at + 2) bytes) → Reaches f bytes at (at_page b (suc left)) → Reaches f bytes (at + 4) (behind_row b left (opened rel) n)
head_read f bytes at b left rels last rel n h g e d r =
    let place : (at + 2) + 2 ≡ at + 4 = omega arith in
    subst (λ (m : ℕ). Reaches f bytes m (behind_row b left (opened rel) n)) place (to_rows f bytes (at + 2) b left rel n d (to_row_count f bytes at b left rels last rel h g e r))

fill_here : (f : Format) (b : Book) (left rel page used : ℕ) (row : Row) (t : Stand) (rest : List ℕ) → f.page ≡ page → (h : RowsTo b left rel (used, row) 0 t) → fill_field (f.page - used_by (h.first ∷ h.rest)) rest ≡ fill_field (page - used) rest
fill_here f b left rel page used row t rest p h = ap (λ (n : ℕ). fill_field (n - used_by (h.first ∷ h.rest)) rest) p ∙ ap (λ (n : ℕ). fill_field (page - n) rest) h.used

pub no_fill : (f : Format) (bytes : List ℕ) (at : ℕ) (b : Book) (left rel page used : ℕ) (row : Row) → f.page ≡ page → fill_field (page - used) (drop at bytes) ≡ None → (t : Stand) × RowsTo b left rel (used, row) 0 t × Reaches f bytes at t → Stops f bytes at
no_fill f bytes at b left rel page used row p e so_far =
    let h = so_far.1 in
    let q : Page = record { rel = rel; rows = h.first ∷ h.rest } in
    (at_fill b left q, subst (Reaches f bytes at) h.stand so_far.2, ap (long_field (λ (z : List ℕ). at_page (with_page b q) left)) (fill_here f b left rel page used row so_far.0 (drop at bytes) p h ∙ e), refl)

pub page_read : (f : Format) (bytes : List ℕ) (at : ℕ) (b : Book) (left page : ℕ) (end : CodeEnd) → f.page ≡ page → fill_field (page - end.used) (drop at bytes) ≡ Some (take (page - end.used) (drop at bytes)) → page - end.used ≤ length (drop at bytes) →
    (t : Stand) × RowsTo b left end.rel (end.used, end.row.now) 0 t × Reaches f bytes at t → (t : Stand) × PageTo b left end t × Reaches f bytes (at + (page - end.used)) t
page_read f bytes at b left page end p e within so_far =
    let h = so_far.1 in
    let q : Page = record { rel = end.rel; rows = h.first ∷ h.rest } in
    let fill = take (page - end.used) (drop at bytes) in
    let size : length fill ≡ page - end.used = omega (arith, length-take (page - end.used) (drop at bytes), within) in (
      at_page (with_page b q) left,
      record { rows = h.first ∷ h.rest; end = ap (λ (n : ℕ). ends end.rel n (last_row (h.first ∷ h.rest))) h.used ∙ ap (ends end.rel end.used) h.last; stand = refl },
      subst (λ (n : ℕ). Reaches f bytes (at + n) (at_page (with_page b q) left)) size
          (step_by (next f) bytes (0, at_magic) at (at_fill b left q) (length fill) (at_page (with_page b q) left) (subst (Reaches f bytes at) h.stand so_far.2)
          (ap (long_field (λ (z : List ℕ). at_page (with_page b q) left)) (fill_here f b left end.rel page end.used end.row.now so_far.0 (drop at bytes) p h ∙ e))),
    )
  where
    ends : ℕ → ℕ → Row → PageEnd
    ends rel used row = record { rel = rel; used = used; row = row }

-- ---- all pages

-- pages were read, and so many come behind them
pub record PagesOn (f : Format) (bytes : List ℕ) (page at : ℕ) (rels : List RelDecl) (last : Option PageEnd) (lens : List ℕ) (left : ℕ) : Type 0 where
  pub book : Book
  pub own : book.rels ≡ rels
  pub ended : book.last ≡ last
  pub lengths : lens ≡ map (pages_len page) book.pages
  pub reached : Reaches f bytes at (at_page book left)

pub no_count : (f : Format) (bytes : List ℕ) (at : ℕ) (rels : List RelDecl) → None ≡ number w32 (drop at bytes) → Reaches f bytes at (at_rels rels 0) → Stops f bytes at
no_count f bytes at rels e r = (at_rels rels 0, r, ap (field 4 (at_page (no_pages rels))) (sym e), refl)

lens_none : (page : ℕ) (rels : List RelDecl) → replicate (length rels) 0 ≡ map (pages_len page) (map (λ (d : RelDecl). []) rels)
lens_none page [] = refl
lens_none page (d ∷ rels) = ap (λ (xs : List ℕ). 0 ∷ xs) (lens_none page rels)

pub counted : (f : Format) (bytes : List ℕ) (page at : ℕ) (rels : List RelDecl) (lens : List ℕ) (n m : ℕ) → Some n ≡ number w32 (drop at bytes) → lens ≡ replicate m 0 → m ≡ length rels → Reaches f bytes at (at_rels rels 0) → PagesOn f bytes page (at + 4) rels None lens n
counted f bytes page at rels lens n m e z h r = record {
  book = no_pages rels;
  own = refl;
  ended = refl;
  lengths = z ∙ ap (λ (k : ℕ). replicate k 0) h ∙ lens_none page rels;
  reached = step_by (next f) bytes (0, at_magic) at (at_rels rels 0) 4 (at_page (no_pages rels) n) r (ap (field 4 (at_page (no_pages rels))) (sym e));
}

pages_len-push : (page : ℕ) (g : List (List Row)) (rows : List Row) → pages_len page (g ++ rows ∷ []) ≡ pages_len page g + page
pages_len-push page [] rows = omega arith
pages_len-push page (x ∷ g) rows = let more = pages_len-push page g rows in omega (arith, more)

lens_added : (page : ℕ) (gs : List (List (List Row))) (rel : ℕ) (rows : List Row) → map (pages_len page) (add_page gs rel rows) ≡ set (map (pages_len page) gs) rel (get_or (map (pages_len page) gs) rel 0 + page)
lens_added page [] rel rows = refl
lens_added page (g ∷ gs) zero rows = ap (λ (n : ℕ). n ∷ map (pages_len page) gs) (pages_len-push page g rows)
lens_added page (g ∷ gs) (suc rel) rows = ap (λ (xs : List ℕ). pages_len page g ∷ xs) (lens_added page gs rel rows)

pub page_on : (f : Format) (bytes : List ℕ) (page at behind : ℕ) (rels : List RelDecl) (last : Option PageEnd) (lens more : List ℕ) (left : ℕ) (end : CodeEnd) → (h : PagesOn f bytes page at rels last lens (suc left)) → (t : Stand) × PageTo h.book left end t × Reaches f bytes behind t →
    more ≡ set lens end.rel (get_or lens end.rel 0 + page) → PagesOn f bytes page behind rels (Some (told end)) more left
page_on f bytes page at behind rels last lens more left end h read e =
    let rows = read.1.rows in
    record {
      book = with_page h.book (record { rel = end.rel; rows = rows });
      own = h.own;
      ended = ap (λ (x : PageEnd). Some x) read.1.end;
      lengths = e ∙ ap (λ (xs : List ℕ). set xs end.rel (get_or xs end.rel 0 + page)) h.lengths ∙ sym (lens_added page h.book.pages end.rel rows);
      reached = subst (Reaches f bytes behind) read.1.stand read.2;
    }

pub left_one : (f : Format) (bytes : List ℕ) (page at : ℕ) (rels : List RelDecl) (last : Option PageEnd) (lens : List ℕ) (n k : ℕ) → k < n → PagesOn f bytes page at rels last lens (n - k) → PagesOn f bytes page at rels last lens (suc (n - (k + 1)))
left_one f bytes page at rels last lens n k lt h = let e : n - k ≡ suc (n - (k + 1)) = omega (arith, lt) in subst (PagesOn f bytes page at rels last lens) e h

pub all_read : (f : Format) (bytes : List ℕ) (page at : ℕ) (rels : List RelDecl) (last : Option PageEnd) (lens : List ℕ) (n k : ℕ) → n ≤ k → PagesOn f bytes page at rels last lens (n - k) → (t : Stand) × PagesTo page rels lens t × Reaches f bytes at t
all_read f bytes page at rels last lens n k le h =
    let e : n - k ≡ 0 = omega (arith, le) in
    (at_page h.book 0, record { book = h.book; own = h.own; told = h.lengths; stand = refl }, subst (λ (m : ℕ). Reaches f bytes at (at_page h.book m)) e h.reached)

pub get_none : (n i : ℕ) → get_or (replicate {A = ℕ} n 0) i 0 ≤ 0
get_none zero i = omega arith
get_none (suc n) zero = omega arith
get_none (suc n) (suc i) = get_none n i

pub small_set : (lens : List ℕ) (i j v n : ℕ) → ((k : ℕ) → get_or lens k 0 ≤ n) → v ≤ n → get_or (set lens i v) j 0 ≤ n
small_set [] i j v n h le = h j
small_set (x ∷ lens) zero zero v n h le = le
small_set (x ∷ lens) zero (suc j) v n h le = h (suc j)
small_set (x ∷ lens) (suc i) zero v n h le = h 0
small_set (x ∷ lens) (suc i) (suc j) v n h le = small_set lens i j v n (λ k. h (suc k)) le

pub fault_in_page : {B : Type 0} (f : Format) (bytes : List ℕ) (page at place : ℕ) (rels : List RelDecl) (last : Option PageEnd) (lens : List ℕ) (left : ℕ) (All : B → Stand → Type 0) (e : PageFault) → f.page ≡ page →
    (Reaches f bytes at (at_rels rels 0) → PagesOn f bytes page place rels last lens (suc left)) →
    ((b : Book) → b.rels ≡ rels → b.last ≡ last → Finds {A = CodeEnd} f bytes place (at_page b (suc left)) (PageTo b left) (Err e)) → Finds f bytes at (at_rels rels 0) All (Err e)
fault_in_page f bytes page at place rels last lens left All (Damaged n) p go h = λ r. let on = go r in h on.book on.own on.ended on.reached
fault_in_page f bytes page at place rels last lens left All Memory p go h = tt
