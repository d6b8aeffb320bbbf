-- Walking on by the rows of a page.
use Rattle.std.proofs.Common.{◌≡◌, ◌≤◌, ◌<◌, ℕ, suc, ◌+◌, ◌-◌, List, [], ◌∷◌, ◌++◌, length, drop, Option, Some, None, refl, sym, ap, subst, ◌∙◌, arith}
use Rattle.std.specs.Option.{option_map}
use Rattle.hera_sets.specs.Rows.{Row}
use Rattle.hera_meaning.specs.declared.schemas.Attr.{Attr}
use Rattle.hera_meaning.specs.Deltas.{schema_of}
use Rattle.rel_format.specs.Pages.{Format, used_by}
use Rattle.rel_format.specs.Fields.{PageEnd, row_field}
use Rattle.rel_format.specs.Table.{Book, Page, Stand, at_magic, at_row, behind_row, last_row, with_row_in, page_before, row_before, used_before, row_in, long_field, next}
use Rattle.rel_format.specs.Places.{Reaches, Stops}
use Rattle.rel_format.proofs.Walks.{step_by}
use Rattle.rel_format.proofs.Good.{used-push}
use Rattle.rel_pages.specs.Reading.{row_told, used_told, RowsTo}

row_step : (f : Format) (bytes : List ℕ) (at : ℕ) (b : Book) (left : ℕ) (p : Page) (more : ℕ) (r : Row) → Reaches f bytes at (at_row b left p more) → row_in f b p (drop at bytes) ≡ Some r → Reaches f bytes (at + length r) (behind_row b left (with_row_in p r) more)
row_step f bytes at b left p more r reached h = step_by (next f) bytes (0, at_magic) at (at_row b left p more) (length r) (behind_row b left (with_row_in p r) more) reached (ap (long_field (λ (x : Row). behind_row b left (with_row_in p x) more)) h)

row_stop : (f : Format) (bytes : List ℕ) (at : ℕ) (b : Book) (left : ℕ) (p : Page) (more : ℕ) → Reaches f bytes at (at_row b left p more) → row_in f b p (drop at bytes) ≡ None → Stops f bytes at
row_stop f bytes at b left p more reached h = (at_row b left p more, reached, ap (long_field (λ (x : Row). behind_row b left (with_row_in p x) more)) h, refl)

enter_rows : (b : Book) (left : ℕ) (p : Page) (n k : ℕ) → k < n → behind_row b left p (n - k) ≡ at_row b left p (n - (k + 1))
enter_rows b left p n k h = let e : n - k ≡ suc (n - (k + 1)) = omega (arith, h) in ap (behind_row b left p) e

first_before : (o : Option PageEnd) → row_before [] o ≡ option_map row_told o
first_before None = refl
first_before (Some e) = refl

first_full : (o : Option PageEnd) → used_before [] o ≡ option_map used_told o
first_full None = refl
first_full (Some e) = refl

-- ---- the first row

pub record FirstRow (f : Format) (b : Book) (rel size : ℕ) (attrs : List Attr) (row : Option Row) (used : Option ℕ) : Type 0 where
  pub page : f.page ≡ size
  pub schema : schema_of b.rels rel ≡ attrs
  pub before : row_before [] (page_before b.last rel) ≡ row
  pub full : used_before [] (page_before b.last rel) ≡ used

pub first_is : (f : Format) (b : Book) (rel page : ℕ) (schema : List Attr) (before : Option Row) (full : Option ℕ) (earlier : Option PageEnd) → f.page ≡ page → schema_of b.rels rel ≡ schema → page_before b.last rel ≡ earlier → before ≡ option_map row_told earlier → full ≡ option_map used_told earlier → FirstRow f b rel page schema before full
first_is f b rel page schema before full earlier p s e r u = record {
  page = p;
  schema = s;
  before = ap (row_before []) e ∙ first_before earlier ∙ sym r;
  full = ap (used_before []) e ∙ first_full earlier ∙ sym u;
}

first_field : (f : Format) (b : Book) (rel page : ℕ) (schema : List Attr) (before : Option Row) (full : Option ℕ) (rest : List ℕ) → FirstRow f b rel page schema before full → row_in f b (record { rel = rel; rows = [] }) rest ≡ row_field page schema 4 before full rest
first_field f b rel page schema before full rest h =
    ap (λ (n : ℕ). row_field n (schema_of b.rels rel) 4 (row_before [] (page_before b.last rel)) (used_before [] (page_before b.last rel)) rest) h.page
    ∙ ap (λ (s : List Attr). row_field page s 4 (row_before [] (page_before b.last rel)) (used_before [] (page_before b.last rel)) rest) h.schema
    ∙ ap (λ (o : Option Row). row_field page schema 4 o (used_before [] (page_before b.last rel)) rest) h.before
    ∙ ap (λ (o : Option ℕ). row_field page schema 4 before o rest) h.full

first_at : (f : Format) (bytes : List ℕ) (at : ℕ) (b : Book) (left rel count : ℕ) → 1 ≤ count → Reaches f bytes at (behind_row b left (record { rel = rel; rows = [] }) count) → Reaches f bytes at (at_row b left (record { rel = rel; rows = [] }) (count - 1))
first_at f bytes at b left rel count some reached =
    let e : count ≡ suc (count - 1) = omega (arith, some) in
    subst (λ (n : ℕ). Reaches f bytes at (behind_row b left (record { rel = rel; rows = [] }) n)) e reached

pub first_row_read : (f : Format) (bytes : List ℕ) (at : ℕ) (b : Book) (left rel count page : ℕ) (schema : List Attr) (before : Option Row) (full : Option ℕ) (r : Row) → 1 ≤ count → FirstRow f b rel page schema before full → Some r ≡ row_field page schema 4 before full (drop at bytes) →
    Reaches f bytes at (behind_row b left (record { rel = rel; rows = [] }) count) → (t : Stand) × RowsTo b left rel (4 + length r, r) (count - 1) t × Reaches f bytes (at + length r) t
first_row_read f bytes at b left rel count page schema before full r some h e reached =
    let p : Page = record { rel = rel; rows = [] } in
    let size : used_by (r ∷ []) ≡ 4 + length r = used-push [] r in (
      behind_row b left (with_row_in p r) (count - 1),
      record { first = r; rest = []; used = size; last = refl; stand = refl },
      row_step f bytes at b left p (count - 1) r (first_at f bytes at b left rel count some reached) (first_field f b rel page schema before full (drop at bytes) h ∙ sym e),
    )

pub no_first_row : (f : Format) (bytes : List ℕ) (at : ℕ) (b : Book) (left rel count page : ℕ) (schema : List Attr) (before : Option Row) (full : Option ℕ) → 1 ≤ count → FirstRow f b rel page schema before full → None ≡ row_field page schema 4 before full (drop at bytes) →
    Reaches f bytes at (behind_row b left (record { rel = rel; rows = [] }) count) → Stops f bytes at
no_first_row f bytes at b left rel count page schema before full some h e reached =
    row_stop f bytes at b left (record { rel = rel; rows = [] }) (count - 1) (first_at f bytes at b left rel count some reached) (first_field f b rel page schema before full (drop at bytes) h ∙ sym e)

-- ---- the rows behind it

next_field : (f : Format) (b : Book) (rel page : ℕ) (schema : List Attr) (used : ℕ) (last first : Row) (rows : List Row) (rest : List ℕ) → f.page ≡ page → schema_of b.rels rel ≡ schema → used_by (first ∷ rows) ≡ used → last_row (first ∷ rows) ≡ last →
    row_in f b (record { rel = rel; rows = first ∷ rows }) rest ≡ row_field page schema used (Some last) None rest
next_field f b rel page schema used last first rows rest p s u l =
    ap (λ (n : ℕ). row_field n (schema_of b.rels rel) (used_by (first ∷ rows)) (Some (last_row (first ∷ rows))) None rest) p
    ∙ ap (λ (x : List Attr). row_field page x (used_by (first ∷ rows)) (Some (last_row (first ∷ rows))) None rest) s
    ∙ ap (λ (n : ℕ). row_field page schema n (Some (last_row (first ∷ rows))) None rest) u
    ∙ ap (λ (r : Row). row_field page schema used (Some r) None rest) l

last_push : (xs : List Row) (r : Row) → last_row (xs ++ r ∷ []) ≡ r
last_push [] r = refl
last_push (x ∷ []) r = refl
last_push (x ∷ y ∷ xs) r = last_push (y ∷ xs) r

rows_stand : (f : Format) (bytes : List ℕ) (at : ℕ) (b : Book) (left rel count k : ℕ) (x : ℕ × Row) (t : Stand) → k < count → (h : RowsTo b left rel x (count - k) t) → Reaches f bytes at t → Reaches f bytes at (at_row b left (record { rel = rel; rows = h.first ∷ h.rest }) (count - (k + 1)))
rows_stand f bytes at b left rel count k x t lt h reached = subst (Reaches f bytes at) (h.stand ∙ enter_rows b left (record { rel = rel; rows = h.first ∷ h.rest }) count k lt) reached

pub more_row_read : (f : Format) (bytes : List ℕ) (at : ℕ) (b : Book) (left rel count k page : ℕ) (schema : List Attr) (used : ℕ) (last r : Row) → f.page ≡ page → schema_of b.rels rel ≡ schema → k < count → Some r ≡ row_field page schema used (Some last) None (drop at bytes) →
    (t : Stand) × RowsTo b left rel (used, last) (count - k) t × Reaches f bytes at t → (t : Stand) × RowsTo b left rel (used + length r, r) (count - (k + 1)) t × Reaches f bytes (at + length r) t
more_row_read f bytes at b left rel count k page schema used last r p s lt e so_far =
    let h = so_far.1 in
    let q : Page = record { rel = rel; rows = h.first ∷ h.rest } in
    let size = used-push (h.first ∷ h.rest) r in (
      behind_row b left (with_row_in q r) (count - (k + 1)),
      record { first = h.first; rest = h.rest ++ r ∷ []; used = omega (arith, size, h.used); last = last_push (h.first ∷ h.rest) r; stand = refl },
      row_step f bytes at b left q (count - (k + 1)) r (rows_stand f bytes at b left rel count k (used, last) so_far.0 lt h so_far.2) (next_field f b rel page schema used last h.first h.rest (drop at bytes) p s h.used h.last ∙ sym e),
    )

pub no_more_row : (f : Format) (bytes : List ℕ) (at : ℕ) (b : Book) (left rel count k page : ℕ) (schema : List Attr) (used : ℕ) (last : Row) → f.page ≡ page → schema_of b.rels rel ≡ schema → k < count → None ≡ row_field page schema used (Some last) None (drop at bytes) →
    (t : Stand) × RowsTo b left rel (used, last) (count - k) t × Reaches f bytes at t → Stops f bytes at
no_more_row f bytes at b left rel count k page schema used last p s lt e so_far =
    let h = so_far.1 in
    row_stop f bytes at b left (record { rel = rel; rows = h.first ∷ h.rest }) (count - (k + 1)) (rows_stand f bytes at b left rel count k (used, last) so_far.0 lt h so_far.2) (next_field f b rel page schema used last h.first h.rest (drop at bytes) p s h.used h.last ∙ sym e)

pub rows_end : (f : Format) (bytes : List ℕ) (at : ℕ) (b : Book) (left rel count k : ℕ) (x : ℕ × Row) → count ≤ k → (t : Stand) × RowsTo b left rel x (count - k) t × Reaches f bytes at t → (t : Stand) × RowsTo b left rel x 0 t × Reaches f bytes at t
rows_end f bytes at b left rel count k x le h = let e : count - k ≡ 0 = omega (arith, le) in subst (λ (n : ℕ). (t : Stand) × RowsTo b left rel x n t × Reaches f bytes at t) e h
