-- The pages of a relation's rows: each is full before the next, and together they have the rows.
use Rattle.std.proofs.Common.{◌≡◌, ◌≤◌, ℕ, suc, ◌+◌, Bool, true, false, cond, List, [], ◌∷◌, ◌++◌, length, refl, sym, ap, subst, ◌∙◌, arith}
use Rattle.std.specs.Prelude.{nat_le, All}
use Rattle.std.specs.List.{flat_map}
use Rattle.std.proofs.lemmas.Bool.{leb-true, leb-false}
use Rattle.std.proofs.lemmas.List.{length-append}
use Rattle.std.proofs.lemmas.List.Concat.{flat_map-append}
use Rattle.std.proofs.lemmas.List.Elements.{All-head, All-tail}
use Rattle.hera_sets.specs.Rows.{Row}
use Rattle.hera_meaning.specs.Deltas.{State}
use Rattle.rel_format.specs.Pages.{page_head, FitsIn, with_row, fill_from, paged, joined, used_by, page_bytes, rel_bytes, rels_bytes, page_count}
use Rattle.rel_format.specs.Greedy.{all_rows, Follow, ArePages}
use Rattle.half_writer.proofs.RowSizes.{FitsPage}

all_with_row : (r : Row) (pages : List (List Row)) → all_rows (with_row r pages) ≡ r ∷ all_rows pages
all_with_row r [] = refl
all_with_row r (rows ∷ pages) = refl

fill_rows : (page used : ℕ) (rows : List Row) → all_rows (fill_from page used rows) ≡ rows
fill_rows page used [] = refl
fill_rows page used (r ∷ rows) = by (λ (n : ℕ). fill_rows page n rows) (nat_le (used + length r) page)
  where
    by : ((n : ℕ) → all_rows (fill_from page n rows) ≡ rows) → (b : Bool) → all_rows (cond b (with_row r (fill_from page (used + length r) rows)) ([] ∷ with_row r (fill_from page (page_head + length r) rows))) ≡ r ∷ rows
    by again true = all_with_row r (fill_from page (used + length r) rows) ∙ ap (λ (t : List Row). r ∷ t) (again (used + length r))
    by again false = all_with_row r (fill_from page (page_head + length r) rows) ∙ ap (λ (t : List Row). r ∷ t) (again (page_head + length r))

-- the rows stand in the pages
pub paged_rows : (page : ℕ) (rows : List Row) → all_rows (paged page rows) ≡ rows
paged_rows page [] = refl
paged_rows page (r ∷ rows) = all_with_row r (fill_from page (page_head + length r) rows) ∙ ap (λ (t : List Row). r ∷ t) (fill_rows page (page_head + length r) rows)

-- behind so many bytes of an open page: what it takes, and the pages behind it
record Filled (page used : ℕ) (pages : List (List Row)) : Type 0 where
  first : List Row
  more : List (List Row)
  is : pages ≡ first ∷ more
  fits : used + length (joined first) ≤ page
  follow : Follow page (used + length (joined first)) more

filled : (page used : ℕ) (rows : List Row) → used ≤ page → All (FitsIn page) rows → Filled page used (fill_from page used rows)
filled page used [] within all = record { first = []; more = []; is = refl; fits = omega (arith, within); follow = tt }
filled page used (r ∷ rows) within all = by (λ (n : ℕ) (h : n ≤ page). filled page n rows h (All-tail (FitsIn page) r rows all)) (nat_le (used + length r) page) refl
  where
    here : FitsIn page r
    here = All-head (FitsIn page) r rows all

    by : ((n : ℕ) → n ≤ page → Filled page n (fill_from page n rows)) → (b : Bool) → nat_le (used + length r) page ≡ b → Filled page used (cond b (with_row r (fill_from page (used + length r) rows)) ([] ∷ with_row r (fill_from page (page_head + length r) rows)))
    by again true h =
        let m = again (used + length r) (leb-true (used + length r) page h) in
        let size : (used + length r) + length (joined m.first) ≡ used + length (joined (r ∷ m.first)) = omega (arith, length-append r (joined m.first)) in
        record {
          first = r ∷ m.first;
          more = m.more;
          is = ap (with_row r) m.is;
          fits = omega (arith, size, m.fits);
          follow = subst (λ (n : ℕ). Follow page n m.more) size m.follow;
        }
    by again false h =
        let m = again (page_head + length r) here in
        let size : (page_head + length r) + length (joined m.first) ≡ page_head + length (joined (r ∷ m.first)) = omega (arith, length-append r (joined m.first)) in
        let over = leb-false (used + length r) page h in
        record {
          first = [];
          more = (r ∷ m.first) ∷ m.more;
          is = ap (λ (ps : List (List Row)). [] ∷ with_row r ps) m.is;
          fits = omega (arith, within);
          follow = (omega (arith, over), omega (arith, size, m.fits), subst (λ (n : ℕ). Follow page n m.more) size m.follow);
        }

pub paged_pages : (page : ℕ) (rows : List Row) → All (FitsIn page) rows → ArePages page (paged page rows)
paged_pages page [] all = tt
paged_pages page (r ∷ rows) all =
    let here = All-head (FitsIn page) r rows all in
    let m = filled page (page_head + length r) rows here (All-tail (FitsIn page) r rows all) in
    let size : (page_head + length r) + length (joined m.first) ≡ page_head + length (joined (r ∷ m.first)) = omega (arith, length-append r (joined m.first)) in
    subst (ArePages page) (sym (ap (with_row r) m.is)) (omega (arith, size, m.fits), subst (λ (n : ℕ). Follow page n m.more) size m.follow)

-- rows have a byte at least
pub joined_long : (rows : List Row) → All FitsPage rows → length rows ≤ length (joined rows)
joined_long [] all = omega arith
joined_long (r ∷ rows) all =
    let here = All-head FitsPage r rows all in
    let more = joined_long rows (All-tail FitsPage r rows all) in
    omega (arith, here.some, more, length-append r (joined rows))

-- so have pages
pages_long : (page rel : ℕ) (pages : List (List Row)) → length pages ≤ length (flat_map (page_bytes page rel) pages)
pages_long page rel [] = omega arith
pages_long page rel (rows ∷ pages) =
    let one = page_bytes page rel rows in
    let head : 1 ≤ length one = omega arith in
    omega (arith, head, pages_long page rel pages, length-append one (flat_map (page_bytes page rel) pages))

pub counted_long : (page n : ℕ) (s : State) → page_count page s ≤ length (rels_bytes page n s)
counted_long page n [] = omega arith
counted_long page n (rows ∷ s) = omega (arith, pages_long page n (paged page rows), counted_long page (suc n) s, length-append (rel_bytes page n rows) (rels_bytes page (suc n) s))

-- the bytes used once some rows are put behind others
pub used_more : (xs : List Row) (r : Row) (ys : List Row) → used_by (xs ++ r ∷ ys) ≡ used_by xs + length r + length (joined ys)
used_more xs r ys =
    let same = ap (λ (t : List ℕ). length t) (flat_map-append (λ (p : Row). p) xs (r ∷ ys)) in
    omega (arith, same, length-append (joined xs) (joined (r ∷ ys)), length-append r (joined ys))
