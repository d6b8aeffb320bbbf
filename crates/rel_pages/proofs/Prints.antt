-- Pages as they are printed, read again.
use Rattle.std.proofs.Common.{◌≡◌, ◌≤◌, ℕ, zero, suc, ◌+◌, ◌-◌, ◌/◌, List, [], ◌∷◌, ◌++◌, length, take, drop, All, Option, refl, sym, ap, subst, ◌∙◌, append_assoc, arith}
use Rattle.std.specs.List.{flat_map}
use Rattle.std.specs.Int.{w16, to_be_bytes}
use Rattle.std.proofs.Math.Nat.{add-div_left}
use Rattle.std.proofs.lemmas.List.{length-append, take_at, drop_at}
use Rattle.std.proofs.lemmas.List.Elements.{All-head, All-tail, All-nil, All-cons}
use Rattle.std.proofs.lemmas.Nat.{from_be_bytes-to_be_bytes_2}
use Rattle.hera_sets.specs.Rows.{Row, IsAscending}
use Rattle.hera_meaning.specs.declared.schemas.Attr.{Attr}
use Rattle.hera_meaning.specs.Rows.{IsRow}
use Rattle.rel_format.specs.Pages.{page_head, joined, used_by, zeros, page_bytes, rel_bytes}
use Rattle.rel_format.specs.Greedy.{all_rows, Follow, ArePages}
use Rattle.rel_format.proofs.Greedy.{paged_again}
use Rattle.rel_format.proofs.Good.{GoodRows, IsFew}
use Rattle.rel_pages.specs.Reading.{pages_len}
use Rattle.rel_pages.specs.Rels.{cut, leading, rows_from, rows_counted, page_rows, pages_rows, rows_in, IsRun, IsPage, ArePagesOf, IsPaged}
use Rattle.rel_format.proofs.Lengths.{row_in_front}

pub all_front : {A : Type 0} (P : A → Type 0) (xs ys : List A) → All P (xs ++ ys) → All P xs
all_front P [] ys h = All-nil P
all_front P (x ∷ xs) ys h = All-cons P x xs (All-head P x (xs ++ ys) h) (all_front P xs ys (All-tail P x (xs ++ ys) h))

pub all_back : {A : Type 0} (P : A → Type 0) (xs ys : List A) → All P (xs ++ ys) → All P ys
all_back P [] ys h = h
all_back P (x ∷ xs) ys h = all_back P xs ys (All-tail P x (xs ++ ys) h)

length-zeros : (n : ℕ) → length (zeros n) ≡ n
length-zeros zero = refl
length-zeros (suc n) = let more = length-zeros n in omega (arith, more)

length-two : (n : ℕ) → length (to_be_bytes w16 n) ≡ 2
length-two n = refl

pub page_size : (page rel : ℕ) (rows : List Row) → used_by rows ≤ page → length (page_bytes page rel rows) ≡ page
page_size page rel rows fits =
    let a = to_be_bytes w16 rel in
    let b = to_be_bytes w16 (length rows) in
    let z = zeros (page - used_by rows) in
    omega (arith, fits, length-append (a ++ b ++ joined rows) z, length-append (a ++ b) (joined rows), length-append a b, length-two rel, length-two (length rows), length-zeros (page - used_by rows))

-- ---- the rows of a page

pub record RunIs (schema : List Attr) (rows : List Row) (rest : List ℕ) : Type 0 where
  pub run : IsRun schema (length rows) (joined rows ++ rest)
  pub rows_are : rows_from schema (length rows) (joined rows ++ rest) ≡ rows

pub run_print : (schema : List Attr) (rows : List Row) (rest : List ℕ) → All (IsRow schema) rows → RunIs schema rows rest
run_print schema [] rest all = record { run = tt; rows_are = refl }
run_print schema (r ∷ rows) rest all =
    let more = run_print schema rows rest (All-tail (IsRow schema) r rows all) in
    let tail = joined rows ++ rest in
    let e : joined (r ∷ rows) ++ rest ≡ r ++ tail = append_assoc r (joined rows) rest in
    let len = row_in_front schema r tail (All-head (IsRow schema) r rows all) in
    let lead : leading schema (r ++ tail) ≡ r = ap (λ (o : Option ℕ). cut o (r ++ tail)) len ∙ take_at r tail (length r) refl in
    let back : drop (length r) (r ++ tail) ≡ tail = drop_at r tail (length r) refl in
    let run : IsRun schema (suc (length rows)) (r ++ tail) = (length r, len, subst (IsRun schema (length rows)) (sym back) more.run) in
    record {
      run = subst (IsRun schema (suc (length rows))) (sym e) run;
      rows_are = ap (rows_from schema (suc (length rows))) e
          ∙ ap (λ (x : Row). x ∷ rows_from schema (length rows) (drop (length x) (r ++ tail))) lead
          ∙ ap (λ (x : List ℕ). r ∷ rows_from schema (length rows) x) back
          ∙ ap (λ (xs : List Row). r ∷ xs) more.rows_are;
    }

pub counted_print : (page rel : ℕ) (rows : List Row) → IsFew rows → rows_counted (page_bytes page rel rows) ≡ length rows
counted_print page rel rows few = from_be_bytes-to_be_bytes_2 (length rows) (omega (arith, few))

behind_head : (page rel : ℕ) (rows : List Row) → drop page_head (page_bytes page rel rows) ≡ joined rows ++ zeros (page - used_by rows)
behind_head page rel rows = refl

pub record PageIs (schema : List Attr) (page rel : ℕ) (rows : List Row) : Type 0 where
  pub one : IsPage schema (page_bytes page rel rows)
  pub rows_are : page_rows schema (page_bytes page rel rows) ≡ rows

pub page_print : (schema : List Attr) (page rel : ℕ) (rows : List Row) → used_by rows ≤ page → 1 ≤ length rows → IsFew rows → All (IsRow schema) rows → PageIs schema page rel rows
page_print schema page rel rows fits some few all =
    let z = zeros (page - used_by rows) in
    let is = run_print schema rows z all in
    let count = counted_print page rel rows few in
    let size = page_size page rel rows fits in
    record {
      one = record {
        head = omega (arith, size, fits);
        some = omega (arith, count, some);
        run = subst (λ (n : ℕ). IsRun schema n (drop page_head (page_bytes page rel rows))) (sym count) (subst (IsRun schema (length rows)) (sym (behind_head page rel rows)) is.run);
      };
      rows_are = ap (λ (n : ℕ). rows_from schema n (drop page_head (page_bytes page rel rows))) count ∙ ap (rows_from schema (length rows)) (behind_head page rel rows) ∙ is.rows_are;
    }

-- ---- the pages of a relation

abbrev pub Fits : ℕ → List (List Row) → Type 0
Fits page [] = Unit {0}
Fits page (rows ∷ g) = (used_by rows ≤ page) × (1 ≤ length rows) × Fits page g

fits_follow : (page used : ℕ) (g : List (List Row)) → Follow page used g → Fits page g
fits_follow page used [] h = tt
fits_follow page used ([] ∷ g) h = absurd h
fits_follow page used ((r ∷ rows) ∷ g) h = (h.1, omega arith, fits_follow page (page_head + length (joined (r ∷ rows))) g h.2)

pub fits_of : (page : ℕ) (g : List (List Row)) → ArePages page g → Fits page g
fits_of page [] h = tt
fits_of page ([] ∷ g) h = absurd h
fits_of page ((r ∷ rows) ∷ g) h = (h.0, omega arith, fits_follow page (page_head + length (joined (r ∷ rows))) g h.1)

pub record GroupIs (schema : List Attr) (page : ℕ) (g : List (List Row)) (bytes : List ℕ) : Type 0 where
  pub size : length bytes ≡ pages_len page g
  pub pages : ArePagesOf schema page (length g) bytes
  pub rows_are : pages_rows schema page (length g) bytes ≡ all_rows g

pub group_print : (schema : List Attr) (page rel : ℕ) (g : List (List Row)) → Fits page g → All IsFew g → All (IsRow schema) (all_rows g) → GroupIs schema page g (flat_map (page_bytes page rel) g)
group_print schema page rel [] fits few all = record { size = refl; pages = tt; rows_are = refl }
group_print schema page rel (rows ∷ g) fits few all =
    let one = page_bytes page rel rows in
    let rest = flat_map (page_bytes page rel) g in
    let is = page_print schema page rel rows fits.0 fits.1 (All-head IsFew rows g few) (all_front (IsRow schema) rows (all_rows g) all) in
    let more = group_print schema page rel g fits.2 (All-tail IsFew rows g few) (all_back (IsRow schema) rows (all_rows g) all) in
    let size = page_size page rel rows fits.0 in
    let front : take page (one ++ rest) ≡ one = take_at one rest page size in
    let back : drop page (one ++ rest) ≡ rest = drop_at one rest page size in
    record {
      size = omega (arith, length-append one rest, size, more.size);
      pages = (omega (arith, length-append one rest, size), subst (IsPage schema) (sym front) is.one, subst (ArePagesOf schema page (length g)) (sym back) more.pages);
      rows_are = ap (λ (x : List ℕ). page_rows schema x ++ pages_rows schema page (length g) (drop page (one ++ rest))) front
          ∙ ap (λ (x : List ℕ). page_rows schema one ++ pages_rows schema page (length g) x) back
          ∙ ap (λ (x : List Row). x ++ pages_rows schema page (length g) rest) is.rows_are
          ∙ ap (λ (x : List Row). rows ++ x) more.rows_are;
    }

pages_over : (page : ℕ) (g : List (List Row)) → 1 ≤ page → pages_len page g / page ≡ length g
pages_over page [] some = omega arith
pages_over page (rows ∷ g) some =
    let more = pages_over page g some in
    let step = add-div_left (pages_len page g) {k = page} some in
    omega (arith, more, step)

pub record GroupPaged (schema : List Attr) (page : ℕ) (g : List (List Row)) (bytes : List ℕ) : Type 0 where
  pub size : length bytes ≡ pages_len page g
  pub paged : IsPaged schema page bytes
  pub rows_are : rows_in schema page bytes ≡ all_rows g

pub group_paged : (schema : List Attr) (page rel : ℕ) (g : List (List Row)) → 1 ≤ page → GoodRows page schema g → All IsFew g → GroupPaged schema page g (flat_map (page_bytes page rel) g)
group_paged schema page rel g some good few =
    let bytes = flat_map (page_bytes page rel) g in
    let is = group_print schema page rel g (fits_of page g good.pages) few good.rows in
    let count : length bytes / page ≡ length g = ap (λ (n : ℕ). n / page) is.size ∙ pages_over page g some in
    let same : rows_in schema page bytes ≡ all_rows g = ap (λ (n : ℕ). pages_rows schema page n bytes) count ∙ is.rows_are in
    record {
      size = is.size;
      paged = record {
        sized = some;
        pages = subst (λ (n : ℕ). ArePagesOf schema page n bytes) (sym count) is.pages;
        rel = rel;
        ascending = subst IsAscending (sym same) good.ascending;
        rows = subst (All (IsRow schema)) (sym same) good.rows;
        printed = ap (flat_map (page_bytes page rel)) (sym (paged_again page g good.pages)) ∙ ap (rel_bytes page rel) (sym same);
      };
      rows_are = same;
    }
