-- Searches over pages: what the pages before a place leave out.
use Rattle.std.proofs.Common.{◌≡◌, ◌≤◌, ◌<◌, ℕ, zero, suc, ◌+◌, ◌-◌, ◌*◌, Bool, true, false, not, cond, ◌||◌, List, [], ◌∷◌, ◌++◌, length, take, drop, length-drop, Option, Some, None, refl, sym, ap, subst, ◌∙◌, append_assoc, arith}
use Rattle.std.specs.Prelude.{is_some}
use Rattle.std.specs.List.{find}
use Rattle.std.proofs.Math.Nat.{suc-mul}
use Rattle.std.proofs.lemmas.Bool.{both_ways, cond-false}
use Rattle.std.proofs.lemmas.List.{drop-drop}
use Rattle.hera_sets.specs.Rows.{Row, is_below, is_same, holds, IsAscending, IsBelowAll}
use Rattle.hera_sets.proofs.Order.{below_trans, stands, before, level, behind}
use Rattle.hera_sets.proofs.Lists.{none_held, all_below_trans}
use Rattle.hera_meaning.specs.declared.schemas.Attr.{Attr}
use Rattle.rel_pages.specs.declared.page_rel.Bound.{Bound}
use Rattle.rel_pages.specs.declared.page_rel.Bound.TheVariants.{Any, Past, From}
use Rattle.hera_row.specs.Reading.{row_len_of}
use Rattle.rel_pages.specs.Rels.{leading, rows_from, rows_counted, page_rows, pages_rows, passes, IsRun, IsPage, ArePagesOf}

-- ---- the pages from a page on

pub record PagesFrom (schema : List Attr) (page n k : ℕ) (bytes : List ℕ) : Type 0 where
  pub within : k * page ≤ length bytes
  pub pages : ArePagesOf schema page (n - k) (drop (k * page) bytes)
  pub rows : pages_rows schema page n bytes ≡ pages_rows schema page k bytes ++ pages_rows schema page (n - k) (drop (k * page) bytes)

pub pages_from : (schema : List Attr) (page n k : ℕ) (bytes : List ℕ) → k ≤ n → ArePagesOf schema page n bytes → PagesFrom schema page n k bytes
pages_from schema page n zero bytes le h =
    let none : 0 ≡ 0 * page = omega arith in
    let all : n ≡ n - 0 = omega arith in
    let whole : (0 ≤ length bytes) × ArePagesOf schema page (n - 0) bytes × (pages_rows schema page n bytes ≡ pages_rows schema page (n - 0) bytes) =
    (omega arith, subst (λ (m : ℕ). ArePagesOf schema page m bytes) all h, ap (λ (m : ℕ). pages_rows schema page m bytes) all) in
    record {
      within = omega (arith, none);
      pages = subst (λ (m : ℕ). ArePagesOf schema page (n - 0) (drop m bytes)) none whole.1;
      rows = whole.2 ∙ ap (λ (m : ℕ). pages_rows schema page (n - 0) (drop m bytes)) none;
    }
pages_from schema page zero (suc k) bytes le h = absurd (omega (arith, le))
pages_from schema page (suc n) (suc k) bytes le h =
    let rest = pages_from schema page n k (drop page bytes) (omega (arith, le)) h.2 in
    let size = suc-mul k page in
    let place : drop (k * page) (drop page bytes) ≡ drop (suc k * page) bytes = drop-drop (k * page) page bytes ∙ ap (λ (m : ℕ). drop m bytes) (omega (arith, size)) in
    let count : n - k ≡ suc n - suc k = omega arith in
    record {
      within = omega (arith, size, rest.within, length-drop page bytes, h.0);
      pages = subst (λ (m : ℕ). ArePagesOf schema page m (drop (suc k * page) bytes)) count (subst (ArePagesOf schema page (n - k)) place rest.pages);
      rows = ap (λ (t : List Row). page_rows schema (take page bytes) ++ t) rest.rows
          ∙ sym (append_assoc (page_rows schema (take page bytes)) (pages_rows schema page k (drop page bytes)) (pages_rows schema page (n - k) (drop (k * page) (drop page bytes))))
          ∙ ap (λ (t : List ℕ). pages_rows schema page (suc k) bytes ++ pages_rows schema page (n - k) t) place
          ∙ ap (λ (m : ℕ). pages_rows schema page (suc k) bytes ++ pages_rows schema page m (drop (suc k * page) bytes)) count;
    }

-- the page of a number
pub record PageHere (schema : List Attr) (page n k : ℕ) (bytes : List ℕ) : Type 0 where
  pub within : k * page ≤ length bytes
  pub fits : page ≤ length (drop (k * page) bytes)
  pub one : IsPage schema (take page (drop (k * page) bytes))
  pub rest : List Row
  pub rows : pages_rows schema page n bytes ≡ pages_rows schema page k bytes ++ leading schema (drop 4 (take page (drop (k * page) bytes))) ∷ rest

leads : (schema : List Attr) (n : ℕ) (bytes : List ℕ) → 1 ≤ n → (rest : List Row) × (rows_from schema n bytes ≡ leading schema bytes ∷ rest)
leads schema zero bytes h = absurd (omega (arith, h))
leads schema (suc n) bytes h = (rows_from schema n (drop (length (leading schema bytes)) bytes), refl)

pub page_here : (schema : List Attr) (page n k : ℕ) (bytes : List ℕ) → k < n → ArePagesOf schema page n bytes → PageHere schema page n k bytes
page_here schema page n k bytes lt h =
    let from = pages_from schema page n k bytes (omega (arith, lt)) h in
    let count : n - k ≡ suc (n - (k + 1)) = omega (arith, lt) in
    let at : List ℕ = drop (k * page) bytes in
    let pages = subst (λ (m : ℕ). ArePagesOf schema page m at) count from.pages in
    let lead = leads schema (rows_counted (take page at)) (drop 4 (take page at)) pages.1.some in
    let more : List Row = pages_rows schema page (n - (k + 1)) (drop page at) in
    record {
      within = from.within;
      fits = pages.0;
      one = pages.1;
      rest = lead.0 ++ more;
      rows = from.rows ∙ ap (λ (m : ℕ). pages_rows schema page k bytes ++ pages_rows schema page m at) count
          ∙ ap (λ (t : List Row). pages_rows schema page k bytes ++ (t ++ more)) lead.1;
    }

pub run_leads : (schema : List Attr) (n : ℕ) (bytes : List ℕ) → 1 ≤ n → IsRun schema n bytes → is_some (row_len_of schema bytes) ≡ true
run_leads schema zero bytes h run = absurd (omega (arith, h))
run_leads schema (suc n) bytes h run = ap is_some run.1

-- ---- rows before one that is not looked for

pub passes_on : (bound : Bound) (x r : Row) → passes bound x ≡ true → is_below x r ≡ true → passes bound r ≡ true
passes_on Any x r h lt = refl
passes_on (Past b) x r h lt = below_trans b.now x r h lt
passes_on (From b) x r h lt = by (is_below r b.now) refl
  where
    by : (v : Bool) → is_below r b.now ≡ v → not v ≡ true
    by false e = refl
    by true e = absurd (both_ways (is_below x b.now) (not_true (is_below x b.now) h) (below_trans x r b.now lt e))
      where
        not_true : (v : Bool) → not v ≡ true → v ≡ false
        not_true false g = refl
        not_true true g = sym g

pub ascending_back : (xs ys : List Row) → IsAscending (xs ++ ys) → IsAscending ys
ascending_back [] ys up = up
ascending_back (x ∷ xs) ys up = ascending_back xs ys up.1

below_there : (x : Row) (xs : List Row) (r : Row) (ys : List Row) → IsBelowAll x (xs ++ r ∷ ys) → is_below x r ≡ true
below_there x [] r ys h = h.0
below_there x (y ∷ xs) r ys h = below_there x xs r ys h.1

pub none_before : (bound : Bound) (xs : List Row) (r : Row) (ys : List Row) → IsAscending (xs ++ r ∷ ys) → passes bound r ≡ false → find (passes bound) xs ≡ None
none_before bound [] r ys up out = refl
none_before bound (x ∷ xs) r ys up out = by (passes bound x) refl (none_before bound xs r ys up.1 out)
  where
    by : (v : Bool) → passes bound x ≡ v → find (passes bound) xs ≡ None → find (passes bound) (x ∷ xs) ≡ None
    by true e more = absurd (both_ways (passes bound r) out (passes_on bound x r e (below_there x xs r ys up.0)))
    by false e more = cond-false (passes bound x) _ _ e ∙ more

-- ---- whether a row is there

abbrev pub is_that : Row → Option Row → Bool
is_that q None = false
is_that q (Some r) = is_same q r

pub held_from : (q : Row) (xs : List Row) → IsAscending xs → is_that q (find (λ r. not (is_below r q)) xs) ≡ holds xs q
held_from q [] up = refl
held_from q (x ∷ xs) up =
    elim (stands q x) [
      | before p s t ↦ here s ∙ t ∙ sym (ap (λ b. b || holds xs q) t ∙ none_held q xs (all_below_trans q x xs p up.0))
      | level e p s t ↦ here s ∙ t ∙ sym (ap (λ b. b || holds xs q) t)
      | behind p s t ↦ cond_there p ∙ held_from q xs up.1 ∙ sym (ap (λ b. b || holds xs q) t)
    ]
  where
    here : is_below x q ≡ false → is_that q (find (λ r. not (is_below r q)) (x ∷ xs)) ≡ is_same q x
    here e = ap (λ b. is_that q (cond (not b) (Some x) (find (λ r. not (is_below r q)) xs))) e

    cond_there : is_below x q ≡ true → is_that q (find (λ r. not (is_below r q)) (x ∷ xs)) ≡ is_that q (find (λ r. not (is_below r q)) xs)
    cond_there e = ap (λ b. is_that q (cond (not b) (Some x) (find (λ r. not (is_below r q)) xs))) e
