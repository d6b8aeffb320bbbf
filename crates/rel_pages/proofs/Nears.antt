-- What a look at a row and at the rows beside it tells.
use Rattle.std.proofs.Common.{◌≡◌, ◌≤◌, ◌<◌, ℕ, zero, suc, ◌+◌, ◌-◌, ◌*◌, true, false, List, [], ◌∷◌, ◌++◌, length, take, drop, Some, None, sym, ap, subst, ◌∙◌, append_assoc, arith}
use Rattle.std.specs.List.{find}
use Rattle.std.proofs.lemmas.Bool.{cond-true, cond-false}
use Rattle.hera_sets.specs.Rows.{Row, IsAscending}
use Rattle.hera_sets.proofs.Lists.{ascending_front}
use Rattle.hera_meaning.specs.declared.schemas.Attr.{Attr}
use Rattle.hera_row.proofs.FieldLemmas.{AreBytes}
use Rattle.rel_pages.specs.declared.page_rel.Bound.{Bound}
use Rattle.rel_pages.specs.Rels.{leading, rows_from, page_rows, pages_rows, passes, IsRun, IsPage, ArePagesOf}
use Rattle.rel_pages.proofs.Runs.{find_none, find_some}
use Rattle.rel_pages.proofs.Evens.{IsEven, rows_on, row_here}
use Rattle.rel_pages.proofs.Searches.{pages_from, page_here, none_before, ascending_back}

-- ---- rows side by side

run_less : (schema : List Attr) (m n : ℕ) (bytes : List ℕ) → m ≤ n → IsRun schema n bytes → IsRun schema m bytes
run_less schema zero n bytes le run = tt
run_less schema (suc m) zero bytes le run = absurd (omega (arith, le))
run_less schema (suc m) (suc n) bytes le run = (run.0, run.1, run_less schema m n (drop run.0 bytes) (omega (arith, le)) run.2)

rows_up : (schema : List Attr) (width n k : ℕ) (bytes : List ℕ) → IsEven schema width → AreBytes bytes → k + 1 ≤ n → IsRun schema n bytes → rows_from schema (k + 1) bytes ≡ rows_from schema k bytes ++ leading schema (drop (k * width) bytes) ∷ []
rows_up schema width n k bytes even all le run =
    let from = rows_on schema width (k + 1) k bytes even all (omega arith) (run_less schema (k + 1) n bytes le run) in
    let one : k + 1 - k ≡ suc zero = omega arith in
    from.rows ∙ ap (λ (m : ℕ). rows_from schema k bytes ++ rows_from schema m (drop (k * width) bytes)) one

-- a row and the one behind it
pub record Pair (schema : List Attr) (width n k : ℕ) (bytes : List ℕ) : Type 0 where
  pub rest : List Row
  pub rows : rows_from schema n bytes ≡ rows_from schema k bytes ++ leading schema (drop (k * width) bytes) ∷ leading schema (drop ((k + 1) * width) bytes) ∷ rest

pub pair_here : (schema : List Attr) (width n k : ℕ) (bytes : List ℕ) → IsEven schema width → AreBytes bytes → k + 1 < n → IsRun schema n bytes → Pair schema width n k bytes
pair_here schema width n k bytes even all lt run =
    let next = row_here schema width n (k + 1) bytes even all lt run in
    let last : Row = leading schema (drop ((k + 1) * width) bytes) in
    record {
      rest = next.rest;
      rows = next.rows
          ∙ ap (λ (t : List Row). t ++ last ∷ next.rest) (rows_up schema width n k bytes even all (omega (arith, lt)) run)
          ∙ append_assoc (rows_from schema k bytes) (leading schema (drop (k * width) bytes) ∷ []) (last ∷ next.rest);
    }

pub last_here : (schema : List Attr) (width n k : ℕ) (bytes : List ℕ) → IsEven schema width → AreBytes bytes → k + 1 ≡ n → IsRun schema n bytes → rows_from schema n bytes ≡ rows_from schema k bytes ++ leading schema (drop (k * width) bytes) ∷ []
last_here schema width n k bytes even all e run =
    ap (λ (m : ℕ). rows_from schema m bytes) (sym e) ∙ rows_up schema width n k bytes even all (omega (arith, e)) run

pub first_here : (schema : List Attr) (width n k : ℕ) (bytes : List ℕ) → IsEven schema width → AreBytes bytes → k ≡ 0 → k < n → IsRun schema n bytes → (rest : List Row) × (rows_from schema n bytes ≡ leading schema (drop (k * width) bytes) ∷ rest)
first_here schema width n k bytes even all e lt run =
    let here = row_here schema width n k bytes even all lt run in
    (here.rest, here.rows ∙ ap (λ (m : ℕ). rows_from schema m bytes ++ leading schema (drop (k * width) bytes) ∷ here.rest) e)

-- ---- what they tell

pub tells_found : (bound : Bound) (rows xs ys : List Row) (x y : Row) → rows ≡ xs ++ x ∷ y ∷ ys → passes bound x ≡ false → passes bound y ≡ true →
    (before behind : List Row) → IsAscending (before ++ rows ++ behind) → find (passes bound) (before ++ rows ++ behind) ≡ Some y
tells_found bound rows xs ys x y e out there before behind up =
    let p = passes bound in
    let rest : List Row = y ∷ (ys ++ behind) in
    let whole : before ++ rows ++ behind ≡ (before ++ xs) ++ x ∷ rest =
    ap (λ (t : List Row). before ++ t ++ behind) e ∙ ap (λ (t : List Row). t ++ behind) (sym (append_assoc before xs (x ∷ y ∷ ys))) ∙ append_assoc (before ++ xs) (x ∷ y ∷ ys) behind in
    ap (find p) whole
    ∙ find_none p (before ++ xs) (x ∷ rest) (none_before bound (before ++ xs) x rest (subst IsAscending whole up) out)
    ∙ cond-false (passes bound x) _ _ out ∙ cond-true (passes bound y) _ _ there

pub tells_behind : (bound : Bound) (rows xs : List Row) (x : Row) → rows ≡ xs ++ x ∷ [] → passes bound x ≡ false →
    (before behind : List Row) → IsAscending (before ++ rows ++ behind) → find (passes bound) (before ++ rows ++ behind) ≡ find (passes bound) behind
tells_behind bound rows xs x e out before behind up =
    let p = passes bound in
    let whole : before ++ rows ++ behind ≡ (before ++ xs) ++ x ∷ behind =
    ap (λ (t : List Row). before ++ t ++ behind) e ∙ ap (λ (t : List Row). t ++ behind) (sym (append_assoc before xs (x ∷ []))) ∙ append_assoc (before ++ xs) (x ∷ []) behind in
    ap (find p) whole
    ∙ find_none p (before ++ xs) (x ∷ behind) (none_before bound (before ++ xs) x behind (subst IsAscending whole up) out)
    ∙ cond-false (passes bound x) _ _ out

pub tells_first : (bound : Bound) (rows ys : List Row) (x : Row) → rows ≡ x ∷ ys → passes bound x ≡ true → (behind : List Row) → find (passes bound) (rows ++ behind) ≡ Some x
tells_first bound rows ys x e there behind = ap (λ (t : List Row). find (passes bound) (t ++ behind)) e ∙ cond-true (passes bound x) _ _ there

-- ---- a page among the others

pub record PageIn (schema : List Attr) (page n k : ℕ) (bytes : List ℕ) : Type 0 where
  pub within : k * page ≤ length bytes
  pub fits : page ≤ length (drop (k * page) bytes)
  pub one : IsPage schema (take page (drop (k * page) bytes))
  pub more : ArePagesOf schema page (n - k - 1) (drop page (drop (k * page) bytes))
  pub rows : pages_rows schema page n bytes ≡ pages_rows schema page k bytes ++ page_rows schema (take page (drop (k * page) bytes)) ++ pages_rows schema page (n - k - 1) (drop page (drop (k * page) bytes))

pub page_in : (schema : List Attr) (page n k : ℕ) (bytes : List ℕ) → k < n → ArePagesOf schema page n bytes → PageIn schema page n k bytes
page_in schema page n k bytes lt h =
    let from = pages_from schema page n k bytes (omega (arith, lt)) h in
    let count : n - k ≡ suc (n - k - 1) = omega (arith, lt) in
    let at : List ℕ = drop (k * page) bytes in
    let pages = subst (λ (m : ℕ). ArePagesOf schema page m at) count from.pages in
    record {
      within = from.within;
      fits = pages.0;
      one = pages.1;
      more = pages.2;
      rows = from.rows ∙ ap (λ (m : ℕ). pages_rows schema page k bytes ++ pages_rows schema page m at) count
          ∙ sym (append_assoc (pages_rows schema page k bytes) (page_rows schema (take page at)) (pages_rows schema page (n - k - 1) (drop page at)));
    }

pub page_ascending : (schema : List Attr) (page n k : ℕ) (bytes : List ℕ) → k < n → ArePagesOf schema page n bytes → IsAscending (pages_rows schema page n bytes) → IsAscending (page_rows schema (take page (drop (k * page) bytes)))
page_ascending schema page n k bytes lt h up =
    let here = page_in schema page n k bytes lt h in
    let before : List Row = pages_rows schema page k bytes in
    let rows : List Row = page_rows schema (take page (drop (k * page) bytes)) in
    let behind : List Row = pages_rows schema page (n - k - 1) (drop page (drop (k * page) bytes)) in
    ascending_back before rows (ascending_front (before ++ rows) behind (subst IsAscending here.rows up))

pub in_page : (schema : List Attr) (page n k : ℕ) (bytes : List ℕ) (bound : Bound) (rows : List Row) (r : Row) → rows ≡ page_rows schema (take page (drop (k * page) bytes)) → k < n → ArePagesOf schema page n bytes → IsAscending (pages_rows schema page n bytes) →
    ((before behind : List Row) → IsAscending (before ++ rows ++ behind) → find (passes bound) (before ++ rows ++ behind) ≡ Some r) → Some r ≡ find (passes bound) (pages_rows schema page n bytes)
in_page schema page n k bytes bound rows r e lt h up told =
    let here = page_in schema page n k bytes lt h in
    let before : List Row = pages_rows schema page k bytes in
    let behind : List Row = pages_rows schema page (n - k - 1) (drop page (drop (k * page) bytes)) in
    let whole : pages_rows schema page n bytes ≡ before ++ rows ++ behind = here.rows ∙ ap (λ (t : List Row). before ++ t ++ behind) (sym e) in
    sym (ap (find (passes bound)) whole ∙ told before behind (subst IsAscending whole up))

pub behind_page : (schema : List Attr) (page n k : ℕ) (bytes : List ℕ) (bound : Bound) (rows : List Row) → rows ≡ page_rows schema (take page (drop (k * page) bytes)) → k < n → ArePagesOf schema page n bytes → IsAscending (pages_rows schema page n bytes) →
    ((before behind : List Row) → IsAscending (before ++ rows ++ behind) → find (passes bound) (before ++ rows ++ behind) ≡ find (passes bound) behind) → find (passes bound) (pages_rows schema page (n - k - 1) (drop page (drop (k * page) bytes))) ≡ find (passes bound) (pages_rows schema page n bytes)
behind_page schema page n k bytes bound rows e lt h up told =
    let here = page_in schema page n k bytes lt h in
    let before : List Row = pages_rows schema page k bytes in
    let behind : List Row = pages_rows schema page (n - k - 1) (drop page (drop (k * page) bytes)) in
    let whole : pages_rows schema page n bytes ≡ before ++ rows ++ behind = here.rows ∙ ap (λ (t : List Row). before ++ t ++ behind) (sym e) in
    sym (ap (find (passes bound)) whole ∙ told before behind (subst IsAscending whole up))

pub first_page : (schema : List Attr) (page n k : ℕ) (bytes : List ℕ) (bound : Bound) (rows : List Row) (r : Row) → rows ≡ page_rows schema (take page (drop (k * page) bytes)) → k ≡ 0 → k < n → ArePagesOf schema page n bytes →
    ((behind : List Row) → find (passes bound) (rows ++ behind) ≡ Some r) → Some r ≡ find (passes bound) (pages_rows schema page n bytes)
first_page schema page n k bytes bound rows r e none lt h told =
    let here = page_in schema page n k bytes lt h in
    let behind : List Row = pages_rows schema page (n - k - 1) (drop page (drop (k * page) bytes)) in
    let whole : pages_rows schema page n bytes ≡ rows ++ behind =
    here.rows ∙ ap (λ (m : ℕ). pages_rows schema page m bytes ++ page_rows schema (take page (drop (k * page) bytes)) ++ behind) none ∙ ap (λ (t : List Row). t ++ behind) (sym e) in
    sym (ap (find (passes bound)) whole ∙ told behind)

-- where no row of the pages before is looked for, the page and then those behind it decide
pub page_found : (schema : List Attr) (page n k : ℕ) (bytes : List ℕ) (bound : Bound) (r : Row) → k < n → ArePagesOf schema page n bytes → find (passes bound) (pages_rows schema page k bytes) ≡ None →
    find (passes bound) (page_rows schema (take page (drop (k * page) bytes))) ≡ Some r → Some r ≡ find (passes bound) (pages_rows schema page n bytes)
page_found schema page n k bytes bound r lt h none found =
    let here = page_in schema page n k bytes lt h in
    let p = passes bound in
    let before : List Row = pages_rows schema page k bytes in
    let rows : List Row = page_rows schema (take page (drop (k * page) bytes)) in
    let behind : List Row = pages_rows schema page (n - k - 1) (drop page (drop (k * page) bytes)) in
    sym (ap (find p) here.rows ∙ find_some p (before ++ rows) behind r (find_none p before rows none ∙ found))

pub page_left : (schema : List Attr) (page n k : ℕ) (bytes : List ℕ) (bound : Bound) → k < n → ArePagesOf schema page n bytes → find (passes bound) (pages_rows schema page k bytes) ≡ None →
    find (passes bound) (page_rows schema (take page (drop (k * page) bytes))) ≡ None → find (passes bound) (pages_rows schema page (n - k - 1) (drop page (drop (k * page) bytes))) ≡ find (passes bound) (pages_rows schema page n bytes)
page_left schema page n k bytes bound lt h none nothing =
    let here = page_in schema page n k bytes lt h in
    let p = passes bound in
    let before : List Row = pages_rows schema page k bytes in
    let rows : List Row = page_rows schema (take page (drop (k * page) bytes)) in
    let behind : List Row = pages_rows schema page (n - k - 1) (drop page (drop (k * page) bytes)) in
    sym (ap (find p) here.rows ∙ find_none p (before ++ rows) behind (find_none p before rows none ∙ nothing))

-- the first row of all pages
pub first_of_all : (schema : List Attr) (page n : ℕ) (bytes : List ℕ) (bound : Bound) (r : Row) → 0 < n → ArePagesOf schema page n bytes → r ≡ leading schema (drop 4 (take page (drop (0 * page) bytes))) → passes bound r ≡ true → Some r ≡ find (passes bound) (pages_rows schema page n bytes)
first_of_all schema page n bytes bound r some h e there =
    let here = page_here schema page n 0 bytes some h in
    sym (ap (find (passes bound)) (here.rows ∙ ap (λ (x : Row). x ∷ here.rest) (sym e)) ∙ cond-true (passes bound r) _ _ there)
