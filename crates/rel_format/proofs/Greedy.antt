-- Pages of which each is full before the next are the pages of their rows.
use Rattle.std.proofs.Common.{◌≡◌, ◌≤◌, ◌<◌, ℕ, ◌+◌, List, [], ◌∷◌, ◌++◌, length, refl, sym, ap, subst, ◌∙◌, arith}
use Rattle.std.specs.Prelude.{nat_le}
use Rattle.std.proofs.lemmas.Bool.{le-leb, lt-leb, cond-true, cond-false}
use Rattle.std.proofs.lemmas.List.{length-append}
use Rattle.hera_sets.specs.Rows.{Row}
use Rattle.rel_format.specs.Pages.{page_head, with_row, fill_from, paged, joined}
use Rattle.rel_format.specs.Greedy.{all_rows, Follow, ArePages}

-- the open page takes its rows, and those of the pages behind it come in theirs
fills : (page : ℕ) (pages : List (List Row)) (used : ℕ) (rows : List Row) → used + length (joined rows) ≤ page → Follow page (used + length (joined rows)) pages → fill_from page used (rows ++ all_rows pages) ≡ rows ∷ pages
fills page [] used [] fits h = refl
fills page ([] ∷ pages) used [] fits h = absurd h
fills page ((q ∷ qs) ∷ pages) used [] fits h =
    let over : page < used + length q = omega (arith, h.0) in
    let size = length-append q (joined qs) in
    let here : (page_head + length q) + length (joined qs) ≡ page_head + length (joined (q ∷ qs)) = omega (arith, size) in
    cond-false (nat_le (used + length q) page) _ _ (lt-leb (used + length q) page over)
    ∙ ap (λ (ps : List (List Row)). [] ∷ with_row q ps) (fills page pages (page_head + length q) qs (omega (arith, here, h.1)) (subst (λ (n : ℕ). Follow page n pages) (sym here) h.2))
fills page pages used (r ∷ rows) fits h =
    let size = length-append r (joined rows) in
    let here : (used + length r) + length (joined rows) ≡ used + length (joined (r ∷ rows)) = omega (arith, size) in
    let room : used + length r ≤ page = omega (arith, size, fits) in
    cond-true (nat_le (used + length r) page) _ _ (le-leb (used + length r) page room)
    ∙ ap (with_row r) (fills page pages (used + length r) rows (omega (arith, here, fits)) (subst (λ (n : ℕ). Follow page n pages) (sym here) h))

pub paged_again : (page : ℕ) (pages : List (List Row)) → ArePages page pages → paged page (all_rows pages) ≡ pages
paged_again page [] h = refl
paged_again page ([] ∷ pages) h = absurd h
paged_again page ((r ∷ rows) ∷ pages) h =
    let size = length-append r (joined rows) in
    let here : (page_head + length r) + length (joined rows) ≡ page_head + length (joined (r ∷ rows)) = omega (arith, size) in
    ap (with_row r) (fills page pages (page_head + length r) rows (omega (arith, here, h.0)) (subst (λ (n : ℕ). Follow page n pages) (sym here) h.1))
