-- The greedy pages, from the page that is open.
use Rattle.std.proofs.Common.{◌≡◌, ◌≤◌, ◌<◌, ℕ, zero, suc, ◌+◌, List, [], ◌∷◌, ◌++◌, length, refl, sym, ap, ◌∙◌, append_assoc, arith}
use Rattle.std.specs.Prelude.{nat_le}
use Rattle.std.proofs.lemmas.List.Concat.{flat_map-append}
use Rattle.std.proofs.lemmas.Bool.{le-leb, lt-leb, cond-true, cond-false}
use Rattle.std.proofs.lemmas.List.{length-append, append-nil}
use Rattle.hera_sets.specs.Rows.{Row}
use Rattle.rel_format.specs.Pages.{page_head, with_row, fill_from, paged, joined, used_by, zeros}
use Rattle.rel_format.proofs.Good.{used-push}

pub zeros_more : (n : ℕ) → zeros n ++ 0 ∷ [] ≡ zeros (n + 1)
zeros_more zero = refl
zeros_more (suc n) = let e : suc n + 1 ≡ suc (n + 1) = omega arith in ap (λ (t : List ℕ). 0 ∷ t) (zeros_more n) ∙ ap zeros (sym e)

pub length-zeros : (n : ℕ) → length (zeros n) ≡ n
length-zeros zero = refl
length-zeros (suc n) = let more = length-zeros n in omega (arith, more)

-- the rows of the open page in front of the first of these pages
abbrev pub ahead : List Row → List (List Row) → List (List Row)
ahead held [] = held ∷ []
ahead held (rows ∷ pages) = (held ++ rows) ∷ pages

ahead_row : (held : List Row) (r : Row) (pages : List (List Row)) → ahead held (with_row r pages) ≡ ahead (held ++ r ∷ []) pages
ahead_row held r [] = refl
ahead_row held r (rows ∷ pages) = ap (λ (t : List Row). t ∷ pages) (sym (append_assoc held (r ∷ []) rows))

one_row : (r : Row) (pages : List (List Row)) → with_row r pages ≡ ahead (r ∷ []) pages
one_row r [] = refl
one_row r (rows ∷ pages) = refl

-- the pages of the rows still to come, with the open page
abbrev pub coming : ℕ → List Row → List Row → List (List Row)
coming page held rows = ahead held (fill_from page (used_by held) rows)

pub first_page : (page : ℕ) (r : Row) (rows : List Row) → paged page (r ∷ rows) ≡ coming page (r ∷ []) rows
first_page page r rows =
    let size : page_head + length r ≡ used_by (r ∷ []) = omega (arith, length-append r []) in
    one_row r (fill_from page (page_head + length r) rows) ∙ ap (λ (n : ℕ). ahead (r ∷ []) (fill_from page n rows)) size

pub row_fits : (page : ℕ) (held : List Row) (r : Row) (rows : List Row) → used_by held + length r ≤ page → coming page held (r ∷ rows) ≡ coming page (held ++ r ∷ []) rows
row_fits page held r rows fits =
    ap (ahead held) (cond-true (nat_le (used_by held + length r) page) _ _ (le-leb (used_by held + length r) page fits))
    ∙ ahead_row held r (fill_from page (used_by held + length r) rows)
    ∙ ap (λ (n : ℕ). ahead (held ++ r ∷ []) (fill_from page n rows)) (sym (used-push held r))

pub row_over : (page : ℕ) (held : List Row) (r : Row) (rows : List Row) → page < used_by held + length r → coming page held (r ∷ rows) ≡ held ∷ coming page (r ∷ []) rows
row_over page held r rows over =
    let size : page_head + length r ≡ used_by (r ∷ []) = omega (arith, length-append r []) in
    ap (ahead held) (cond-false (nat_le (used_by held + length r) page) _ _ (lt-leb (used_by held + length r) page over))
    ∙ ap (λ (t : List Row). t ∷ with_row r (fill_from page (page_head + length r) rows)) (append-nil held)
    ∙ ap (λ (ps : List (List Row)). held ∷ ps) (one_row r (fill_from page (page_head + length r) rows) ∙ ap (λ (n : ℕ). ahead (r ∷ []) (fill_from page n rows)) size)

pub none_coming : (page : ℕ) (held : List Row) → coming page held [] ≡ held ∷ []
none_coming page held = ap (λ (t : List Row). t ∷ []) (append-nil held)

used_more : (xs ys : List Row) → used_by (xs ++ ys) ≡ used_by xs + length (joined ys)
used_more xs ys =
    let same = ap (λ (t : List ℕ). length t) (flat_map-append (λ (r : Row). r) xs ys) in
    omega (arith, same, length-append (joined xs) (joined ys))

-- rows that fit in the open page are put in it
takes : (page : ℕ) (held xs rest : List Row) → used_by (held ++ xs) ≤ page → coming page held (xs ++ rest) ≡ coming page (held ++ xs) rest
takes page held [] rest fits = ap (λ (t : List Row). coming page t rest) (sym (append-nil held))
takes page held (x ∷ xs) rest fits =
    let size = used_more held (x ∷ xs) in
    let room : used_by held + length x ≤ page = omega (arith, size, fits, length-append x (joined xs)) in
    let again = append_assoc held (x ∷ []) xs in
    let more : used_by ((held ++ x ∷ []) ++ xs) ≤ page = omega (arith, ap used_by again, fits) in
    row_fits page held x (xs ++ rest) room ∙ takes page (held ++ x ∷ []) xs rest more ∙ ap (λ (t : List Row). coming page t rest) again

open_page : (page : ℕ) (q : Row) (qs rest : List Row) → used_by (q ∷ qs) ≤ page → paged page ((q ∷ qs) ++ rest) ≡ coming page (q ∷ qs) rest
open_page page q qs rest fits = first_page page q (qs ++ rest) ∙ takes page (q ∷ []) qs rest fits

-- a page is closed where the next row does not fit
pub closes : (page : ℕ) (held : List Row) (r : Row) (rest : List Row) → 1 ≤ length held → used_by held ≤ page → page < used_by held + length r → paged page (held ++ r ∷ rest) ≡ held ∷ paged page (r ∷ rest)
closes page [] r rest some fits over = absurd (omega (arith, some))
closes page (q ∷ qs) r rest some fits over = open_page page q qs (r ∷ rest) fits ∙ row_over page (q ∷ qs) r rest over ∙ ap (λ (t : List (List Row)). (q ∷ qs) ∷ t) (sym (first_page page r rest))

-- the last page
pub ends : (page : ℕ) (held : List Row) → 1 ≤ length held → used_by held ≤ page → paged page (held ++ []) ≡ held ∷ []
ends page [] some fits = absurd (omega (arith, some))
ends page (q ∷ qs) some fits = open_page page q qs [] fits ∙ none_coming page (q ∷ qs)

some_page : (r : Row) (pages : List (List Row)) → 1 ≤ length (with_row r pages)
some_page r [] = omega arith
some_page r (rows ∷ pages) = omega arith

pub has_page : (page : ℕ) (rows : List Row) → 1 ≤ length rows → 1 ≤ length (paged page rows)
has_page page [] some = some
has_page page (r ∷ rows) some = some_page r (fill_from page (page_head + length r) rows)
