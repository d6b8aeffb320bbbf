-- Steps of writing the pages of a relation.
use Rattle.std.proofs.Common.{◌≡◌, ◌≤◌, ◌<◌, ℕ, suc, ◌+◌, List, [], ◌∷◌, ◌++◌, length, sym, ap, ◌∙◌, append_assoc, arith, inr}
use Rattle.rel_format.specs.declared.version.TheConstants.{PAGE_TWO}
use Rattle.std.specs.List.{flat_map}
use Rattle.std.proofs.Math.Numerals.{add-one}
use Rattle.std.proofs.lemmas.List.{length-append, append-nil}
use Rattle.hera_sets.specs.Rows.{Row}
use Rattle.rel_format.specs.Pages.{FitsIn, paged, joined, page_bytes, rel_bytes}
use Rattle.rel_format.proofs.Good.{joined-push}
use Rattle.half_writer.specs.declared.open_page.OpenPage.{OpenPage}
use Rattle.half_writer.specs.declared.pages.HalfFault.{HalfFault}
use Rattle.half_writer.specs.declared.pages.HalfFault.TheVariants.{Full, Memory}
use Rattle.half_writer.specs.Written.{pages_size, IsFullAt, IsFirstFull}
use Rattle.half_writer.specs.Paging.{Task, IsPaging, IsPut}
use Rattle.half_writer.proofs.Fills.{closes, ends, has_page}

pub begins : (t : Task) (rest : List Row) (page : OpenPage) → rest ≡ t.all → page.rows.items ≡ [] → page.count ≡ 0 → page.before ≡ t.first → IsPaging t rest t.front page
begins t rest page same rows count before =
    let counts : length (paged PAGE_TWO rest) ≡ length (paged PAGE_TWO t.all) = ap (λ (rs : List Row). length (paged PAGE_TWO rs)) same in
    record {
      held = [];
      rows = rows;
      count = count;
      printed = ap (λ (rs : List Row). t.front ++ rel_bytes PAGE_TWO t.rel rs) same;
      done = 0;
      before = omega (arith, before);
      pages = omega (arith, counts);
      size = omega arith;
    }

-- a row put in the open page
pub stays : (t : Task) (row : Row) (rest : List Row) (bytes : List ℕ) (page next : OpenPage) → IsPaging t (row ∷ rest) bytes page → IsPut page row next → IsPaging t rest bytes next
stays t row rest bytes page next p put =
    let again = append_assoc p.held (row ∷ []) rest in
    record {
      held = p.held ++ row ∷ [];
      rows = put.rows ∙ ap (λ (xs : List ℕ). xs ++ row) p.rows ∙ sym (joined-push p.held row);
      count = omega (arith, put.count, p.count, length-append p.held (row ∷ []));
      printed = ap (λ (rs : List Row). bytes ++ rel_bytes PAGE_TWO t.rel rs) again ∙ p.printed;
      done = p.done;
      before = put.before ∙ p.before;
      pages = ap (λ (rs : List Row). p.done + length (paged PAGE_TWO rs)) again ∙ p.pages;
      size = p.size;
    }

some_held : (held : List Row) → 1 ≤ length (joined held) → 1 ≤ length held
some_held [] h = h
some_held (x ∷ xs) h = omega arith

size_more : (page k : ℕ) → pages_size page (k + 1) ≡ page + pages_size page k
size_more page k = ap (pages_size page) (add-one k)

-- the open page is closed in front of a row for which it has no room
pub turns : (t : Task) (row : Row) (rest : List Row) (bytes new : List ℕ) (page next : OpenPage) (p : IsPaging t (row ∷ rest) bytes page)
    → FitsIn PAGE_TWO row → 4 + length page.rows.items ≤ PAGE_TWO → PAGE_TWO < 4 + length page.rows.items + length row
    → new ≡ bytes ++ page_bytes PAGE_TWO t.rel p.held → length new ≡ length bytes + PAGE_TWO
    → next.rows.items ≡ [] → next.count ≡ 0 → next.before ≡ page.before + 1 → IsPaging t (row ∷ rest) new next
turns t row rest bytes new page next p short fits over grown longer rows count before =
    let size : length page.rows.items ≡ length (joined p.held) = ap length p.rows in
    let some : 1 ≤ length p.held = some_held p.held (omega (arith, size, short, over)) in
    let closed : paged PAGE_TWO (p.held ++ row ∷ rest) ≡ p.held ∷ paged PAGE_TWO (row ∷ rest) = closes PAGE_TWO p.held row rest some (omega (arith, size, fits)) (omega (arith, size, over)) in
    let counts : length (paged PAGE_TWO (p.held ++ row ∷ rest)) ≡ suc (length (paged PAGE_TWO (row ∷ rest))) = ap length closed in
    let one = page_bytes PAGE_TWO t.rel in
    record {
      held = [];
      rows = rows;
      count = count;
      printed =
          ap (λ (xs : List ℕ). xs ++ rel_bytes PAGE_TWO t.rel (row ∷ rest)) grown
          ∙ append_assoc bytes (one p.held) (rel_bytes PAGE_TWO t.rel (row ∷ rest))
          ∙ ap (λ (ps : List (List Row)). bytes ++ flat_map one ps) (sym closed)
          ∙ p.printed;
      done = p.done + 1;
      before = omega (arith, before, p.before);
      pages = omega (arith, counts, p.pages);
      size = omega (arith, longer, p.size, size_more PAGE_TWO p.done);
    }

-- the last page is closed
pub last_bytes : (t : Task) (bytes new : List ℕ) (page : OpenPage) (p : IsPaging t [] bytes page) → 1 ≤ page.count → 4 + length page.rows.items ≤ PAGE_TWO → new ≡ bytes ++ page_bytes PAGE_TWO t.rel p.held → new ≡ t.front ++ rel_bytes PAGE_TWO t.rel t.all
last_bytes t bytes new page p some fits grown =
    let size : length page.rows.items ≡ length (joined p.held) = ap length p.rows in
    let closed : paged PAGE_TWO (p.held ++ []) ≡ p.held ∷ [] = ends PAGE_TWO p.held (omega (arith, some, p.count)) (omega (arith, size, fits)) in
    let one = page_bytes PAGE_TWO t.rel in
    grown ∙ ap (λ (xs : List ℕ). bytes ++ xs) (sym (append-nil (one p.held))) ∙ ap (λ (ps : List (List Row)). bytes ++ flat_map one ps) (sym closed) ∙ p.printed

pub last_count : (t : Task) (bytes : List ℕ) (page : OpenPage) (n : ℕ) → IsPaging t [] bytes page → 1 ≤ page.count → 4 + length page.rows.items ≤ PAGE_TWO → n ≡ page.before + 1 → n ≡ t.first + length (paged PAGE_TWO t.all)
last_count t bytes page n p some fits next =
    let size : length page.rows.items ≡ length (joined p.held) = ap length p.rows in
    let closed : paged PAGE_TWO (p.held ++ []) ≡ p.held ∷ [] = ends PAGE_TWO p.held (omega (arith, some, p.count)) (omega (arith, size, fits)) in
    let counts : length (paged PAGE_TWO (p.held ++ [])) ≡ 1 = ap length closed in
    omega (arith, next, counts, p.pages, p.before)

-- where there is no room for the open page, the need is the first past the limit
pub first_full : (t : Task) (rest : List Row) (bytes : List ℕ) (page : OpenPage) (head limit : ℕ) (e : HalfFault) (p : IsPaging t rest bytes page) → 1 ≤ length (p.held ++ rest) → head + length bytes ≤ limit → IsFullAt (head + length bytes + PAGE_TWO) limit e → IsFirstFull PAGE_TWO (head + length t.front) (length (paged PAGE_TWO t.all)) limit e
first_full t rest bytes page head limit (Full n l) p some room full =
    let more = has_page PAGE_TWO (p.held ++ rest) some in (
      record {
        added = p.done + 1;
        few = omega (arith, more, p.pages);
        sum = omega (arith, full.0, p.size, size_more PAGE_TWO p.done);
        past = omega (arith, full.0, full.2);
        first = inr (omega (arith, full.0, room));
      },
      full.1,
    )
first_full t rest bytes page head limit Memory p some room full = tt

pub next_full : (t : Task) (row : Row) (rest : List Row) (bytes : List ℕ) (page : OpenPage) (head limit : ℕ) (e : HalfFault) → IsPaging t (row ∷ rest) bytes page → head + length bytes ≤ limit → IsFullAt (head + length bytes + PAGE_TWO) limit e → IsFirstFull PAGE_TWO (head + length t.front) (length (paged PAGE_TWO t.all)) limit e
next_full t row rest bytes page head limit e p room full = first_full t (row ∷ rest) bytes page head limit e p (omega (arith, length-append p.held (row ∷ rest))) room full

pub last_full : (t : Task) (bytes : List ℕ) (page : OpenPage) (head limit : ℕ) (e : HalfFault) → IsPaging t [] bytes page → 1 ≤ page.count → head + length bytes ≤ limit → IsFullAt (head + length bytes + PAGE_TWO) limit e → IsFirstFull PAGE_TWO (head + length t.front) (length (paged PAGE_TWO t.all)) limit e
last_full t bytes page head limit e p some room full = first_full t [] bytes page head limit e p (omega (arith, length-append p.held [], p.count, some)) room full
