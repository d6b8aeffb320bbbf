-- Rows read ahead, one by one.
use Rattle.std.proofs.Common.{◌≡◌, ℕ, zero, suc, ◌+◌, ◌-◌, ◌<◌, true, List, [], ◌∷◌, ◌++◌, drop, take, Option, None, Some, refl, sym, ap, ◌∙◌, subst, arith, add-one}
use Rattle.std.specs.Prelude.{IsSomeAnd, slice_get}
use Rattle.std.proofs.lemmas.Option.{none-some, same_Some}
use Rattle.std.specs.List.{filter, find}
use Rattle.hera_sets.specs.Rows.{Row, is_below, is_same, is_past, IsBelowAll, IsAscending}
use Rattle.hera_sets.proofs.Order.{below_itself, below_not, same_true}
use Rattle.hera_sets.proofs.Lists.{filter_past_step}
use Rattle.hera_reads.specs.Walking.{row_before, last_or, onward, IsAhead}
use Rattle.hera_reads.proofs.Collecting.{past_step}

-- a row and those past it up to the last one that was read
abbrev pub IsRead : List Row → Row → List Row → Row → Type 0
IsRead rows first [] last = ⊥
IsRead rows first (x ∷ xs) last = (x ≡ first) × (xs ++ filter (is_past (Some last)) rows ≡ filter (is_past (Some first)) rows) × (last_or (Some first) xs ≡ Some last)

pub read_first : (rows : List Row) (first : Row) → IsRead rows first (first ∷ []) first
read_first rows first = (refl, refl, refl)

last_end : (b : Option Row) (xs : List Row) (x : Row) → last_or b (xs ++ x ∷ []) ≡ Some x
last_end b [] x = refl
last_end b (y ∷ ys) x = last_end (Some y) ys x

pub read_next : (rows : List Row) (first : Row) (ahead : List Row) (last r : Row) → IsAscending rows → find (is_past (Some last)) rows ≡ Some r → IsRead rows first ahead last → IsRead rows first (ahead ++ r ∷ []) r
read_next rows first [] last r up h e = absurd e
read_next rows first (x ∷ xs) last r up h e = (e.0, past_step xs rows (Some first) (Some last) r up h e.1, last_end (Some first) xs r)

pub read_ahead : (rows : List Row) (first : Row) (ahead : List Row) (last : Row) → IsRead rows first ahead last → IsAhead rows first ahead
read_ahead rows first [] last e = e
read_ahead rows first (x ∷ xs) last e = (e.0, sym e.1 ∙ ap (λ o. xs ++ filter (is_past o) rows) (sym e.2))

-- past a bound
pub read_told : (rows : List Row) (b : Option Row) (first : Row) (ahead : List Row) → IsAscending rows → find (is_past b) rows ≡ Some first → IsAhead rows first ahead →
    IsSomeAnd (row_before 1 ahead) (λ x. filter (is_past b) rows ≡ x ∷ onward (Some x) (drop 1 ahead) rows)
read_told rows b first [] up h e = absurd e
read_told rows b first (x ∷ xs) up h e =
    subst (λ (y : Row). filter (is_past b) rows ≡ y ∷ onward (Some y) xs rows) (sym e.0) (filter_past_step b rows first up h ∙ ap (λ ys. first ∷ ys) e.1)

-- ---- in a set, by places

-- a row, and those past it up to the one at a place
abbrev pub IsRunTo : List Row → Option Row → List Row → Row → ℕ → Type 0
IsRunTo rows first ahead last i = IsSomeAnd first (λ x. IsRead rows x ahead last) × (slice_get rows i ≡ Some last)

-- behind a row at a place the next one stands at the next place
pub next_behind : (rows : List Row) (i : ℕ) (x : Row) → IsAscending rows → slice_get rows i ≡ Some x → slice_get rows (suc i) ≡ find (is_past (Some x)) rows
next_behind [] i x up h = absurd (none-some x h)
next_behind (y ∷ ys) zero x up h = subst (λ z. slice_get ys 0 ≡ find (is_below z) (y ∷ ys)) (same_Some y x h) (rw (below_itself y) (first_above y ys up.0))
  where
    first_above : (z : Row) (zs : List Row) → IsBelowAll z zs → slice_get zs 0 ≡ find (is_below z) zs
    first_above z [] all = refl
    first_above z (w ∷ ws) all = rw all.0 refl
next_behind (y ∷ ys) (suc i) x up h = rw (below_not y x (below_at ys i up.0 h)) (next_behind ys i x up.1 h)
  where
    below_at : (zs : List Row) (k : ℕ) → IsBelowAll y zs → slice_get zs k ≡ Some x → is_below y x ≡ true
    below_at [] k all g = absurd (none-some x g)
    below_at (z ∷ zs) zero all g = subst (λ w. is_below y w ≡ true) (same_Some z x g) all.0
    below_at (z ∷ zs) (suc k) all g = below_at zs k all.1 g

-- where the first row past a bound stands
pub first_at : (rows : List Row) → slice_get rows 0 ≡ find (is_past None) rows
first_at [] = refl
first_at (x ∷ xs) = refl

pub next_at : (rows : List Row) (i : ℕ) (r x : Row) → IsAscending rows → 0 < i → slice_get rows (i - 1) ≡ Some r → is_same r x ≡ true → slice_get rows i ≡ find (is_past (Some x)) rows
next_at rows i r x up some at same =
    let more : i ≡ suc (i - 1) = omega (arith, some) in
    ap (slice_get rows) more ∙ next_behind rows (i - 1) x up (at ∙ ap (λ y. Some y) (same_true r x same))

-- put into the first place, and into the next one
pub put_read : (rows : List Row) (first : Row) (new : List Row) → take 1 new ≡ first ∷ [] → IsRead rows first (take 1 new) first
put_read rows first new e = subst (λ t. IsRead rows first t first) (sym e) (read_first rows first)

pub put_read_next : (rows : List Row) (first : Row) (old new : List Row) (n : ℕ) (last r : Row) → IsAscending rows → find (is_past (Some last)) rows ≡ Some r → take (n + 1) new ≡ take n old ++ r ∷ [] → IsRead rows first (take n old) last → IsRead rows first (take (n + 1) new) r
put_read_next rows first old new n last r up h e l = subst (λ t. IsRead rows first t r) (sym e) (read_next rows first (take n old) last r up h l)

pub put_run : (rows : List Row) (new : List Row) (i : ℕ) (x : Row) → slice_get rows i ≡ Some x → take 1 new ≡ x ∷ [] → IsRunTo rows (slice_get rows i) (take 1 new) x i
put_run rows new i x h e = (rw h (put_read rows x new e), h)

pub put_run_next : (rows : List Row) (first : Option Row) (old new : List Row) (n : ℕ) (last : Row) (i : ℕ) (x : Row) → IsAscending rows → slice_get rows (i + 1) ≡ Some x → take (n + 1) new ≡ take n old ++ x ∷ [] → IsRunTo rows first (take n old) last i → IsRunTo rows first (take (n + 1) new) x (i + 1)
put_run_next rows None old new n last i x up h e l = absurd l.0
put_run_next rows (Some f) old new n last i x up h e l =
    (put_read_next rows f old new n last x up (sym (next_behind rows i last up l.1) ∙ ap (slice_get rows) (sym (add-one i)) ∙ h) e l.0, h)

pub run_ahead : (rows : List Row) (first : Option Row) (ahead : List Row) (last : Row) (i : ℕ) → IsRunTo rows first ahead last i → IsSomeAnd first (λ x. IsAhead rows x ahead)
run_ahead rows None ahead last i e = absurd e.0
run_ahead rows (Some f) ahead last i e = read_ahead rows f ahead last e.0

-- past a bound, behind which the first one stands at a place
pub run_told : (rows : List Row) (b : Option Row) (first : Option Row) (ahead : List Row) → IsAscending rows → first ≡ find (is_past b) rows → IsSomeAnd first (λ x. IsAhead rows x ahead) →
    IsSomeAnd (row_before 1 ahead) (λ x. filter (is_past b) rows ≡ x ∷ onward (Some x) (drop 1 ahead) rows)
run_told rows b None ahead up h e = absurd e
run_told rows b (Some f) ahead up h e = read_told rows b f ahead up (sym h) e

pub ruleset reads = (put_read, put_read_next, read_ahead)

pub ruleset runs = (put_run, put_run_next, run_ahead)
