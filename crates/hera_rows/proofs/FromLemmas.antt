-- The first row that is looked for: past a bound, or from it on.
use Rattle.std.proofs.Common.{◌≡◌, ℕ, zero, suc, ◌+◌, ◌-◌, ◌<◌, ◌≤◌, Bool, true, false, cond, not, List, [], ◌∷◌, ◌++◌, Some, length, take, drop, get_or, refl, sym, ap, ◌∙◌, subst, arith, add-one, length-append}
use Rattle.std.specs.List.{find, slice_get}
use Rattle.std.proofs.lemmas.Bool.{both_ways}
use Rattle.std.proofs.lemmas.List.{take_more, append-nil}
use Rattle.std.proofs.lemmas.List.Concat.{flat_map-append}
use Rattle.std.proofs.lemmas.Option.{same_Some}
use Rattle.hera_sets.specs.Rows.{Row, is_below, IsBelowAll, IsAscending, holds, put}
use Rattle.hera_sets.proofs.Order.{below_trans, below_not, before, level, behind, stands}
use Rattle.hera_sets.proofs.Lists.{none_held, all_below_trans}
use Rattle.hera_rows.specs.declared.bounds.Bound.{Bound}
use Rattle.hera_rows.specs.declared.bounds.Bound.TheVariants.{Past, From}
use Rattle.hera_rows.specs.Places.{count_below, IsPlace}
use Rattle.hera_rows.specs.Blocks.{joined, AreFilled, AreBelow, AreInOrder, IsHome, or_else, place_of}
use Rattle.hera_rows.specs.Froms.{is_from, low_of, passes, EndsOut, StartsIn}
use Rattle.hera_rows.proofs.PlaceLemmas.{below_row, find_past-held, find_past-absent}
use Rattle.hera_rows.proofs.BlockLemmas.{joined_split, home_holds}
use Rattle.hera_rows.proofs.StackLemmas.{block_ascending, home_past, joined_last}

-- the bound itself, where it is held
pub from_held : (b : Row) (xs : List Row) → IsAscending xs → holds xs b ≡ true → Some b ≡ find (is_from b) xs
from_held b [] up h = absurd (both_ways _ refl h)
from_held b (y ∷ ys) up h =
    elim (stands b y) [
      | before p q s ↦ absurd (both_ways _ (none_held b (y ∷ ys) (p, all_below_trans b y ys p up.0)) h)
      | level e p q s ↦ rw q (ap Some e)
      | behind p q s ↦ rw p (from_held b ys up.1 (rw s at h))
    ]

-- else the first row past it
pub from_absent : (b : Row) (xs : List Row) → holds xs b ≡ false → find (is_below b) xs ≡ find (is_from b) xs
from_absent b [] h = refl
from_absent b (y ∷ ys) h =
    elim (stands b y) [
      | before p q s ↦ rw (p, q) refl
      | level e p q s ↦ absurd (both_ways _ h (rw s refl))
      | behind p q s ↦ rw (q, p) (from_absent b ys (rw s at h))
    ]

-- which stands at the bound's place
pub from_place : (b : Row) (xs : List Row) → slice_get xs (count_below b xs) ≡ find (is_from b) xs
from_place b [] = refl
from_place b (y ∷ ys) =
    elim (is_below y b) as (λ v. slice_get (y ∷ ys) (cond v (suc (count_below b ys)) 0) ≡ cond (not v) (Some y) (find (is_from b) ys)) [ true ↦ from_place b ys | false ↦ refl ]

-- what is above a row that passes, passes
rises : (p : Bound) (x r : Row) → is_below x r ≡ true → passes p x ≡ true → passes p r ≡ true
rises (Past b) x r lt h = below_trans b.now x r h lt
rises (From b) x r lt h =
    elim (is_below r b.now) as (λ v. is_below r b.now ≡ v → not v ≡ true) [
      | true ↦ λ e. absurd (both_ways _ (not_true h) (below_trans x r b.now lt e))
      | false ↦ λ e. refl
    ] refl
  where
    not_true : not (is_below x b.now) ≡ true → is_below x b.now ≡ false
    not_true g = elim (is_below x b.now) as (λ v. not v ≡ true → v ≡ false) [ true ↦ λ k. sym k | false ↦ λ k. refl ] g

out_before : (p : Bound) (x r : Row) → is_below x r ≡ true → passes p r ≡ false → passes p x ≡ false
out_before p x r lt out =
    elim (passes p x) as (λ v. passes p x ≡ v → v ≡ false) [
      | true ↦ λ e. absurd (both_ways _ out (rises p x r lt e))
      | false ↦ λ e. refl
    ] refl

-- the row at a place, where none before it passes
pub first_at : (p : Bound) (xs : List Row) (n : ℕ) → IsAscending xs → EndsOut (passes p) xs n → StartsIn (passes p) xs n → slice_get xs n ≡ find (passes p) xs
first_at p [] n up out there = refl
first_at p (x ∷ xs) zero up out there = rw (there x refl) refl
first_at p (x ∷ xs) (suc zero) up out there =
    let gone : passes p x ≡ false = subst (λ z. passes p z ≡ false) (sym (same_Some x out.0 out.1)) out.2 in
    rw gone (first_at p xs zero up.1 tt there)
first_at p (x ∷ xs) (suc (suc n)) up out there =
    let gone : passes p x ≡ false = out_before p x out.0 (below_row x xs n out.0 up.0 out.1) out.2 in
    rw gone (first_at p xs (suc n) up.1 out there)

pub ends_at : (p : Row → Bool) (xs : List Row) (m n : ℕ) (r : Row) → n ≡ suc m → slice_get xs m ≡ Some r → p r ≡ false → EndsOut p xs n
ends_at p xs m n r e here out = subst (EndsOut p xs) (sym e) (r, here, out)

-- the row at a place of a block, or the first one behind that block, by its place among all
or_get : (b rest : List Row) (i : ℕ) → i ≤ length b → or_else (slice_get b i) (slice_get rest 0) ≡ slice_get (b ++ rest) i
or_get [] rest zero h = refl
or_get [] rest (suc i) h = absurd (omega (arith, h))
or_get (x ∷ b) rest zero h = refl
or_get (x ∷ b) rest (suc i) h = or_get b rest i (omega (arith, h))

get-behind : (xs ys : List Row) (j : ℕ) → slice_get (xs ++ ys) (length xs + j) ≡ slice_get ys j
get-behind [] ys j = ap (slice_get ys) (omega arith)
get-behind (x ∷ xs) ys j =
    let more : length (x ∷ xs) + j ≡ suc (length xs + j) = omega arith in
    ap (slice_get (x ∷ (xs ++ ys))) more ∙ get-behind xs ys j

pub from_row : (bs : List (List Row)) (k i : ℕ) (b : List Row) → k < length bs → b ≡ get_or bs k b → i ≤ length b → or_else (slice_get b i) (slice_get (joined (drop (k + 1) bs)) 0) ≡ slice_get (joined bs) (place_of bs k i)
from_row bs k i b h e g =
    ap (λ n. or_else (slice_get b i) (slice_get (joined (drop n bs)) 0)) (add-one k)
    ∙ or_get b (joined (drop (suc k) bs)) i g
    ∙ sym (get-behind (joined (take k bs)) (b ++ joined (drop (suc k) bs)) i)
    ∙ sym (ap (λ (t : List Row). slice_get t (place_of bs k i)) (joined_split bs k b h e))

pub row_of_block : (bs : List (List Row)) (k i : ℕ) (b : List Row) (r : Row) → k < length bs → b ≡ get_or bs k b → slice_get b i ≡ Some r → i < length b → slice_get (joined bs) (place_of bs k i) ≡ Some r
row_of_block bs k i b r h e g w = sym (from_row bs k i b h e (omega (arith, w))) ∙ ap (λ o. or_else o (slice_get (joined (drop (k + 1) bs)) 0)) g

pub start_place : (bs : List (List Row)) → place_of bs 0 0 ≡ 0
start_place [] = refl
start_place (b ∷ bs) = refl

-- the first place of a block stands behind the last one of the block before
pub next_place : (bs : List (List Row)) (j : ℕ) (b : List Row) → j < length bs → b ≡ get_or bs j b → 0 < length b → place_of bs (suc j) 0 ≡ suc (place_of bs j (length b - 1))
next_place bs j b h e some =
    let more : length (joined (take (suc j) bs)) ≡ length (joined (take j bs)) + length b =
    ap (λ (t : List (List Row)). length (joined t)) (ap (λ n. take n bs) (sym (add-one j)) ∙ take_more bs j b h ∙ ap (λ (t : List Row). take j bs ++ t ∷ []) (sym e))
    ∙ ap length (flat_map-append (λ (x : List Row). x) (take j bs) (b ∷ []))
    ∙ length-append (joined (take j bs)) (b ++ [])
    ∙ ap (λ (t : List Row). length (joined (take j bs)) + length t) (append-nil b) in
    omega (arith, more, some)

-- from its home
pub home_passes : (bs : List (List Row)) (p : Bound) (k : ℕ) (b : List Row) → AreInOrder bs → IsHome bs (low_of p) k → b ≡ get_or bs k b → or_else (find (passes p) b) (slice_get (joined (drop (k + 1) bs)) 0) ≡ find (passes p) (joined bs)
home_passes bs (Past x) k b o h e = home_past bs x.now k b h e
home_passes bs (From x) k b o h e =
    elim (holds b x.now) as (λ v. holds b x.now ≡ v → or_else (find (is_from x.now) b) (slice_get (joined (drop (k + 1) bs)) 0) ≡ find (is_from x.now) (joined bs)) [
      | true ↦ λ t.
          ap (λ y. or_else y (slice_get (joined (drop (k + 1) bs)) 0)) (sym (from_held x.now b (block_ascending bs k b o.ascending h.within e) t))
          ∙ from_held x.now (joined bs) o.ascending (sym (home_holds bs x.now k b h e) ∙ t)
      | false ↦ λ t.
          ap (λ y. or_else y (slice_get (joined (drop (k + 1) bs)) 0)) (sym (from_absent x.now b t))
          ∙ home_past bs x.now k b h e
          ∙ from_absent x.now (joined bs) (sym (home_holds bs x.now k b h e) ∙ t)
    ] refl

-- a row above the last one of all is above all
pub above_last : (xs : List Row) (n : ℕ) (y x : Row) → IsAscending xs → length xs ≡ suc n → slice_get xs n ≡ Some y → is_below y x ≡ true → AreBelow xs x
above_last [] n y x up l h g = tt
above_last (z ∷ []) zero y x up l h g = (subst (λ t. is_below t x ≡ true) (sym (same_Some z y h)) g, tt)
above_last (z ∷ []) (suc n) y x up l h g = absurd (omega (arith, l))
above_last (z ∷ w ∷ xs) zero y x up l h g = absurd (omega (arith, l))
above_last (z ∷ w ∷ xs) (suc n) y x up l h g = (below_trans z y x (below_row z (w ∷ xs) n y up.0 h) g, above_last (w ∷ xs) n y x up.1 (omega (arith, l)) h g)

pub behind_all : (xs : List Row) (x : Row) → IsAscending xs → AreBelow xs x → IsAscending (xs ++ x ∷ [])
behind_all [] x up h = (tt, tt)
behind_all (y ∷ xs) x up h = (all_and xs up.0, behind_all xs x up.1 h.1)
  where
    all_and : (ys : List Row) → IsBelowAll y ys → IsBelowAll y (ys ++ x ∷ [])
    all_and [] a = (h.0, tt)
    all_and (z ∷ zs) a = (a.0, all_and zs a.1)

-- what is found at a row's place
pub held_past : (b : Row) (xs : List Row) (i : ℕ) → IsAscending xs → IsPlace xs b true i → slice_get xs (i + 1) ≡ find (is_below b) xs
held_past b xs i up h = ap (slice_get xs) (add-one i ∙ ap suc h.at) ∙ sym (find_past-held b xs up h.held)

pub held_from : (b : Row) (xs : List Row) (i : ℕ) → IsPlace xs b true i → slice_get xs i ≡ find (is_from b) xs
held_from b xs i h = ap (slice_get xs) h.at ∙ from_place b xs

pub absent_passes : (p : Bound) (xs : List Row) (i : ℕ) → IsPlace xs (low_of p) false i → slice_get xs i ≡ find (passes p) xs
absent_passes (Past b) xs i h = ap (slice_get xs) h.at ∙ sym (find_past-absent b.now xs h.held)
absent_passes (From b) xs i h = ap (slice_get xs) h.at ∙ from_place b.now xs

pub place_more : (bs : List (List Row)) (k i : ℕ) → 0 < i → place_of bs k i ≡ suc (place_of bs k (i - 1))
place_more bs k i h = omega (arith, h)

-- the last place of all
pub last_place : (bs : List (List Row)) (k : ℕ) (b : List Row) → suc k ≡ length bs → b ≡ get_or bs k b → 0 < length b → length (joined bs) ≡ suc (place_of bs k (length b - 1))
last_place bs k b h e some =
    let all : length (joined bs) ≡ length (joined (take k bs)) + length b = ap length (joined_last bs k b h e) ∙ length-append (joined (take k bs)) b in
    omega (arith, all, some)

pub put_last : (x : Row) (xs : List Row) → AreBelow xs x → put x xs ≡ xs ++ x ∷ []
put_last x [] h = refl
put_last x (y ∷ ys) h = rw (below_not y x h.0, h.0) (ap (λ t. y ∷ t) (put_last x ys h.1))

pub some_rows : (bs : List (List Row)) → AreFilled bs → 0 < length bs → 0 < length (joined bs)
some_rows [] f h = absurd (omega (arith, h))
some_rows (b ∷ bs) f h = omega (arith, f.0, length-append b (joined bs))
