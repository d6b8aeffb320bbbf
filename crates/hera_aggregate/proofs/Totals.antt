-- Sums of rows: one row more, and how big they are.
use Rattle.std.proofs.Common.{◌≡◌, ℕ, ◌+◌, ◌*◌, ◌<◌, ◌≤◌, ◌^◌, Bool, true, false, cond, ℤ, pos, negsuc, ◌+ℤ◌, ◌-ℤ◌, ◌≤ℤ◌, ◌<ℤ◌, to_z, of_z, List, [], ◌∷◌, ◌++◌, Option, Some, length, drop, sym, ap, subst, ◌∙◌, arith, All, length-append}
use mir.Syntax.{w64, w128}
use Rattle.std.proofs.Math.IntN.{+ℤ_comm, +ℤ_assoc}
use Rattle.std.specs.List.{filter, find}
use Rattle.std.proofs.lemmas.Bool.{lt-ltb, le-ltb}
use Rattle.std.proofs.lemmas.Int.{ints}
use Rattle.std.proofs.lemmas.Option.{none-some, same_Some}
use Rattle.std.proofs.lemmas.List.{map_push}
use Rattle.std.proofs.lemmas.List.Elements.{All-head, All-tail}
use Rattle.hera_sets.specs.Rows.{Row, is_past, IsAscending}
use Rattle.hera_sets.proofs.Lists.{count_within}
use Rattle.hera_meaning.specs.declared.schemas.Attr.{Attr}
use Rattle.hera_meaning.specs.Scalars.{fits_int}
use Rattle.hera_meaning.specs.Rows.{field_at}
use Rattle.hera_meaning.specs.Aggregates.{int_of, sum_of}
use Rattle.rel_algebra.specs.Fronts.{rows_behind}

-- what holds of all rows without their first bytes holds so of the one found
pub all_found : (P : Row → Type 0) (p : Row → Bool) (skip : ℕ) (xs : List Row) (r : Row) → All P (rows_behind skip xs) → find p xs ≡ Some r → P (drop skip r)
all_found P p skip [] r all h = absurd (none-some r h)
all_found P p skip (x ∷ xs) r all h =
    elim (p x) as (λ v. cond v (Some x) (find p xs) ≡ Some r → P (drop skip r)) [
      | true ↦ λ g. subst (λ z. P (drop skip z)) (same_Some x r g) (All-head P (drop skip x) (rows_behind skip xs) all)
      | false ↦ λ g. all_found P p skip xs r (All-tail P (drop skip x) (rows_behind skip xs) all) g
    ] h

sum_more : (schema : List Attr) (i : ℕ) (done : List Row) (r : Row) → sum_of schema i (done ++ r ∷ []) ≡ sum_of schema i done +ℤ int_of (field_at schema r i)
sum_more schema i [] r = +ℤ_comm (int_of (field_at schema r i)) (pos 0)
sum_more schema i (x ∷ xs) r =
    ap (λ s. int_of (field_at schema x i) +ℤ s) (sum_more schema i xs r)
    ∙ sym (+ℤ_assoc (int_of (field_at schema x i)) (sum_of schema i xs) (int_of (field_at schema r i)))

-- the sum of one row more
pub total_more : (schema : List Attr) (i skip : ℕ) (done : List Row) (r : Row) (total value after : ℤ) → value ≡ int_of (field_at schema (drop skip r) i) → after ≡ total +ℤ value → total ≡ sum_of schema i (rows_behind skip done) → after ≡ sum_of schema i (rows_behind skip (done ++ r ∷ []))
total_more schema i skip done r total value after v a t =
    a ∙ (λ j. t j +ℤ v j) ∙ sym (ap (sum_of schema i) (map_push (drop skip) done r) ∙ sum_more schema i (rows_behind skip done) (drop skip r))

-- at most 2 ^ 63 for each of n
pub record IsWithin (n : ℕ) (total : ℤ) : Type 0 where
  pub low : (pos 0 -ℤ pos (n * 9223372036854775808)) ≤ℤ total
  pub high : total ≤ℤ pos (n * 9223372036854775808)

-- one more
pub within_more : (n m : ℕ) (total value after : ℤ) → IsWithin n total → negsuc 9223372036854775807 ≤ℤ value → value ≤ℤ pos 9223372036854775807 → after ≡ total +ℤ value → m ≡ n + 1 → IsWithin m after
within_more n m total value after w low high a e = record { low = omega (arith, ints, w.low, low, a, e); high = omega (arith, ints, w.high, high, a, e) }

-- what the machine adds is the sum
pub added : (n bits : ℕ) (value wide : ℤ) → IsWithin n (to_z w128 bits) → n + 1 < 2 ^ 63 → negsuc 9223372036854775807 ≤ℤ value → value ≤ℤ pos 9223372036854775807 → wide ≡ to_z w64 (of_z w64 value) → to_z w128 (of_z w128 (to_z w128 bits +ℤ to_z w128 (of_z w128 wide))) ≡ to_z w128 bits +ℤ value
added n bits value wide w few low high e =
    let same : wide ≡ value = omega (arith, ints, e, low, high) in
    let kept : to_z w128 (of_z w128 value) ≡ value = omega (arith, ints, low, high) in
    ap (λ v. to_z w128 (of_z w128 (to_z w128 bits +ℤ v))) (ap (λ v. to_z w128 (of_z w128 v)) same ∙ kept)
    ∙ whole (to_z w128 bits) w.low w.high
  where
    whole : (total : ℤ) → (pos 0 -ℤ pos (n * 9223372036854775808)) ≤ℤ total → total ≤ℤ pos (n * 9223372036854775808) → to_z w128 (of_z w128 (total +ℤ value)) ≡ total +ℤ value
    whole total below above = omega (arith, ints, below, above, low, high, few)

-- the rows done and the one found are no more than all
pub done_within : (done xs : List Row) (b : Option Row) (r : Row) → IsAscending xs → find (is_past b) xs ≡ Some r → done ++ filter (is_past b) xs ≡ xs → length done + 1 ≤ length xs
done_within done xs b r up h e = count_within (length done) xs b r up h (sym (length-append done (filter (is_past b) xs)) ∙ ap length e)

pub fits_between : (v : ℤ) → negsuc 9223372036854775807 ≤ℤ v → v ≤ℤ pos 9223372036854775807 → fits_int v ≡ true
fits_between (pos n) low high = lt-ltb n (2 ^ 63) (omega (arith, ints, high))
fits_between (negsuc n) low high = lt-ltb n (2 ^ 63) (omega (arith, ints, low))

pub fits_not_above : (v : ℤ) → pos 9223372036854775807 <ℤ v → fits_int v ≡ false
fits_not_above (pos n) h = le-ltb n (2 ^ 63) (omega (arith, ints, h))
fits_not_above (negsuc n) h = absurd (omega (arith, ints, h))

pub fits_not_below : (v : ℤ) → v <ℤ negsuc 9223372036854775807 → fits_int v ≡ false
fits_not_below (pos n) h = absurd (omega (arith, ints, h))
fits_not_below (negsuc n) h = le-ltb n (2 ^ 63) (omega (arith, ints, h))
