-- What is computed of the rows of a relation.
use Rattle.std.proofs.Common.{◌≡◌, ℕ, zero, suc, ◌<◌, Bool, true, false, cond, ◌&&◌, List, [], ◌∷◌, length, refl, sym, ap, ◌∙◌, arith, ℤ, pos, None, Some}
use Rattle.std.specs.Prelude.{slice_index_or, All, nat_eq}
use Rattle.std.specs.List.{list_all, find}
use Rattle.std.proofs.lemmas.Bool.{and_parts, ltb-true, ne_eqb}
use Rattle.std.proofs.lemmas.List.Sums.{AllPass-from_list_all}
use Rattle.hera_sets.specs.Rows.{Row, is_past}
use Rattle.hera_meaning.specs.declared.scalars.Scalar.{Scalar}
use Rattle.hera_meaning.specs.declared.schemas.Attr.{Attr}
use Rattle.hera_meaning.specs.declared.schemas.Agg.{Agg}
use Rattle.hera_meaning.specs.declared.schemas.Agg.TheVariants.{Count, Sum, Min, Max}
use Rattle.hera_meaning.specs.declared.trees.TrapName.TheVariants.{Overflow, EmptyMin}
use Rattle.hera_meaning.specs.Scalars.{fits_int}
use Rattle.hera_meaning.specs.Rows.{IsRow, is_row}
use Rattle.hera_meaning.specs.Values.{scalar, table, int_value}
use Rattle.hera_meaning.specs.Aggregates.{is_few, column}
use Rattle.hera_meaning.specs.Fits.{is_place, is_int_at, is_good_agg, fits_of}
use Rattle.hera_meaning.specs.Primitives.{gives, refuses, in_range, end_of_fields}
use Rattle.hera_meaning.proofs.RowsRead.{is_row-true}
use Rattle.hera_aggregate.specs.Extremes.{HasRows}
use Rattle.hera_aggregate.specs.Groups.{IsAggWithin}
use Rattle.hera_meaning.specs.declared.trees.Op.TheVariants as ops

-- ---- what the aggregates ask for

pub all_rows : (schema : List Attr) (rows : List Row) → list_all (is_row schema) rows ≡ true → All (IsRow schema) rows
all_rows schema rows h k d within = is_row-true schema (slice_index_or rows k d) (AllPass-from_list_all (is_row schema) rows h k d within)

int_place : (schema : List Attr) (i : ℕ) → is_int_at schema i ≡ true → i < length schema
int_place [] i h = cc
int_place (a ∷ schema) zero h = omega arith
int_place (a ∷ schema) (suc i) h = let ih : i < length schema = int_place schema i h in omega (arith, ih)

good_within : (schema : List Attr) (g : Agg) → is_good_agg schema g ≡ true → IsAggWithin (length schema) g
good_within schema Count h = tt
good_within schema (Sum i) h = int_place schema i h
good_within schema (Min i) h = ltb-true i (length schema) h
good_within schema (Max i) h = ltb-true i (length schema) h

pub all_within : (schema : List Attr) (aggs : List Agg) → list_all (is_good_agg schema) aggs ≡ true → All (IsAggWithin (length schema)) aggs
all_within schema aggs h k d within = good_within schema (slice_index_or aggs k d) (AllPass-from_list_all (is_good_agg schema) aggs h k d within)

-- ---- what they answer

pub sum_fits : (few : Bool) (z v : ℤ) → (few && fits_int z) ≡ true → v ≡ z → cond few (in_range z) (refuses Overflow) ≡ gives (int_value v)
sum_fits true z v h e = ap (λ b. cond b (gives (int_value z)) (refuses Overflow)) h ∙ ap (λ x. gives (int_value x)) (sym e)
sum_fits false z v h e = cc

pub sum_over : (few : Bool) (z : ℤ) → (few && fits_int z) ≡ false → cond few (in_range z) (refuses Overflow) ≡ refuses Overflow
sum_over true z h = ap (λ b. cond b (gives (int_value z)) (refuses Overflow)) h
sum_over false z h = refl

pub end_some : (f : List Scalar → Scalar) (schema : List Attr) (i : ℕ) (rows : List Row) (s : Scalar) → HasRows rows → s ≡ f (column schema i rows) → end_of_fields f (column schema i rows) ≡ gives (scalar s)
end_some f schema i [] s h e = absurd h
end_some f schema i (x ∷ rows) s h e = ap (λ t. gives (scalar t)) (sym e)

pub end_none : (f : List Scalar → Scalar) (schema : List Attr) (i : ℕ) (rows : List Row) → rows ≡ [] → end_of_fields f (column schema i rows) ≡ refuses EmptyMin
end_none f schema i rows e = ap (λ xs. end_of_fields f (column schema i xs)) e

pub group_fits : (b : Bool) (rows set : List Row) → b ≡ true → set ≡ rows → cond b (gives (table rows)) (refuses Overflow) ≡ gives (table set)
group_fits b rows set h e = ap (λ t. cond t (gives (table rows)) (refuses Overflow)) h ∙ ap (λ xs. gives (table xs)) (sym e)

pub group_over : (b : Bool) (rows : List Row) → b ≡ false → cond b (gives (table rows)) (refuses Overflow) ≡ refuses Overflow
group_over b rows h = ap (λ t. cond t (gives (table rows)) (refuses Overflow)) h

pub ruleset sums = (all_rows, sum_fits, sum_over)

pub ruleset ends = (all_rows, end_some, end_none)

pub ruleset groups = (all_rows, all_within, group_fits, group_over)

-- ---- relations that fit

pub sum_rows : (schema : List Attr) (i : ℕ) (xs : List Row) → fits_of (ops.Sum schema i) (table xs ∷ []) ≡ true → list_all (is_row schema) xs ≡ true
sum_rows schema i xs h = (and_parts (list_all (is_row schema) xs) true (and_parts (is_int_at schema i) _ h).1).0

pub sum_place : (schema : List Attr) (i : ℕ) (xs : List Row) → fits_of (ops.Sum schema i) (table xs ∷ []) ≡ true → i < length schema
sum_place schema i xs h = int_place schema i (and_parts (is_int_at schema i) _ h).0

pub min_rows : (schema : List Attr) (i : ℕ) (xs : List Row) → fits_of (ops.Min schema i) (table xs ∷ []) ≡ true → list_all (is_row schema) xs ≡ true
min_rows schema i xs h = (and_parts (list_all (is_row schema) xs) true (and_parts (is_place schema i) _ h).1).0

pub min_place : (schema : List Attr) (i : ℕ) (xs : List Row) → fits_of (ops.Min schema i) (table xs ∷ []) ≡ true → i < length schema
min_place schema i xs h = ltb-true i (length schema) (and_parts (is_place schema i) _ h).0

pub max_rows : (schema : List Attr) (i : ℕ) (xs : List Row) → fits_of (ops.Max schema i) (table xs ∷ []) ≡ true → list_all (is_row schema) xs ≡ true
max_rows schema i xs h = (and_parts (list_all (is_row schema) xs) true (and_parts (is_place schema i) _ h).1).0

pub max_place : (schema : List Attr) (i : ℕ) (xs : List Row) → fits_of (ops.Max schema i) (table xs ∷ []) ≡ true → i < length schema
max_place schema i xs h = ltb-true i (length schema) (and_parts (is_place schema i) _ h).0

pub group_rows : (schema : List Attr) (by : List ℕ) (aggs : List Agg) (xs : List Row) → fits_of (ops.Group schema by aggs) (table xs ∷ []) ≡ true → list_all (is_row schema) xs ≡ true
group_rows schema by aggs xs h = (and_parts (list_all (is_row schema) xs) true (and_parts (list_all (is_place schema) by && list_all (is_good_agg schema) aggs) _ h).1).0

pub group_aggs : (schema : List Attr) (by : List ℕ) (aggs : List Agg) (xs : List Row) → fits_of (ops.Group schema by aggs) (table xs ∷ []) ≡ true → list_all (is_good_agg schema) aggs ≡ true
group_aggs schema by aggs xs h = (and_parts (list_all (is_place schema) by) _ (and_parts (list_all (is_place schema) by && list_all (is_good_agg schema) aggs) _ h).0).1

pub ruleset computed = (sum_rows, sum_place, min_rows, min_place, max_rows, max_place, group_rows, group_aggs)

-- ---- how many rows there are

pub few_counted : (rows : List Row) (n : ℤ) → is_few rows ≡ true → n ≡ pos (length rows) → in_range (pos (length rows)) ≡ gives (int_value n)
few_counted rows n h e = ap (λ b. cond b (gives (int_value (pos (length rows)))) (refuses Overflow)) h ∙ ap (λ z. gives (int_value z)) (sym e)

pub many_refused : (rows : List Row) → is_few rows ≡ false → in_range (pos (length rows)) ≡ refuses Overflow
many_refused rows h = ap (λ b. cond b (gives (int_value (pos (length rows)))) (refuses Overflow)) h

pub ruleset counts = (few_counted, many_refused)

-- there is a first row exactly where there are rows
pub no_first : (rows : List Row) → None ≡ find (is_past None) rows → true ≡ nat_eq (length rows) 0
no_first [] h = refl
no_first (x ∷ rows) h = cc

pub some_first : (rows : List Row) (first : Row) → Some first ≡ find (is_past None) rows → false ≡ nat_eq (length rows) 0
some_first [] first h = cc
some_first (x ∷ rows) first h = sym (ne_eqb (suc (length rows)) 0 (λ e. omega (arith, e)))

pub ruleset firsts = (no_first, some_first)
