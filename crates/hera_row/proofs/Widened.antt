-- What stands under a name is found by its number; and rows with added fields.
use Rattle.std.proofs.Common.{◌≡◌, ℕ, zero, suc, ◌+◌, ◌≤◌, Bool, true, false, cond, ◌&&◌, ◌<◌, List, [], ◌∷◌, ◌++◌, Option, Some, None, length, map, drop, refl, sym, ap, ◌∙◌, arith, append_assoc, append-nil}
use Rattle.std.specs.List.{slice_get, position_from}
use Rattle.std.proofs.lemmas.Option.{none-some, same_Some}
use Rattle.hera_sets.specs.Rows.{Row, is_same}
use Rattle.hera_meaning.specs.declared.schemas.Attr.{Attr}
use Rattle.hera_meaning.specs.declared.schemas.RelDecl.{RelDecl}
use Rattle.hera_meaning.specs.Rows.{field_bytes, row_of}
use Rattle.hera_meaning.specs.Deltas.{State}
use Rattle.hera_meaning.specs.Wider.{same_attr, is_prefix, blank, blanks, widened_row, schema_named, begins_some, keeps, widened_rows}
use Rattle.hera_row.specs.Numbers.{number_named}
use Rattle.hera_row.proofs.RowLemmas.{drop_attr}

-- ---- found by number

module _ (name : List ℕ) where
  -- the number of the name among relations that are numbered from i on
  abbrev from : ℕ → List RelDecl → Option ℕ
  from i rels = position_from (λ d. is_same name d.name) i rels

  from_low : (i n : ℕ) (rels : List RelDecl) → from i rels ≡ Some n → i ≤ n
  from_low i n [] e = absurd (none-some n e)
  from_low i n (d ∷ rels) e = by (is_same name d.name) e (from_low (i + 1) n rels)
    where
      by : (b : Bool) → cond b (Some i) (from (i + 1) rels) ≡ Some n → (from (i + 1) rels ≡ Some n → i + 1 ≤ n) → i ≤ n
      by true e more = omega (arith, same_Some i n e)
      by false e more = omega (arith, more e)

  rows_from : (schema : List Attr) (i k : ℕ) (old : List RelDecl) (s : State) (d : RelDecl) (rows : List Row) → from i old ≡ Some (i + k) → slice_get old k ≡ Some d → slice_get s k ≡ Some rows → widened_rows name schema old s ≡ map (widened_row d.schema schema) rows
  rows_from schema i k [] s d rows e here held = absurd (none-some d here)
  rows_from schema i k (o ∷ old) [] d rows e here held = absurd (none-some rows held)
  rows_from schema i zero (o ∷ old) (r ∷ s) d rows e here held = by (is_same name o.name) e
    where
      same : map (widened_row o.schema schema) r ≡ map (widened_row d.schema schema) rows
      same = (λ j. map (widened_row (same_Some o d here j).schema schema) (same_Some r rows held j))

      by : (b : Bool) → cond b (Some i) (from (i + 1) old) ≡ Some (i + 0) → cond b (map (widened_row o.schema schema) r) (widened_rows name schema old s) ≡ map (widened_row d.schema schema) rows
      by true e = same
      by false e = absurd (omega (arith, from_low (i + 1) (i + 0) old e))
  rows_from schema i (suc k) (o ∷ old) (r ∷ s) d rows e here held = by (is_same name o.name) e (λ g. rows_from schema (i + 1) k old s d rows g here held)
    where
      by : (b : Bool) → cond b (Some i) (from (i + 1) old) ≡ Some (i + suc k) → (from (i + 1) old ≡ Some ((i + 1) + k) → widened_rows name schema old s ≡ map (widened_row d.schema schema) rows)
          → cond b (map (widened_row o.schema schema) r) (widened_rows name schema old s) ≡ map (widened_row d.schema schema) rows
      by true e more = absurd (omega (arith, same_Some i (i + suc k) e))
      by false e more = let next : i + suc k ≡ (i + 1) + k = omega arith in more (e ∙ ap Some next)

  no_rows_from : (schema : List Attr) (i : ℕ) (old : List RelDecl) (s : State) → from i old ≡ None → widened_rows name schema old s ≡ []
  no_rows_from schema i [] s e = refl
  no_rows_from schema i (o ∷ old) [] e = refl
  no_rows_from schema i (o ∷ old) (r ∷ s) e = by (is_same name o.name) e (no_rows_from schema (i + 1) old s)
    where
      by : (b : Bool) → cond b (Some i) (from (i + 1) old) ≡ None → (from (i + 1) old ≡ None → widened_rows name schema old s ≡ []) → cond b (map (widened_row o.schema schema) r) (widened_rows name schema old s) ≡ []
      by true e more = absurd (none-some i (sym e))
      by false e more = more e

  schema_from : (i k : ℕ) (rels : List RelDecl) (d : RelDecl) → from i rels ≡ Some (i + k) → slice_get rels k ≡ Some d → schema_named name rels ≡ Some d.schema
  schema_from i k [] d e here = absurd (none-some d here)
  schema_from i zero (o ∷ rels) d e here = by (is_same name o.name) e
    where
      by : (b : Bool) → cond b (Some i) (from (i + 1) rels) ≡ Some (i + 0) → cond b (Some o.schema) (schema_named name rels) ≡ Some d.schema
      by true e = ap (λ (o : RelDecl). Some o.schema) (same_Some o d here)
      by false e = absurd (omega (arith, from_low (i + 1) (i + 0) rels e))
  schema_from i (suc k) (o ∷ rels) d e here = by (is_same name o.name) e (λ g. schema_from (i + 1) k rels d g here)
    where
      by : (b : Bool) → cond b (Some i) (from (i + 1) rels) ≡ Some (i + suc k) → (from (i + 1) rels ≡ Some ((i + 1) + k) → schema_named name rels ≡ Some d.schema) → cond b (Some o.schema) (schema_named name rels) ≡ Some d.schema
      by true e more = absurd (omega (arith, same_Some i (i + suc k) e))
      by false e more = let next : i + suc k ≡ (i + 1) + k = omega arith in more (e ∙ ap Some next)

  no_schema_from : (i : ℕ) (rels : List RelDecl) → from i rels ≡ None → schema_named name rels ≡ None
  no_schema_from i [] e = refl
  no_schema_from i (o ∷ rels) e = by (is_same name o.name) e (no_schema_from (i + 1) rels)
    where
      by : (b : Bool) → cond b (Some i) (from (i + 1) rels) ≡ None → (from (i + 1) rels ≡ None → schema_named name rels ≡ None) → cond b (Some o.schema) (schema_named name rels) ≡ None
      by true e more = absurd (none-some i (sym e))
      by false e more = more e

zero_on : (k : ℕ) → k ≡ 0 + k
zero_on k = omega arith

pub rows_found : (name : List ℕ) (schema : List Attr) (old : List RelDecl) (s : State) (number : ℕ) (d : RelDecl) (rows : List Row) → number_named name old ≡ Some number → slice_get old number ≡ Some d → slice_get s number ≡ Some rows → widened_rows name schema old s ≡ map (widened_row d.schema schema) rows
rows_found name schema old s number d rows e here held = rows_from name schema 0 number old s d rows (e ∙ ap Some (zero_on number)) here held

pub no_rows_found : (name : List ℕ) (schema : List Attr) (old : List RelDecl) (s : State) → number_named name old ≡ None → widened_rows name schema old s ≡ []
no_rows_found name schema old s e = no_rows_from name schema 0 old s e

pub kept_found : (new : List RelDecl) (d : RelDecl) (number : ℕ) (e : RelDecl) → number_named d.name new ≡ Some number → slice_get new number ≡ Some e → keeps new d ≡ is_prefix d.schema e.schema
kept_found new d number e found here = ap (begins_some d.schema) (schema_from d.name 0 number new e (found ∙ ap Some (zero_on number)) here)

pub none_kept : (new : List RelDecl) (d : RelDecl) → number_named d.name new ≡ None → keeps new d ≡ false
none_kept new d e = ap (begins_some d.schema) (no_schema_from d.name 0 new e)

-- ---- added fields

-- one field more
pub blank_more : (new : List Attr) (place : ℕ) (a : Attr) (bytes more : List ℕ) → slice_get new place ≡ Some a → more ≡ bytes ++ field_bytes (blank a.kind) → more ++ row_of (blanks (drop (place + 1) new)) ≡ bytes ++ row_of (blanks (drop place new))
blank_more new place a bytes more here is =
    ap (λ (front : List ℕ). front ++ row_of (blanks (drop (place + 1) new))) is
    ∙ append_assoc bytes (field_bytes (blank a.kind)) (row_of (blanks (drop (place + 1) new)))
    ∙ ap (λ (attrs : List Attr). bytes ++ row_of (blanks attrs)) (sym (drop_attr new place a here))

drop_past : (attrs : List Attr) (i : ℕ) → length attrs ≤ i → drop i attrs ≡ []
drop_past [] zero le = refl
drop_past [] (suc i) le = refl
drop_past (a ∷ attrs) zero le = absurd (omega (arith, le))
drop_past (a ∷ attrs) (suc i) le = drop_past attrs i (omega (arith, le))

-- no field is left
pub blanks_end : (new : List Attr) (place : ℕ) (bytes all : List ℕ) → length new ≤ place → bytes ++ row_of (blanks (drop place new)) ≡ all → bytes ≡ all
blanks_end new place bytes all past is =
    sym (append-nil bytes) ∙ ap (λ (attrs : List Attr). bytes ++ row_of (blanks attrs)) (sym (drop_past new place past)) ∙ is

-- ---- prefixes

and_false : (b c : Bool) → c ≡ false → (b && c) ≡ false
and_false true c e = e
and_false false c e = refl

pub too_long : (old new : List Attr) → length new < length old → is_prefix old new ≡ false
too_long [] new lt = absurd (omega (arith, lt))
too_long (a ∷ old) [] lt = refl
too_long (a ∷ old) (b ∷ new) lt = and_false (same_attr a b) (is_prefix old new) (too_long old new (omega (arith, lt)))

pub prefix_step : (old new : List Attr) (i : ℕ) (a b : Attr) → slice_get old i ≡ Some a → slice_get new i ≡ Some b → is_prefix (drop i old) (drop i new) ≡ (same_attr a b && is_prefix (drop (i + 1) old) (drop (i + 1) new))
prefix_step old new i a b at_old at_new = λ j. is_prefix (drop_attr old i a at_old j) (drop_attr new i b at_new j)
