-- Rows of one length.
use Rattle.std.proofs.Common.{◌≡◌, ◌≤◌, ◌<◌, ℕ, zero, suc, ◌+◌, ◌-◌, ◌*◌, Bool, true, false, cond, List, [], ◌∷◌, ◌++◌, length, drop, length-drop, Option, Some, None, refl, sym, ap, subst, ◌∙◌, arith}
use Rattle.std.specs.Prelude.{nat_lt}
use Rattle.std.specs.List.{slice_get}
use Rattle.std.specs.Option.{option_and_then}
use Rattle.std.proofs.Math.Nat.{suc-mul}
use Rattle.std.proofs.lemmas.Option.{none-some, same_Some}
use Rattle.std.proofs.lemmas.List.{drop-drop, length-take}
use Rattle.hera_sets.specs.Rows.{Row}
use Rattle.hera_meaning.specs.declared.scalars.Kind.{Kind}
use Rattle.hera_meaning.specs.declared.scalars.Kind.TheVariants.{Int as int_kind, Bool as bool_kind}
use Rattle.hera_meaning.specs.declared.schemas.Attr.{Attr}
use Rattle.hera_row.specs.Reading.{row_len_of, field_len}
use Rattle.hera_row.proofs.FieldLemmas.{AreBytes, AreBytes-drop}
use Rattle.hera_row.proofs.RowLemmas.{row_len_some}
use Rattle.rel_pages.specs.Rels.{cut, leading, rows_from, IsRun}

-- ---- how long a row is

-- a row's first field, and the others
record Parted (a : Attr) (attrs : List Attr) (bytes : List ℕ) (n : ℕ) : Type 0 where
  first : ℕ
  is : field_len a.kind bytes ≡ Some first
  more : ℕ
  others : row_len_of attrs (drop first bytes) ≡ Some more
  sum : first + more ≡ n

parted : (a : Attr) (attrs : List Attr) (bytes : List ℕ) (n : ℕ) → row_len_of (a ∷ attrs) bytes ≡ Some n → Parted a attrs bytes n
parted a attrs bytes n e = by (field_len a.kind bytes) refl e
  where
    at : (k : ℕ) → field_len a.kind bytes ≡ Some k → (o : Option ℕ) → row_len_of attrs (drop k bytes) ≡ o → option_and_then (λ m. Some (k + m)) o ≡ Some n → Parted a attrs bytes n
    at k h None g s = absurd (none-some n s)
    at k h (Some m) g s = record { first = k; is = h; more = m; others = g; sum = same_Some (k + m) n s }

    by : (o : Option ℕ) → field_len a.kind bytes ≡ o → option_and_then (λ k. option_and_then (λ m. Some (k + m)) (row_len_of attrs (drop k bytes))) o ≡ Some n → Parted a attrs bytes n
    by None h s = absurd (none-some n s)
    by (Some k) h s = at k h (row_len_of attrs (drop k bytes)) refl s

chosen : (b : Bool) (k n : ℕ) → cond b None (Some k) ≡ Some n → n ≡ k
chosen true k n e = absurd (none-some n e)
chosen false k n e = sym (same_Some k n e)

int_len : (bytes : List ℕ) (n : ℕ) → field_len int_kind bytes ≡ Some n → n ≡ 8
int_len bytes n e = chosen (nat_lt (length bytes) 8) 8 n e

bool_len : (bytes : List ℕ) (n : ℕ) → field_len bool_kind bytes ≡ Some n → n ≡ 1
bool_len [] n e = absurd (none-some n e)
bool_len (b ∷ bytes) n e = by (nat_lt b 2) e
  where
    by : (v : Bool) → cond v (Some 1) None ≡ Some n → n ≡ 1
    by true h = sym (same_Some 1 n h)
    by false h = absurd (none-some n h)

-- the fields so far have so many bytes in each row
abbrev pub AreEven : List Attr → ℕ → ℕ → Type 0
AreEven schema i width = (bytes : List ℕ) (n : ℕ) → row_len_of schema bytes ≡ Some n → (rest : List ℕ) × ((m : ℕ) × (row_len_of (drop i schema) rest ≡ Some m) × (width + m ≡ n))

pub even_start : (schema : List Attr) → AreEven schema 0 0
even_start schema bytes n e = (bytes, (n, e, omega arith))

one_more : (schema : List Attr) (i width size : ℕ) (a : Attr) → drop i schema ≡ a ∷ drop (i + 1) schema → ((bytes : List ℕ) (n : ℕ) → field_len a.kind bytes ≡ Some n → n ≡ size) → AreEven schema i width → AreEven schema (i + 1) (width + size)
one_more schema i width size a here one even bytes n e =
    let so_far = even bytes n e in
    let p = parted a (drop (i + 1) schema) so_far.0 so_far.1.0 (ap (λ (l : List Attr). row_len_of l so_far.0) (sym here) ∙ so_far.1.1) in
    let k = one so_far.0 p.first p.is in
    let sum = p.sum in
    let all = so_far.1.2 in
    (drop p.first so_far.0, (p.more, p.others, omega (arith, k, sum, all)))

pub attr_there : (schema : List Attr) (i : ℕ) (a : Attr) → slice_get schema i ≡ Some a → drop i schema ≡ a ∷ drop (i + 1) schema
attr_there [] i a h = absurd (none-some a h)
attr_there (x ∷ xs) zero a h = ap (λ (y : Attr). y ∷ xs) (same_Some x a h)
attr_there (x ∷ xs) (suc i) a h =
    let more : suc i + 1 ≡ suc (i + 1) = omega arith in
    attr_there xs i a h ∙ ap (λ (n : ℕ). a ∷ drop n (x ∷ xs)) (sym more)

pub even_int : (schema : List Attr) (i width : ℕ) (a : Attr) → a.kind ≡ int_kind → drop i schema ≡ a ∷ drop (i + 1) schema → AreEven schema i width → AreEven schema (i + 1) (width + 8)
even_int schema i width a kind here even = one_more schema i width 8 a here (λ bytes n e. int_len bytes n (ap (λ (k : Kind). field_len k bytes) (sym kind) ∙ e)) even

pub even_bool : (schema : List Attr) (i width : ℕ) (a : Attr) → a.kind ≡ bool_kind → drop i schema ≡ a ∷ drop (i + 1) schema → AreEven schema i width → AreEven schema (i + 1) (width + 1)
even_bool schema i width a kind here even = one_more schema i width 1 a here (λ bytes n e. bool_len bytes n (ap (λ (k : Kind). field_len k bytes) (sym kind) ∙ e)) even

none_left : (schema : List Attr) (i : ℕ) → length schema ≤ i → drop i schema ≡ []
none_left [] zero h = refl
none_left [] (suc i) h = refl
none_left (a ∷ attrs) zero h = absurd (omega (arith, h))
none_left (a ∷ attrs) (suc i) h = none_left attrs i (omega (arith, h))

-- each row of the schema has this length
abbrev pub IsEven : List Attr → ℕ → Type 0
IsEven schema width = (bytes : List ℕ) (n : ℕ) → row_len_of schema bytes ≡ Some n → n ≡ width

pub even_end : (schema : List Attr) (i width : ℕ) → length schema ≤ i → AreEven schema i width → IsEven schema width
even_end schema i width all even bytes n e =
    let so_far = even bytes n e in
    let none : 0 ≡ so_far.1.0 = same_Some 0 so_far.1.0 (ap (λ (l : List Attr). row_len_of l so_far.0) (sym (none_left schema i all)) ∙ so_far.1.1) in
    let sum = so_far.1.2 in
    omega (arith, none, sum)

-- ---- the rows from a row on

pub record RowsFrom (schema : List Attr) (width n k : ℕ) (bytes : List ℕ) : Type 0 where
  pub within : k * width ≤ length bytes
  pub run : IsRun schema (n - k) (drop (k * width) bytes)
  pub rows : rows_from schema n bytes ≡ rows_from schema k bytes ++ rows_from schema (n - k) (drop (k * width) bytes)

-- the first of so many rows, and those behind it
record Front (schema : List Attr) (width n : ℕ) (bytes : List ℕ) : Type 0 where
  fits : width ≤ length bytes
  run : IsRun schema n (drop width bytes)
  behind : drop (length (leading schema bytes)) bytes ≡ drop width bytes

front : (schema : List Attr) (width n : ℕ) (bytes : List ℕ) → IsEven schema width → ((k : ℕ) → row_len_of schema bytes ≡ Some k → k ≤ length bytes) → IsRun schema (suc n) bytes → Front schema width n bytes
front schema width n bytes even small run =
    let size : run.0 ≡ width = even bytes run.0 run.1 in
    let within = small run.0 run.1 in
    let lead : length (leading schema bytes) ≡ run.0 = ap (λ (o : Option ℕ). length (cut o bytes)) run.1 ∙ omega (arith, length-take run.0 bytes, within) in
    record {
      fits = omega (arith, size, within);
      run = subst (λ (m : ℕ). IsRun schema n (drop m bytes)) size run.2;
      behind = ap (λ (m : ℕ). drop m bytes) (lead ∙ size);
    }

pub rows_on : (schema : List Attr) (width n k : ℕ) (bytes : List ℕ) → IsEven schema width → AreBytes bytes → k ≤ n → IsRun schema n bytes → RowsFrom schema width n k bytes
rows_on schema width n zero bytes even all le h =
    let none : 0 ≡ 0 * width = omega arith in
    let whole : n ≡ n - 0 = omega arith in
    record {
      within = omega (arith, none);
      run = subst (λ (m : ℕ). IsRun schema (n - 0) (drop m bytes)) none (subst (λ (m : ℕ). IsRun schema m bytes) whole h);
      rows = ap (λ (m : ℕ). rows_from schema m bytes) whole ∙ ap (λ (m : ℕ). rows_from schema (n - 0) (drop m bytes)) none;
    }
rows_on schema width zero (suc k) bytes even all le h = absurd (omega (arith, le))
rows_on schema width (suc n) (suc k) bytes even all le h =
    let one = front schema width n bytes even (λ m e. (row_len_some schema bytes (Some m) all (sym e)).0) h in
    let rest = rows_on schema width n k (drop width bytes) even (AreBytes-drop width bytes all) (omega (arith, le)) one.run in
    let size = suc-mul k width in
    let place : drop (k * width) (drop width bytes) ≡ drop (suc k * width) bytes = drop-drop (k * width) width bytes ∙ ap (λ (m : ℕ). drop m bytes) (omega (arith, size)) in
    let count : n - k ≡ suc n - suc k = omega arith in
    record {
      within = omega (arith, size, rest.within, length-drop width bytes, one.fits);
      run = subst (λ (m : ℕ). IsRun schema m (drop (suc k * width) bytes)) count (subst (IsRun schema (n - k)) place rest.run);
      rows = ap (λ (l : List ℕ). leading schema bytes ∷ rows_from schema n l) one.behind
          ∙ ap (λ (t : List Row). leading schema bytes ∷ t) rest.rows
          ∙ ap (λ (l : List ℕ). (leading schema bytes ∷ rows_from schema k l) ++ rows_from schema (n - k) (drop (k * width) (drop width bytes))) (sym one.behind)
          ∙ ap (λ (l : List ℕ). rows_from schema (suc k) bytes ++ rows_from schema (n - k) l) place
          ∙ ap (λ (m : ℕ). rows_from schema (suc k) bytes ++ rows_from schema m (drop (suc k * width) bytes)) count;
    }

-- the row of a number
pub record RowHere (schema : List Attr) (width n k : ℕ) (bytes : List ℕ) : Type 0 where
  pub within : k * width ≤ length bytes
  pub len : row_len_of schema (drop (k * width) bytes) ≡ Some width
  pub fits : width ≤ length (drop (k * width) bytes)
  pub rest : List Row
  pub rows : rows_from schema n bytes ≡ rows_from schema k bytes ++ leading schema (drop (k * width) bytes) ∷ rest

pub row_here : (schema : List Attr) (width n k : ℕ) (bytes : List ℕ) → IsEven schema width → AreBytes bytes → k < n → IsRun schema n bytes → RowHere schema width n k bytes
row_here schema width n k bytes even all lt h =
    let from = rows_on schema width n k bytes even all (omega (arith, lt)) h in
    let count : n - k ≡ suc (n - (k + 1)) = omega (arith, lt) in
    let at : List ℕ = drop (k * width) bytes in
    let run = subst (λ (m : ℕ). IsRun schema m at) count from.run in
    let len : row_len_of schema at ≡ Some width = run.1 ∙ ap Some (even at run.0 run.1) in
    record {
      within = from.within;
      len = len;
      fits = (row_len_some schema at (Some width) (AreBytes-drop (k * width) bytes all) (sym len)).0;
      rest = rows_from schema (n - (k + 1)) (drop (length (leading schema at)) at);
      rows = from.rows ∙ ap (λ (m : ℕ). rows_from schema k bytes ++ rows_from schema m at) count;
    }
