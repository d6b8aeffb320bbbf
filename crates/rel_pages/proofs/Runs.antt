-- Rows one behind another.
use Rattle.std.proofs.Common.{◌≡◌, ◌≤◌, ◌<◌, ℕ, suc, ◌+◌, ◌-◌, Bool, true, false, cond, List, [], ◌∷◌, ◌++◌, length, take, drop, Option, Some, None, refl, sym, ap, subst, ◌∙◌, arith}
use Rattle.std.specs.Prelude.{is_some}
use Rattle.std.proofs.lemmas.Option.{none-some, same_Some}
use Rattle.std.proofs.lemmas.List.{take_at, drop_at}
use Rattle.std.specs.List.{find}
use Rattle.std.proofs.lemmas.Bool.{cond-true, cond-false}
use Rattle.hera_sets.specs.Rows.{Row}
use Rattle.hera_meaning.specs.declared.schemas.Attr.{Attr}
use Rattle.hera_row.specs.Reading.{row_len_of}
use Rattle.rel_pages.specs.Rels.{cut, leading, rows_from, page_rows, pages_rows, IsRun, IsPage, ArePagesOf}

pub run_starts : (schema : List Attr) (n k : ℕ) (bytes : List ℕ) → k < n → IsRun schema (n - k) bytes → is_some (row_len_of schema bytes) ≡ true
run_starts schema n k bytes h run =
    let e : n - k ≡ suc (n - (k + 1)) = omega (arith, h) in
    let r = subst (λ (m : ℕ). IsRun schema m bytes) e run in
    ap is_some r.1

-- behind its first row a run goes on
pub record GoesOn (schema : List Attr) (n k : ℕ) (bytes row rest : List ℕ) : Type 0 where
  pub run : IsRun schema (n - (k + 1)) rest
  pub rows : rows_from schema (n - k) bytes ≡ row ∷ rows_from schema (n - (k + 1)) rest

pub run_on : (schema : List Attr) (n k : ℕ) (bytes row rest : List ℕ) → k < n → IsRun schema (n - k) bytes → row_len_of schema bytes ≡ Some (length row) → row ++ rest ≡ bytes → GoesOn schema n k bytes row rest
run_on schema n k bytes row rest h run e parts =
    let count : n - k ≡ suc (n - (k + 1)) = omega (arith, h) in
    let r = subst (λ (m : ℕ). IsRun schema m bytes) count run in
    let len : r.0 ≡ length row = same_Some r.0 (length row) (sym r.1 ∙ e) in
    let behind : drop (length row) bytes ≡ rest = ap (drop (length row)) (sym parts) ∙ drop_at row rest (length row) refl in
    let front : leading schema bytes ≡ row = ap (λ (o : Option ℕ). cut o bytes) e ∙ ap (take (length row)) (sym parts) ∙ take_at row rest (length row) refl in
    record {
      run = subst (IsRun schema (n - (k + 1))) (ap (λ (m : ℕ). drop m bytes) len ∙ behind) r.2;
      rows = ap (λ (m : ℕ). rows_from schema m bytes) count ∙ ap (λ (x : List ℕ). x ∷ rows_from schema (n - (k + 1)) (drop (length x) bytes)) front ∙ ap (λ (x : List ℕ). row ∷ rows_from schema (n - (k + 1)) x) behind;
    }

-- ---- pages one behind another

pub find_none : (p : Row → Bool) (xs ys : List Row) → find p xs ≡ None → find p (xs ++ ys) ≡ find p ys
find_none p [] ys h = refl
find_none p (x ∷ xs) ys h = by (find_none p xs ys) (p x) refl h
  where
    by : (find p xs ≡ None → find p (xs ++ ys) ≡ find p ys) → (b : Bool) → b ≡ p x → cond b (Some x) (find p xs) ≡ None → cond (p x) (Some x) (find p (xs ++ ys)) ≡ find p ys
    by again true e g = absurd (none-some x (sym g))
    by again false e g = cond-false (p x) _ _ (sym e) ∙ again g

pub find_some : (p : Row → Bool) (xs ys : List Row) (r : Row) → find p xs ≡ Some r → find p (xs ++ ys) ≡ Some r
find_some p [] ys r h = absurd (none-some r h)
find_some p (x ∷ xs) ys r h = by (find_some p xs ys r) (p x) refl h
  where
    by : (find p xs ≡ Some r → find p (xs ++ ys) ≡ Some r) → (b : Bool) → b ≡ p x → cond b (Some x) (find p xs) ≡ Some r → cond (p x) (Some x) (find p (xs ++ ys)) ≡ Some r
    by again true e g = cond-true (p x) _ _ (sym e) ∙ g
    by again false e g = cond-false (p x) _ _ (sym e) ∙ again g

pub record PageFirst (schema : List Attr) (page n k : ℕ) (bytes : List ℕ) : Type 0 where
  pub fits : page ≤ length bytes
  pub one : IsPage schema (take page bytes)
  pub more : ArePagesOf schema page (n - (k + 1)) (drop page bytes)
  pub rows : pages_rows schema page (n - k) bytes ≡ page_rows schema (take page bytes) ++ pages_rows schema page (n - (k + 1)) (drop page bytes)

pub page_first : (schema : List Attr) (page n k : ℕ) (bytes : List ℕ) → k < n → ArePagesOf schema page (n - k) bytes → PageFirst schema page n k bytes
page_first schema page n k bytes h pages =
    let count : n - k ≡ suc (n - (k + 1)) = omega (arith, h) in
    let r = subst (λ (m : ℕ). ArePagesOf schema page m bytes) count pages in
    record { fits = r.0; one = r.1; more = r.2; rows = ap (λ (m : ℕ). pages_rows schema page m bytes) count }
