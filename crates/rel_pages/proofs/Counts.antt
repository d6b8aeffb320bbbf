-- Rows are no more than their bytes.
use Rattle.std.proofs.Common.{◌≡◌, ◌≤◌, ◌<◌, ℕ, zero, suc, ◌+◌, ◌-◌, Bool, true, false, cond, List, [], ◌∷◌, length, take, drop, length-drop, length-append, Some, None, refl, ap, ◌∙◌, arith}
use Rattle.std.specs.Prelude.{nat_lt, nat_le, ◌&&◌}
use Rattle.std.specs.Option.{option_and_then}
use Rattle.std.specs.Str.{is_utf8}
use Rattle.std.proofs.lemmas.Option.{none-some, same_Some, option_and_then_some}
use Rattle.std.proofs.lemmas.List.{length-take}
use Rattle.std.specs.Prelude.{nat_eq, position}
use Rattle.hera_meaning.specs.declared.scalars.Kind.{Kind}
use Rattle.hera_meaning.specs.declared.scalars.Kind.TheVariants.{Int as int_kind, Bool as bool_kind, Text as text_kind}
use Rattle.hera_meaning.specs.declared.schemas.Attr.{Attr}
use Rattle.hera_meaning.specs.Texts.{text_limit}
use Rattle.hera_row.specs.Reading.{field_len, row_len_of}
use Rattle.rel_pages.proofs.Runs.{page_first}
use Rattle.rel_pages.specs.Rels.{rows_from, rows_counted, page_rows, pages_rows, IsRun, ArePagesOf}

-- what begins with a field begins with a byte, and so does the field
one_of : (b : Bool) (k n : ℕ) → cond b (Some k) None ≡ Some n → k ≡ n
one_of true k n e = same_Some k n e
one_of false k n e = absurd (none-some n e)

other_of : (b : Bool) (k n : ℕ) → cond b None (Some k) ≡ Some n → k ≡ n
other_of true k n e = absurd (none-some n e)
other_of false k n e = same_Some k n e

field_some : (kind : Kind) (bytes : List ℕ) (n : ℕ) → field_len kind bytes ≡ Some n → (1 ≤ n) × (1 ≤ length bytes)
field_some kind [] n e = absurd (none-some n (none kind ∙ e))
  where
    none : (kind : Kind) → None ≡ field_len kind []
    none int_kind = refl
    none bool_kind = refl
    none text_kind = refl
field_some int_kind (b ∷ bytes) n e = (omega (arith, other_of (nat_lt (length (b ∷ bytes)) 8) 8 n e), omega arith)
field_some bool_kind (b ∷ bytes) n e = (omega (arith, one_of (nat_lt b 2) 1 n e), omega arith)
field_some text_kind (b ∷ bytes) n e =
    option_and_then_some (λ k. cond (nat_le k text_limit && is_utf8 (take k (b ∷ bytes))) (Some (k + 1)) None) (position (λ c. nat_eq c 0) (b ∷ bytes)) n e
    (λ k at g. (omega (arith, one_of (nat_le k text_limit && is_utf8 (take k (b ∷ bytes))) (k + 1) n g), omega arith))

row_some : (schema : List Attr) (bytes : List ℕ) (n : ℕ) → 1 ≤ length schema → row_len_of schema bytes ≡ Some n → (1 ≤ n) × (1 ≤ length bytes)
row_some [] bytes n some e = absurd (omega (arith, some))
row_some (a ∷ attrs) bytes n some e =
    option_and_then_some (λ m. option_and_then (λ k. Some (m + k)) (row_len_of attrs (drop m bytes))) (field_len a.kind bytes) n e (λ m at g.
    option_and_then_some (λ k. Some (m + k)) (row_len_of attrs (drop m bytes)) n g (λ k rest h.
    let first = field_some a.kind bytes m at in
    (omega (arith, first.0, same_Some (m + k) n h), first.1)))

run_fits : (schema : List Attr) (n : ℕ) (bytes : List ℕ) → 1 ≤ length schema → IsRun schema n bytes → n ≤ length bytes
run_fits schema zero bytes some run = omega arith
run_fits schema (suc n) bytes some run =
    let first = row_some schema bytes run.0 some run.1 in
    let rest = run_fits schema n (drop run.0 bytes) some run.2 in
    omega (arith, first.0, first.1, rest, length-drop run.0 bytes)

rows_from-length : (schema : List Attr) (n : ℕ) (bytes : List ℕ) → length (rows_from schema n bytes) ≡ n
rows_from-length schema zero bytes = refl
rows_from-length schema (suc n) bytes = ap suc (rows_from-length schema n _)

pub page_rows-length : (schema : List Attr) (page : List ℕ) → length (page_rows schema page) ≡ rows_counted page
page_rows-length schema page = rows_from-length schema (rows_counted page) (drop 4 page)

pub pages_fit : (schema : List Attr) (page n : ℕ) (bytes : List ℕ) → 1 ≤ length schema → ArePagesOf schema page n bytes → length (pages_rows schema page n bytes) ≤ length bytes
pages_fit schema page zero bytes some h = omega arith
pages_fit schema page (suc n) bytes some h =
    let one = run_fits schema (rows_counted (take page bytes)) (drop 4 (take page bytes)) some h.1.run in
    let rest = pages_fit schema page n (drop page bytes) some h.2 in
    omega (arith, one, rest, h.0, page_rows-length schema (take page bytes), length-append (page_rows schema (take page bytes)) (pages_rows schema page n (drop page bytes)), length-drop 4 (take page bytes), length-take page bytes, length-drop page bytes)

-- one page more is counted
pub page_counted : (schema : List Attr) (page n k rows all : ℕ) (bytes one behind : List ℕ) → k < n → ArePagesOf schema page (n - k) bytes → one ≡ take page bytes → behind ≡ drop page bytes → rows + length (pages_rows schema page (n - k) bytes) ≡ all → (rows + rows_counted one) + length (pages_rows schema page (n - (k + 1)) behind) ≡ all
page_counted schema page n k rows all bytes one behind h pages front back sum =
    let split = ap (λ xs. length xs) (page_first schema page n k bytes h pages).rows in
    let parts = length-append (page_rows schema (take page bytes)) (pages_rows schema page (n - (k + 1)) (drop page bytes)) in
    let here = page_rows-length schema (take page bytes) in
    let head = ap rows_counted front in
    let others = ap (λ (x : List ℕ). length (pages_rows schema page (n - (k + 1)) x)) back in
    omega (arith, split, parts, here, head, others, sum)
