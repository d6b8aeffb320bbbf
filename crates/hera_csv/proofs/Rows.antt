-- The rows that records write, taken in one by one.
use Rattle.std.proofs.Common.{◌≡◌, ◌+◌, ℕ, Bool, false, cond, List, [], ◌∷◌, ◌++◌, length, Option, Some, None, refl, sym, ap, ◌∙◌, arith, append-nil}
use Rattle.std.specs.Prelude.{◌==◌}
use Rattle.std.proofs.lemmas.Bool.{eq-eqb, ne_eqb}
use Rattle.hera_sets.specs.Rows.{Row}
use Rattle.hera_meaning.specs.declared.schemas.Attr.{Attr}
use Rattle.hera_csv.specs.Fields.{row_read}
use Rattle.hera_csv.specs.Records.{Fields, then_row, rows_read, rows_behind, with_row, rows_with}

then_more : (o : Option Row) (xs ys : List Row) → then_row o (xs ++ ys) ≡ then_row o xs ++ ys
then_more None xs ys = refl
then_more (Some r) xs ys = refl

rows_read-push : (schema : List Attr) (seen : List Fields) (f : Fields) → rows_read schema (seen ++ f ∷ []) ≡ rows_read schema seen ++ then_row (row_read schema f) []
rows_read-push schema [] f = refl
rows_read-push schema (x ∷ seen) f = ap (then_row (row_read schema x)) (rows_read-push schema seen f) ∙ then_more (row_read schema x) (rows_read schema seen) (then_row (row_read schema f) [])

put_last : (o : Option Row) (rows : List Row) → with_row o rows ≡ rows ++ then_row o []
put_last None rows = sym (append-nil rows)
put_last (Some r) rows = refl

-- one record more
pub rows_more : (schema : List Attr) (number : ℕ) (seen : List Fields) (f : Fields) (rows : List Row) → number ≡ length seen → rows ≡ rows_behind schema seen → rows_with schema (number + 1) f rows ≡ rows_behind schema (seen ++ f ∷ [])
rows_more schema number [] f rows count kept =
    let first : number + 1 ≡ 1 = omega (arith, count) in
    ap (λ (b : Bool). cond b rows (with_row (row_read schema f) rows)) (eq-eqb (number + 1) 1 first) ∙ kept
rows_more schema number (x ∷ seen) f rows count kept =
    let later : (number + 1 == 1) ≡ false = ne_eqb (number + 1) 1 (λ e. omega (arith, count, e)) in
    ap (λ (b : Bool). cond b rows (with_row (row_read schema f) rows)) later ∙ ap (with_row (row_read schema f)) kept
    ∙ put_last (row_read schema f) (rows_read schema seen) ∙ sym (rows_read-push schema seen f)
