use Rattle.std.proofs.Common.{◌≡◌, IfOk, sym, subst, All}
use Rattle.hera_meaning.specs.declared.scalars.Scalar.{Scalar}
use Rattle.hera_meaning.specs.Rows.{IsRow}
use Rattle.hera_row.specs.Fields.{told}
use Rattle.hera_aggregate.proofs.Bests.{rows_behind-none, greatest_found}
use Rattle.hera_aggregate.proofs.extremes.greatest.Goals as goal

pub greatest_field-requires-clause-rows : goal.greatest_field-requires-clause-rows
greatest_field-requires-clause-rows g c = subst (All (IsRow c.args.schema.now)) (sym (rows_behind-none (g.A.Sorted.rows c.args.a.now))) c.requires.rows

pub returns-in-Some-clause-greatest : goal.returns-in-Some-clause-greatest
returns-in-Some-clause-greatest g c =
    let P : Scalar → Type 0 = λ value. IfOk c.owned.result (λ s. s ≡ value) in
    subst P (greatest_found c.args.schema.now c.args.i (g.A.Sorted.rows c.args.a.now) (told c.in-Some.value) c.in-Some.ensures) c.owned.ensures.same
