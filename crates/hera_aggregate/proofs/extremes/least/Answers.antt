use Rattle.std.proofs.Common.{◌≡◌, IfOk, sym, subst, All}
use Rattle.hera_meaning.specs.declared.scalars.Scalar.{Scalar}
use Rattle.hera_meaning.specs.Rows.{IsRow}
use Rattle.hera_row.specs.Fields.{told}
use Rattle.hera_aggregate.proofs.Bests.{rows_behind-none, least_found}
use Rattle.hera_aggregate.proofs.extremes.least.Goals as goal

pub least_field-requires-clause-rows : goal.least_field-requires-clause-rows
least_field-requires-clause-rows g c = subst (All (IsRow c.args.schema.now)) (sym (rows_behind-none (g.A.Sorted.rows c.args.a.now))) c.requires.rows

pub returns-in-Some-clause-least : goal.returns-in-Some-clause-least
returns-in-Some-clause-least g c =
    let P : Scalar → Type 0 = λ value. IfOk c.owned.result (λ s. s ≡ value) in
    subst P (least_found c.args.schema.now c.args.i (g.A.Sorted.rows c.args.a.now) (told c.in-Some.value) c.in-Some.ensures) c.owned.ensures.same
