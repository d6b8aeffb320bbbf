use Rattle.std.proofs.Common.{◌≡◌, ℤ, Bool, true, false, ◌&&◌, IfOk, OnOk, IfErr, sym, ap, ◌∙◌, subst, All, rules}
use mir.Syntax.{w128}
use Rattle.std.proofs.lemmas.Int.{to_z-of_z}
use Rattle.hera_meaning.specs.Scalars.{fits_int}
use Rattle.hera_meaning.specs.Rows.{IsRow}
use Rattle.hera_meaning.specs.Aggregates.{sum_of}
use Rattle.hera_aggregate.specs.declared.ends.AggEnd.TheVariants.{Overflow}
use Rattle.hera_aggregate.proofs.Bests.{rows_behind-none}
use Rattle.hera_aggregate.proofs.sums.sum.Goals as goal

pub total-requires-clause-rows : goal.total-requires-clause-rows
total-requires-clause-rows g c = subst (All (IsRow c.args.schema.now)) (sym (rows_behind-none (g.A.Sorted.rows c.args.a.now))) c.requires.rows

pub returns-clause-sum : goal.returns-clause-sum
returns-clause-sum g c =
    let P : ℤ → Type 0 = λ z. IfOk c.narrowed.result (λ sum. sum ≡ z) in
    subst P (to_z-of_z w128 c.in_ok-total.field-0 (search rules) ∙ c.in_ok-total.ensures.sum ∙ ap (sum_of c.args.schema.now c.args.i) (rows_behind-none (g.A.Sorted.rows c.args.a.now))) c.narrowed.ensures.same

pub returns-clause-fits : goal.returns-clause-fits
returns-clause-fits g c =
    let rows = g.A.Sorted.rows c.args.a.now in
    let sum = sum_of c.args.schema.now c.args.i in
    let P : Bool → Type 0 = λ v. OnOk c.narrowed.result (v ≡ true) in
    subst P (ap fits_int (to_z-of_z w128 c.in_ok-total.field-0 (search rules) ∙ c.in_ok-total.ensures.sum ∙ ap sum (rows_behind-none rows)) ∙ sym (ap (λ v. v && fits_int (sum rows)) c.in_ok-total.ensures.few)) c.narrowed.ensures.fits

pub returns-clause-overflow : goal.returns-clause-overflow
returns-clause-overflow g c =
    let rows = g.A.Sorted.rows c.args.a.now in
    let sum = sum_of c.args.schema.now c.args.i in
    let P : Bool → Type 0 = λ v. IfErr c.narrowed.result (λ end. (end ≡ Overflow) × (v ≡ false)) in
    subst P (ap fits_int (to_z-of_z w128 c.in_ok-total.field-0 (search rules) ∙ c.in_ok-total.ensures.sum ∙ ap sum (rows_behind-none rows)) ∙ sym (ap (λ v. v && fits_int (sum rows)) c.in_ok-total.ensures.few)) c.narrowed.ensures.overflow
