use Rattle.std.proofs.Common.{◌≡◌, ◌∙◌, sym, ap, subst, true, List}
use Rattle.hera_sets.specs.Rows.{Row}
use Rattle.hera_meaning.specs.Values.{Value, rows_in, operand}
use Rattle.hera_meaning.specs.Fits.{fits_of}
use Rattle.hera_meaning.specs.Primitives.{prim_of}
use Rattle.hera_prims.specs.Answered.{IsAnswer}
use Rattle.hera_fits.specs.Tables.{tables}
use Rattle.hera_prims.proofs.Named.{held_tables, asks_relational, fitting_given}
use Rattle.hera_prims.proofs.prims.of_held.Goals as goal

pub prim_rel-requires-clause-relational : goal.prim_rel-requires-clause-relational
prim_rel-requires-clause-relational c = asks_relational c.args.op.now c.requires.asks

pub prim_rel-requires-clause-fits : goal.prim_rel-requires-clause-fits
prim_rel-requires-clause-fits c =
    let op = c.args.op.now in
    let vs = c.args.args.now in
    subst (λ (vs : List Value). fits_of op vs ≡ true)
    (held_tables op vs c.requires.asks c.requires.fits ∙ ap (λ (xs : List Row). tables op xs (rows_in (operand vs 1))) (sym c.rows_at.ensures) ∙ ap (λ (ys : List Row). tables op c.rows_at.result.now ys) (sym c.rows_at-2.ensures))
    c.requires.fits

pub returns : goal.returns
returns c =
    let op = c.args.op.now in
    let vs = c.args.args.now in
    subst (λ a. IsAnswer c.prim_rel.result a) (fitting_given op vs c.requires.fits)
    (subst (λ (vs : List Value). IsAnswer c.prim_rel.result (prim_of op vs))
    (sym (held_tables op vs c.requires.asks c.requires.fits ∙ ap (λ (xs : List Row). tables op xs (rows_in (operand vs 1))) (sym c.rows_at.ensures) ∙ ap (λ (ys : List Row). tables op c.rows_at.result.now ys) (sym c.rows_at-2.ensures)))
    c.prim_rel.ensures.given)
