use Rattle.std.proofs.Common.{All, refl, sym, subst, arith, length, ◌≤◌}
use Rattle.std.proofs.lemmas.List.{take_all}
use Rattle.std.proofs.lemmas.List.Elements.{All-more}
use Rattle.std.proofs.lemmas.Option.{get_or_from_slice_get}
use Rattle.hera_meaning.specs.Rows.{IsRow}
use Rattle.data_trials.proofs.aggregate.are_rows.Goals as goal

pub loop-i-preserved : goal.loop-i-preserved
loop-i-preserved c =
    let set = c.args.set.now in
    let row = c.row.result.now in
    All-more (IsRow c.args.schema.now) set c.loop-i.i row (omega (arith, c.loop-i-test.true, c.len-i-end.ensures.count)) c.loop-i.invariant
    (subst (IsRow c.args.schema.now) (sym (get_or_from_slice_get set c.loop-i.i row row c.row.ensures)) (c.if-not-check_row.ensures.0 refl))

pub returns : goal.returns
returns c = λ _.
    let past : length c.args.set.now ≤ c.loop-i.i = omega (arith, c.loop-i-test.false, c.len-i-end.ensures.count) in
    subst (All (IsRow c.args.schema.now)) (take_all c.loop-i.i c.args.set.now past) c.loop-i.invariant
