use Rattle.std.proofs.Common.{◌≤◌, List, [], ℕ, length, Some, refl, sym, ap, ◌∙◌, arith}
use Rattle.std.proofs.lemmas.Bool.{both_ways}
use Rattle.std.proofs.lemmas.List.{drop_all}
use Rattle.hera_sets.specs.Rows.{holds}
use Rattle.hera_sets.proofs.Order.{same_true}
use Rattle.hera_aggregate.proofs.PartLemmas.{held_behind}
use Rattle.hera_aggregate.proofs.groups.place_of.Goals as goal

pub returns-then-is_same : goal.returns-then-is_same
returns-then-is_same c = c.row.ensures ∙ ap Some (sym (same_true c.args.key.now c.row.result.now (sym c.if-is_same.ensures)))

pub loop-place-preserved : goal.loop-place-preserved
loop-place-preserved c = held_behind c.args.keys.now c.loop-place.place c.args.key.now c.row.result.now c.row.ensures (sym c.if-is_same.ensures) c.loop-place.invariant

pub returns : goal.returns
returns c =
    let past : length c.args.keys.now ≤ c.loop-place.place = omega (arith, c.loop-place-test.false, c.len-place-end.ensures.count) in
    absurd (both_ways (holds [] c.args.key.now) refl (ap (λ (t : List (List ℕ)). holds t c.args.key.now) (sym (drop_all c.loop-place.place c.args.keys.now past)) ∙ c.loop-place.invariant))
