-- The first place that isn't above the limit.
use Rattle.std.proofs.Common.{inl, inr, arith}
use Rattle.std.specs.Prelude.{slice_index_or}
use Rattle.std.proofs.lemmas.Bool.{cases_lt}
use Rattle.std.proofs.lemmas.Option.{slice_get-get_or}
use Rattle.hera_noted.proofs.Listed.{stop_here}
use Rattle.hera_noted.proofs.ends.stop_within.Goals as goal

pub bounds-stops-place : goal.bounds-stops-place
bounds-stops-place c = stop_here c.args.stops.now c.args.limit c.count_above-place.result c.requires.some c.count_above-place.ensures.above

pub returns-clause-stop : goal.returns-clause-stop
returns-clause-stop c =
    let lt = stop_here c.args.stops.now c.args.limit c.count_above-place.result c.requires.some c.count_above-place.ensures.above in
    (c.count_above-place.result, slice_get-get_or c.args.stops.now c.count_above-place.result 0 lt)

pub returns-clause-within : goal.returns-clause-within
returns-clause-within c =
    let lt = stop_here c.args.stops.now c.args.limit c.count_above-place.result c.requires.some c.count_above-place.ensures.above in
    c.count_above-place.ensures.rest c.count_above-place.result (slice_index_or c.args.stops.now c.count_above-place.result 0) (slice_get-get_or c.args.stops.now c.count_above-place.result 0 lt) (omega arith)

pub returns-clause-farthest : goal.returns-clause-farthest
returns-clause-farthest c i p e le =
    let lt = stop_here c.args.stops.now c.args.limit c.count_above-place.result c.requires.some c.count_above-place.ensures.above in
    let here = slice_get-get_or c.args.stops.now c.count_above-place.result 0 lt in
    elim (cases_lt i c.count_above-place.result) [
      | inl less ↦ let high = c.count_above-place.ensures.above i p e less in absurd (omega (arith, high, le))
      | inr off ↦ c.requires.fall c.count_above-place.result i (slice_index_or c.args.stops.now c.count_above-place.result 0) p off here e
    ]
