use Rattle.std.proofs.Common.{◌≤◌, length, arith}
use Rattle.hera_aggregate.proofs.PartLemmas.{parts_push, parts_end}
use Rattle.hera_aggregate.proofs.groups.no_parts.Goals as goal

pub loop-place-preserved : goal.loop-place-preserved
loop-place-preserved c = parts_push c.args.keys.now c.loop-place.place c.row-key.result.now c.loop-place.parts.items c.push.new.self.items c.new.result c.row-key.ensures c.new.ensures c.loop-place.invariant c.in_ok-push.ensures.items

pub returns : goal.returns
returns c =
    let past : length c.args.keys.now ≤ c.loop-place.place = omega (arith, c.loop-place-test.false, c.len-place-end.ensures.count) in
    parts_end c.args.keys.now c.loop-place.place c.loop-place.parts.items past c.loop-place.invariant
