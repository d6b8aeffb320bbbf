use Rattle.std.proofs.Common.{◌≤◌, ◌++◌, length, sym, ap, ◌∙◌, arith}
use Rattle.std.proofs.lemmas.List.{append-nil, drop_all}
use Rattle.join_exec.specs.Leading.{places_in}
use Rattle.join_exec.proofs.PairLemmas.{place_push}
use Rattle.join_exec.proofs.pairing.places_of.Goals as goal

pub loop-place-preserved : goal.loop-place-preserved
loop-place-preserved c =
    place_push c.args.left.now c.args.right.now c.loop-place.places.items c.push.new.self.items c.loop-place.place c.attr.result.now c.bytes.result.now c.position.result c.attr.ensures.attr c.bytes.ensures.bytes c.position.ensures.place c.in_ok-push.ensures.items
    ∙ c.loop-place.invariant

pub returns : goal.returns
returns c =
    let past : length c.args.right.now ≤ c.loop-place.place = omega (arith, c.loop-place-test.false, c.len-place-end.ensures.count) in
    record {
      each =
          sym (ap (λ attrs. c.loop-place.places.items ++ places_in c.args.left.now attrs) (drop_all c.loop-place.place c.args.right.now past) ∙ append-nil c.loop-place.places.items)
          ∙ c.loop-place.invariant;
      distinct = c.len-place-end.ensures.valid.distinct;
    }
