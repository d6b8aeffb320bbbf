use Rattle.std.proofs.Common.{◌++◌, ◌+◌, drop, ap, ◌∙◌}
use Rattle.join_exec.proofs.PairLemmas.{rest_at, rest_more, rest_skips, rest_ends}
use Rattle.join_exec.proofs.pairing.joined.Goals as goal
use Rattle.join_exec.proofs.pairing.joined.Goals.{then-is_none+in_ok-extend_from_slice-2, else-is_none}

pub loop-place-preserved : goal.loop-place-preserved
loop-place-preserved c =
    elim c.if-is_none.branch [
      | then-is_none+in_ok-extend_from_slice-2 w ↦
          rest_more c.args.left.now c.args.right.now c.args.places.now c.args.other.now c.loop-place.both.items w.piece.result.now c.if-is_none.both.items c.loop-place.place c.place_at.result c.requires.places c.place_at.ensures w.if-is_none.ensures w.piece.ensures ((λ i. (w.both-is i).items) ∙ w.in_ok-extend_from_slice-2.ensures.items)
          ∙ c.loop-place.invariant
      | else-is_none w ↦
          ap (λ t. t ++ rest_at c.args.left.now c.args.right.now c.args.other.now (drop (c.loop-place.place + 1) c.args.right.now)) (λ i. (w.both-is i).items)
          ∙ rest_skips c.args.left.now c.args.right.now c.args.places.now c.args.other.now c.loop-place.both.items c.loop-place.place c.place_at.result c.requires.places c.place_at.ensures w.if-is_none.ensures
          ∙ c.loop-place.invariant
    ]

pub returns : goal.returns
returns c = c.from_vec.ensures ∙ rest_ends c.args.left.now c.args.right.now c.args.places.now c.args.other.now c.loop-place.both.items c.loop-place.place c.requires.places c.loop-place-test.false ∙ c.loop-place.invariant
