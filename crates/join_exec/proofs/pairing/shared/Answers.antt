use Rattle.std.proofs.Common.{◌++◌, drop, ◌+◌, ap, ◌∙◌}
use Rattle.join_exec.proofs.PairLemmas.{shared_at, shared_at-skip, shared_at-take}
use Rattle.join_exec.proofs.pairing.shared.Goals as goal
use Rattle.join_exec.proofs.pairing.shared.Goals.{then-has_name+in_ok-extend_from_slice, else-has_name}

pub loop-place-preserved : goal.loop-place-preserved
loop-place-preserved c =
    elim c.if-has_name.branch [
      | then-has_name+in_ok-extend_from_slice w ↦
          shared_at-take c.args.left.now c.args.schema.now c.args.right.now c.args.row.now c.loop-place.key.items w.piece_named.result.now c.if-has_name.key.items c.loop-place.place c.attr.result.now c.bytes-name.result.now c.attr.ensures.attr c.bytes-name.ensures.bytes w.if-has_name.ensures w.piece_named.ensures ((λ i. (w.key-is i).items) ∙ w.in_ok-extend_from_slice.ensures.items)
          ∙ c.loop-place.invariant
      | else-has_name w ↦
          ap (λ t. t ++ shared_at c.args.left.now c.args.schema.now c.args.row.now (drop (c.loop-place.place + 1) c.args.right.now)) (λ i. (w.key-is i).items)
          ∙ shared_at-skip c.args.left.now c.args.schema.now c.args.right.now c.args.row.now c.loop-place.key.items c.loop-place.place c.attr.result.now c.bytes-name.result.now c.attr.ensures.attr c.bytes-name.ensures.bytes w.if-has_name.ensures
          ∙ c.loop-place.invariant
    ]
