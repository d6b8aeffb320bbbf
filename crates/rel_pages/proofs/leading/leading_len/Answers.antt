use Rattle.std.proofs.Common.{◌+◌, ◌-◌, ap, ◌∙◌, arith, length, length-drop, drop}
use Rattle.hera_row.proofs.RowLemmas.{length_from-step, length_from}
use Rattle.rel_pages.proofs.Leadings.{field_there}
use Rattle.rel_pages.proofs.leading.leading_len.Goals as goal

pub piece_len-n-requires : goal.piece_len-n-requires
piece_len-n-requires c = field_there c.args.schema.now c.args.bytes.now c.loop-place.rest.now c.loop-place.place _ c.attr.result.now c.attr.ensures.attr c.requires c.loop-place.invariant.rest

pub loop-place-preserved : goal.loop-place-preserved
loop-place-preserved c =
    record {
      rest =
          ap (λ rest. length_from (length c.args.bytes.now - length rest) (drop (c.loop-place.place + 1) c.args.schema.now) rest) c.split_at.ensures.back
          ∙ length_from-step c.args.schema.now c.loop-place.place c.piece_len-n.result (length c.args.bytes.now - length c.loop-place.rest.now) _ c.attr.result.now c.loop-place.rest.now c.attr.ensures.attr c.piece_len-n.ensures.length (omega (arith, length-drop c.piece_len-n.result c.loop-place.rest.now, c.piece_len-n.ensures.within, c.loop-place.invariant.within))
          ∙ c.loop-place.invariant.rest;
      within = omega (arith, ap length c.split_at.ensures.back, length-drop c.piece_len-n.result c.loop-place.rest.now, c.loop-place.invariant.within);
    }
