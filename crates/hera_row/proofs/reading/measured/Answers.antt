use Rattle.std.proofs.Common.{◌+◌, ◌-◌, sym, ap, ◌∙◌, arith, length, length-drop, drop}
use Rattle.hera_row.proofs.RowLemmas.{length_from-step, length_from-stop, length_from}
use Rattle.hera_row.proofs.reading.measured.Goals as goal

pub returns-in_err-n : goal.returns-in_err-n
returns-in_err-n c =
    c.from_residual.ensures
    ∙ sym (length_from-stop c.args.schema.now c.loop-place.place (length c.args.bytes.now - length c.loop-place.rest.now) c.attr.result.now c.loop-place.rest.now c.attr.ensures.attr (sym c.in_err-n.ensures.length))
    ∙ c.loop-place.invariant.rest

pub loop-place-preserved : goal.loop-place-preserved
loop-place-preserved c =
    record {
      rest =
          ap (λ rest. length_from (length c.args.bytes.now - length rest) (drop (c.loop-place.place + 1) c.args.schema.now) rest) c.split_at.ensures.back
          ∙ length_from-step c.args.schema.now c.loop-place.place c.in_ok-n.n (length c.args.bytes.now - length c.loop-place.rest.now) _ c.attr.result.now c.loop-place.rest.now c.attr.ensures.attr (sym c.in_ok-n.ensures.length) (omega (arith, length-drop c.in_ok-n.n c.loop-place.rest.now, c.in_ok-n.ensures.within, c.loop-place.invariant.within))
          ∙ c.loop-place.invariant.rest;
      within = omega (arith, ap length c.split_at.ensures.back, length-drop c.in_ok-n.n c.loop-place.rest.now, c.loop-place.invariant.within);
    }
