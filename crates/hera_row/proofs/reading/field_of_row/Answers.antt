use Rattle.std.proofs.Common.{rules, ◌≡◌, ◌+◌, ◌-◌, ◌<◌, ◌≤◌, Some, sym, ap, ◌∙◌, arith, length, length-drop, drop, refl}
use Rattle.std.proofs.lemmas.Bool.{eqb-true, eqb-false}
use Rattle.hera_row.specs.Reading.{row_len_of}
use Rattle.hera_row.proofs.RowLemmas.{length_from-step, length_from-stop, length_from, none_read, all_through, all_there, more_there, held_step}
use Rattle.hera_row.proofs.reading.field_of_row.Goals as goal

pub returns-in_err-n-clause-none : goal.returns-in_err-n-clause-none
returns-in_err-n-clause-none c =
    none_read c.args.schema.now c.args.bytes.now c.args.i c.from_residual.result
    (sym c.loop-place.invariant.rest
    ∙ length_from-stop c.args.schema.now c.loop-place.place (length c.args.bytes.now - length c.loop-place.rest.now) c.attr.result.now c.loop-place.rest.now c.attr.ensures.attr (sym c.in_err-n.ensures.length))

pub loop-place-preserved : goal.loop-place-preserved
loop-place-preserved c =
    record {
      rest =
          ap (λ rest. length_from (length c.args.bytes.now - length rest) (drop (c.loop-place.place + 1) c.args.schema.now) rest) c.split_at.ensures.back
          ∙ length_from-step c.args.schema.now c.loop-place.place c.in_ok-n.n (length c.args.bytes.now - length c.loop-place.rest.now) _ c.attr.result.now c.loop-place.rest.now c.attr.ensures.attr (sym c.in_ok-n.ensures.length) (omega (arith, length-drop c.in_ok-n.n c.loop-place.rest.now, c.in_ok-n.ensures.within, c.loop-place.invariant.within))
          ∙ c.loop-place.invariant.rest;
      within = omega (arith, ap length c.split_at.ensures.back, length-drop c.in_ok-n.n c.loop-place.rest.now, c.loop-place.invariant.within);
      held =
          held_step c.args.schema.now c.args.bytes.now c.args.i c.loop-place.place c.in_ok-n.n c.attr.result.now c.loop-place.at.now c.loop-place.rest.now c.either-at.result.now _ _ c.attr.ensures.attr (sym c.in_ok-n.ensures.length) refl c.either-at.ensures c.split_at.ensures.back c.loop-place.invariant.held;
    }

pub returns-then-is_empty-clause-there : goal.returns-then-is_empty-clause-there
returns-then-is_empty-clause-there c =
    let end : length c.args.schema.now ≤ c.loop-place.place = omega (arith, c.loop-place-test.false, c.len-place-end.ensures.count) in
    let within : c.args.i < length c.args.schema.now = omega (arith, c.if-i-len.false, c.len.ensures.count) in
    let whole : row_len_of c.args.schema.now c.args.bytes.now ≡ Some (length c.args.bytes.now - length c.loop-place.rest.now) = all_through c.args.schema.now c.args.bytes.now c.loop-place.rest.now c.loop-place.place end c.loop-place.invariant.rest in (
      within,
      all_there c.args.schema.now c.args.bytes.now c.loop-place.rest.now (λ k. search rules) whole (eqb-true _ _ (sym c.is_empty.ensures ∙ c.if-is_empty.true)),
      c.scalar.ensures ∙ (c.loop-place.invariant.held.behind c.attr-then-is_empty.result.now (omega (arith, within, end)) c.attr-then-is_empty.ensures.attr).same,
    )

pub returns-else-is_empty-clause-none : goal.returns-else-is_empty-clause-none
returns-else-is_empty-clause-none c =
    let end : length c.args.schema.now ≤ c.loop-place.place = omega (arith, c.loop-place-test.false, c.len-place-end.ensures.count) in
    let whole : row_len_of c.args.schema.now c.args.bytes.now ≡ Some (length c.args.bytes.now - length c.loop-place.rest.now) = all_through c.args.schema.now c.args.bytes.now c.loop-place.rest.now c.loop-place.place end c.loop-place.invariant.rest in
    λ _ row. more_there c.args.schema.now c.args.bytes.now c.loop-place.rest.now c.loop-place.invariant.within whole (eqb-false _ _ (sym c.is_empty.ensures ∙ c.if-is_empty.false)) row
