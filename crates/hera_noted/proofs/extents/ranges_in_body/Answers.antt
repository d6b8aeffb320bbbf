-- The ranges are those of the body's addresses.
use Rattle.std.proofs.Common.{◌≡◌, ℕ, Some, subst, arith}
use Rattle.std.specs.Prelude.{slice_get}
use Rattle.std.proofs.lemmas.Result.{IfOk-weaker}
use Rattle.hera_noted.specs.declared.extents.Span.{Span}
use Rattle.hera_noted.specs.Spans.{end_of, IsRange}
use Rattle.hera_noted.specs.Writes.{IsRangeIn}
use Rattle.hera_noted.proofs.extents.ranges_in_body.Goals as goal

pub returns-clause-ranges : goal.returns-clause-ranges
returns-clause-ranges c =
    IfOk-weaker c.slot_ranges.result (λ ranges. (i : ℕ) (r : Span) → slice_get ranges.items i ≡ Some r → IsRange c.args.code.now.instrs c.body_start.result c.body_end.result i r.start r.end) (λ ranges. (i : ℕ) (r : Span) → slice_get ranges.items i ≡ Some r → IsRangeIn c.args.code.now c.args.k i r)
    (λ ranges h i r e. (let range = h i r e in
    let w = range.within in
    let w0 = w.0 in
    let w1 = w.1 in
    let within = c.body_end.ensures.within in
    record {
      range = λ info there.
          subst (λ lo. IsRange c.args.code.now.instrs lo (end_of c.args.code.now c.args.k) i r.start r.end) (c.body_start.ensures info there)
          (subst (λ hi. IsRange c.args.code.now.instrs c.body_start.result hi i r.start r.end) c.body_end.ensures.end range);
      within = (omega (arith, w0, within), omega (arith, w1, within));
    }))
    c.slot_ranges.ensures.ranges
