use Rattle.std.proofs.Common.{◌≡◌, length, sym, ap, subst, ◌∙◌, arith}
use Rattle.std.proofs.lemmas.Bool.{and_parts, and_from, both_ways}
use Rattle.hera_verify.specs.Spans.{IsSpan, IsFar}
use Rattle.hera_verify.specs.Slots.{lesser, is_inside, is_before}
use Rattle.hera_verify.proofs.Spanning.{at_index}
use Rattle.hera_verify.proofs.Slot_looks.{closed_to, closed_from, closed_inside}
use Rattle.hera_verify.proofs.slots.is_closed.Goals as goal

pub returns-then-is_inside : goal.returns-then-is_inside
returns-then-is_inside c =
    let code = c.args.code.now in
    let from = c.args.from in
    let to = c.args.to in
    let n = length code.instrs in
    let span = c.span_over-span.result in
    let far = c.index.result.now in
    let sources = c.requires.sources in
    let end : c.lesser-end.result ≡ lesser to n = c.lesser-end.ensures ∙ ap (lesser to) c.len.ensures in
    let spans : IsSpan code.instrs n from (lesser to n) span = subst (λ e. IsSpan code.instrs n from e span) end (c.span_over-span.ensures code.instrs n sources.spans (omega (arith, end, c.requires.narrow))) in
    let fars : IsFar code.instrs from far = sources.fars.far from far (at_index c.args.sources.now.fars.items from far (omega (arith, sources.fars.long, c.requires.there)) c.index.ensures) in (
      λ t. closed_to code from to c.requires.there c.requires.some span far spans fars (and_from (is_inside span from to) (is_before far to) (sym c.is_inside.ensures ∙ c.if-is_inside.true) (sym c.is_before.ensures ∙ t)),
      λ h. c.is_before.ensures ∙ (and_parts (is_inside span from to) (is_before far to) (closed_from code from to c.requires.there c.requires.some span far spans fars h)).1,
    )

pub returns-else-is_inside : goal.returns-else-is_inside
returns-else-is_inside c =
    let code = c.args.code.now in
    let from = c.args.from in
    let to = c.args.to in
    let n = length code.instrs in
    let span = c.span_over-span.result in
    let end : c.lesser-end.result ≡ lesser to n = c.lesser-end.ensures ∙ ap (lesser to) c.len.ensures in
    let spans : IsSpan code.instrs n from (lesser to n) span = subst (λ e. IsSpan code.instrs n from e span) end (c.span_over-span.ensures code.instrs n c.requires.sources.spans (omega (arith, end, c.requires.narrow))) in (
      λ t. absurd (both_ways c.is_inside.result c.if-is_inside.false t),
      λ h. c.is_inside.ensures ∙ closed_inside code from to c.requires.there c.requires.some span spans h,
    )
