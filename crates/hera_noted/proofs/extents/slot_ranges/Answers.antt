-- The range of one slot more.
use Rattle.std.proofs.Common.{◌≡◌, ◌+◌, ◌-◌, ℕ, List, length, Some, refl, sym, ap, subst, arith}
use Rattle.std.specs.Prelude.{slice_get}
use Rattle.std.proofs.lemmas.Option.{slice_get_read}
use Rattle.hera_noted.specs.declared.extents.Span.{Span}
use Rattle.hera_noted.specs.declared.ways.Sources.{Sources}
use Rattle.hera_noted.specs.Ends.{IsFarthestIn}
use Rattle.hera_noted.specs.Spans.{IsRange}
use Rattle.hera_noted.proofs.Listed.{push_long}
use Rattle.hera_noted.proofs.Pushed.{pushed}
use Rattle.hera_noted.proofs.Writing.{write_within, range_is}
use Rattle.hera_noted.proofs.extents.slot_ranges.Goals as goal

pub range_behind-requires-clause-long : goal.range_behind-requires-clause-long
range_behind-requires-clause-long c =
    let all = ap length c.as_slice.ensures.value in
    let ends = ap length c.as_slice-in-loop-i.ensures.value in
    let more = c.in_ok-ends.ensures.long in
    let long = c.in_ok-sources.ensures.long in
    omega (arith, all, ends, more, long)

pub range_behind-requires-clause-within : goal.range_behind-requires-clause-within
range_behind-requires-clause-within c n e h =
    let all = ap length c.as_slice.ensures.value in
    let long = c.in_ok-sources.ensures.long in
    let within = (c.in_ok-ends.ensures.ends n e (subst (λ xs. slice_get xs n ≡ Some e) c.as_slice-in-loop-i.ensures.value h)).within in
    omega (arith, all, long, within)

pub range_behind-requires-clause-write : goal.range_behind-requires-clause-write
range_behind-requires-clause-write c =
    let writes = c.in_ok-writes.writes.items in
    let here = slice_get_read writes _ c.loop-i.i c.index.result.now refl (omega (arith, c.loop-i-test.true, c.in_ok-writes.ensures.long)) c.index.ensures in
    write_within c.args.instrs.now c.args.body.start c.args.body.end c.loop-i.i c.index.result.now (c.in_ok-writes.ensures.writes c.loop-i.i c.index.result.now here)

pub loop-i-preserved : goal.loop-i-preserved
loop-i-preserved c =
    let instrs = c.args.instrs.now in
    let lo = c.args.body.start in
    let hi = c.args.body.end in
    let i = c.loop-i.i in
    let inv = c.loop-i.invariant in
    let writes = c.in_ok-writes.writes.items in
    let all = c.in_ok-sources.sources.items in
    let ends = c.in_ok-ends.ends.items in
    let write = c.index.result.now in
    let here = slice_get_read writes _ i write refl (omega (arith, c.loop-i-test.true, c.in_ok-writes.ensures.long)) c.index.ensures in
    let far : (n e : ℕ) → slice_get ends n ≡ Some e → IsFarthestIn all (length all - n) e = subst (λ (l : List Sources). (n e : ℕ) → slice_get ends n ≡ Some e → IsFarthestIn l (length l - n) e) c.as_slice.ensures.value c.in_ok-ends.ensures.ends in
    let range = c.range_behind.result in
    let some = subst (λ (xs : List ℕ). (a : ℕ) → write ≡ Some a → (range.start ≡ a + 1) × ((e : ℕ) × (slice_get xs (hi - (a + 1)) ≡ Some e) × (range.end ≡ lo + e))) c.as_slice-in-loop-i.ensures.value c.range_behind.ensures.some in
    let own : IsRange instrs lo hi i range.start range.end = range_is instrs lo hi i write all ends range (c.in_ok-writes.ensures.writes i write here) c.in_ok-sources.ensures far c.range_behind.ensures.none some in
    let items = c.in_ok-push.ensures.items in
    let longer = ap length items in
    let one = push_long c.loop-i.ranges.items range in
    let P : ℕ → Span → Type 0 = λ j r. IsRange instrs lo hi j r.start r.end in
    (omega (arith, inv.0, longer, one), λ j r e. pushed P c.loop-i.ranges.items range inv.1 (subst (λ n. P n range) (sym inv.0) own) j r (subst (λ xs. slice_get xs j ≡ Some r) items e))
