-- Which instruction writes each slot first, an instruction at a time, and the ranges behind them.
use Rattle.std.proofs.Common.{◌≡◌, ◌<◌, ◌≤◌, ◌⊎◌, inl, inr, ℕ, ◌+◌, ◌-◌, false, List, length, Option, None, Some, refl, sym, ap, subst, ◌∙◌, arith}
use Rattle.std.specs.Prelude.{slice_get, slice_set, nat_eq, IfSome}
use Rattle.std.proofs.lemmas.Bool.{ne_eqb, eq-eqb, cases_lt}
use Rattle.std.proofs.lemmas.Option.{same_Some}
use Rattle.hera_code.specs.declared.instrs.Instr.{Instr}
use Rattle.hera_noted.specs.declared.ways.Sources.{Sources}
use Rattle.hera_noted.specs.declared.extents.Span.{Span}
use Rattle.hera_noted.specs.Spans.{is_writer, end_of, IsFirstWrite, IsFarthest, IsRange}
use Rattle.hera_noted.specs.Ways.{HaveSources}
use Rattle.hera_noted.specs.Ends.{IsFarthestIn}
use Rattle.hera_noted.specs.Writes.{IsWrite, AreWrites, IsRangeIn}
use Rattle.hera_noted.specs.Given.{IsSlotOf}
use Rattle.hera_noted.specs.Ranged.{IsSlotNoted}
use Rattle.hera_code.specs.declared.instrs.Code.{Code}
use Rattle.hera_typed.specs.declared.notes.SlotNote.{SlotNote}
use Rattle.hera_meaning.specs.declared.shapes.BodyShapes.{BodyShapes}
use Rattle.hera_noted.proofs.First_ranges.{unwritten_more, range_none, range_some}
use Rattle.hera_noted.proofs.Listed.{set_same, set_other, set_long, there, item}
use Rattle.hera_noted.proofs.Sourced.{farthest_in}

module _ (is : List Instr) (lo hi : ℕ) where
  -- no instruction was looked at
  pub writes_start : (writes : List (Option ℕ)) → ((i : ℕ) (o : Option ℕ) → slice_get writes i ≡ Some o → o ≡ None) → AreWrites is lo hi lo writes
  writes_start writes none i o e = subst (λ p. IsWrite is lo hi lo i p) (sym (none i o e)) (λ a j ge lt f. absurd (omega (arith, ge, lt)))

  end_of_one : (a i : ℕ) (o : Option ℕ) → hi ≤ a → IsWrite is lo hi a i o → IsWrite is lo hi hi i o
  end_of_one a i None le h = λ b j ge lt e. h b j ge (omega (arith, lt, le)) e
  end_of_one a i (Some w) le h = h

  -- all were
  pub writes_end : (a : ℕ) (writes : List (Option ℕ)) → hi ≤ a → AreWrites is lo hi a writes → AreWrites is lo hi hi writes
  writes_end a writes le h i o e = end_of_one a i o le (h i o e)

  -- the instruction doesn't write the slot, or one before it does
  past : (a i : ℕ) (o : Option ℕ) (instr : Instr) → slice_get is a ≡ Some instr → is_writer instr i ≡ false → IsWrite is lo hi a i o → IsWrite is lo hi (a + 1) i o
  past a i None instr here un h = unwritten_more is lo hi a i instr here un h
  past a i (Some w) instr here un h = h

  -- it writes no slot
  pub writes_same : (a : ℕ) (instr : Instr) (writes : List (Option ℕ)) → slice_get is a ≡ Some instr → ((i : ℕ) → is_writer instr i ≡ false) → AreWrites is lo hi a writes → AreWrites is lo hi (a + 1) writes
  writes_same a instr writes here un h i o e = past a i o instr here (un i) (h i o e)

  -- it writes a slot that the body doesn't have
  pub writes_off : (a j : ℕ) (instr : Instr) (writes : List (Option ℕ)) → slice_get is a ≡ Some instr → ((i : ℕ) → is_writer instr i ≡ nat_eq j i) → length writes ≤ j → AreWrites is lo hi a writes → AreWrites is lo hi (a + 1) writes
  writes_off a j instr writes here to off h i o e =
      let within = there writes i o e in
      past a i o instr here (to i ∙ ne_eqb j i (λ same. omega (arith, same, within, off))) (h i o e)

  -- it writes a slot that one before it writes
  pub writes_kept : (a j w : ℕ) (instr : Instr) (writes : List (Option ℕ)) → slice_get is a ≡ Some instr → ((i : ℕ) → is_writer instr i ≡ nat_eq j i) → slice_get writes j ≡ Some (Some w) → AreWrites is lo hi a writes → AreWrites is lo hi (a + 1) writes
  writes_kept a j w instr writes here to old h i o e = by (cases_lt i j) (cases_lt j i)
    where
      other : (j ≡ i → ⊥) → IsWrite is lo hi (a + 1) i o
      other apart = past a i o instr here (to i ∙ ne_eqb j i apart) (h i o e)

      by : (i < j) ⊎ (j ≤ i) → (j < i) ⊎ (i ≤ j) → IsWrite is lo hi (a + 1) i o
      by (inl less) q = other (λ same. omega (arith, less, same))
      by (inr le) (inl more) = other (λ same. omega (arith, more, same))
      by (inr le) (inr ge) =
          let same : j ≡ i = omega (arith, le, ge) in
          let o_is : Some w ≡ o = same_Some (Some w) o (sym old ∙ ap (slice_get writes) same ∙ e) in
          subst (λ p. IsWrite is lo hi (a + 1) i p) o_is (subst (λ n. IsFirstWrite is lo hi n w) same (h j (Some w) old))

  -- it is the first to write a slot
  pub writes_put : (a j : ℕ) (instr : Instr) (writes : List (Option ℕ)) → lo ≤ a → a < hi → slice_get is a ≡ Some instr → ((i : ℕ) → is_writer instr i ≡ nat_eq j i) → slice_get writes j ≡ Some None → AreWrites is lo hi a writes →
      AreWrites is lo hi (a + 1) (slice_set writes j (Some a))
  writes_put a j instr writes low high here to old h i o e = by (cases_lt i j) (cases_lt j i)
    where
      other : (j ≡ i → ⊥) → IsWrite is lo hi (a + 1) i o
      other apart = past a i o instr here (to i ∙ ne_eqb j i apart) (h i o (sym (set_other writes j i (Some a) apart) ∙ e))

      first : IsFirstWrite is lo hi j a
      first = record { low = low; high = high; instr = instr; here = here; writes = to j ∙ eq-eqb j j refl; before = h j None old }

      by : (i < j) ⊎ (j ≤ i) → (j < i) ⊎ (i ≤ j) → IsWrite is lo hi (a + 1) i o
      by (inl less) q = other (λ same. omega (arith, less, same))
      by (inr le) (inl more) = other (λ same. omega (arith, more, same))
      by (inr le) (inr ge) =
          let same : j ≡ i = omega (arith, le, ge) in
          let o_is : Some a ≡ o = same_Some (Some a) o (sym (set_same writes j (Some a) (there writes j None old)) ∙ ap (slice_get (slice_set writes j (Some a))) same ∙ e) in
          subst (λ p. IsWrite is lo hi (a + 1) i p) o_is (subst (λ n. IsFirstWrite is lo hi n a) same first)

  -- it is taken down
  pub writes_noted : (a j : ℕ) (instr : Instr) (writes new : List (Option ℕ)) → lo ≤ a → a < hi → slice_get is a ≡ Some instr → ((i : ℕ) → is_writer instr i ≡ nat_eq j i) → j < length writes →
      ((w : ℕ) → slice_get writes j ≡ Some (Some w) → new ≡ writes) → (slice_get writes j ≡ Some None → new ≡ slice_set writes j (Some a)) → AreWrites is lo hi a writes → (length new ≡ length writes) × AreWrites is lo hi (a + 1) new
  writes_noted a j instr writes new low high here to within kept put h = let o = item writes j within in by o.0 o.1
    where
      by : (o : Option ℕ) → slice_get writes j ≡ Some o → (length new ≡ length writes) × AreWrites is lo hi (a + 1) new
      by None e = (ap length (put e) ∙ set_long writes j (Some a), subst (λ ws. AreWrites is lo hi (a + 1) ws) (sym (put e)) (writes_put a j instr writes low high here to e h))
      by (Some w) e = (ap length (kept w e), subst (λ ws. AreWrites is lo hi (a + 1) ws) (sym (kept w e)) (writes_kept a j w instr writes here to e h))

  -- ---- ranges

  pub write_within : (i : ℕ) (o : Option ℕ) → IsWrite is lo hi hi i o → IfSome o (λ a. (lo ≤ a) × (a < hi))
  write_within i None h = tt
  write_within i (Some a) h = (h.low, h.high)

  pub range_is : (i : ℕ) (o : Option ℕ) (all : List Sources) (ends : List ℕ) (r : Span) → IsWrite is lo hi hi i o → HaveSources is lo hi hi all → ((n e : ℕ) → slice_get ends n ≡ Some e → IsFarthestIn all (length all - n) e) →
      (o ≡ None → (r.start ≡ 0) × (r.end ≡ 0)) → ((a : ℕ) → o ≡ Some a → (r.start ≡ a + 1) × ((e : ℕ) × (slice_get ends (hi - (a + 1)) ≡ Some e) × (r.end ≡ lo + e))) → IsRange is lo hi i r.start r.end
  range_is i None all ends r w h far none some =
      let is_none = none refl in
      subst (λ f. IsRange is lo hi i f r.end) (sym is_none.0) (subst (λ t. IsRange is lo hi i 0 t) (sym is_none.1) (range_none is lo hi i w))
  range_is i (Some a) all ends r w h far none some =
      let is_some = some a refl in
      let e = is_some.1.0 in
      let low = w.low in
      let high = w.high in
      let long = h.long in
      let place : length all - (hi - (a + 1)) ≡ a + 1 - lo = omega (arith, low, high, long) in
      let start : lo + (a + 1 - lo) ≡ a + 1 = omega (arith, low) in
      let end : IsFarthestIn all (a + 1 - lo) e = subst (λ p. IsFarthestIn all p e) place (far (hi - (a + 1)) e is_some.1.1) in
      let whole : IsFarthest is lo hi (a + 1) (lo + e) = subst (λ p. IsFarthest is lo hi p (lo + e)) start (farthest_in is lo hi (a + 1 - lo) e all (omega (arith, low, high)) h end) in
      subst (λ f. IsRange is lo hi i f r.end) (sym is_some.0) (subst (λ t. IsRange is lo hi i (a + 1) t) (sym is_some.1.2) (range_some is lo hi i a (lo + e) w whole))

-- a slot's note that has the range
pub noted_of : (code : Code) (k i : ℕ) (s : BodyShapes) (n : SlotNote) (r : Span) → IsSlotOf s i n → (n.from ≡ r.start) × (n.to ≡ r.end) → IsRangeIn code k i r → IsSlotNoted code k s i n
noted_of code k i s n r given same h = record {
  given = given;
  range = λ info here.
      subst (λ f. IsRange code.instrs info.at (end_of code k) i f n.to) (sym same.0) (subst (λ t. IsRange code.instrs info.at (end_of code k) i r.start t) (sym same.1) (h.range info here));
}
