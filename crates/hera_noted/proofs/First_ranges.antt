-- The first instruction that writes a slot, and the range behind it.
use Rattle.std.proofs.Common.{◌≡◌, ℕ, ◌+◌, ◌<◌, ◌≤◌, ◌⊎◌, inl, inr, false, List, Some, refl, sym, ap, ◌∙◌, arith}
use Rattle.std.specs.Prelude.{slice_get}
use Rattle.std.proofs.lemmas.Bool.{false≢true, cases_lt}
use Rattle.hera_code.specs.declared.instrs.Instr.{Instr}
use Rattle.hera_typed.proofs.Asking.{some_is}
use Rattle.hera_noted.specs.Spans.{is_writer, IsUnwritten, IsFirstWrite, IsFarthest, IsRange}

module _ (is : List Instr) (lo hi : ℕ) where
  pub unwritten_more : (a i : ℕ) (j : Instr) → slice_get is a ≡ Some j → is_writer j i ≡ false → IsUnwritten is lo hi a i → IsUnwritten is lo hi (a + 1) i
  unwritten_more a i j here un h c k ge lt e = by (cases_lt c a)
    where
      by : (c < a) ⊎ (a ≤ c) → is_writer k i ≡ false
      by (inl less) = h c k ge less e
      by (inr more) =
          let same : c ≡ a = omega (arith, more, lt) in
          let k_is : k ≡ j = some_is k j (sym e ∙ ap (slice_get is) same ∙ here) in
          ap (λ k. is_writer k i) k_is ∙ un

  -- there is one first write at most
  pub one_first : (i a b : ℕ) → IsFirstWrite is lo hi i a → IsFirstWrite is lo hi i b → a ≡ b
  one_first i a b h g = by (cases_lt a b) (cases_lt b a)
    where
      by : (a < b) ⊎ (b ≤ a) → (b < a) ⊎ (a ≤ b) → a ≡ b
      by (inl lt) q = absurd (false≢true (sym (g.before a h.instr h.low lt h.here) ∙ h.writes))
      by (inr le) (inl lt) = absurd (false≢true (sym (h.before b g.instr g.low lt g.here) ∙ g.writes))
      by (inr le) (inr ge) = omega (arith, le, ge)

  -- the range of a slot that nothing writes, and of one that something writes
  pub range_none : (i : ℕ) → IsUnwritten is lo hi hi i → IsRange is lo hi i 0 0
  range_none i h = record {
    within = (omega arith, omega arith);
    unwritten = λ u. refl;
    written = λ a w. absurd (false≢true (sym (h a w.instr w.low w.high w.here) ∙ w.writes));
    source = λ lt. absurd (omega (arith, lt));
  }

  pub range_some : (i a to : ℕ) → IsFirstWrite is lo hi i a → IsFarthest is lo hi (a + 1) to → IsRange is lo hi i (a + 1) to
  range_some i a to w f =
      let high = w.high in
      record {
        within = (omega (arith, high), f.within);
        unwritten = λ u. absurd (false≢true (sym (u a w.instr w.low w.high w.here) ∙ w.writes));
        written = λ b v. (let same : a ≡ b = one_first i a b w v in (omega (arith, same), f));
        source = λ lt. (a, w);
      }
