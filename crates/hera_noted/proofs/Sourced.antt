-- The sources of the ways to the places of a body, an instruction at a time.
use Rattle.std.proofs.Common.{◌≡◌, ◌≢◌, ◌<◌, ◌≤◌, ◌⊎◌, inl, inr, ℕ, ◌+◌, ◌-◌, Bool, true, false, cond, List, length, Some, refl, sym, ap, subst, ◌∙◌, arith}
use Rattle.std.specs.Prelude.{slice_get, slice_set, nat_lt}
use Rattle.std.proofs.lemmas.Bool.{cases_lt, ltb-true, ltb-false}
use Rattle.std.proofs.lemmas.Option.{same_Some}
use Rattle.hera_code.specs.declared.instrs.Instr.{Instr}
use Rattle.hera_noted.specs.declared.ways.Sources.{Sources}
use Rattle.hera_noted.specs.Spans.{target_of, IsClosed, IsFarthest}
use Rattle.hera_noted.specs.Ways.{widened, IsWay, AreSources, HaveSources}
use Rattle.hera_noted.specs.Ends.{IsFarthestIn}
use Rattle.hera_noted.proofs.Listed.{set_same, set_other, set_long, there, item}

-- a place more
first_is : (v : Bool) (f a : ℕ) → nat_lt a f ≡ v → (cond v a f ≤ f) × (cond v a f ≤ a)
first_is true f a e = let lt : a < f = ltb-true a f e in (omega (arith, lt), omega arith)
first_is false f a e = let le : f ≤ a = ltb-false a f e in (omega arith, omega (arith, le))

last_is : (v : Bool) (l a : ℕ) → nat_lt l a ≡ v → (l ≤ cond v a l) × (a ≤ cond v a l)
last_is true l a e = let lt : l < a = ltb-true l a e in (omega (arith, lt), omega arith)
last_is false l a e = let le : a ≤ l = ltb-false l a e in (omega arith, omega (arith, le))

one_of : (v : Bool) (a f : ℕ) (P : ℕ → Type 0) → P a → P f → P (cond v a f)
one_of true a f P p q = p
one_of false a f P p q = q

module _ (is : List Instr) (lo hi : ℕ) where
  -- no instruction was looked at
  pub sources_start : (all : List Sources) → length all ≡ hi - lo → ((k : ℕ) (s : Sources) → slice_get all k ≡ Some s → (s.first ≡ k) × (s.last ≡ k)) → HaveSources is lo hi lo all
  sources_start all long own = record { long = long; each = λ k s e. each k s (own k s e) }
    where
      each : (k : ℕ) (s : Sources) → (s.first ≡ k) × (s.last ≡ k) → AreSources is lo hi lo k s
      each k s h =
          let f = h.0 in
          let l = h.1 in
          record {
            own = (omega (arith, f), omega (arith, l));
            ways = λ c lt w. (let low = w.low in absurd (omega (arith, lt, low)));
            first = λ lt. absurd (omega (arith, lt, f));
            last = λ lt. absurd (omega (arith, lt, l));
          }

  -- all were
  pub sources_end : (a : ℕ) (all : List Sources) → hi ≤ a → HaveSources is lo hi a all → HaveSources is lo hi hi all
  sources_end a all le h = record { long = h.long; each = λ k s e. (let old = h.each k s e in record { own = old.own; ways = λ c lt w. old.ways c (omega (arith, lt, le)) w; first = old.first; last = old.last }) }

  -- a way here is that of this instruction
  way_is : (a b : ℕ) (i : Instr) → slice_get is a ≡ Some i → IsWay is lo hi a b → target_of i ≡ Some b
  way_is a b i here w = ap target_of (same_Some i w.instr (sym here ∙ w.here)) ∙ w.names

  -- the instruction leads to no other place than this
  more_ways : (a k : ℕ) (s : Sources) (i : Instr) → slice_get is a ≡ Some i → (target_of i ≡ Some (lo + k) → ⊥) → AreSources is lo hi a k s → AreSources is lo hi (a + 1) k s
  more_ways a k s i here not h = record { own = h.own; ways = λ c lt w. by c w lt (cases_lt c a); first = h.first; last = h.last }
    where
      by : (c : ℕ) → IsWay is lo hi c (lo + k) → c < a + 1 → (c < a) ⊎ (a ≤ c) → (lo + s.first ≤ c) × (c ≤ lo + s.last)
      by c w lt (inl less) = h.ways c less w
      by c w lt (inr more) =
          let same : c ≡ a = omega (arith, lt, more) in
          absurd (not (way_is a (lo + k) i here (subst (λ x. IsWay is lo hi x (lo + k)) same w)))

  -- it leads to this one
  widen_ways : (a k : ℕ) (s : Sources) (i : Instr) → slice_get is a ≡ Some i → lo ≤ a → a < hi → target_of i ≡ Some (lo + k) → AreSources is lo hi a k s → AreSources is lo hi (a + 1) k (widened s (a - lo))
  widen_ways a k s i here low high to h =
      let f = first_is (nat_lt (a - lo) s.first) s.first (a - lo) refl in
      let l = last_is (nat_lt s.last (a - lo)) s.last (a - lo) refl in
      let f0 = f.0 in
      let f1 = f.1 in
      let l0 = l.0 in
      let l1 = l.1 in
      let own0 = h.own.0 in
      let own1 = h.own.1 in
      let own_way : IsWay is lo hi (lo + (a - lo)) (lo + k) = (let back : a ≡ lo + (a - lo) = omega (arith, low) in subst (λ x. IsWay is lo hi x (lo + k)) back (record { low = low; high = high; instr = i; here = here; names = to })) in
      record {
        own = (omega (arith, f0, own0), omega (arith, l0, own1));
        ways = λ c lt w. by c w lt f0 f1 l0 l1 (cases_lt c a);
        first = one_of (nat_lt (a - lo) s.first) (a - lo) s.first (λ x. x < k → IsWay is lo hi (lo + x) (lo + k)) (λ lt. own_way) h.first;
        last = one_of (nat_lt s.last (a - lo)) (a - lo) s.last (λ x. k < x → IsWay is lo hi (lo + x) (lo + k)) (λ lt. own_way) h.last;
      }
    where
      by : (c : ℕ) → IsWay is lo hi c (lo + k) → c < a + 1 →
          (widened s (a - lo)).first ≤ s.first → (widened s (a - lo)).first ≤ a - lo → s.last ≤ (widened s (a - lo)).last → a - lo ≤ (widened s (a - lo)).last →
          (c < a) ⊎ (a ≤ c) → (lo + (widened s (a - lo)).first ≤ c) × (c ≤ lo + (widened s (a - lo)).last)
      by c w lt f0 f1 l0 l1 (inl less) = let old = h.ways c less w in let o0 = old.0 in let o1 = old.1 in (omega (arith, f0, o0), omega (arith, l0, o1))
      by c w lt f0 f1 l0 l1 (inr more) = (omega (arith, f1, more, low), omega (arith, l1, lt, low))

  -- an instruction more, which leads to no place of the body
  pub ways_same : (a : ℕ) (i : Instr) (all : List Sources) → slice_get is a ≡ Some i → ((b : ℕ) → target_of i ≡ Some b → (b < lo) ⊎ (hi ≤ b)) → HaveSources is lo hi a all → HaveSources is lo hi (a + 1) all
  ways_same a i all here out h = record { long = h.long; each = λ k s e. more_ways a k s i here (λ t. not k (there all k s e) (out (lo + k) t)) (h.each k s e) }
    where
      not : (k : ℕ) → k < length all → (lo + k < lo) ⊎ (hi ≤ lo + k) → ⊥
      not k lt (inl less) = omega (arith, less)
      not k lt (inr more) = let long = h.long in omega (arith, lt, more, long)

  -- one that leads to a place of the body
  pub ways_more : (a b : ℕ) (i : Instr) (s : Sources) (all : List Sources) → slice_get is a ≡ Some i → lo ≤ a → a < hi → target_of i ≡ Some b → lo ≤ b → b < hi → slice_get all (b - lo) ≡ Some s →
      HaveSources is lo hi a all → HaveSources is lo hi (a + 1) (slice_set all (b - lo) (widened s (a - lo)))
  ways_more a b i s all here low high to from upto old h = record {
    long = set_long all (b - lo) (widened s (a - lo)) ∙ h.long;
    each = λ k t e. by k t e (cases_lt k (b - lo)) (cases_lt (b - lo) k);
  }
    where
      other : (k : ℕ) (t : Sources) → b - lo ≢ k → slice_get (slice_set all (b - lo) (widened s (a - lo))) k ≡ Some t → AreSources is lo hi (a + 1) k t
      other k t apart e =
          more_ways a k t i here (λ n. (let same = same_Some b (lo + k) (sym to ∙ n) in apart (omega (arith, same)))) (h.each k t (sym (set_other all (b - lo) k (widened s (a - lo)) apart) ∙ e))

      by : (k : ℕ) (t : Sources) → slice_get (slice_set all (b - lo) (widened s (a - lo))) k ≡ Some t → (k < b - lo) ⊎ (b - lo ≤ k) → (b - lo < k) ⊎ (k ≤ b - lo) → AreSources is lo hi (a + 1) k t
      by k t e (inl less) q = other k t (λ same. omega (arith, less, same)) e
      by k t e (inr le) (inl more) = other k t (λ same. omega (arith, more, same)) e
      by k t e (inr le) (inr ge) =
          let same : b - lo ≡ k = omega (arith, le, ge) in
          let back : b ≡ lo + (b - lo) = omega (arith, from) in
          let new : AreSources is lo hi (a + 1) (b - lo) (widened s (a - lo)) = widen_ways a (b - lo) s i here low high (to ∙ ap (λ n. Some n) back) (h.each (b - lo) s old) in
          let t_is : widened s (a - lo) ≡ t = same_Some (widened s (a - lo)) t (sym (set_same all (b - lo) (widened s (a - lo)) (there all (b - lo) s old)) ∙ ap (slice_get (slice_set all (b - lo) (widened s (a - lo)))) same ∙ e) in
          subst (λ u. AreSources is lo hi (a + 1) k u) t_is (subst (λ n. AreSources is lo hi (a + 1) n (widened s (a - lo))) same new)

  -- the farthest end by the sources is that by the instructions
  pub farthest_in : (from to : ℕ) (all : List Sources) → lo ≤ hi → HaveSources is lo hi hi all → IsFarthestIn all from to → IsFarthest is lo hi (lo + from) (lo + to)
  farthest_in from to all order h f =
      let up = f.up in
      let within = f.within in
      let long = h.long in
      record {
        up = omega (arith, up);
        within = omega (arith, within, long, order);
        closed = λ a b i low high e t ge lt. closed a b i low high e t ge lt;
        farthest = λ z le cl. farthest z le cl (cases_lt z lo);
      }
    where
      closed : (a b : ℕ) (i : Instr) → lo ≤ a → a < hi → slice_get is a ≡ Some i → target_of i ≡ Some b → lo + from ≤ b → b < lo + to → (lo + from ≤ a) × (a < lo + to)
      closed a b i low high e t ge lt =
          let within = f.within in
          let here = item all (b - lo) (omega (arith, lt, ge, within)) in
          let ends = f.apart (b - lo) here.0 here.1 (omega (arith, ge)) (omega (arith, lt, ge)) in
          let back : b ≡ lo + (b - lo) = omega (arith, ge) in
          let between = (h.each (b - lo) here.0 here.1).ways a high (record { low = low; high = high; instr = i; here = e; names = t ∙ ap (λ n. Some n) back }) in
          let e0 = ends.0 in
          let e1 = ends.1 in
          let b0 = between.0 in
          let b1 = between.1 in
          (omega (arith, e0, b0), omega (arith, e1, b1))

      farthest : (z : ℕ) → z ≤ hi → IsClosed is lo hi (lo + from) z → (z < lo) ⊎ (lo ≤ z) → z ≤ lo + to
      farthest z le cl (inl lt) = omega (arith, lt)
      farthest z le cl (inr ge) =
          let long = h.long in
          let high = f.farthest (z - lo) (omega (arith, le, long)) (λ k s e low lt. apart k s low lt (h.each k s e) (cases_lt s.first k) (cases_lt k s.last)) in
          omega (arith, high, ge)
        where
          before : (k : ℕ) (s : Sources) → from ≤ k → k < z - lo → AreSources is lo hi hi k s → (s.first < k) ⊎ (k ≤ s.first) → from ≤ s.first
          before k s low lt src (inr own) = omega (arith, own, low)
          before k s low lt src (inl less) =
              let w = src.first less in
              let in_range = (cl (lo + s.first) (lo + k) w.instr w.low w.high w.here w.names (omega (arith, low)) (omega (arith, lt))).0 in
              omega (arith, in_range)

          after : (k : ℕ) (s : Sources) → from ≤ k → k < z - lo → AreSources is lo hi hi k s → (k < s.last) ⊎ (s.last ≤ k) → s.last < z - lo
          after k s low lt src (inr own) = omega (arith, own, lt)
          after k s low lt src (inl more) =
              let w = src.last more in
              let in_range = (cl (lo + s.last) (lo + k) w.instr w.low w.high w.here w.names (omega (arith, low)) (omega (arith, lt))).1 in
              omega (arith, in_range, ge)

          apart : (k : ℕ) (s : Sources) → from ≤ k → k < z - lo → AreSources is lo hi hi k s → (s.first < k) ⊎ (k ≤ s.first) → (k < s.last) ⊎ (s.last ≤ k) → (from ≤ s.first) × (s.last < z - lo)
          apart k s low lt src p q = (before k s low lt src p, after k s low lt src q)
