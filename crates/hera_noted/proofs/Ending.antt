-- The ends of the ranges of a body, from the last place on.
use Rattle.std.proofs.Common.{◌≡◌, ◌<◌, ◌≤◌, ◌⊎◌, inl, inr, ℕ, zero, suc, ◌+◌, ◌-◌, List, [], ◌∷◌, ◌++◌, length, take, Some, refl, sym, ap, subst, ◌∙◌, arith}
use Rattle.std.specs.Prelude.{slice_get}
use Rattle.std.proofs.lemmas.Bool.{cases_lt}
use Rattle.std.proofs.lemmas.Option.{none-some, same_Some}
use Rattle.hera_noted.specs.declared.ways.Sources.{Sources}
use Rattle.hera_noted.specs.declared.ends.Gate.{Gate}
use Rattle.hera_noted.specs.Ends.{IsApart, IsFarthestIn, IsUnentered, AreStops, AreGates, IsLimit}
use Rattle.hera_noted.proofs.Listed.{there, push_cases, push_long, push_front, push_last, take_get, get_take, take_long}

module _ (all : List Sources) where
  -- ---- ends into which no way leads from behind

  unentered_more : (from p : ℕ) (s : Sources) → slice_get all from ≡ Some s → s.last < p → IsUnentered all (from + 1) p → IsUnentered all from p
  unentered_more from p s here last h k t e ge lt = by (cases_lt from k)
    where
      by : (from < k) ⊎ (k ≤ from) → t.last < p
      by (inl more) = h k t e (omega (arith, more)) lt
      by (inr less) =
          let same : k ≡ from = omega (arith, ge, less) in
          let t_is : s ≡ t = same_Some s t (sym here ∙ ap (slice_get all) (sym same) ∙ e) in
          subst (λ (u : Sources). u.last < p) t_is last

  pub stops_more : (from kept : ℕ) (s : Sources) (stops : List ℕ) → slice_get all from ≡ Some s →
      ((i p : ℕ) → slice_get stops i ≡ Some p → i < kept → s.last < p) → ((i p : ℕ) → slice_get stops i ≡ Some p → kept ≤ i → p ≤ s.last) → AreStops all (from + 1) stops → AreStops all from (take kept stops ++ from ∷ [])
  stops_more from kept s stops here above rest h = record {
    fall = λ i j p q le e f. fall i j p q le (push_cases front from i p e) (push_cases front from j q f);
    each = λ i p e. stop i p (push_cases front from i p e);
    complete = λ z ge le un. complete z ge le un (cases_lt from z);
  }
    where
      front : List ℕ
      front = take kept stops

      fall : (i j p q : ℕ) → i ≤ j → (slice_get front i ≡ Some p) ⊎ ((i ≡ length front) × (from ≡ p)) → (slice_get front j ≡ Some q) ⊎ ((j ≡ length front) × (from ≡ q)) → q ≤ p
      fall i j p q le (inl e) (inl f) = h.fall i j p q le (take_get kept stops i p e).1 (take_get kept stops j q f).1
      fall i j p q le (inl e) (inr f) = let up = (h.each i p (take_get kept stops i p e).1).0 in let q_is = f.1 in omega (arith, up, q_is)
      fall i j p q le (inr e) (inl f) = let in_front = there front j q f in let last = e.0 in absurd (omega (arith, le, in_front, last))
      fall i j p q le (inr e) (inr f) = let p_is = e.1 in let q_is = f.1 in omega (arith, p_is, q_is)

      stop : (i p : ℕ) → (slice_get front i ≡ Some p) ⊎ ((i ≡ length front) × (from ≡ p)) → (from ≤ p) × (p ≤ length all) × IsUnentered all from p
      stop i p (inl e) =
          let taken = take_get kept stops i p e in
          let old = h.each i p taken.1 in
          let up = old.0 in
          (omega (arith, up), old.1, unentered_more from p s here (above i p taken.1 taken.0) old.2)
      stop i p (inr e) =
          let p_is = e.1 in
          let within = there all from s here in
          (omega (arith, p_is), omega (arith, p_is, within), λ k t f ge lt. absurd (omega (arith, ge, lt, p_is)))

      complete : (z : ℕ) → from ≤ z → z ≤ length all → IsUnentered all from z → (from < z) ⊎ (z ≤ from) → (i : ℕ) × (slice_get (front ++ from ∷ []) i ≡ Some z)
      complete z ge le un (inr less) = let same : from ≡ z = omega (arith, ge, less) in (length front, push_last front from ∙ ap (λ n. Some n) same)
      complete z ge le un (inl more) =
          let old = h.complete z (omega (arith, more)) le (λ k t e low high. un k t e (omega (arith, low)) high) in
          by old.0 old.1 (cases_lt old.0 kept)
        where
          by : (i : ℕ) → slice_get stops i ≡ Some z → (i < kept) ⊎ (kept ≤ i) → (i : ℕ) × (slice_get (front ++ from ∷ []) i ≡ Some z)
          by i e (inl lt) = (i, push_front front (from ∷ []) i z (get_take kept stops i z lt e))
          by i e (inr off) = let low = rest i z e off in let high = un from s here (omega arith) more in absurd (omega (arith, low, high))

  pub stops_start : AreStops all (length all) (length all ∷ [])
  stops_start = record {
    fall = λ i j p q le e f. (let p_is = one i p e in let q_is = one j q f in omega (arith, p_is, q_is));
    each = λ i p e. (let p_is = one i p e in (omega (arith, p_is), omega (arith, p_is), λ k t g ge lt. absurd (omega (arith, ge, lt, p_is))));
    complete = λ z ge le un. (let same : length all ≡ z = omega (arith, ge, le) in (0, ap (λ n. Some n) same));
  }
    where
      one : (i p : ℕ) → slice_get (length all ∷ []) i ≡ Some p → p ≡ length all
      one zero p e = sym (same_Some (length all) p e)
      one (suc i) p e = absurd (none-some p e)

  -- ---- places to which ways lead from before

  -- the gates that are left for one place more
  record AreLeft (from : ℕ) (gates : List Gate) : Type 0 where
    pub fall : (i j : ℕ) (g h : Gate) → i ≤ j → slice_get gates i ≡ Some g → slice_get gates j ≡ Some h → h.place ≤ g.place
    pub each : (i : ℕ) (g : Gate) → slice_get gates i ≡ Some g → (from + 1 ≤ g.place) × ((s : Sources) × (slice_get all g.place ≡ Some s) × (s.first ≡ g.first))
    pub complete : (k : ℕ) (s : Sources) → slice_get all k ≡ Some s → from + 1 ≤ k → s.first < from → (i : ℕ) × (slice_get gates i ≡ Some (record { place = k; first = s.first }))
    pub passed : (i : ℕ) (g : Gate) → i + 1 ≡ length gates → slice_get gates i ≡ Some g → g.first < from

  gates_left : (from kept : ℕ) (gates : List Gate) → kept ≤ length gates →
      ((i : ℕ) (g : Gate) → slice_get gates i ≡ Some g → kept ≤ i → from ≤ g.first) → ((i : ℕ) (g : Gate) → slice_get gates i ≡ Some g → i + 1 ≡ kept → g.first < from) → AreGates all (from + 1) gates → AreLeft from (take kept gates)
  gates_left from kept gates within dropped last h = record {
    fall = λ i j g k le e f. h.fall i j g k le (take_get kept gates i g e).1 (take_get kept gates j k f).1;
    each = λ i g e. h.each i g (take_get kept gates i g e).1;
    complete = λ k s e ge lt. (let old = h.complete k s e ge (omega (arith, lt)) in by k s lt old.0 old.1 (cases_lt old.0 kept));
    passed = λ i g e f. last i g (take_get kept gates i g f).1 (e ∙ take_long kept gates within);
  }
    where
      by : (k : ℕ) (s : Sources) → s.first < from → (i : ℕ) → slice_get gates i ≡ Some (record { place = k; first = s.first }) → (i < kept) ⊎ (kept ≤ i) → (i : ℕ) × (slice_get (take kept gates) i ≡ Some (record { place = k; first = s.first }))
      by k s lt i e (inl less) = (i, get_take kept gates i (record { place = k; first = s.first }) less e)
      by k s lt i e (inr off) = let low = dropped i (record { place = k; first = s.first }) e off in absurd (omega (arith, low, lt))

  -- no way leads to the place from before
  pub gates_same : (from kept : ℕ) (s : Sources) (gates : List Gate) → slice_get all from ≡ Some s → from ≤ s.first → kept ≤ length gates →
      ((i : ℕ) (g : Gate) → slice_get gates i ≡ Some g → kept ≤ i → from ≤ g.first) → ((i : ℕ) (g : Gate) → slice_get gates i ≡ Some g → i + 1 ≡ kept → g.first < from) → AreGates all (from + 1) gates → AreGates all from (take kept gates)
  gates_same from kept s gates here late within dropped last h =
      let left = gates_left from kept gates within dropped last h in
      record {
        fall = left.fall;
        each = λ i g e. (let old = left.each i g e in let up = old.0 in (omega (arith, up), old.1));
        complete = λ k t e ge lt. by k t e ge lt left (cases_lt from k);
        passed = left.passed;
      }
    where
      by : (k : ℕ) (t : Sources) → slice_get all k ≡ Some t → from ≤ k → t.first < from → AreLeft from (take kept gates) → (from < k) ⊎ (k ≤ from) → (i : ℕ) × (slice_get (take kept gates) i ≡ Some (record { place = k; first = t.first }))
      by k t e ge lt left (inl more) = left.complete k t e (omega (arith, more)) lt
      by k t e ge lt left (inr less) =
          let same : k ≡ from = omega (arith, ge, less) in
          let t_is : s ≡ t = same_Some s t (sym here ∙ ap (slice_get all) (sym same) ∙ e) in
          let first = ap (λ (u : Sources). u.first) t_is in
          absurd (omega (arith, late, lt, first))

  -- a way leads to it
  pub gates_more : (from kept : ℕ) (s : Sources) (gates : List Gate) → slice_get all from ≡ Some s → s.first < from → kept ≤ length gates →
      ((i : ℕ) (g : Gate) → slice_get gates i ≡ Some g → kept ≤ i → from ≤ g.first) → ((i : ℕ) (g : Gate) → slice_get gates i ≡ Some g → i + 1 ≡ kept → g.first < from) → AreGates all (from + 1) gates → AreGates all from (take kept gates ++ record { place = from; first = s.first } ∷ [])
  gates_more from kept s gates here so within dropped last h =
      let left = gates_left from kept gates within dropped last h in
      record {
        fall = λ i j g k le e f. fall i j g k le left (push_cases front one i g e) (push_cases front one j k f);
        each = λ i g e. gate i g left (push_cases front one i g e);
        complete = λ k t e ge lt. complete k t e ge lt left (cases_lt from k);
        passed = λ i g e f. passed i g e (push_cases front one i g f);
      }
    where
      front : List Gate
      front = take kept gates

      one : Gate
      one = record { place = from; first = s.first }

      fall : (i j : ℕ) (g k : Gate) → i ≤ j → AreLeft from front → (slice_get front i ≡ Some g) ⊎ ((i ≡ length front) × (one ≡ g)) → (slice_get front j ≡ Some k) ⊎ ((j ≡ length front) × (one ≡ k)) → k.place ≤ g.place
      fall i j g k le left (inl e) (inl f) = left.fall i j g k le e f
      fall i j g k le left (inl e) (inr f) = let up = (left.each i g e).0 in let k_is = ap (λ (u : Gate). u.place) f.1 in omega (arith, up, k_is)
      fall i j g k le left (inr e) (inl f) = let in_front = there front j k f in let end = e.0 in absurd (omega (arith, le, in_front, end))
      fall i j g k le left (inr e) (inr f) = let g_is = ap (λ (u : Gate). u.place) e.1 in let k_is = ap (λ (u : Gate). u.place) f.1 in omega (arith, g_is, k_is)

      gate : (i : ℕ) (g : Gate) → AreLeft from front → (slice_get front i ≡ Some g) ⊎ ((i ≡ length front) × (one ≡ g)) → (from ≤ g.place) × ((t : Sources) × (slice_get all g.place ≡ Some t) × (t.first ≡ g.first))
      gate i g left (inl e) = let old = left.each i g e in let up = old.0 in (omega (arith, up), old.1)
      gate i g left (inr e) = subst (λ (u : Gate). (from ≤ u.place) × ((t : Sources) × (slice_get all u.place ≡ Some t) × (t.first ≡ u.first))) e.1 (omega arith, (s, here, refl))

      complete : (k : ℕ) (t : Sources) → slice_get all k ≡ Some t → from ≤ k → t.first < from → AreLeft from front → (from < k) ⊎ (k ≤ from) → (i : ℕ) × (slice_get (front ++ one ∷ []) i ≡ Some (record { place = k; first = t.first }))
      complete k t e ge lt left (inl more) =
          let old = left.complete k t e (omega (arith, more)) lt in
          (old.0, push_front front (one ∷ []) old.0 (record { place = k; first = t.first }) old.1)
      complete k t e ge lt left (inr less) =
          let same : from ≡ k = omega (arith, ge, less) in
          let t_is : s ≡ t = same_Some s t (sym here ∙ ap (slice_get all) same ∙ e) in
          (length front, push_last front one ∙ ap (λ n. Some (record { place = n; first = s.first })) same ∙ ap (λ (u : Sources). Some (record { place = k; first = u.first })) t_is)

      passed : (i : ℕ) (g : Gate) → i + 1 ≡ length (front ++ one ∷ []) → (slice_get front i ≡ Some g) ⊎ ((i ≡ length front) × (one ≡ g)) → g.first < from
      passed i g e (inl f) = let in_front = there front i g f in let long = push_long front one in absurd (omega (arith, e, in_front, long))
      passed i g e (inr f) = subst (λ (u : Gate). u.first < from) f.1 so

  pub gates_start : AreGates all (length all) []
  gates_start = record {
    fall = λ i j g h le e f. absurd (none-some g e);
    each = λ i g e. absurd (none-some g e);
    complete = λ k s e ge lt. (let within = there all k s e in absurd (omega (arith, ge, within)));
    passed = λ i g e f. absurd (none-some g f);
  }

  -- ---- the farthest end into which no way leads from before

  pub limit_none : (from : ℕ) (gates : List Gate) → length gates ≡ 0 → from ≤ length all → AreGates all from gates → IsLimit all from (length all)
  limit_none from gates none le h = record {
    up = le;
    within = omega arith;
    ahead = λ k s e ge lt. by k s e ge (cases_lt s.first from);
    most = λ z in_all ap. in_all;
  }
    where
      by : (k : ℕ) (s : Sources) → slice_get all k ≡ Some s → from ≤ k → (s.first < from) ⊎ (from ≤ s.first) → from ≤ s.first
      by k s e ge (inr so) = so
      by k s e ge (inl less) =
          let gate = h.complete k s e ge less in
          let within = there gates gate.0 (record { place = k; first = s.first }) gate.1 in
          absurd (omega (arith, within, none))

  pub limit_some : (from i : ℕ) (g : Gate) (gates : List Gate) → i + 1 ≡ length gates → slice_get gates i ≡ Some g → AreGates all from gates → IsLimit all from g.place
  limit_some from i g gates last here h =
      let gate = h.each i g here in
      let s = gate.1.0 in
      let at_place = gate.1.1 in
      let within = there all g.place s at_place in
      record {
        up = gate.0;
        within = omega (arith, within);
        ahead = λ k t e ge lt. by k t e ge lt (cases_lt t.first from);
        most = λ z in_all apart. most z s at_place gate.1.2 gate.0 apart (cases_lt g.place z);
      }
    where
      by : (k : ℕ) (t : Sources) → slice_get all k ≡ Some t → from ≤ k → k < g.place → (t.first < from) ⊎ (from ≤ t.first) → from ≤ t.first
      by k t e ge lt (inr so) = so
      by k t e ge lt (inl less) =
          let other = h.complete k t e ge less in
          let within = there gates other.0 (record { place = k; first = t.first }) other.1 in
          let low = h.fall other.0 i (record { place = k; first = t.first }) g (omega (arith, within, last)) other.1 here in
          absurd (omega (arith, low, lt))

      most : (z : ℕ) (s : Sources) → slice_get all g.place ≡ Some s → s.first ≡ g.first → from ≤ g.place → IsApart all from z → (g.place < z) ⊎ (z ≤ g.place) → z ≤ g.place
      most z s e same up apart (inr le) = le
      most z s e same up apart (inl lt) =
          let first = (apart g.place s e up lt).0 in
          let passed = h.passed i g last here in
          absurd (omega (arith, first, passed, same))

  -- ---- the end

  -- a stop is no farther than a limit
  pub stop_there : (from to : ℕ) (stops : List ℕ) → from ≤ length all → AreStops all from stops → IsLimit all from to → (i : ℕ) × (p : ℕ) × (slice_get stops i ≡ Some p) × (p ≤ to)
  stop_there from to stops le h limit =
      let own = h.complete from (omega arith) le (λ k s e ge lt. absurd (omega (arith, ge, lt))) in
      (own.0, from, own.1, limit.up)

  pub ended : (from to e i : ℕ) (stops : List ℕ) → AreStops all from stops → IsLimit all from to → slice_get stops i ≡ Some e → e ≤ to → ((j p : ℕ) → slice_get stops j ≡ Some p → p ≤ to → p ≤ e) → IsFarthestIn all from e
  ended from to e i stops h limit here low far =
      let stop = h.each i e here in
      record {
        up = stop.0;
        within = stop.1;
        apart = λ k s f ge lt. (limit.ahead k s f ge (omega (arith, lt, low)), stop.2 k s f ge lt);
        farthest = λ z le apart. farthest z le apart stop.0 (cases_lt z from);
      }
    where
      farthest : (z : ℕ) → z ≤ length all → IsApart all from z → from ≤ e → (z < from) ⊎ (from ≤ z) → z ≤ e
      farthest z le apart up (inl lt) = omega (arith, lt, up)
      farthest z le apart up (inr ge) =
          let stop = h.complete z ge le (λ k s f low high. (apart k s f low high).1) in
          far stop.0 z stop.1 (limit.most z le apart)

  pub end_start : (n e : ℕ) → slice_get (length all ∷ []) n ≡ Some e → IsFarthestIn all (length all - n) e
  end_start zero e h =
      let first : IsFarthestIn all (length all) (length all) = record { up = omega arith; within = omega arith; apart = λ k s f ge lt. absurd (omega (arith, ge, lt)); farthest = λ z le apart. le } in
      let place : length all ≡ length all - 0 = omega arith in
      subst (λ p. IsFarthestIn all p e) place (subst (λ x. IsFarthestIn all (length all) x) (same_Some (length all) e h) first)
  end_start (suc n) e h = absurd (none-some e h)
