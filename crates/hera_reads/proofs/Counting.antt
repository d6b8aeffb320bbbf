-- Counts of rows, from layer to layer.
use Rattle.std.proofs.Common.{◌≡◌, ◌≢◌, ℕ, zero, suc, ◌<◌, ◌≤◌, Bool, true, false, List, [], ◌∷◌, ◌++◌, length, drop, Option, None, Some, refl, sym, ap, ◌∙◌, subst, arith}
use Rattle.std.specs.Prelude.{nat_lt, slice_get, slice_set, IfSome, MatchOption}
use Rattle.std.proofs.lemmas.Bool.{ltb-true, ltb-false}
use Rattle.std.proofs.lemmas.Option.{none-some, same_Some}
use Rattle.hera_sets.specs.Rows.{Row}
use Rattle.hera_meaning.specs.Deltas.{Delta, State, apply_of, rows_at}
use Rattle.hera_code.specs.Machine.{after_layers}
use Rattle.when_overlay.specs.declared.layers.Layer.{Layer}
use Rattle.when_overlay.specs.Changed.{changed}
use Rattle.when_overlay.specs.Layered.{delta_at}
use Rattle.when_overlay.proofs.Layering.{equal_itself, equal_less}
use Rattle.when_overlay.proofs.Viewing.{rel_changed}
use Rattle.hera_reads.specs.Branched.{IsTree, pending_of, upon, under, seen_at}
use Rattle.hera_reads.specs.Counted.{IsCount, AreCounts}
use Rattle.hera_reads.proofs.Branching.{under_root, under_lower, under_here}
use Rattle.hera_reads.proofs.Naming.{rows_got}

-- ---- under a layer

-- under the pending delta
pub seen_root : (s : State) (ls : List Layer) (k : ℕ) → IsTree ls → k ≡ 0 → seen_at s ls k ≡ apply_of s (pending_of ls)
seen_root s ls k h e = ap (seen_at s ls) e ∙ ap (after_layers (apply_of s (pending_of ls))) (under_root ls h)

upon_some : (d : Delta) (p : Option ℕ) (f : ℕ → List Delta) → p ≢ None → upon d p f ≡ d ∷ drop 1 (upon d p f)
upon_some d None f some = absurd (some refl)
upon_some d (Some i) f some = refl

delta_lower : (l : Layer) (ls : List Layer) (k : ℕ) → k < length ls → delta_at (l ∷ ls) k ≡ delta_at ls k
delta_lower l ls k h = rw (equal_less k (length ls) h) refl

delta_here : (l : Layer) (ls : List Layer) (k : ℕ) → k ≡ length ls → delta_at (l ∷ ls) k ≡ Some l.delta
delta_here l ls k e = rw (e, equal_itself (length ls)) refl

-- the layer's own delta is the newest
under_head : (ls : List Layer) (k : ℕ) (d : Delta) → IsTree ls → 0 < k → k < length ls → delta_at ls k ≡ Some d → under ls k ≡ d ∷ drop 1 (under ls k)
under_head [] k d h some g e = absurd h
under_head (l ∷ []) k d h some g e = absurd (omega (arith, some, g))
under_head (l ∷ m ∷ ls) k d h some g e = by (nat_lt k (length (m ∷ ls))) refl (λ less there. under_head (m ∷ ls) k d h.1 some less there)
  where
    by : (b : Bool) → nat_lt k (length (m ∷ ls)) ≡ b → (k < length (m ∷ ls) → delta_at (m ∷ ls) k ≡ Some d → under (m ∷ ls) k ≡ d ∷ drop 1 (under (m ∷ ls) k))
        → under (l ∷ m ∷ ls) k ≡ d ∷ drop 1 (under (l ∷ m ∷ ls) k)
    by true lt ih =
        let less : k < length (m ∷ ls) = ltb-true k (length (m ∷ ls)) lt in
        let same : under (l ∷ m ∷ ls) k ≡ under (m ∷ ls) k = under_lower l (m ∷ ls) k less in
        same ∙ ih less (sym (delta_lower l (m ∷ ls) k less) ∙ e) ∙ ap (λ ds. d ∷ drop 1 ds) (sym same)
    by false lt ih =
        let past : length (m ∷ ls) ≤ k = ltb-false k (length (m ∷ ls)) lt in
        let here : k ≡ length (m ∷ ls) = omega (arith, past, g) in
        let own : l.delta ≡ d = same_Some l.delta d (sym (delta_here l (m ∷ ls) k here) ∙ e) in
        let same : under (l ∷ m ∷ ls) k ≡ upon l.delta l.parent (λ i. under (m ∷ ls) i) = under_here l (m ∷ ls) k here in
        same ∙ upon_some l.delta l.parent (λ i. under (m ∷ ls) i) h.0 ∙ (λ i. own i ∷ drop 1 (sym same i))

module _ (ls : List Layer) (k j : ℕ) (d : Delta) (h : IsTree ls) (some : 0 < k) (within : k < length ls) (there : delta_at ls k ≡ Some d) (below : under ls j ≡ drop 1 (under ls k)) where
  under_upon : under ls k ≡ d ∷ under ls j
  under_upon = under_head ls k d h some within there ∙ ap (λ ds. d ∷ ds) (sym below)

  pub seen_upon : (s : State) → seen_at s ls k ≡ apply_of (seen_at s ls j) d
  seen_upon s = ap (after_layers (apply_of s (pending_of ls))) under_upon

  pub under_longer : length (under ls j) < length (under ls k)
  under_longer = let long : length (under ls k) ≡ suc (length (under ls j)) = ap (λ xs. length xs) under_upon in omega (arith, long)

pub positive : (n : ℕ) → n ≢ 0 → 0 < n
positive zero h = absurd (h refl)
positive (suc n) h = omega arith

-- ---- how a delta changes the number of rows

-- one rule for another
pub some_of : {A : Type 0} → (o : Option A) (P : Type 0) (Q R : A → Type 0) → MatchOption o P Q → ((x : A) → Q x → R x) → IfSome o R
some_of None P Q R h f = tt
some_of (Some x) P Q R h f = f x h

pub rows_before : (s : State) (r : ℕ) (rows : List Row) → slice_get s r ≡ Some rows → length (rows_at s r) ≡ length rows
rows_before s r rows e = ap (λ (xs : List Row). length xs) (rows_got s r rows e)

pub rows_behind : (s t : State) (r : ℕ) (rows : List Row) (d : Delta) → slice_get s r ≡ Some rows → t ≡ apply_of s d → length (rows_at t r) ≡ length (changed r rows d)
rows_behind s t r rows d e is = ap (λ (x : State). length (rows_at x r)) is ∙ ap (λ (xs : List Row). length xs) (rows_got (apply_of s d) r (changed r rows d) (rel_changed r s d rows e))

-- ---- what is known

-- none is known
abbrev pub NoneKnown : List (Option ℕ) → Type 0
NoneKnown ns = (r n : ℕ) → slice_get ns r ≡ Some (Some n) → ⊥

pub none_at_first : NoneKnown []
none_at_first r n e = none-some (Some n) e

pub none_pushed : (ns : List (Option ℕ)) → NoneKnown ns → NoneKnown (ns ++ None ∷ [])
none_pushed [] h zero n e = none-some n (same_Some None (Some n) e)
none_pushed [] h (suc r) n e = none-some (Some n) e
none_pushed (x ∷ ns) h zero n e = h zero n e
none_pushed (x ∷ ns) h (suc r) n e = none_pushed ns (λ k m f. h (suc k) m f) r n e

pub none_counts : (s : State) (ns : List (Option ℕ)) → NoneKnown ns → AreCounts s ns
none_counts s ns h = λ r n e. absurd (h r n e)

-- those from a place on, behind others of which none is known
abbrev pub KnownFrom : ℕ → List (Option ℕ) → Type 0
KnownFrom i ns = (r n : ℕ) → slice_get ns r ≡ Some (Some n) → i ≤ r

pub none_put : (ns : List (Option ℕ)) (i : ℕ) → KnownFrom i ns → KnownFrom (suc i) (slice_set ns i None)
none_put [] i h r n e = absurd (none-some (Some n) e)
none_put (x ∷ ns) zero h zero n e = absurd (none-some n (same_Some None (Some n) e))
none_put (x ∷ ns) zero h (suc r) n e = omega arith
none_put (x ∷ ns) (suc i) h zero n e = absurd (let low : suc i ≤ 0 = h zero n e in omega (arith, low))
none_put (x ∷ ns) (suc i) h (suc r) n e =
    let high : suc i ≤ r = none_put ns i (λ k m f. let up : suc i ≤ suc k = h (suc k) m f in omega (arith, up)) r n e in omega (arith, high)

-- another number, or none, at a place
pub count_put : (P : ℕ → ℕ → Type 0) (ns : List (Option ℕ)) (i : ℕ) (o : Option ℕ) → ((r n : ℕ) → r ≢ i → slice_get ns r ≡ Some (Some n) → P r n) → IfSome o (P i) → (r n : ℕ) → slice_get (slice_set ns i o) r ≡ Some (Some n) → P r n
count_put P [] i o h g r n e = absurd (none-some (Some n) e)
count_put P (x ∷ ns) zero o h g zero n e = subst (λ (p : Option ℕ). IfSome p (P 0)) (same_Some o (Some n) e) g
count_put P (x ∷ ns) zero o h g (suc r) n e = h (suc r) n (λ q. omega (arith, q)) e
count_put P (x ∷ ns) (suc i) o h g zero n e = h zero n (λ q. omega (arith, q)) e
count_put P (x ∷ ns) (suc i) o h g (suc r) n e = count_put (λ k m. P (suc k) m) ns i o (λ k m other f. h (suc k) m (λ q. other (let same : k ≡ i = omega (arith, q) in same)) f) g r n e

pub counts_put : (s : State) (ns : List (Option ℕ)) (i : ℕ) (n : ℕ) → AreCounts s ns → IsCount s i n → AreCounts s (slice_set ns i (Some n))
counts_put s ns i n h g = count_put (IsCount s) ns i (Some n) (λ r m other e. h r m e) g

-- ---- from one state to the next, relation by relation

-- the numbers below the place are the new state's, the others the old one's
abbrev pub AreBetween : State → State → ℕ → List (Option ℕ) → Type 0
AreBetween s t i ns = (r n : ℕ) → slice_get ns r ≡ Some (Some n) → ((r < i → IsCount t r n) × (i ≤ r → IsCount s r n))

module _ (s t : State) where
  pub between_start : (ns : List (Option ℕ)) → AreCounts s ns → AreBetween s t 0 ns
  between_start ns h = λ r n e. (λ low. absurd (omega (arith, low)), λ high. h r n e)

  within : (ns : List (Option ℕ)) (r n : ℕ) → slice_get ns r ≡ Some (Some n) → r < length ns
  within [] r n e = absurd (none-some (Some n) e)
  within (x ∷ ns) zero n e = omega arith
  within (x ∷ ns) (suc r) n e = let w : r < length ns = within ns r n e in omega (arith, w)

  put_there : (i : ℕ) (o : Option ℕ) → IfSome o (IsCount t i) → IfSome o (λ n. (i < suc i → IsCount t i n) × (suc i ≤ i → IsCount s i n))
  put_there i None g = tt
  put_there i (Some n) g = (λ low. g, λ high. absurd (omega (arith, high)))

  lower : (i r n : ℕ) → r ≢ i → r < suc i → (r < i → IsCount t r n) → IsCount t r n
  lower i r n other low h = by (nat_lt r i) refl
    where
      by : (b : Bool) → nat_lt r i ≡ b → IsCount t r n
      by true lt = h (ltb-true r i lt)
      by false lt = absurd (other (let past : i ≤ r = ltb-false r i lt in omega (arith, past, low)))

  -- the number at the place is put
  pub between_put : (ns : List (Option ℕ)) (i : ℕ) (o : Option ℕ) → AreBetween s t i ns → IfSome o (IsCount t i) → AreBetween s t (suc i) (slice_set ns i o)
  between_put ns i o h g =
      count_put (λ r n. (r < suc i → IsCount t r n) × (suc i ≤ r → IsCount s r n)) ns i o
      (λ r n other e. let old = h r n e in (λ low. lower i r n other low old.0, λ high. old.1 (omega (arith, high)))) (put_there i o g)
