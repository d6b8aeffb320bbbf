-- Layers that are put on, taken off and replaced, and the way from a tip to its root.
use Rattle.std.proofs.Common.{◌≡◌, ℕ, zero, suc, ◌+◌, ◌<◌, true, false, cond, List, [], ◌∷◌, ◌++◌, length, nat_eq, Option, None, Some, IfSome, refl, sym, ap, ◌∙◌, subst, arith, length-append, append-nil}
use Rattle.std.specs.Prelude.{slice_get, slice_set}
use Rattle.std.proofs.Math.Dec.{eqb-suc-suc}
use Rattle.std.proofs.lemmas.Bool.{eq-eqb, eqb-true, false_from_ne_true}
use Rattle.std.proofs.lemmas.Option.{none-some, same_Some}
use Rattle.hera_meaning.specs.Deltas.{Delta, is_fail}
use Rattle.when_overlay.specs.declared.layers.Layer.{Layer}
use Rattle.when_overlay.specs.Layered.{newest_first, AreLayers, layer_at, with_delta, IsTip, path}

-- ---- the other order

pub newest_first-length : (xs : List Layer) → length (newest_first xs) ≡ length xs
newest_first-length [] = refl
newest_first-length (x ∷ xs) =
    let front : length (newest_first xs ++ x ∷ []) ≡ length (newest_first xs) + 1 = length-append (newest_first xs) (x ∷ []) in
    let ih : length (newest_first xs) ≡ length xs = newest_first-length xs in
    omega (arith, front, ih)

pub newest_first-push : (xs : List Layer) (x : Layer) → newest_first (xs ++ x ∷ []) ≡ x ∷ newest_first xs
newest_first-push [] x = refl
newest_first-push (y ∷ ys) x = ap (λ zs. zs ++ y ∷ []) (newest_first-push ys x)

pub ruleset lengths = (newest_first-length)

pub ruleset pushed = (newest_first-push, newest_first-length)

-- ---- numbers

pub equal_itself : (n : ℕ) → nat_eq n n ≡ true
equal_itself n = eq-eqb n n refl

unequal : (m n : ℕ) → (m ≡ n → ⊥) → nat_eq m n ≡ false
unequal m n h = false_from_ne_true (nat_eq m n) (λ e. h (eqb-true m n e))

pub equal_less : (m n : ℕ) → m < n → nat_eq m n ≡ false
equal_less m n h = unequal m n (λ e. omega (arith, h, e))

equal_more : (m n : ℕ) → n < m → nat_eq m n ≡ false
equal_more m n h = unequal m n (λ e. omega (arith, h, e))

equal_suc : (m n : ℕ) → nat_eq (suc m) (suc n) ≡ nat_eq m n
equal_suc m n = eqb-suc-suc m n

-- the oldest layer has the number 0, and each other one a greater number than below
at_first : (ls : List Layer) (x : Layer) → layer_at (ls ++ x ∷ []) 0 ≡ Some x
at_first [] x = refl
at_first (l ∷ ls) x =
    let long : length (ls ++ x ∷ []) ≡ length ls + 1 = length-append ls (x ∷ []) in
    rw (equal_less 0 (length (ls ++ x ∷ [])) (omega (arith, long))) (at_first ls x)

at_next : (ls : List Layer) (x : Layer) (i : ℕ) → layer_at (ls ++ x ∷ []) (suc i) ≡ layer_at ls i
at_next [] x i = rw (equal_more (suc i) 0 (omega arith)) refl
at_next (l ∷ ls) x i =
    let long : length (ls ++ x ∷ []) ≡ suc (length ls) = let e : length (ls ++ x ∷ []) ≡ length ls + 1 = length-append ls (x ∷ []) in omega (arith, e) in
    rw (long, equal_suc i (length ls), at_next ls x i) refl

pub layer_at-get : (xs : List Layer) (i : ℕ) → layer_at (newest_first xs) i ≡ slice_get xs i
layer_at-get [] i = refl
layer_at-get (x ∷ xs) zero = at_first (newest_first xs) x
layer_at-get (x ∷ xs) (suc i) = at_next (newest_first xs) x i ∙ layer_at-get xs i

-- ---- another delta in a layer's place

with_first : (ls : List Layer) (x : Layer) (d : Delta) → with_delta (ls ++ x ∷ []) 0 d ≡ ls ++ record { parent = x.parent; delta = d } ∷ []
with_first [] x d = refl
with_first (l ∷ ls) x d =
    let long : length (ls ++ x ∷ []) ≡ length ls + 1 = length-append ls (x ∷ []) in
    rw (equal_less 0 (length (ls ++ x ∷ [])) (omega (arith, long))) (ap (λ ys. l ∷ ys) (with_first ls x d))

with_next : (ls : List Layer) (x : Layer) (i : ℕ) (d : Delta) → with_delta (ls ++ x ∷ []) (suc i) d ≡ with_delta ls i d ++ x ∷ []
with_next [] x i d = rw (equal_more (suc i) 0 (omega arith)) refl
with_next (l ∷ ls) x i d =
    let long : length (ls ++ x ∷ []) ≡ suc (length ls) = let e : length (ls ++ x ∷ []) ≡ length ls + 1 = length-append ls (x ∷ []) in omega (arith, e) in
    rw (long, equal_suc i (length ls))
    (elim (nat_eq i (length ls)) as (λ b. cond b (record { parent = l.parent; delta = d } ∷ (ls ++ x ∷ [])) (l ∷ with_delta (ls ++ x ∷ []) (suc i) d) ≡ cond b (record { parent = l.parent; delta = d } ∷ ls) (l ∷ with_delta ls i d) ++ x ∷ []) [
      | true ↦ refl
      | false ↦ ap (λ ys. l ∷ ys) (with_next ls x i d)
    ])

pub newest_first-set : (xs : List Layer) (i : ℕ) (x : Layer) (d : Delta) → slice_get xs i ≡ Some x →
    newest_first (slice_set xs i (record { parent = x.parent; delta = d })) ≡ with_delta (newest_first xs) i d
newest_first-set [] i x d e = absurd (none-some x e)
newest_first-set (y ∷ ys) zero x d e =
    ap (λ (z : Layer). newest_first ys ++ record { parent = z.parent; delta = d } ∷ []) (sym (same_Some y x e)) ∙ sym (with_first (newest_first ys) y d)
newest_first-set (y ∷ ys) (suc i) x d e = ap (λ zs. zs ++ y ∷ []) (newest_first-set ys i x d e) ∙ sym (with_next (newest_first ys) y i d)

pub with_delta-length : (ls : List Layer) (i : ℕ) (d : Delta) → length (with_delta ls i d) ≡ length ls
with_delta-length [] i d = refl
with_delta-length (l ∷ ls) i d =
    elim (nat_eq i (length ls)) as (λ b. length (cond b (record { parent = l.parent; delta = d } ∷ ls) (l ∷ with_delta ls i d)) ≡ suc (length ls)) [
      | true ↦ refl
      | false ↦ ap suc (with_delta-length ls i d)
    ]

pub with_delta-valid : (ls : List Layer) (i : ℕ) (d : Delta) → is_fail d ≡ false → AreLayers ls → AreLayers (with_delta ls i d)
with_delta-valid [] i d known valid = tt
with_delta-valid (l ∷ ls) i d known valid =
    elim (nat_eq i (length ls)) as (λ b. AreLayers (cond b (record { parent = l.parent; delta = d } ∷ ls) (l ∷ with_delta ls i d))) [
      | true ↦ (known, valid.1, valid.2)
      | false ↦ (valid.0, subst (λ n. IfSome l.parent (λ j. j < n)) (sym (with_delta-length ls i d)) valid.1, with_delta-valid ls i d known valid.2)
    ]

-- ---- one layer of the way down

-- a layer's path is that of its parent and then its own delta
pub record IsStep (ls : List Layer) (i : ℕ) (l : Layer) : Type 0 where
  pub step : path ls (Some i) ≡ path ls l.parent ++ l.delta ∷ []
  pub parent : IfSome l.parent (λ j. j < i)
  pub within : i < length ls

below_more : (p : Option ℕ) (i n : ℕ) → IfSome p (λ j. j < i) → i < n → IfSome p (λ j. j < n)
below_more None i n h g = tt
below_more (Some j) i n h g = omega (arith, h, g)

pub path_none : (ls : List Layer) → path ls None ≡ []
path_none [] = refl
path_none (l ∷ ls) = refl

-- behind no layers the deltas are those below
pub path_end : (ls : List Layer) (ds : List Delta) → ds ++ path ls None ≡ ds
path_end ls ds = ap (λ p. ds ++ p) (path_none ls) ∙ append-nil ds

-- behind no layers and no deltas there is none
pub path_bare : (ls : List Layer) (ds : List Delta) → ds ≡ [] → ds ++ path ls None ≡ []
path_bare ls ds e = ap (λ p. ds ++ p) (path_none ls) ∙ append-nil ds ∙ e

-- behind no layers the last delta is the last
pub path_last : (ls : List Layer) (ds es : List Delta) (d : Delta) → ds ≡ es ++ d ∷ [] → ds ++ path ls None ≡ (es ++ path ls None) ++ d ∷ []
path_last ls ds es d e =
    ap (λ p. ds ++ p) (path_none ls) ∙ append-nil ds ∙ e
    ∙ sym (ap (λ p. p ++ d ∷ []) (ap (λ p. es ++ p) (path_none ls) ∙ append-nil es))

pub path_lower : (l : Layer) (ls : List Layer) (p : Option ℕ) → IsTip ls p → path (l ∷ ls) p ≡ path ls p
path_lower l ls None h = sym (path_none ls)
path_lower l ls (Some j) h = rw (equal_less j (length ls) h) refl

newest_step : (k l : Layer) (ks : List Layer) (i : ℕ) → i ≡ length ks → k ≡ l → IsTip ks k.parent → IsStep (k ∷ ks) i l
newest_step k l ks i e same tip =
    subst (λ (x : Layer). IsStep (k ∷ ks) i x) same (record {
      step = rw (e, equal_itself (length ks)) (ap (λ ds. ds ++ k.delta ∷ []) (sym (path_lower k ks k.parent tip)));
      parent = subst (λ n. IfSome k.parent (λ j. j < n)) (sym e) tip;
      within = omega (arith, e);
    })

older_step : (k l : Layer) (ks : List Layer) (i : ℕ) → nat_eq i (length ks) ≡ false → IsStep ks i l → IsStep (k ∷ ks) i l
older_step k l ks i e s = record {
  step = rw e (s.step ∙ ap (λ ds. ds ++ l.delta ∷ []) (sym (path_lower k ks l.parent (below_more l.parent i (length ks) s.parent s.within))));
  parent = s.parent;
  within = let w = s.within in omega (arith, w);
}

pub path_step : (ls : List Layer) (i : ℕ) (l : Layer) → AreLayers ls → layer_at ls i ≡ Some l → IsStep ls i l
path_step [] i l valid e = absurd (none-some l e)
path_step (k ∷ ks) i l valid e =
    elim (nat_eq i (length ks)) as (λ b. nat_eq i (length ks) ≡ b → cond b (Some k) (layer_at ks i) ≡ Some l → IsStep (k ∷ ks) i l) [
      | true ↦ λ here g. newest_step k l ks i (eqb-true i (length ks) here) (same_Some k l g) valid.1
      | false ↦ λ here g. older_step k l ks i here (path_step ks i l valid.2 g)
    ] refl e

-- how far a layer is from below the root
abbrev pub height : Option ℕ → ℕ
height None = 0
height (Some i) = suc i

pub parent_lower : (ls : List Layer) (i : ℕ) (l : Layer) → IsStep ls i l → height l.parent < suc i
parent_lower ls i l s = lower l.parent s.parent
  where
    lower : (p : Option ℕ) → IfSome p (λ j. j < i) → height p < suc i
    lower None h = omega arith
    lower (Some j) h = omega (arith, h)

pub parent_tip : (ls : List Layer) (i : ℕ) (l : Layer) → IsStep ls i l → IsTip ls l.parent
parent_tip ls i l s = below_more l.parent i (length ls) s.parent s.within
