-- Layers as a tree: the way from one to the pending delta, and what a layer more or less leaves as it is.
use Rattle.std.proofs.Common.{◌≡◌, ◌≢◌, ℕ, zero, suc, ◌+◌, ◌-◌, ◌<◌, ◌≤◌, Bool, true, false, cond, List, [], ◌∷◌, ◌++◌, length, drop, nat_eq, Option, None, Some, IfSome, refl, sym, ap, ◌∙◌, subst, arith, length-append}
use Rattle.std.specs.Prelude.{nat_lt, slice_get, min}
use Rattle.std.proofs.Math.Dec.{eqb-suc-suc}
use Rattle.std.proofs.lemmas.Bool.{ltb-true, ltb-false, eqb-true, false_from_ne_true}
use Rattle.std.proofs.lemmas.List.{length-drop}
use Rattle.std.proofs.lemmas.Option.{none-some}
use Rattle.hera_fits.specs.Newest.{newest}
use Rattle.hera_meaning.specs.Deltas.{Delta, is_fail, State, apply_of}
use Rattle.hera_code.specs.Machine.{after_layers}
use Rattle.when_overlay.specs.declared.layers.Layer.{Layer}
use Rattle.when_overlay.specs.Changed.{after_all}
use Rattle.when_overlay.specs.Layered.{AreLayers, delta_at, with_delta, path}
use Rattle.when_overlay.proofs.Layering.{equal_itself, equal_less, path_lower, with_delta-length}
use Rattle.hera_reads.specs.Branched.{IsTree, pending_of, upon, under, seen_at, lowest, number_of, parents_of}

equal_more : (m n : ℕ) → n < m → nat_eq m n ≡ false
equal_more m n h = false_from_ne_true (nat_eq m n) (λ e. let same : m ≡ n = eqb-true m n e in omega (arith, h, same))

-- ---- a layer more or less

pub under_lower : (l : Layer) (ls : List Layer) (k : ℕ) → k < length ls → under (l ∷ ls) k ≡ under ls k
under_lower l ls k h = rw (equal_less k (length ls) h) refl

pub under_here : (l : Layer) (ls : List Layer) (k : ℕ) → k ≡ length ls → under (l ∷ ls) k ≡ upon l.delta l.parent (λ i. under ls i)
under_here l ls k e = rw (e, equal_itself (length ls)) refl

pub under_drop : (n : ℕ) (ls : List Layer) (k : ℕ) → k + n < length ls → under (drop n ls) k ≡ under ls k
under_drop zero ls k h = refl
under_drop (suc n) [] k h = absurd (omega (arith, h))
under_drop (suc n) (l ∷ ls) k h = under_drop n ls k (omega (arith, h)) ∙ sym (under_lower l ls k (omega (arith, h)))

pub under_lowest : (n : ℕ) (ls : List Layer) (k : ℕ) → k < n → k < length ls → under (lowest n ls) k ≡ under ls k
under_lowest n ls k h g = under_drop (length ls - n) ls k (omega (arith, h, g))

pub pending_drop : (n : ℕ) (ls : List Layer) → n < length ls → pending_of (drop n ls) ≡ pending_of ls
pending_drop zero ls h = refl
pending_drop (suc n) (l ∷ m ∷ ls) h = pending_drop n (m ∷ ls) (omega (arith, h))
pending_drop (suc n) ls h = absurd (omega (arith, h))

pub pending_lower : (l : Layer) (ls : List Layer) → 0 < length ls → pending_of (l ∷ ls) ≡ pending_of ls
pending_lower l [] h = absurd (omega (arith, h))
pending_lower l (m ∷ ls) h = refl

pub seen_lowest : (s : State) (n : ℕ) (ls : List Layer) (k : ℕ) → k < n → k < length ls → seen_at s (lowest n ls) k ≡ seen_at s ls k
seen_lowest s n ls k h g =
    let less : length ls - n < length ls = omega (arith, h, g) in
    ap (λ d. after_layers (apply_of s d) (under (lowest n ls) k)) (pending_drop (length ls - n) ls less)
    ∙ ap (after_layers (apply_of s (pending_of ls))) (under_lowest n ls k h g)

pub seen_lower : (s : State) (l : Layer) (ls : List Layer) (k : ℕ) → k < length ls → seen_at s (l ∷ ls) k ≡ seen_at s ls k
seen_lower s l ls k h =
    ap (λ d. after_layers (apply_of s d) (under (l ∷ ls) k)) (pending_lower l ls (omega (arith, h)))
    ∙ ap (after_layers (apply_of s (pending_of ls))) (under_lower l ls k h)

pub length_lowest : {A : Type 0} → (n : ℕ) (xs : List A) → length (lowest n xs) ≡ min n (length xs)
length_lowest n xs = length-drop (length xs - n) xs ∙ omega arith

-- ---- the way to the pending delta

after_push : (s : State) (ds : List Delta) (d : Delta) → after_all s (ds ++ d ∷ []) ≡ apply_of (after_all s ds) d
after_push s [] d = refl
after_push s (x ∷ ds) d = after_push (apply_of s x) ds d

after_append : (s : State) (ds es : List Delta) → after_all s (ds ++ es) ≡ after_all (after_all s ds) es
after_append s [] es = refl
after_append s (d ∷ ds) es = after_append (apply_of s d) ds es

path_here : (l : Layer) (ls : List Layer) (k : ℕ) → k ≡ length ls → path (l ∷ ls) (Some k) ≡ path ls l.parent ++ l.delta ∷ []
path_here l ls k e = rw (e, equal_itself (length ls)) refl

path_upon : (s : State) (ls : List Layer) (d : Delta) (p : Option ℕ) → p ≢ None → IfSome p (λ i. i < length ls) →
    ((j : ℕ) → j < length ls → after_all s (path ls (Some j)) ≡ seen_at s ls j) →
    after_all s (path ls p ++ d ∷ []) ≡ after_layers (apply_of s (pending_of ls)) (upon d p (λ i. under ls i))
path_upon s ls d None some within below = absurd (some refl)
path_upon s ls d (Some j) some within below = after_push s (path ls (Some j)) d ∙ ap (λ t. apply_of t d) (below j within)

pub path_under : (s : State) (ls : List Layer) (k : ℕ) → IsTree ls → AreLayers ls → k < length ls → after_all s (path ls (Some k)) ≡ seen_at s ls k
path_under s [] k h v g = absurd h
path_under s (l ∷ []) zero h v g = ap (after_layers (apply_of s l.delta)) (sym (ap (λ p. upon l.delta p (λ i. [])) h))
path_under s (l ∷ []) (suc k) h v g = absurd (omega (arith, g))
path_under s (l ∷ m ∷ ls) k h v g = by (nat_lt k (length (m ∷ ls))) refl (λ j within. path_under s (m ∷ ls) j h.1 v.2 within)
  where
    by : (b : Bool) → nat_lt k (length (m ∷ ls)) ≡ b → ((j : ℕ) → j < length (m ∷ ls) → after_all s (path (m ∷ ls) (Some j)) ≡ seen_at s (m ∷ ls) j)
        → after_all s (path (l ∷ m ∷ ls) (Some k)) ≡ seen_at s (l ∷ m ∷ ls) k
    by true e below =
        let less : k < length (m ∷ ls) = ltb-true k (length (m ∷ ls)) e in
        ap (after_all s) (path_lower l (m ∷ ls) (Some k) less) ∙ below k less ∙ sym (seen_lower s l (m ∷ ls) k less)
    by false e below =
        let past : length (m ∷ ls) ≤ k = ltb-false k (length (m ∷ ls)) e in
        let here : k ≡ length (m ∷ ls) = omega (arith, past, g) in
        ap (after_all s) (path_here l (m ∷ ls) k here)
        ∙ path_upon s (m ∷ ls) l.delta l.parent h.0 v.1 below
        ∙ ap (after_layers (apply_of s (pending_of (m ∷ ls)))) (sym (under_here l (m ∷ ls) k here))

pub read_state : (s : State) (commits : List Delta) (ls : List Layer) (k : ℕ) → IsTree ls → AreLayers ls → k < length ls →
    after_all s (commits ++ path ls (Some k)) ≡ seen_at (after_all s commits) ls k
read_state s commits ls k h v g = after_append s commits (path ls (Some k)) ∙ path_under (after_all s commits) ls k h v g

-- where there is no layer of a number, the pending delta alone is read
pub under_root : (ls : List Layer) → IsTree ls → under ls 0 ≡ []
under_root [] h = refl
under_root (l ∷ []) h = ap (λ p. upon l.delta p (λ i. [])) h
under_root (l ∷ m ∷ ls) h = under_lower l (m ∷ ls) 0 (omega arith) ∙ under_root (m ∷ ls) h.1

under_past : (ls : List Layer) (k : ℕ) → length ls ≤ k → under ls k ≡ []
under_past [] k h = refl
under_past (l ∷ ls) k h = rw (equal_more k (length ls) (omega (arith, h))) (under_past ls k (omega (arith, h)))

pub seen_past : (s : State) (ls : List Layer) (k : ℕ) → IsTree ls → length ls ≤ k → seen_at s ls 0 ≡ seen_at s ls k
seen_past s ls k h g = ap (after_layers (apply_of s (pending_of ls))) (under_root ls h ∙ sym (under_past ls k g))

-- ---- the layer below

abbrev pub below : List Layer → ℕ → ℕ
below [] k = 0
below (l ∷ ls) k = cond (nat_eq k (length ls)) (number_of l.parent) (below ls k)

below_lower : (l : Layer) (ls : List Layer) (k : ℕ) → k < length ls → below (l ∷ ls) k ≡ below ls k
below_lower l ls k h = rw (equal_less k (length ls) h) refl

below_here : (l : Layer) (ls : List Layer) (k : ℕ) → k ≡ length ls → below (l ∷ ls) k ≡ number_of l.parent
below_here l ls k e = rw (e, equal_itself (length ls)) refl

number_within : (p : Option ℕ) (n : ℕ) → IfSome p (λ i. i < n) → 0 < n → number_of p < n
number_within None n h g = g
number_within (Some i) n h g = h

pub below_within : (ls : List Layer) (k : ℕ) → AreLayers ls → k < length ls → below ls k < length ls
below_within [] k v h = absurd (omega (arith, h))
below_within (l ∷ []) zero v h = number_within l.parent 1 (some l.parent v.1) (omega arith)
  where
    some : (p : Option ℕ) → IfSome p (λ i. i < 0) → IfSome p (λ i. i < 1)
    some None w = tt
    some (Some i) w = omega (arith, w)
below_within (l ∷ []) (suc k) v h = absurd (omega (arith, h))
below_within (l ∷ m ∷ ls) k v h = by (nat_lt k (length (m ∷ ls))) refl (λ less. below_within (m ∷ ls) k v.2 less)
  where
    by : (b : Bool) → nat_lt k (length (m ∷ ls)) ≡ b → (k < length (m ∷ ls) → below (m ∷ ls) k < length (m ∷ ls)) → below (l ∷ m ∷ ls) k < length (l ∷ m ∷ ls)
    by true e ih =
        let less : k < length (m ∷ ls) = ltb-true k (length (m ∷ ls)) e in
        let w = ih less in
        subst (λ i. i < suc (length (m ∷ ls))) (sym (below_lower l (m ∷ ls) k less)) (omega (arith, w))
    by false e ih =
        let past : length (m ∷ ls) ≤ k = ltb-false k (length (m ∷ ls)) e in
        let here : k ≡ length (m ∷ ls) = omega (arith, past, h) in
        let w = number_within l.parent (length (m ∷ ls)) v.1 (omega arith) in
        subst (λ i. i < suc (length (m ∷ ls))) (sym (below_here l (m ∷ ls) k here)) (omega (arith, w))

below_root : (p : Option ℕ) (d : Delta) → p ≡ None → under (record { parent = p; delta = d } ∷ []) (number_of p) ≡ drop 1 (upon d p (λ i. []))
below_root None d e = refl
below_root (Some i) d e = absurd (none-some i (sym e))

below_upon : (l : Layer) (ls : List Layer) (d : Delta) (p : Option ℕ) → p ≢ None → IfSome p (λ i. i < length ls) → under (l ∷ ls) (number_of p) ≡ drop 1 (upon d p (λ i. under ls i))
below_upon l ls d None some within = absurd (some refl)
below_upon l ls d (Some j) some within = under_lower l ls j within

pub under_below : (ls : List Layer) (k : ℕ) → IsTree ls → AreLayers ls → k < length ls → under ls (below ls k) ≡ drop 1 (under ls k)
under_below [] k h v g = absurd h
under_below (l ∷ []) zero h v g = below_root l.parent l.delta h
under_below (l ∷ []) (suc k) h v g = absurd (omega (arith, g))
under_below (l ∷ m ∷ ls) k h v g = by (nat_lt k (length (m ∷ ls))) refl (λ less. under_below (m ∷ ls) k h.1 v.2 less)
  where
    by : (b : Bool) → nat_lt k (length (m ∷ ls)) ≡ b → (k < length (m ∷ ls) → under (m ∷ ls) (below (m ∷ ls) k) ≡ drop 1 (under (m ∷ ls) k))
        → under (l ∷ m ∷ ls) (below (l ∷ m ∷ ls) k) ≡ drop 1 (under (l ∷ m ∷ ls) k)
    by true e ih =
        let less : k < length (m ∷ ls) = ltb-true k (length (m ∷ ls)) e in
        ap (under (l ∷ m ∷ ls)) (below_lower l (m ∷ ls) k less)
        ∙ under_lower l (m ∷ ls) (below (m ∷ ls) k) (below_within (m ∷ ls) k v.2 less)
        ∙ ih less
        ∙ ap (drop 1) (sym (under_lower l (m ∷ ls) k less))
    by false e ih =
        let past : length (m ∷ ls) ≤ k = ltb-false k (length (m ∷ ls)) e in
        let here : k ≡ length (m ∷ ls) = omega (arith, past, g) in
        ap (under (l ∷ m ∷ ls)) (below_here l (m ∷ ls) k here)
        ∙ below_upon l (m ∷ ls) l.delta l.parent h.0 v.1
        ∙ ap (drop 1) (sym (under_here l (m ∷ ls) k here))

-- a way has fewer layers than there are
upon_short : (d : Delta) (p : Option ℕ) (f : ℕ → List Delta) (n : ℕ) → 0 < n → IfSome p (λ i. i < n) → ((j : ℕ) → j < n → length (f j) < n) → length (upon d p f) < suc n
upon_short d None f n some within ih = omega arith
upon_short d (Some j) f n some within ih = let w = ih j within in omega (arith, w)

pub under_short : (ls : List Layer) (k : ℕ) → IsTree ls → AreLayers ls → k < length ls → length (under ls k) < length ls
under_short [] k h v g = absurd (omega (arith, g))
under_short (l ∷ []) k h v g =
    let here : k ≡ 0 = omega (arith, g) in
    subst (λ (ds : List Delta). length ds < 1) (sym (ap (under (l ∷ [])) here ∙ under_root (l ∷ []) h)) (omega arith)
under_short (l ∷ m ∷ ls) k h v g = by (nat_lt k (length (m ∷ ls))) refl (λ j within. under_short (m ∷ ls) j h.1 v.2 within)
  where
    by : (b : Bool) → nat_lt k (length (m ∷ ls)) ≡ b → ((j : ℕ) → j < length (m ∷ ls) → length (under (m ∷ ls) j) < length (m ∷ ls)) → length (under (l ∷ m ∷ ls) k) < length (l ∷ m ∷ ls)
    by true e ih =
        let less : k < length (m ∷ ls) = ltb-true k (length (m ∷ ls)) e in
        let w = ih k less in
        subst (λ (ds : List Delta). length ds < suc (length (m ∷ ls))) (sym (under_lower l (m ∷ ls) k less)) (omega (arith, w))
    by false e ih =
        let past : length (m ∷ ls) ≤ k = ltb-false k (length (m ∷ ls)) e in
        let here : k ≡ length (m ∷ ls) = omega (arith, past, g) in
        subst (λ (ds : List Delta). length ds < suc (length (m ∷ ls))) (sym (under_here l (m ∷ ls) k here)) (upon_short l.delta l.parent (λ i. under (m ∷ ls) i) (length (m ∷ ls)) (omega arith) v.1 ih)

-- ---- numbers of parents, which are kept in the other order

abbrev number_at : List ℕ → ℕ → Option ℕ
number_at [] k = None
number_at (x ∷ xs) k = cond (nat_eq k (length xs)) (Some x) (number_at xs k)

at_first : (ns : List ℕ) (x : ℕ) → number_at (ns ++ x ∷ []) 0 ≡ Some x
at_first [] x = refl
at_first (n ∷ ns) x =
    let long : length (ns ++ x ∷ []) ≡ length ns + 1 = length-append ns (x ∷ []) in
    rw (equal_less 0 (length (ns ++ x ∷ [])) (omega (arith, long))) (at_first ns x)

at_next : (ns : List ℕ) (x k : ℕ) → number_at (ns ++ x ∷ []) (suc k) ≡ number_at ns k
at_next [] x k = rw (equal_more (suc k) 0 (omega arith)) refl
at_next (n ∷ ns) x k =
    let long : length (ns ++ x ∷ []) ≡ suc (length ns) = let e : length (ns ++ x ∷ []) ≡ length ns + 1 = length-append ns (x ∷ []) in omega (arith, e) in
    rw (long, eqb-suc-suc k (length ns), at_next ns x k) refl

number_at-get : (xs : List ℕ) (k : ℕ) → number_at (newest (λ x. x) xs) k ≡ slice_get xs k
number_at-get [] k = refl
number_at-get (x ∷ xs) zero = at_first (newest (λ x. x) xs) x
number_at-get (x ∷ xs) (suc k) = at_next (newest (λ x. x) xs) x k ∙ number_at-get xs k

pub parents-length : (ls : List Layer) → length (parents_of ls) ≡ length ls
parents-length [] = refl
parents-length (l ∷ ls) = ap suc (parents-length ls)

number_below : (ls : List Layer) (k : ℕ) → k < length ls → number_at (parents_of ls) k ≡ Some (below ls k)
number_below [] k h = absurd (omega (arith, h))
number_below (l ∷ ls) k h = by (nat_lt k (length ls)) refl (λ less. number_below ls k less)
  where
    by : (b : Bool) → nat_lt k (length ls) ≡ b → (k < length ls → number_at (parents_of ls) k ≡ Some (below ls k)) → number_at (parents_of (l ∷ ls)) k ≡ Some (below (l ∷ ls) k)
    by true e ih =
        let less : k < length ls = ltb-true k (length ls) e in
        rw (parents-length ls, equal_less k (length ls) less) (ih less)
    by false e ih =
        let past : length ls ≤ k = ltb-false k (length ls) e in
        let here : k ≡ length ls = omega (arith, past, h) in
        rw (parents-length ls, here, equal_itself (length ls)) refl

-- the number of a layer's parent is found at its place
pub parent_found : (ls : List Layer) (xs : List ℕ) (k : ℕ) → newest (λ x. x) xs ≡ parents_of ls → k < length ls → slice_get xs k ≡ Some (below ls k)
parent_found ls xs k e h = sym (number_at-get xs k) ∙ ap (λ ns. number_at ns k) e ∙ number_below ls k h

-- ---- another pending delta

pub tree_with : (ls : List Layer) (d : Delta) → IsTree ls → IsTree (with_delta ls 0 d)
tree_with [] d h = h
tree_with (l ∷ []) d h = h
tree_with (l ∷ m ∷ ls) d h = rw (equal_less 0 (length (m ∷ ls)) (omega arith)) (upon_some (with_delta (m ∷ ls) 0 d) (tree_with (m ∷ ls) d h.1))
  where
    upon_some : (ms : List Layer) → IsTree ms → IsTree (l ∷ ms)
    upon_some [] c = absurd c
    upon_some (m ∷ ms) c = (h.0, c)

pub pending_with : (ls : List Layer) (d : Delta) → IsTree ls → pending_of (with_delta ls 0 d) ≡ d
pending_with [] d h = absurd h
pending_with (l ∷ []) d h = refl
pending_with (l ∷ m ∷ ls) d h =
    let long : length (with_delta (m ∷ ls) 0 d) ≡ suc (length ls) = with_delta-length (m ∷ ls) 0 d in
    rw (equal_less 0 (length (m ∷ ls)) (omega arith)) (pending_lower l (with_delta (m ∷ ls) 0 d) (omega (arith, long)) ∙ pending_with (m ∷ ls) d h.1)

upon_same : (d : Delta) (p : Option ℕ) (f g : ℕ → List Delta) → ((i : ℕ) → f i ≡ g i) → upon d p f ≡ upon d p g
upon_same d None f g e = refl
upon_same d (Some i) f g e = ap (λ ds. d ∷ ds) (e i)

cond_same : {A : Type 0} → (b : Bool) (x y z w : A) → x ≡ z → y ≡ w → cond b x y ≡ cond b z w
cond_same true x y z w e g = e
cond_same false x y z w e g = g

pub under_with : (ls : List Layer) (d : Delta) (k : ℕ) → IsTree ls → under (with_delta ls 0 d) k ≡ under ls k
under_with [] d k h = refl
under_with (l ∷ []) d k h =
    ap (λ p. cond (nat_eq k 0) (upon d p (λ i. [])) []) h ∙ sym (ap (λ p. cond (nat_eq k 0) (upon l.delta p (λ i. [])) []) h)
under_with (l ∷ m ∷ ls) d k h =
    rw (equal_less 0 (length (m ∷ ls)) (omega arith)) (more (with_delta (m ∷ ls) 0 d) (with_delta-length (m ∷ ls) 0 d) (λ i. under_with (m ∷ ls) d i h.1))
  where
    more : (ms : List Layer) → length ms ≡ length (m ∷ ls) → ((i : ℕ) → under ms i ≡ under (m ∷ ls) i) → under (l ∷ ms) k ≡ under (l ∷ m ∷ ls) k
    more ms long same =
        ap (λ n. cond (nat_eq k n) (upon l.delta l.parent (λ i. under ms i)) (under ms k)) long
        ∙ cond_same (nat_eq k (length (m ∷ ls))) _ _ _ _ (upon_same l.delta l.parent (λ i. under ms i) (λ i. under (m ∷ ls) i) same) (same k)

pub parents_with : (ls : List Layer) (i : ℕ) (d : Delta) → parents_of (with_delta ls i d) ≡ parents_of ls
parents_with [] i d = refl
parents_with (l ∷ ls) i d =
    elim (nat_eq i (length ls)) as (λ b. parents_of (cond b (record { parent = l.parent; delta = d } ∷ ls) (l ∷ with_delta ls i d)) ≡ number_of l.parent ∷ parents_of ls) [
      | true ↦ refl
      | false ↦ ap (λ ns. number_of l.parent ∷ ns) (parents_with ls i d)
    ]

-- the pending delta is the one with the number 0
pub pending_at : (ls : List Layer) → IsTree ls → delta_at ls 0 ≡ Some (pending_of ls)
pending_at [] h = absurd h
pending_at (l ∷ []) h = refl
pending_at (l ∷ m ∷ ls) h = rw (equal_less 0 (length (m ∷ ls)) (omega arith)) (pending_at (m ∷ ls) h.1)

pub pending_known : (ls : List Layer) → IsTree ls → AreLayers ls → is_fail (pending_of ls) ≡ false
pending_known [] h v = absurd h
pending_known (l ∷ []) h v = v.0
pending_known (l ∷ m ∷ ls) h v = pending_known (m ∷ ls) h.1 v.2

-- ---- layers that are dropped one by one

drop_suc : {A : Type 0} → (n : ℕ) (xs : List A) → drop 1 (drop n xs) ≡ drop (suc n) xs
drop_suc zero xs = refl
drop_suc (suc n) [] = refl
drop_suc (suc n) (x ∷ xs) = drop_suc n xs

pub drop_next : (n i : ℕ) (xs ys zs : List Layer) → n ≤ i → zs ≡ drop 1 ys → ys ≡ drop (i - n) xs → zs ≡ drop (i + 1 - n) xs
drop_next n i xs ys zs h e g =
    let next : suc (i - n) ≡ i + 1 - n = omega arith in
    e ∙ ap (drop 1) g ∙ drop_suc (i - n) xs ∙ ap (λ k. drop k xs) next
