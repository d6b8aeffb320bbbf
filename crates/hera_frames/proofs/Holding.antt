-- The newest operands are collected one by one, and the others stay.
use Rattle.std.proofs.Common.{◌≡◌, ℕ, zero, suc, ◌+◌, ◌-◌, ◌<◌, ◌≤◌, List, [], ◌∷◌, ◌++◌, length, take, drop, get_or, map, max, sym, ap, ◌∙◌, subst, arith, add-one}
use Rattle.std.specs.Prelude.{slice_set}
use Rattle.std.proofs.Math.Seq.{take-suc, take-append_seam}
use Rattle.std.proofs.lemmas.List.{take_all, take-append-drop, take_more_set, take-set-le, drop_at, length-take-le, length-drop, drop-append-le}
use Rattle.hera_fits.specs.Newest.{newest}
use Rattle.hera_fits.proofs.Stacks.{newest_push, newest_length}
use Rattle.hera_meaning.specs.Deltas.{State}
use Rattle.when_overlay.specs.declared.layers.Layer.{Layer}
use Rattle.hera_frames.specs.declared.operands.Operand.{Operand}
use Rattle.hera_frames.specs.Items.{Item, item_of, operands_at, collected, IsHeld, AreHeld, reach_of, reach}
use Rattle.hera_frames.proofs.Settled.{all_collected, map_newest, newest_set, items_collected}

-- ---- how many layers have to be there

reach_last : (items : List Item) (item : Item) → reach (items ++ item ∷ []) ≡ max (reach items) (reach_of item)
reach_last [] item = omega arith
reach_last (x ∷ items) item = let e = reach_last items item in omega (arith, e)

-- one operand asks for no more than the one in whose place it comes
reach_set : (os : List Operand) (i : ℕ) (x d : Operand) → i < length os → reach_of (item_of x) ≤ reach_of (item_of (get_or os i d)) → reach (newest item_of (slice_set os i x)) ≤ reach (newest item_of os)
reach_set [] i x d h le = absurd (omega (arith, h))
reach_set (o ∷ os) zero x d h le =
    let e = reach_last (newest item_of os) (item_of x) in
    let g = reach_last (newest item_of os) (item_of o) in
    omega (arith, e, g, le)
reach_set (o ∷ os) (suc i) x d h le =
    let e = reach_last (newest item_of (slice_set os i x)) (item_of o) in
    let g = reach_last (newest item_of os) (item_of o) in
    let less = reach_set os i x d (omega (arith, h)) le in
    omega (arith, e, g, less)

-- ---- one by one

-- of the operands that were: those before a place stay, those from there up to the counted one have their values, what
-- is collected is the same, and no more layers are named
pub record IsHolding (s : State) (ls : List Layer) (old new : List Operand) (from i : ℕ) : Type 0 where
  pub older : take from new ≡ take from old
  pub first : AreHeld (newest item_of (drop from (take i new)))
  pub same : all_collected s ls new ≡ all_collected s ls old
  pub low : reach (newest item_of new) ≤ reach (newest item_of old)

-- one more behind those that have their values
more_at : (ys zs : List Operand) (from i : ℕ) (x : Operand) → from ≤ i → i ≤ length ys → zs ≡ take i ys ++ x ∷ [] → IsHeld (item_of x) → AreHeld (newest item_of (drop from (take i ys))) → AreHeld (newest item_of (drop from zs))
more_at ys zs from i x h within e has all =
    subst AreHeld
    (sym
    (ap (λ os. newest item_of (drop from os)) e
    ∙ ap (newest item_of) (drop-append-le from (take i ys) (x ∷ []) (let n = length-take-le i ys within in omega (arith, n, h)))
    ∙ newest_push item_of (drop from (take i ys)) x))
    (has, all)

pub holding_put : (s : State) (ls : List Layer) (old os new : List Operand) (from i : ℕ) (x o : Operand) → from ≤ i → i < length os → o ≡ get_or os i o → IsHeld (item_of x) → reach_of (item_of x) ≡ 0 → collected s ls (item_of o) ≡ item_of x → collected s ls (item_of x) ≡ item_of x →
    new ≡ slice_set os i x → IsHolding s ls old os from i → IsHolding s ls old new from (i + 1)
holding_put s ls old os new from i x o f h e has none has_value itself put c =
    let same : collected s ls (item_of x) ≡ collected s ls (item_of (get_or os i o)) = itself ∙ sym has_value ∙ ap (λ y. collected s ls (item_of y)) e in
    let low : reach (newest item_of (slice_set os i x)) ≤ reach (newest item_of os) = reach_set os i x o h (omega (arith, none)) in
    record {
      older = ap (take from) put ∙ take-set-le from os i x f ∙ c.older;
      first = more_at os (take (i + 1) new) from i x f (omega (arith, h)) (ap (take (i + 1)) put ∙ take_more_set os i x h) has c.first;
      same = ap (all_collected s ls) put ∙ newest_set (λ y. collected s ls (item_of y)) os i x o h same ∙ c.same;
      low = let l : reach (newest item_of new) ≡ reach (newest item_of (slice_set os i x)) = ap (λ ys. reach (newest item_of ys)) put in let k = c.low in omega (arith, l, low, k);
    }

pub holding_skip : (s : State) (ls : List Layer) (old os : List Operand) (from i : ℕ) (o : Operand) → from ≤ i → i < length os → o ≡ get_or os i o → IsHeld (item_of o) → IsHolding s ls old os from i → IsHolding s ls old os from (i + 1)
holding_skip s ls old os from i o f h e has c = record {
  older = c.older;
  first = more_at os (take (i + 1) os) from i o f (omega (arith, h)) (ap (λ k. take k os) (add-one i) ∙ take-suc os i o h ∙ ap (λ y. take i os ++ y ∷ []) (sym e)) has c.first;
  same = c.same;
  low = c.low;
}

-- what stays itself when it is collected has its value
pub has_value : (s : State) (ls : List Layer) (item : Item) → collected s ls item ≡ item → IsHeld item
has_value s ls item e = subst IsHeld e tt

-- ---- at the end

newest_append : {A B : Type 0} → (f : A → B) (xs ys : List A) → newest f (xs ++ ys) ≡ newest f ys ++ newest f xs
newest_append f [] ys = sym (Rattle.std.proofs.lemmas.List.append-nil (newest f ys))
newest_append f (x ∷ xs) ys = ap (λ zs. zs ++ f x ∷ []) (newest_append f xs ys) ∙ Rattle.std.proofs.Common.append_assoc (newest f ys) (newest f xs) (f x ∷ [])

-- how many the newest ones are
newest_many : (os : List Operand) (from n : ℕ) → from + n ≡ length os → length (newest item_of (drop from os)) ≡ n
newest_many os from n h = let l = newest_length item_of (drop from os) in let d = length-drop from os in omega (arith, l, d, h)

newest_parts : (os : List Operand) (from : ℕ) → newest item_of os ≡ newest item_of (drop from os) ++ newest item_of (take from os)
newest_parts os from = ap (newest item_of) (sym (take-append-drop from os)) ∙ newest_append item_of (take from os) (drop from os)

-- the newest ones stand last
newest_last : (os : List Operand) (from n : ℕ) → from + n ≡ length os → take n (newest item_of os) ≡ newest item_of (drop from os)
newest_last os from n h =
    ap (take n) (newest_parts os from)
    ∙ ap (λ k. take k (newest item_of (drop from os) ++ newest item_of (take from os))) (sym (newest_many os from n h))
    ∙ take-append_seam (newest item_of (drop from os)) (newest item_of (take from os))

-- and the others before them
newest_rest : (os : List Operand) (from n : ℕ) → from + n ≡ length os → drop n (newest item_of os) ≡ newest item_of (take from os)
newest_rest os from n h =
    ap (drop n) (newest_parts os from)
    ∙ drop_at (newest item_of (drop from os)) (newest item_of (take from os)) n (newest_many os from n h)

-- those before the place are the others
pub older_rest : (old new : List Operand) (from n : ℕ) → from + n ≡ length old → length new ≡ length old → take from new ≡ take from old → drop n (newest item_of new) ≡ drop n (newest item_of old)
older_rest old new from n h l e = newest_rest new from n (h ∙ sym l) ∙ ap (newest item_of) e ∙ sym (newest_rest old from n h)

pub holding_end : (s : State) (ls : List Layer) (old os : List Operand) (from n i : ℕ) → from + n ≡ length os → length os ≤ i → IsHolding s ls old os from i → AreHeld (take n (newest item_of os))
holding_end s ls old os from n i h at c =
    subst AreHeld (ap (λ xs. newest item_of (drop from xs)) (take_all i os at) ∙ sym (newest_last os from n h)) c.first

-- what is collected is the same, so the values are
pub same_collected : (s : State) (ls : List Layer) (old new : List Operand) → all_collected s ls new ≡ all_collected s ls old → map (collected s ls) (newest item_of new) ≡ map (collected s ls) (newest item_of old)
same_collected s ls old new e = map_newest item_of (collected s ls) new ∙ e ∙ sym (map_newest item_of (collected s ls) old)

pub same_values : (s : State) (ls : List Layer) (xs ys : List Item) → map (collected s ls) xs ≡ map (collected s ls) ys → operands_at s ls xs ≡ operands_at s ls ys
same_values s ls xs ys e = sym (items_collected s s ls ls xs) ∙ ap (operands_at s ls) e ∙ items_collected s s ls ls ys
