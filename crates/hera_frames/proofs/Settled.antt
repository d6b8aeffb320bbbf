-- Names that are given up: operands, walks and frames with rows in the place of names.
use Rattle.std.proofs.Common.{◌≡◌, ℕ, zero, suc, ◌+◌, ◌<◌, ◌≤◌, false, List, [], ◌∷◌, ◌++◌, length, take, drop, get_or, map, max, min, Option, refl, sym, ap, ◌∙◌, subst, arith, add-one}
use Rattle.std.specs.Prelude.{slice_set}
use Rattle.std.proofs.Math.Seq.{take-suc}
use Rattle.std.proofs.lemmas.List.{take_all, map-append}
use Rattle.hera_fits.specs.Newest.{newest}
use Rattle.hera_fits.proofs.Stacks.{newest_push, newest_length}
use Rattle.hera_meaning.specs.Deltas.{State}
use Rattle.when_overlay.specs.declared.layers.Layer.{Layer}
use Rattle.hera_frames.specs.declared.operands.Operand.{Operand}
use Rattle.hera_frames.specs.Items.{Item, held, relation, item_of, value_at, operands_at, collected, is_relation, IsHeld, AreHeld, reach_of, reach}
use Rattle.hera_reads.specs.Walking.{Rest, given, named, Pace, to_come, walk_at, is_named, IsGiven, AreGiven, settled, rest_reach, walks_reach}

-- ---- operands

pub unrelated : (item : Item) → is_relation item ≡ false → IsHeld item
unrelated (held v) h = tt
unrelated (relation r k) h = cc

pub items_are_held : (s : State) (ls : List Layer) (items : List Item) → AreHeld (map (collected s ls) items)
items_are_held s ls [] = tt
items_are_held s ls (item ∷ items) = (tt, items_are_held s ls items)

-- the value of a collected operand asks for no layer
pub items_collected : (s t : State) (ls ms : List Layer) (items : List Item) → operands_at t ms (map (collected s ls) items) ≡ operands_at s ls items
items_collected s t ls ms [] = refl
items_collected s t ls ms (item ∷ items) = ap (λ vs. value_at s ls item ∷ vs) (items_collected s t ls ms items)

pub items_held : (s t : State) (ls ms : List Layer) (items : List Item) → AreHeld items → operands_at t ms items ≡ operands_at s ls items
items_held s t ls ms [] h = refl
items_held s t ls ms (held v ∷ items) h = ap (λ vs. v ∷ vs) (items_held s t ls ms items h.1)
items_held s t ls ms (relation r k ∷ items) h = absurd h.0

pub reach_held : (items : List Item) → AreHeld items → reach items ≡ 0
reach_held [] h = refl
reach_held (held v ∷ items) h = let e : reach items ≡ 0 = reach_held items h.1 in omega (arith, e)
reach_held (relation r k ∷ items) h = absurd h.0

pub reach_collected : (s : State) (ls : List Layer) (items : List Item) → reach (map (collected s ls) items) ≡ 0
reach_collected s ls items = reach_held (map (collected s ls) items) (items_are_held s ls items)

pub reach_drop : (n : ℕ) (items : List Item) → reach (drop n items) ≤ reach items
reach_drop zero items = omega arith
reach_drop (suc n) [] = omega arith
reach_drop (suc n) (item ∷ items) = let h = reach_drop n items in omega (arith, h)

-- ---- walks

pub walks_settled : (s t : State) (ls ms : List Layer) (ws : List Pace) → map (walk_at t ms) (map (settled s ls) ws) ≡ map (walk_at s ls) ws
walks_settled s t ls ms [] = refl
walks_settled s t ls ms (w ∷ ws) = ap (λ vs. walk_at s ls w ∷ vs) (walks_settled s t ls ms ws)

rest_given : (s t : State) (ls ms : List Layer) (last : Option _) (r : Rest) → IsGiven r → to_come t ms last r ≡ to_come s ls last r
rest_given s t ls ms last (given rows) h = refl
rest_given s t ls ms last (named ahead r k) h = absurd h

pub walks_given : (s t : State) (ls ms : List Layer) (ws : List Pace) → AreGiven ws → map (walk_at t ms) ws ≡ map (walk_at s ls) ws
walks_given s t ls ms [] h = refl
walks_given s t ls ms (w ∷ ws) h =
    λ i. record { rows = rest_given s t ls ms w.current w.rest h.0 i; current = w.current; gathered = w.gathered } ∷ walks_given s t ls ms ws h.1 i

pub walks_are_given : (s : State) (ls : List Layer) (ws : List Pace) → AreGiven (map (settled s ls) ws)
walks_are_given s ls [] = tt
walks_are_given s ls (w ∷ ws) = (tt, walks_are_given s ls ws)

rest_reach_given : (r : Rest) → IsGiven r → rest_reach r ≡ 0
rest_reach_given (given rows) h = refl
rest_reach_given (named ahead r k) h = absurd h

pub reach_given : (ws : List Pace) → AreGiven ws → walks_reach ws ≡ 0
reach_given [] h = refl
reach_given (w ∷ ws) h =
    let e : rest_reach w.rest ≡ 0 = rest_reach_given w.rest h.0 in
    let g : walks_reach ws ≡ 0 = reach_given ws h.1 in
    omega (arith, e, g)

pub reach_settled : (s : State) (ls : List Layer) (ws : List Pace) → walks_reach (map (settled s ls) ws) ≡ 0
reach_settled s ls ws = reach_given (map (settled s ls) ws) (walks_are_given s ls ws)

pub unnamed : (r : Rest) → is_named r ≡ false → IsGiven r
unnamed (given rows) h = tt
unnamed (named ahead r k) h = cc

-- ---- what a loop over all has seen

newest_more : {A B : Type 0} → (f : A → B) (xs : List A) (i : ℕ) (x : A) → i < length xs → x ≡ get_or xs i x → newest f (take (i + 1) xs) ≡ f x ∷ newest f (take i xs)
newest_more f xs i x h e =
    ap (λ k. newest f (take k xs)) (add-one i) ∙ ap (newest f) (take-suc xs i x h) ∙ newest_push f (take i xs) (get_or xs i x)
    ∙ ap (λ y. f y ∷ newest f (take i xs)) (sym e)

newest_end : {A B : Type 0} → (f : A → B) (xs : List A) (i : ℕ) → length xs ≤ i → newest f (take i xs) ≡ newest f xs
newest_end f xs i h = ap (newest f) (take_all i xs h)

pub given_more : (ws : List Pace) (i : ℕ) (w : Pace) → i < length ws → w ≡ get_or ws i w → IsGiven w.rest → AreGiven (newest (λ x. x) (take i ws)) → AreGiven (newest (λ x. x) (take (i + 1) ws))
given_more ws i w h e g all = subst AreGiven (sym (newest_more (λ x. x) ws i w h e)) (g, all)

pub given_end : (ws : List Pace) (i : ℕ) → length ws ≤ i → AreGiven (newest (λ x. x) (take i ws)) → AreGiven (newest (λ x. x) ws)
given_end ws i h all = subst AreGiven (newest_end (λ x. x) ws i h) all

pub held_more : (os : List Operand) (i : ℕ) (o : Operand) → i < length os → o ≡ get_or os i o → IsHeld (item_of o) → AreHeld (newest item_of (take i os)) → AreHeld (newest item_of (take (i + 1) os))
held_more os i o h e g all = subst AreHeld (sym (newest_more item_of os i o h e)) (g, all)

pub reach_more : (os : List Operand) (i most count : ℕ) (o : Operand) → i < length os → o ≡ get_or os i o → count ≡ min most (reach (newest item_of (take i os))) →
    max count (min most (reach_of (item_of o))) ≡ min most (reach (newest item_of (take (i + 1) os)))
reach_more os i most count o h e g =
    let next : reach (newest item_of (take (i + 1) os)) ≡ max (reach_of (item_of o)) (reach (newest item_of (take i os))) = ap reach (newest_more item_of os i o h e) in
    omega (arith, g, next)

pub paces_more : (ws : List Pace) (i most count : ℕ) (w : Pace) → i < length ws → w ≡ get_or ws i w → count ≡ min most (walks_reach (newest (λ x. x) (take i ws))) →
    max count (min most (rest_reach w.rest)) ≡ min most (walks_reach (newest (λ x. x) (take (i + 1) ws)))
paces_more ws i most count w h e g =
    let next : walks_reach (newest (λ x. x) (take (i + 1) ws)) ≡ max (rest_reach w.rest) (walks_reach (newest (λ x. x) (take i ws))) = ap walks_reach (newest_more (λ x. x) ws i w h e) in
    omega (arith, g, next)

pub paces_end : (ws : List Pace) (i most count : ℕ) → length ws ≤ i → count ≡ min most (walks_reach (newest (λ x. x) (take i ws))) → count ≡ min most (walks_reach (newest (λ x. x) ws))
paces_end ws i most count h g = g ∙ ap (λ ps. min most (walks_reach ps)) (newest_end (λ x. x) ws i h)

-- ---- operands that are collected

pub newest_set : {A B : Type 0} → (f : A → B) (xs : List A) (i : ℕ) (x d : A) → i < length xs → f x ≡ f (get_or xs i d) → newest f (slice_set xs i x) ≡ newest f xs
newest_set f [] i x d h e = absurd (omega (arith, h))
newest_set f (y ∷ ys) zero x d h e = ap (λ z. newest f ys ++ z ∷ []) e
newest_set f (y ∷ ys) (suc i) x d h e = ap (λ zs. zs ++ f y ∷ []) (newest_set f ys i x d (omega (arith, h)) e)

-- what is collected of the operands, the newest first
abbrev pub all_collected : State → List Layer → List Operand → List Item
all_collected s ls os = newest (λ o. collected s ls (item_of o)) os

pub map_newest : {A B C : Type 0} → (f : A → B) (g : B → C) (xs : List A) → map g (newest f xs) ≡ newest (λ x. g (f x)) xs
map_newest f g [] = refl
map_newest f g (x ∷ xs) = map-append g (newest f xs) (f x ∷ []) ∙ ap (λ ys. ys ++ g (f x) ∷ []) (map_newest f g xs)

collected_held : (s : State) (ls : List Layer) (items : List Item) → AreHeld items → map (collected s ls) items ≡ items
collected_held s ls [] h = refl
collected_held s ls (held v ∷ items) h = ap (λ zs. held v ∷ zs) (collected_held s ls items h.1)
collected_held s ls (relation r k ∷ items) h = absurd h.0

-- where all of them have their values, these are what is collected of those that were
pub all_held : (s : State) (ls : List Layer) (old new : List Operand) (n : ℕ) → length new ≤ n → AreHeld (take n (newest item_of new)) →
    map (collected s ls) (newest item_of new) ≡ map (collected s ls) (newest item_of old) → newest item_of new ≡ map (collected s ls) (newest item_of old)
all_held s ls old new n h all same =
    let long : length (newest item_of new) ≤ n = let e = newest_length item_of new in omega (arith, e, h) in
    sym (collected_held s ls (newest item_of new) (subst AreHeld (take_all n (newest item_of new) long) all)) ∙ same
