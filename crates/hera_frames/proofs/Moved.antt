-- Arguments that are moved from the operands to slots.
use Rattle.std.proofs.Common.{◌≡◌, ℕ, zero, suc, ◌+◌, ◌-◌, ◌<◌, ◌≤◌, List, [], ◌∷◌, ◌++◌, length, map, take, drop, min, Some, pos, refl, sym, ap, ◌∙◌, subst, arith, add-one, append_assoc, append-nil}
use Rattle.std.specs.Prelude.{replicate, reverse, slice_get}
use Rattle.std.proofs.Math.Seq.{drop-nil}
use Rattle.std.proofs.lemmas.Option.{none-some, same_Some}
use Rattle.std.proofs.lemmas.Grind.{reverse_onto}
use Rattle.std.proofs.lemmas.List.{length-take, length-map, length-reverse, map-append, reverse-append, replicate_more}
use Rattle.hera_meaning.specs.Deltas.{State}
use Rattle.hera_meaning.specs.Values.{Value, int_value}
use Rattle.hera_code.specs.Machine.{taken}
use Rattle.when_overlay.specs.declared.layers.Layer.{Layer}
use Rattle.hera_values.specs.declared.values.Datum.{Datum}
use Rattle.hera_values.specs.declared.values.Datum.TheVariants.{Int}
use Rattle.hera_frames.specs.Items.{Item, held, relation, held_in, operands_at, IsHeld, AreHeld}
use Rattle.hera_values.specs.Little.{plain_of}
use Rattle.hera_frames.specs.Calling.{IsNewestHeld, IsBegun}

-- ---- one more of those that come first

rest_next : {A : Type 0} → (xs : List A) (i : ℕ) (x : A) (rest : List A) → drop i xs ≡ x ∷ rest → drop (suc i) xs ≡ rest
rest_next [] i x rest e = cc (sym (drop-nil i) ∙ e)
rest_next (y ∷ ys) zero x rest e = cc
rest_next (y ∷ ys) (suc i) x rest e = rest_next ys i x rest e

first_next : {A : Type 0} → (xs : List A) (i : ℕ) (x : A) (rest : List A) → drop i xs ≡ x ∷ rest → take (suc i) xs ≡ take i xs ++ x ∷ []
first_next [] i x rest e = cc (sym (drop-nil i) ∙ e)
first_next (y ∷ ys) zero x rest e = cc
first_next (y ∷ ys) (suc i) x rest e = ap (λ zs. y ∷ zs) (first_next ys i x rest e)

-- the next operand has its value
held_at : (n i : ℕ) (items : List Item) → i < n → n ≤ length items → AreHeld (take n items) → IsNewestHeld (drop i items)
held_at (suc n) zero (item ∷ items) h there have = have.0
held_at (suc n) (suc i) (item ∷ items) h there have = held_at n i items (omega (arith, h)) (omega (arith, there)) have.1
held_at n i items h there have = absurd (omega (arith, h, there))

pub next_held : (n i : ℕ) (items rest : List Item) → i < n → n ≤ length items → AreHeld (take n items) → rest ≡ drop i items → IsNewestHeld rest
next_held n i items rest h there have e = subst IsNewestHeld (sym e) (held_at n i items h there have)

-- one more operand is moved
pub moved_more : (old left : List Item) (before ds : List Datum) (i : ℕ) (d : Datum) → drop i old ≡ held (plain_of d) ∷ left → map plain_of ds ≡ map plain_of before ++ map held_in (take i old) →
    map plain_of (ds ++ d ∷ []) ≡ map plain_of before ++ map held_in (take (i + 1) old)
moved_more old left before ds i d e h =
    map-append plain_of ds (d ∷ []) ∙ ap (λ xs. xs ++ plain_of d ∷ []) h ∙ append_assoc (map plain_of before) (map held_in (take i old)) (plain_of d ∷ [])
    ∙ ap (λ xs. map plain_of before ++ xs) (sym (map-append held_in (take i old) (held (plain_of d) ∷ [])))
    ∙ ap (λ xs. map plain_of before ++ map held_in xs) (sym (first_next old i (held (plain_of d)) left e))
    ∙ ap (λ k. map plain_of before ++ map held_in (take k old)) (sym (add-one i))

pub moved_rest : (old left : List Item) (i : ℕ) (x : Item) → drop i old ≡ x ∷ left → left ≡ drop (i + 1) old
moved_rest old left i x e = sym (rest_next old i x left e) ∙ ap (λ k. drop k old) (sym (add-one i))

-- one more of the newest operands has its value
held_more : (items : List Item) (i : ℕ) (x : Item) → Some x ≡ slice_get items i → IsHeld x → AreHeld (take i items) → AreHeld (take (suc i) items)
held_more [] i x e h all = absurd (none-some x (sym e))
held_more (y ∷ ys) zero x e h all = (subst IsHeld (sym (same_Some y x (sym e))) h, tt)
held_more (y ∷ ys) (suc i) x e h all = (all.0, held_more ys i x e h all.1)

pub more_held : (items : List Item) (i : ℕ) (x : Item) → Some x ≡ slice_get items i → IsHeld x → AreHeld (take i items) → AreHeld (take (i + 1) items)
more_held items i x e h all = subst (λ k. AreHeld (take k items)) (sym (add-one i)) (held_more items i x e h all)

-- ---- the slots

reverse_cons : {A : Type 0} → (x : A) (xs : List A) → reverse (x ∷ xs) ≡ reverse xs ++ x ∷ []
reverse_cons x xs = reverse_onto xs x []

-- what is taken of operands that have their values
taken_held : (s : State) (ls : List Layer) (n : ℕ) (args : List Value) (items : List Item) → n ≤ length items → AreHeld (take n items) →
    taken n args (operands_at s ls items) ≡ Some (record { args = reverse (map held_in (take n items)) ++ args; rest = operands_at s ls (drop n items) })
taken_held s ls zero args items h g = refl
taken_held s ls (suc n) args [] h g = absurd (omega (arith, h))
taken_held s ls (suc n) args (held v ∷ items) h g =
    taken_held s ls n (v ∷ args) items (omega (arith, h)) g.1
    ∙ ap (λ xs. Some (record { args = xs; rest = operands_at s ls (drop n items) }))
    (sym (append_assoc (reverse (map held_in (take n items))) (v ∷ []) args) ∙ ap (λ xs. xs ++ args) (sym (reverse_cons v (map held_in (take n items)))))
taken_held s ls (suc n) args (relation r k ∷ items) h g = absurd g.0

map_reversed : {A B : Type 0} → (f : A → B) (xs : List A) → map f (reverse xs) ≡ reverse (map f xs)
map_reversed f [] = refl
map_reversed f (x ∷ xs) =
    ap (map f) (reverse_cons x xs) ∙ map-append f (reverse xs) (x ∷ []) ∙ ap (λ ys. ys ++ f x ∷ []) (map_reversed f xs) ∙ sym (reverse_cons (f x) (map f xs))

zeros_reversed : (n : ℕ) → reverse (map plain_of (replicate n (Int (pos 0)))) ≡ replicate n (int_value (pos 0))
zeros_reversed zero = refl
zeros_reversed (suc n) =
    reverse_cons (int_value (pos 0)) (map plain_of (replicate n (Int (pos 0)))) ∙ ap (λ xs. xs ++ int_value (pos 0) ∷ []) (zeros_reversed n)
    ∙ replicate_more n (int_value (pos 0)) ∙ ap (λ k. replicate k (int_value (pos 0))) (add-one n)

-- zeros, and behind them the arguments, the newest one first; and then all the other way round
pub begun : (params slots : ℕ) (old new : List Item) (zeros all turned : List Datum) → params ≤ length old → AreHeld (take params old) → zeros ≡ replicate (slots - params) (Int (pos 0)) →
    map plain_of all ≡ map plain_of zeros ++ map held_in (take params old) → turned ≡ reverse all → new ≡ drop params old → IsBegun params slots old new (map plain_of turned)
begun params slots old new zeros all turned there have none moved turn rest =
    let args : List Value = reverse (map held_in (take params old)) in
    let count : length args ≡ params =
    let e : length args ≡ length (map held_in (take params old)) = length-reverse (map held_in (take params old)) in
    let f : length (map held_in (take params old)) ≡ length (take params old) = length-map (take params old) held_in in
    let g : length (take params old) ≡ min params (length old) = length-take params old in
    omega (arith, e, f, g, there) in
    record {
      args = args;
      arguments = λ s ls.
          taken_held s ls params [] old there have
          ∙ ap (λ xs. Some (record { args = xs; rest = operands_at s ls (drop params old) })) (append-nil args)
          ∙ ap (λ xs. Some (record { args = args; rest = operands_at s ls xs })) (sym rest);
      slots_are =
          ap (map plain_of) turn ∙ map_reversed plain_of all ∙ ap reverse moved ∙ reverse-append (map plain_of zeros) (map held_in (take params old))
          ∙ ap (λ xs. args ++ reverse (map plain_of xs)) none ∙ ap (λ xs. args ++ xs) (zeros_reversed (slots - params)) ∙ ap (λ n. args ++ replicate (slots - n) (int_value (pos 0))) (sym count);
      rest = rest;
    }
