-- The first stranger and the first repeat of words in text order.
use Rattle.std.proofs.Common.{◌≡◌, ◌≤◌, inr, ℕ, ◌+◌, List, [], ◌∷◌, ◌++◌, refl, sym, ap, ◌∙◌, subst, arith, Bool, true, false, append-nil, append_assoc}
use Rattle.std.specs.Prelude.{Option, Some, None, cond, is_some}
use Rattle.hera_sets.specs.Rows.{holds}
use Rattle.hera_meaning.specs.declared.schemas.Attr.{Attr}
use Rattle.hera_meaning.specs.Schemas.{place_named}
use Rattle.hera_rules.specs.declared.words.Word.{Word}
use Rattle.hera_rules.specs.declared.fault.TypeFault.{TypeFault}
use Rattle.hera_rules.specs.declared.fault.TypeFault.TheVariants as faults
use Rattle.hera_rules.specs.Rules.{stranger_in, repeat_in, word_names, either}
use Rattle.hera_faults.specs.Least.{IsFirst}
use Rattle.hera_faults.specs.Broken.{InOrder, IsStranger, stranger, IsRepeat, again}
use Rattle.hera_faults.proofs.First.{First, none, some}

pub first_is : {A : Type 0} {x y : A} {xs ys : List A} → x ∷ xs ≡ y ∷ ys → x ≡ y
first_is e = cc

pub later_is : {A : Type 0} {x y : A} {xs ys : List A} → x ∷ xs ≡ y ∷ ys → xs ≡ ys
later_is e = cc

pub nothing_there : {A B : Type 0} (front back : List A) (x : A) → [] ≡ front ++ x ∷ back → B
nothing_there [] back x e = absurd cc
nothing_there (y ∷ front) back x e = absurd cc

pub true_or_false : {B : Type 0} (b : Bool) → b ≡ true → b ≡ false → B
true_or_false true e h = absurd cc
true_or_false false e h = absurd cc

some_or_none : {A B : Type 0} (o : Option A) (a : A) → o ≡ Some a → o ≡ None → B
some_or_none None a e h = absurd cc
some_or_none (Some b) a e h = absurd cc

in_order_later : (n : ℕ) (front back : List Word) (w : Word) → InOrder n (front ++ w ∷ back) → n ≤ w.at
in_order_later n [] back w o = o.0
in_order_later n (x ∷ front) back w o =
    let l = in_order_later (x.at + 1) front back w o.1 in
    let k = o.0 in
    omega (arith, k, l)

not_before : (n : ℕ) (w : Word) (ws : List Word) → InOrder n (w ∷ ws) → (front back : List Word) (u : Word) → w ∷ ws ≡ front ++ u ∷ back → w.at ≤ u.at
not_before n w ws o [] back u e = subst (λ (z : Word). w.at ≤ z.at) (first_is e) (omega arith)
not_before n w ws o (x ∷ front) back u e =
    let l = in_order_later (w.at + 1) front back u (subst (λ (zs : List Word). InOrder (w.at + 1) zs) (later_is e) o.1) in
    omega (arith, l)

-- ---- strangers

no_stranger : {s : List Attr} {g : TypeFault} → IsStranger s [] g → ⊥
no_stranger (stranger front back w e k) = nothing_there front back w e

stranger_behind : {s : List Attr} {w : Word} {ws : List Word} {g : TypeFault} → IsStranger s ws g → IsStranger s (w ∷ ws) g
stranger_behind {w = w} (stranger front back u e k) = stranger (w ∷ front) back u (ap (λ zs. w ∷ zs) e) k

stranger_later : {s : List Attr} {w : Word} {ws : List Word} {g : TypeFault} (i : ℕ) → place_named w.name s ≡ Some i → IsStranger s (w ∷ ws) g → IsStranger s ws g
stranger_later {s = s} {w = w} i h (stranger [] back u e k) =
    some_or_none (place_named w.name s) i h (ap (λ (z : Word). place_named z.name s) (first_is e) ∙ k)
stranger_later i h (stranger (x ∷ front) back u e k) = stranger front back u (later_is e) k

stranger_least : {s : List Attr} {g : TypeFault} (n : ℕ) (w : Word) (ws : List Word) → InOrder n (w ∷ ws) → IsStranger s (w ∷ ws) g → IsFirst (faults.Unknown w.at) g
stranger_least n w ws o (stranger front back u e k) = inr (refl, not_before n w ws o front back u e)

pub first_stranger : (s : List Attr) (n : ℕ) (ws : List Word) → InOrder n ws → First (IsStranger s ws) (stranger_in s ws)
first_stranger s n [] o = none (λ g h. no_stranger h)
first_stranger s n (w ∷ ws) o = by (place_named w.name s) refl (stranger_in s ws) (first_stranger s (w.at + 1) ws o.1)
  where
    by : (p : Option ℕ) → place_named w.name s ≡ p → (r : Option TypeFault) → First (IsStranger s ws) r → First (IsStranger s (w ∷ ws)) (cond (is_some p) r (Some (faults.Unknown w.at)))
    by None k r ih = some (stranger [] ws w refl k) (λ g h. stranger_least n w ws o h)
    by (Some i) k None (none h) = none (λ g x. h g (stranger_later i k x))
    by (Some i) k (Some f) (some x least) = some (stranger_behind x) (λ g y. least g (stranger_later i k y))

-- ---- repeats

no_repeat : {seen : List (List ℕ)} {g : TypeFault} → IsRepeat seen [] g → ⊥
no_repeat (again front back w e k) = nothing_there front back w e

repeat_behind : {seen : List (List ℕ)} {w : Word} {ws : List Word} {g : TypeFault} → IsRepeat (seen ++ w.name ∷ []) ws g → IsRepeat seen (w ∷ ws) g
repeat_behind {seen = seen} {w = w} (again front back u e k) =
    again (w ∷ front) back u (ap (λ zs. w ∷ zs) e) (ap (λ (zs : List (List ℕ)). holds zs u.name) (sym (append_assoc seen (w.name ∷ []) (word_names front))) ∙ k)

repeat_later : {seen : List (List ℕ)} {w : Word} {ws : List Word} {g : TypeFault} → holds seen w.name ≡ false → IsRepeat seen (w ∷ ws) g → IsRepeat (seen ++ w.name ∷ []) ws g
repeat_later {seen = seen} {w = w} h (again [] back u e k) =
    true_or_false (holds seen w.name) (ap (λ (zs : List (List ℕ)). holds zs w.name) (sym (append-nil seen)) ∙ ap (λ (z : Word). holds (seen ++ []) z.name) (first_is e) ∙ k) h
repeat_later {seen = seen} {w = w} h (again (x ∷ front) back u e k) =
    again front back u (later_is e)
    (ap (λ (zs : List (List ℕ)). holds zs u.name) (append_assoc seen (w.name ∷ []) (word_names front)) ∙ ap (λ (z : Word). holds (seen ++ z.name ∷ word_names front) u.name) (first_is e) ∙ k)

repeat_least : {seen : List (List ℕ)} {g : TypeFault} (n : ℕ) (w : Word) (ws : List Word) → InOrder n (w ∷ ws) → IsRepeat seen (w ∷ ws) g → IsFirst (faults.Repeated w.at) g
repeat_least n w ws o (again front back u e k) = inr (refl, not_before n w ws o front back u e)

pub first_repeat : (seen : List (List ℕ)) (n : ℕ) (ws : List Word) → InOrder n ws → First (IsRepeat seen ws) (repeat_in seen ws)
first_repeat seen n [] o = none (λ g h. no_repeat h)
first_repeat seen n (w ∷ ws) o = by (holds seen w.name) refl (repeat_in (seen ++ w.name ∷ []) ws) (first_repeat (seen ++ w.name ∷ []) (w.at + 1) ws o.1)
  where
    by : (b : Bool) → holds seen w.name ≡ b → (r : Option TypeFault) → First (IsRepeat (seen ++ w.name ∷ []) ws) r → First (IsRepeat seen (w ∷ ws)) (cond b (Some (faults.Repeated w.at)) r)
    by true k r ih = some (again [] ws w refl (ap (λ (zs : List (List ℕ)). holds zs w.name) (append-nil seen) ∙ k)) (λ g h. repeat_least n w ws o h)
    by false k None (none h) = none (λ g x. h g (repeat_later k x))
    by false k (Some f) (some x least) = some (repeat_behind x) (λ g y. least g (repeat_later k y))

-- ---- words behind words

pub stranger_append : (s : List Attr) (xs ys : List Word) → stranger_in s (xs ++ ys) ≡ either (stranger_in s xs) (stranger_in s ys)
stranger_append s [] ys = refl
stranger_append s (w ∷ xs) ys = by (is_some (place_named w.name s)) (stranger_append s xs ys)
  where
    by : (b : Bool) → stranger_in s (xs ++ ys) ≡ either (stranger_in s xs) (stranger_in s ys) →
        cond b (stranger_in s (xs ++ ys)) (Some (faults.Unknown w.at)) ≡ either (cond b (stranger_in s xs) (Some (faults.Unknown w.at))) (stranger_in s ys)
    by true e = e
    by false e = refl

pub repeat_append : (seen : List (List ℕ)) (xs ys : List Word) → repeat_in seen (xs ++ ys) ≡ either (repeat_in seen xs) (repeat_in (seen ++ word_names xs) ys)
repeat_append seen [] ys = ap (λ (zs : List (List ℕ)). repeat_in zs ys) (sym (append-nil seen))
repeat_append seen (w ∷ xs) ys = by (holds seen w.name)
    (repeat_append (seen ++ w.name ∷ []) xs ys ∙ ap (λ (zs : List (List ℕ)). either (repeat_in (seen ++ w.name ∷ []) xs) (repeat_in zs ys)) (append_assoc seen (w.name ∷ []) (word_names xs)))
  where
    by : (b : Bool) → repeat_in (seen ++ w.name ∷ []) (xs ++ ys) ≡ either (repeat_in (seen ++ w.name ∷ []) xs) (repeat_in (seen ++ w.name ∷ word_names xs) ys) →
        cond b (Some (faults.Repeated w.at)) (repeat_in (seen ++ w.name ∷ []) (xs ++ ys)) ≡ either (cond b (Some (faults.Repeated w.at)) (repeat_in (seen ++ w.name ∷ []) xs)) (repeat_in (seen ++ w.name ∷ word_names xs) ys)
    by true e = refl
    by false e = e
