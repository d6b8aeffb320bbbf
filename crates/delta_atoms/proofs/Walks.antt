-- Walks over atoms in order.
use Rattle.std.proofs.Common.{◌≡◌, Bool, true, false, cond, List, [], ◌∷◌, ◌++◌, Option, Some, None, refl, sym, ap, ◌∙◌, subst, ◌<◌, length, arith, append_assoc}
use Rattle.std.specs.List.{filter, find}
use Rattle.std.proofs.lemmas.Bool.{both_ways}
use Rattle.std.proofs.lemmas.Option.{none-some, same_Some}
use Rattle.std.proofs.lemmas.List.{append-nil}
use Rattle.hera_sets.specs.Rows.{Row, is_below, is_past, IsBelowAll, IsAscending}
use Rattle.hera_sets.proofs.Order.{below_itself}
use Rattle.hera_sets.proofs.Lists.{past_trans, ascending_front}
use Rattle.hera_meaning.specs.Deltas.{Atom, key_of, keys_of}
use Rattle.delta_atoms.specs.Atoms.{is_after}
use Rattle.delta_atoms.proofs.Signs.{keys_of-append}

pub filter_after_none : (xs : List Atom) → filter (is_after None) xs ≡ xs
filter_after_none [] = refl
filter_after_none (x ∷ xs) = ap (λ t. x ∷ t) (filter_after_none xs)

-- nothing found, nothing kept
pub filter_none_found : (p : Atom → Bool) (xs : List Atom) → find p xs ≡ None → filter p xs ≡ []
filter_none_found p [] h = refl
filter_none_found p (x ∷ xs) h =
    elim (p x) as (λ b. cond b (Some x) (find p xs) ≡ None → cond b (x ∷ filter p xs) (filter p xs) ≡ []) [
      | true ↦ λ g. absurd (none-some x (sym g))
      | false ↦ λ g. filter_none_found p xs g
    ] h

pub find_passes : (p : Atom → Bool) (xs : List Atom) (a : Atom) → find p xs ≡ Some a → p a ≡ true
find_passes p [] a h = absurd (none-some a h)
find_passes p (x ∷ xs) a h =
    elim (p x) as (λ b. p x ≡ b → cond b (Some x) (find p xs) ≡ Some a → p a ≡ true) [
      | true ↦ λ e g. subst (λ y. p y ≡ true) (same_Some x a g) e
      | false ↦ λ e g. find_passes p xs a g
    ] refl h

filter_all_after : (b : Option Row) (x : Row) (xs : List Atom) → is_past b x ≡ true → IsBelowAll x (keys_of xs) → filter (is_after b) xs ≡ xs
filter_all_after b x [] h all = refl
filter_all_after b x (y ∷ xs) h all = rw (past_trans b x (key_of y) h all.0) (ap (λ t. y ∷ t) (filter_all_after b x xs h all.1))

filter_only_after : (x : Atom) (xs : List Atom) → IsBelowAll (key_of x) (keys_of xs) → filter (is_after (Some (key_of x))) xs ≡ xs
filter_only_after x [] all = refl
filter_only_after x (y ∷ xs) all = rw all.0 (ap (λ t. y ∷ t) (filter_only_after x xs all.1))

not_below_after : (b : Option Row) (r x : Row) → is_past b r ≡ true → is_past b x ≡ false → is_below r x ≡ false
not_below_after b r x h g =
    elim (is_below r x) as (λ v. is_below r x ≡ v → v ≡ false) [
      | true ↦ λ e. absurd (both_ways _ g (past_trans b r x h e))
      | false ↦ λ e. refl
    ] refl

-- the first atom past b, and then the atoms past that one, are the atoms past b
pub filter_after_step : (b : Option Row) (xs : List Atom) (a : Atom) → IsAscending (keys_of xs) → find (is_after b) xs ≡ Some a → filter (is_after b) xs ≡ a ∷ filter (is_after (Some (key_of a))) xs
filter_after_step b [] a up h = absurd (none-some a h)
filter_after_step b (x ∷ xs) a up h =
    elim (is_past b (key_of x)) as (λ v. is_past b (key_of x) ≡ v → cond v (Some x) (find (is_after b) xs) ≡ Some a → cond v (x ∷ filter (is_after b) xs) (filter (is_after b) xs) ≡ a ∷ filter (is_after (Some (key_of a))) (x ∷ xs)) [
      | true ↦ λ e g.
          let same : x ≡ a = same_Some x a g in
          let P : Atom → Type 0 = λ y. x ∷ filter (is_after b) xs ≡ y ∷ filter (is_after (Some (key_of y))) (x ∷ xs) in
          subst P same (rw (below_itself (key_of x), filter_all_after b (key_of x) xs e up.0, filter_only_after x xs up.0) refl)
      | false ↦ λ e g. rw (not_below_after b (key_of a) (key_of x) (find_passes (is_after b) xs a g) e) (filter_after_step b xs a up.1 g)
    ] refl h

-- a walk's step: the atoms done, and those past the last one, are all atoms
pub walk_step : (done xs : List Atom) (b : Option Row) (a : Atom) → IsAscending (keys_of xs) → find (is_after b) xs ≡ Some a → done ++ filter (is_after b) xs ≡ xs → (done ++ a ∷ []) ++ filter (is_after (Some (key_of a))) xs ≡ xs
walk_step done xs b a up h e = append_assoc done (a ∷ []) (filter (is_after (Some (key_of a))) xs) ∙ ap (λ t. done ++ t) (sym (filter_after_step b xs a up h)) ∙ e

pub ascending_front_keys : (xs ys : List Atom) → IsAscending (keys_of (xs ++ ys)) → IsAscending (keys_of xs)
ascending_front_keys xs ys up = ascending_front (keys_of xs) (keys_of ys) (subst IsAscending (keys_of-append xs ys) up)

-- and the atom may be pushed
pub walk_push : (done xs : List Atom) (b : Option Row) (a : Atom) → IsAscending (keys_of xs) → find (is_after b) xs ≡ Some a → done ++ filter (is_after b) xs ≡ xs → IsAscending (keys_of (done ++ a ∷ []))
walk_push done xs b a up h e = ascending_front_keys (done ++ a ∷ []) (filter (is_after (Some (key_of a))) xs) (subst (λ (t : List Atom). IsAscending (keys_of t)) (sym (walk_step done xs b a up h e)) up)

pub walk_end : (done xs : List Atom) (b : Option Row) → find (is_after b) xs ≡ None → done ++ filter (is_after b) xs ≡ xs → done ≡ xs
walk_end done xs b h e = sym (append-nil done) ∙ ap (λ t. done ++ t) (sym (filter_none_found (is_after b) xs h)) ∙ e

-- a walk ends
pub walk_falls : (xs : List Atom) (b : Option Row) (a : Atom) → IsAscending (keys_of xs) → find (is_after b) xs ≡ Some a → length (filter (is_after (Some (key_of a))) xs) < length (filter (is_after b) xs)
walk_falls xs b a up h = rw (filter_after_step b xs a up h) (omega arith)
