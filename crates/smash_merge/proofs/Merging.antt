-- Whether two deltas clash, seen from the second.
use Rattle.std.proofs.Common.{◌≡◌, Bool, true, false, ◌||◌, List, [], ◌∷◌, Option, Some, None, refl, sym, ap, ◌∙◌}
use Rattle.std.specs.List.{filter, find}
use Rattle.std.proofs.lemmas.Bool.{both_ways}
use Rattle.hera_sets.specs.Rows.{Row, is_same, IsAscending, holds}
use Rattle.hera_sets.proofs.Order.{before, level, behind, stands}
use Rattle.hera_meaning.specs.Deltas.{Atom, key_of, keys_of, plus_atoms, minus_atoms, have_common, clash}
use Rattle.delta_atoms.specs.Atoms.{is_after}
use Rattle.delta_atoms.proofs.Walks.{filter_after_none, filter_after_step, filter_none_found}
use Rattle.smash_merge.proofs.JointWalk.{crossed, any_crossed, clash-crossed}

same_swap : (a b : Row) → is_same a b ≡ is_same b a
same_swap a b =
    elim (stands a b) [
      | level e p q s ↦ λ i. is_same (e i) (sym e i)
      | before p q s ↦ s ∙ sym (elim (stands b a) [
        | level e u v t ↦ absurd (both_ways _ v p)
        | before u v t ↦ t
        | behind u v t ↦ t
      ])
      | behind p q s ↦ s ∙ sym (elim (stands b a) [
        | level e u v t ↦ absurd (both_ways _ u p)
        | before u v t ↦ t
        | behind u v t ↦ t
      ])
    ]

-- ---- a common key, from either list

or_turn : (p q r s : Bool) → ((p || q) || (r || s)) ≡ ((p || r) || (q || s))
or_turn true q r s = refl
or_turn false true true s = refl
or_turn false true false s = refl
or_turn false false r s = refl

or_comm : (p q : Bool) → (p || q) ≡ (q || p)
or_comm true true = refl
or_comm true false = refl
or_comm false true = refl
or_comm false false = refl

common_cons : (xs : List Atom) (y : Atom) (ys : List Atom) → have_common xs (y ∷ ys) ≡ (holds (keys_of xs) (key_of y) || have_common xs ys)
common_cons [] y ys = refl
common_cons (x ∷ xs) y ys =
    (λ i. (same_swap (key_of x) (key_of y) i || holds (keys_of ys) (key_of x)) || common_cons xs y ys i)
    ∙ or_turn (is_same (key_of y) (key_of x)) (holds (keys_of ys) (key_of x)) (holds (keys_of xs) (key_of y)) (have_common xs ys)

common_none : (ys : List Atom) → false ≡ have_common ys []
common_none [] = refl
common_none (y ∷ ys) = common_none ys

common_swap : (xs ys : List Atom) → have_common xs ys ≡ have_common ys xs
common_swap [] ys = common_none ys
common_swap (x ∷ xs) ys = (λ i. holds (keys_of ys) (key_of x) || common_swap xs ys i) ∙ sym (common_cons ys x xs)

pub clash_swap : (xs ys : List Atom) → clash xs ys ≡ clash ys xs
clash_swap xs ys =
    (λ i. common_swap (plus_atoms xs) (minus_atoms ys) i || common_swap (minus_atoms xs) (plus_atoms ys) i)
    ∙ or_comm (have_common (minus_atoms ys) (plus_atoms xs)) (have_common (plus_atoms ys) (minus_atoms xs))

-- ---- the walk that looks for a clash

pub crossed_start : (xs ys : List Atom) → any_crossed (filter (is_after None) ys) xs ≡ any_crossed ys xs
crossed_start xs ys = ap (λ t. any_crossed t xs) (filter_after_none ys)

pub crossed_step : (xs ys : List Atom) (b : Option Row) (y : Atom) → IsAscending (keys_of ys) → find (is_after b) ys ≡ Some y → any_crossed (filter (is_after b) ys) xs ≡ (crossed xs y || any_crossed (filter (is_after (Some (key_of y))) ys) xs)
crossed_step xs ys b y up h = ap (λ t. any_crossed t xs) (filter_after_step b ys y up h)

pub crossed_end : (xs ys : List Atom) (b : Option Row) → find (is_after b) ys ≡ None → any_crossed (filter (is_after b) ys) xs ≡ false
crossed_end xs ys b h = ap (λ t. any_crossed t xs) (filter_none_found (is_after b) ys h)

-- what is seen from the second delta is seen from the first
pub clash_seen : (xs ys : List Atom) → IsAscending (keys_of xs) → clash xs ys ≡ any_crossed ys xs
clash_seen xs ys up = clash_swap xs ys ∙ clash-crossed ys xs up
