-- A smash of deltas of a catalogue is one.
use Rattle.std.proofs.Common.{◌≡◌, Bool, true, false, cond, not, List, [], ◌∷◌, ◌++◌, filter, refl}
use Rattle.std.specs.List.{list_all}
use Rattle.std.proofs.lemmas.Bool.{and_parts, and_from}
use Rattle.hera_sets.specs.Rows.{holds, is_below}
use Rattle.hera_meaning.specs.declared.schemas.RelDecl.{RelDecl}
use Rattle.hera_meaning.specs.Deltas.{Atom, Delta, fail, atoms, key_of, keys_of, put_atom, in_order, unnamed, smash_of}
use Rattle.hera_meaning.specs.Fits.{is_atom_of, is_delta_of}

module _ (p : Atom → Bool) where
  all_filter : (q : Atom → Bool) (xs : List Atom) → list_all p xs ≡ true → list_all p (filter q xs) ≡ true
  all_filter q [] h = refl
  all_filter q (x ∷ xs) h =
      let parts = and_parts (p x) (list_all p xs) h in
      elim (q x) as (λ b. list_all p (cond b (x ∷ filter q xs) (filter q xs)) ≡ true) [
        | true ↦ and_from (p x) (list_all p (filter q xs)) parts.0 (all_filter q xs parts.1)
        | false ↦ all_filter q xs parts.1
      ]

  all_append : (xs ys : List Atom) → list_all p xs ≡ true → list_all p ys ≡ true → list_all p (xs ++ ys) ≡ true
  all_append [] ys h g = g
  all_append (x ∷ xs) ys h g =
      let parts = and_parts (p x) (list_all p xs) h in
      and_from (p x) (list_all p (xs ++ ys)) parts.0 (all_append xs ys parts.1 g)

  all_put : (a : Atom) (xs : List Atom) → p a ≡ true → list_all p xs ≡ true → list_all p (put_atom a xs) ≡ true
  all_put a [] h g = and_from (p a) true h refl
  all_put a (b ∷ rest) h g =
      let parts = and_parts (p b) (list_all p rest) g in
      elim (is_below (key_of b) (key_of a)) as (λ c. list_all p (cond c (b ∷ put_atom a rest) (a ∷ b ∷ rest)) ≡ true) [
        | true ↦ and_from (p b) (list_all p (put_atom a rest)) parts.0 (all_put a rest h parts.1)
        | false ↦ and_from (p a) (list_all p (b ∷ rest)) h g
      ]

  all_in_order : (xs : List Atom) → list_all p xs ≡ true → list_all p (in_order xs) ≡ true
  all_in_order [] h = refl
  all_in_order (x ∷ xs) h =
      let parts = and_parts (p x) (list_all p xs) h in
      all_put x (in_order xs) parts.0 (all_in_order xs parts.1)

pub smash_known : (rels : List RelDecl) (a b : Delta) → is_delta_of rels a ≡ true → is_delta_of rels b ≡ true → is_delta_of rels (smash_of a b) ≡ true
smash_known rels fail b h g = refl
smash_known rels (atoms xs) fail h g = refl
smash_known rels (atoms xs) (atoms ys) h g =
    all_in_order (is_atom_of rels) (ys ++ unnamed xs ys) (all_append (is_atom_of rels) ys (unnamed xs ys) g (all_filter (is_atom_of rels) (λ a. not (holds (keys_of ys) (key_of a))) xs h))
