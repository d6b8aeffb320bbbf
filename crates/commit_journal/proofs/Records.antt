-- Records written atom by atom.
use Rattle.std.proofs.Common.{◌≡◌, ◌≤◌, ℕ, ◌+◌, ◌*◌, List, [], ◌∷◌, ◌++◌, Option, Some, None, length, refl, sym, ap, ◌∙◌, append_assoc, length-append, arith}
use Rattle.std.specs.List.{filter, find, flat_map}
use Rattle.std.specs.Int.{to_be_bytes, w16, w32}
use Rattle.hera_sets.specs.Rows.{Row, IsAscending}
use Rattle.hera_meaning.specs.Deltas.{Atom, key_of, keys_of}
use Rattle.delta_atoms.specs.Atoms.{is_after}
use Rattle.delta_atoms.proofs.Walks.{filter_after_step, filter_none_found}
use Rattle.rel_format.specs.Journal.{atom_bytes, record_of}

length_two : (n : ℕ) → length (to_be_bytes w16 n) ≡ 2
length_two n = refl

length_four : (n : ℕ) → length (to_be_bytes w32 n) ≡ 4
length_four n = refl

pub length_atom : (a : Atom) → length (atom_bytes a) ≡ 3 + length a.row
length_atom a = omega (arith, length-append (to_be_bytes w16 a.rel) a.row, length_two a.rel)

pub length_record : (xs : List Atom) → length (record_of xs) ≡ 4 + length (flat_map atom_bytes xs)
length_record xs = omega (arith, length-append (to_be_bytes w32 (length xs)) (flat_map atom_bytes xs), length_four (length xs))

-- an atom has three bytes at least
pub few_atoms : (xs : List Atom) → 3 * length xs ≤ length (flat_map atom_bytes xs)
few_atoms [] = omega arith
few_atoms (a ∷ xs) = let more = few_atoms xs in omega (arith, more, length_atom a, length-append (atom_bytes a) (flat_map atom_bytes xs))

-- one atom more
pub record_on : (out whole : List ℕ) (xs : List Atom) (b : Option Row) (a : Atom) → IsAscending (keys_of xs) → find (is_after b) xs ≡ Some a → out ++ flat_map atom_bytes (filter (is_after b) xs) ≡ whole →
    (out ++ atom_bytes a) ++ flat_map atom_bytes (filter (is_after (Some (key_of a))) xs) ≡ whole
record_on out whole xs b a up h e =
    append_assoc out (atom_bytes a) (flat_map atom_bytes (filter (is_after (Some (key_of a))) xs)) ∙ ap (λ (ys : List Atom). out ++ flat_map atom_bytes ys) (sym (filter_after_step b xs a up h)) ∙ e

pub length_on : (n m : ℕ) (xs : List Atom) (b : Option Row) (a : Atom) → IsAscending (keys_of xs) → find (is_after b) xs ≡ Some a → n + length (flat_map atom_bytes (filter (is_after b) xs)) ≡ m →
    n + (3 + length a.row) + length (flat_map atom_bytes (filter (is_after (Some (key_of a))) xs)) ≡ m
length_on n m xs b a up h e =
    let rest = filter (is_after (Some (key_of a))) xs in
    let same = ap (λ (ys : List Atom). length (flat_map atom_bytes ys)) (filter_after_step b xs a up h) in
    omega (arith, e, same, length_atom a, length-append (atom_bytes a) (flat_map atom_bytes rest))

-- no atom more
pub record_end : (out whole : List ℕ) (xs : List Atom) (b : Option Row) → find (is_after b) xs ≡ None → out ++ flat_map atom_bytes (filter (is_after b) xs) ≡ whole → out ≡ whole
record_end out whole xs b h e =
    let none = ap (λ (ys : List Atom). out ++ flat_map atom_bytes ys) (filter_none_found (is_after b) xs h) in
    sym (simp_nil out) ∙ sym none ∙ e
  where
    simp_nil : (zs : List ℕ) → zs ++ flat_map atom_bytes [] ≡ zs
    simp_nil [] = refl
    simp_nil (z ∷ zs) = ap (λ (t : List ℕ). z ∷ t) (simp_nil zs)

pub length_end : (n m : ℕ) (xs : List Atom) (b : Option Row) → find (is_after b) xs ≡ None → n + length (flat_map atom_bytes (filter (is_after b) xs)) ≡ m → n ≡ m
length_end n m xs b h e =
    let none = ap (λ (ys : List Atom). length (flat_map atom_bytes ys)) (filter_none_found (is_after b) xs h) in
    omega (arith, none, e)
