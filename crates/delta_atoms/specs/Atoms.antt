-- The atoms of a delta by their sign, relation and row.
use Rattle.std.specs.Prelude.{ℕ, Bool, cond, List, [], ◌∷◌, ◌++◌, map, nat_eq, Option, None, Some}
use Rattle.std.specs.List.{list_any}
use Rattle.hera_sets.specs.Rows.{Row, is_same, is_past}
use Rattle.hera_meaning.specs.declared.scalars.Sign.{Sign}
use Rattle.hera_meaning.specs.declared.scalars.Sign.TheVariants.{Plus, Minus}
use Rattle.hera_meaning.specs.Deltas.{Atom, Delta, fail, atoms, key_of, plus_atoms, minus_atoms, rows_named}

abbrev pub atom_of : Sign → ℕ → Row → Atom
atom_of s n r = record { sign = s; rel = n; row = r }

-- the rows of a relation, each with the sign
abbrev pub bulk_of : Sign → ℕ → List Row → List Atom
bulk_of s n rows = map (atom_of s n) rows

-- the atoms of a delta, none of `fail`
abbrev pub atoms_in : Delta → List Atom
atoms_in fail = []
atoms_in (atoms xs) = xs

-- the sign of the first atom with the key, which is a relation and then a row
abbrev pub sign_at : List Atom → Row → Option Sign
sign_at [] k = None
sign_at (a ∷ xs) k = cond (is_same k (key_of a)) (Some a.sign) (sign_at xs k)

-- some atom is of relation n
abbrev pub have_relation : List Atom → ℕ → Bool
have_relation xs n = list_any (λ a. nat_eq a.rel n) xs

-- the atoms with the sign
abbrev pub signed : Sign → List Atom → List Atom
signed Plus xs = plus_atoms xs
signed Minus xs = minus_atoms xs

-- the rows of relation n that have the sign
abbrev pub part_of : List Atom → ℕ → Sign → List Row
part_of xs n s = rows_named n (signed s xs)

-- the delta with one atom more, behind all others
abbrev pub with_last : Delta → Atom → Delta
with_last fail a = fail
with_last (atoms xs) a = atoms (xs ++ a ∷ [])

-- the atom lies past a key: no key lets every atom pass
abbrev pub is_after : Option Row → Atom → Bool
is_after bound a = is_past bound (key_of a)
