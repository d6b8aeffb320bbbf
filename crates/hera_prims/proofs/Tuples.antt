-- The rows of operands, put in one by one.
use Rattle.std.proofs.Common.{◌≡◌, ℕ, zero, suc, ◌+◌, ◌<◌, ◌≤◌, true, false, List, [], ◌∷◌, ◌++◌, length, take, map, refl, sym, ap, ◌∙◌, arith}
use Rattle.hera_sets.specs.Rows.{put, normal}
use Rattle.hera_sets.proofs.Members.{normal-push}
use Rattle.hera_meaning.specs.declared.trees.TrapName.TheVariants.{ReadFail}
use Rattle.hera_meaning.specs.Deltas.{Atom, Delta, fail, atoms, is_fail, rows_named}
use Rattle.hera_meaning.specs.Values.{Value, table, row_in, operand}
use Rattle.hera_meaning.specs.Primitives.{gives, refuses, read_delta}
use Rattle.delta_atoms.specs.Atoms.{atoms_in}

taken_more : (vs : List Value) (i : ℕ) → i < length vs → map row_in (take (i + 1) vs) ≡ map row_in (take i vs) ++ row_in (operand vs i) ∷ []
taken_more [] i h = absurd (omega (arith, h))
taken_more (v ∷ vs) zero h = refl
taken_more (v ∷ vs) (suc i) h =
    let e : suc i + 1 ≡ suc (i + 1) = omega arith in
    ap (λ k. map row_in (take k (v ∷ vs))) e ∙ ap (λ xs. row_in v ∷ xs) (taken_more vs i (omega (arith, h)))

pub normal_more : (vs : List Value) (i : ℕ) → i < length vs → put (row_in (operand vs i)) (normal (map row_in (take i vs))) ≡ normal (map row_in (take (i + 1) vs))
normal_more vs i h = sym (ap normal (taken_more vs i h) ∙ normal-push (map row_in (take i vs)) (row_in (operand vs i)))

pub taken_all : (vs : List Value) (i : ℕ) → length vs ≤ i → take i vs ≡ vs
taken_all [] zero h = refl
taken_all [] (suc i) h = refl
taken_all (v ∷ vs) zero h = absurd (omega (arith, h))
taken_all (v ∷ vs) (suc i) h = ap (λ xs. v ∷ xs) (taken_all vs i (omega (arith, h)))

-- ---- the rows that a delta has of a relation

pub read_known : (part : List Atom → List Atom) (r : ℕ) (d : Delta) → is_fail d ≡ false → read_delta part r d ≡ gives (table (rows_named r (part (atoms_in d))))
read_known part r fail h = cc
read_known part r (atoms xs) h = refl

pub read_fail : (part : List Atom → List Atom) (r : ℕ) (d : Delta) → is_fail d ≡ true → read_delta part r d ≡ refuses ReadFail
read_fail part r fail h = refl
read_fail part r (atoms xs) h = cc

pub ruleset reading = (read_known, read_fail)
