-- What an addition does to a state.
use Rattle.std.proofs.Common.{◌≡◌, ◌<◌, ◌+◌, ◌∙◌, ℕ, zero, suc, Bool, true, false, cond, not, List, [], ◌∷◌, ◌++◌, length, refl, ap, subst, arith, append-nil}
use Rattle.std.specs.Prelude.{filter, map, nat_eq}
use Rattle.std.proofs.lemmas.Bool.{eq-eqb, eqb-true, false_from_ne_true}
use Rattle.hera_sets.specs.Rows.{Row, holds, normal}
use Rattle.hera_sets.specs.Sets.{union_of}
use Rattle.hera_sets.proofs.Members.{normal_ascending}
use Rattle.hera_meaning.specs.declared.scalars.Sign.TheVariants.{Plus}
use Rattle.hera_meaning.specs.declared.schemas.RelDecl.{RelDecl}
use Rattle.hera_meaning.specs.Deltas.{State, IsState, Atom, rows_at, rows_named, plus_atoms, minus_atoms, apply_to, apply_from, apply_of}
use Rattle.delta_atoms.specs.Atoms.{bulk_of}
use Rattle.hera_transfer.specs.Transfers.{addition}

all_plus : (rel : ℕ) (rows : List Row) → plus_atoms (bulk_of Plus rel rows) ≡ bulk_of Plus rel rows
all_plus rel [] = refl
all_plus rel (x ∷ rows) = ap (λ (xs : List Atom). record { sign = Plus; rel = rel; row = x } ∷ xs) (all_plus rel rows)

no_minus : (rel : ℕ) (rows : List Row) → minus_atoms (bulk_of Plus rel rows) ≡ []
no_minus rel [] = refl
no_minus rel (x ∷ rows) = no_minus rel rows

named_by : (r rel : ℕ) (rows : List Row) (b : Bool) → nat_eq rel r ≡ b → rows_named r (bulk_of Plus rel rows) ≡ cond b rows []
named_by r rel [] true is = refl
named_by r rel [] false is = refl
named_by r rel (x ∷ rows) true is =
    ap (λ (c : Bool). map (λ (a : Atom). a.row) (cond c (record { sign = Plus; rel = rel; row = x } ∷ filter (λ (a : Atom). nat_eq a.rel r) (bulk_of Plus rel rows)) (filter (λ (a : Atom). nat_eq a.rel r) (bulk_of Plus rel rows)))) is
    ∙ ap (λ (xs : List Row). x ∷ xs) (named_by r rel rows true is)
named_by r rel (x ∷ rows) false is =
    ap (λ (c : Bool). map (λ (a : Atom). a.row) (cond c (record { sign = Plus; rel = rel; row = x } ∷ filter (λ (a : Atom). nat_eq a.rel r) (bulk_of Plus rel rows)) (filter (λ (a : Atom). nat_eq a.rel r) (bulk_of Plus rel rows)))) is
    ∙ named_by r rel rows false is

-- nothing is taken away
keep_all : (xs : List Row) → filter (λ (x : Row). not (holds [] x)) xs ≡ xs
keep_all [] = refl
keep_all (x ∷ xs) = ap (λ (ys : List Row). x ∷ ys) (keep_all xs)

to_one : (r rel : ℕ) (old rows : List Row) (b : Bool) → nat_eq rel r ≡ b → apply_to r old (bulk_of Plus rel rows) ≡ normal (old ++ cond b rows [])
to_one r rel old rows b is =
    ap (λ (xs : List Atom). filter (λ (x : Row). not (holds (rows_named r xs) x)) (normal (old ++ rows_named r (plus_atoms (bulk_of Plus rel rows))))) (no_minus rel rows)
    ∙ keep_all (normal (old ++ rows_named r (plus_atoms (bulk_of Plus rel rows))))
    ∙ ap (λ (xs : List Atom). normal (old ++ rows_named r xs)) (all_plus rel rows)
    ∙ ap (λ (xs : List Row). normal (old ++ xs)) (named_by r rel rows b is)

eq_self : (n : ℕ) → nat_eq n n ≡ true
eq_self n = eq-eqb n n refl

eq_other : (n m : ℕ) → (n ≡ m → ⊥) → nat_eq n m ≡ false
eq_other n m other = false_from_ne_true (nat_eq n m) (λ e. other (eqb-true n m e))

-- the relation that is k places behind the first of some
pub united_from : (first k : ℕ) (s : State) (rows : List Row) → k < length s → rows_at (apply_from first s (bulk_of Plus (first + k) rows)) k ≡ union_of (rows_at s k) rows
united_from first k [] rows lt = absurd (omega (arith, lt))
united_from first zero (old ∷ s) rows lt = to_one first (first + 0) old rows true (subst (λ (n : ℕ). nat_eq n first ≡ true) (omega arith) (eq_self first))
united_from first (suc k) (old ∷ s) rows lt =
    subst (λ (n : ℕ). rows_at (apply_from (suc first) s (bulk_of Plus n rows)) k ≡ union_of (rows_at s k) rows) (omega arith) (united_from (suc first) k s rows (omega (arith, lt)))

pub others_from : (first rel k : ℕ) (rels : List RelDecl) (s : State) (rows : List Row) → IsState rels s → (rel ≡ first + k → ⊥) → rows_at (apply_from first s (bulk_of Plus rel rows)) k ≡ rows_at s k
others_from first rel k rels [] rows valid other = refl
others_from first rel k [] (old ∷ s) rows valid other = absurd valid
others_from first rel zero (d ∷ rels) (old ∷ s) rows valid other =
    to_one first rel old rows false (eq_other rel first (λ e. other (omega (arith, e)))) ∙ ap normal (append-nil old) ∙ normal_ascending old valid.0.0
others_from first rel (suc k) (d ∷ rels) (old ∷ s) rows valid other = others_from (suc first) rel k rels s rows valid.1 (λ e. other (omega (arith, e)))

pub united : (s : State) (rel : ℕ) (rows : List Row) → rel < length s → rows_at (apply_of s (addition rel rows)) rel ≡ union_of (rows_at s rel) rows
united s rel rows lt = subst (λ (n : ℕ). rows_at (apply_from 0 s (bulk_of Plus n rows)) rel ≡ union_of (rows_at s rel) rows) (omega arith) (united_from 0 rel s rows lt)

pub others : (rels : List RelDecl) (s : State) (rel other : ℕ) (rows : List Row) → IsState rels s → (other ≡ rel → ⊥) → rows_at (apply_of s (addition rel rows)) other ≡ rows_at s other
others rels s rel other rows valid apart = others_from 0 rel other rels s rows valid (λ e. apart (omega (arith, e)))
