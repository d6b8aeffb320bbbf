-- The tests of equality are exact.
use Rattle.std.proofs.Common.{◌≡◌, Bool, true, ◌↔◌, List, [], ◌∷◌, refl, ap, ◌∙◌, subst}
use Rattle.std.specs.Prelude.{IsTrue}
use Rattle.std.proofs.lemmas.Bool.{and_parts, and_from}
use Rattle.hera_sets.specs.Rows.{Row, is_same}
use Rattle.hera_sets.proofs.Order.{same_true, same_itself}
use Rattle.hera_meaning.specs.Deltas.{Atom, Delta, fail, atoms}
use Rattle.hera_meaning.specs.Values.{same_rows, same_atom, same_atoms, same_delta}
use Rattle.hera_meaning.proofs.Bools.{same_truth}
use Rattle.delta_atoms.proofs.Looks.{same_atom_true, same_atom_itself}

rows_true : (xs ys : List Row) → same_rows xs ys ≡ true → xs ≡ ys
rows_true [] [] h = refl
rows_true (x ∷ xs) (y ∷ ys) h =
    let parts = and_parts (is_same x y) (same_rows xs ys) h in
    ap (λ z. z ∷ xs) (same_true x y parts.0) ∙ ap (λ zs. y ∷ zs) (rows_true xs ys parts.1)
rows_true xs ys h = cc

rows_itself : (xs : List Row) → same_rows xs xs ≡ true
rows_itself [] = refl
rows_itself (x ∷ xs) = and_from (is_same x x) (same_rows xs xs) (same_itself x) (rows_itself xs)

pub rows_tested : (b : Bool) (xs ys : List Row) → (IsTrue b ↔ (xs ≡ ys)) → b ≡ same_rows xs ys
rows_tested b xs ys h =
    same_truth b (same_rows xs ys) (λ t. subst (λ zs. same_rows xs zs ≡ true) (h.0 t) (rows_itself xs)) (λ t. h.1 (rows_true xs ys t))

atoms_true : (xs ys : List Atom) → same_atoms xs ys ≡ true → xs ≡ ys
atoms_true [] [] h = refl
atoms_true (x ∷ xs) (y ∷ ys) h =
    let parts = and_parts (same_atom x y) (same_atoms xs ys) h in
    ap (λ z. z ∷ xs) (same_atom_true x y parts.0) ∙ ap (λ zs. y ∷ zs) (atoms_true xs ys parts.1)
atoms_true xs ys h = cc

atoms_itself : (xs : List Atom) → same_atoms xs xs ≡ true
atoms_itself [] = refl
atoms_itself (x ∷ xs) = and_from (same_atom x x) (same_atoms xs xs) (same_atom_itself x) (atoms_itself xs)

delta_true : (d e : Delta) → same_delta d e ≡ true → d ≡ e
delta_true fail fail h = refl
delta_true (atoms xs) (atoms ys) h = ap atoms (atoms_true xs ys h)
delta_true d e h = cc

delta_itself : (d : Delta) → same_delta d d ≡ true
delta_itself fail = refl
delta_itself (atoms xs) = atoms_itself xs

pub deltas_tested : (b : Bool) (d e : Delta) → (IsTrue b ↔ (d ≡ e)) → b ≡ same_delta d e
deltas_tested b d e h =
    same_truth b (same_delta d e) (λ t. subst (λ x. same_delta d x ≡ true) (h.0 t) (delta_itself d)) (λ t. h.1 (delta_true d e t))
